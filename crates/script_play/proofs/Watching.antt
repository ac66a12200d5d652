-- What was seen after the commands `free` stays as it is when a book goes on, and a command `free` adds to it.
use Rattle.std.proofs.Common.{◌≡◌, ◌⊎◌, inl, inr, ◌<◌, ◌≤◌, ◌+◌, ◌-◌, ℕ, zero, suc, Bool, true, false, max, List, [], ◌∷◌, ◌++◌, length, map, take, fold, get_or, Some, is_some, if◌then◌else◌, append_assoc, arith, refl, sym, subst, ap, ◌∙◌}
use Rattle.std.proofs.Math.Seq.{take-append-le, take-append_seam}
use Rattle.std.specs.List.{Contains, enumerate_from, slice_get, filter}
use Rattle.std.proofs.lemmas.Bool.{cases_Bool, cases_lt, cases_eq}
use Rattle.std.proofs.lemmas.List.{append-nil, take_more, get_or_append_left, get_or_past, get_or_push, length-append, length_push, map-append}
use Rattle.std.proofs.lemmas.List.Elements.{Contains-append_cases, filter-append}
use Rattle.std.proofs.lemmas.Option.{get_or_from_slice_get}
use Rattle.std.proofs.lemmas.List.Sums.{fold_push}
use Rattle.due_set.specs.Table.{Table}
use Rattle.due_set.proofs.Rising.{Contains-cases, Contains-none, Contains-map}
use Rattle.launch_machine.specs.Clerk.{first_rows}
use Rattle.paxos_base.specs.declared.rows.JobRow.{JobRow}
use Rattle.step_spec.specs.State.{prefix_of}
use Rattle.step_spec.proofs.ListLemmas.{found_still, from_filter, from_map}
use Rattle.history.specs.Book.{Row, Standing, after_row, first_standing, standing_after}
use Rattle.history.specs.Legal.{IsLegal}
use Rattle.script_text.specs.declared.command.Command.{Command}
use Rattle.script_semantics.specs.Free.{after_posted, is_turn_of}
use Rattle.script_semantics.specs.Situation.{Situation}
use Rattle.status_board.specs.Writing.{Writing}
use Rattle.world_free.specs.Board.{IsOfBook, Reach, ShowsPart, highest_after, reach_after_row}
use Rattle.world_free.proofs.BoardLemmas.{still_of_book}
use Rattle.script_play.specs.Watch.{AreSeen, IsHighest, IsSeen, IsShownTurn, Watches, free_numbers, is_free, open_jobs, prefix_after}
use Rattle.script_play.specs.declared.seen.Seen.{Seen}
use Rattle.script_play.specs.declared.watch.Watch.{Watch}
use Rattle.script_play.proofs.Starts.{before_or_last}

-- ---- lists

-- what a number finds is within
pub found_within : {X : Type 0} (xs : List X) (k : ℕ) (x : X) → slice_get xs k ≡ Some x → k < length xs
found_within [] k x is = absurd cc
found_within (y ∷ xs) zero x is = omega arith
found_within (y ∷ xs) (suc k) x is = let rest = found_within xs k x is in omega (arith, rest)

-- a number within finds the same when more follows
found_before : {X : Type 0} (xs ys : List X) (k : ℕ) (x : X) → k < length xs → slice_get (xs ++ ys) k ≡ Some x → slice_get xs k ≡ Some x
found_before [] ys k x within is = absurd (omega (arith, within))
found_before (y ∷ xs) ys zero x within is = is
found_before (y ∷ xs) ys (suc k) x within is = found_before xs ys k x (omega (arith, within)) is

-- a number past the first list finds what is in the second
found_after : {X : Type 0} (xs ys : List X) (k : ℕ) → slice_get (xs ++ ys) (length xs + k) ≡ slice_get ys k
found_after [] ys k = let same : 0 + k ≡ k = omega arith in ap (slice_get ys) same
found_after (x ∷ xs) ys k =
    let next : length (x ∷ xs) + k ≡ suc (length xs + k) = omega arith in
    ap (slice_get (x ∷ xs ++ ys)) next ∙ found_after xs ys k

-- what a place within gives doesn't hang on what a place past the end would give
any_past : (xs : List ℕ) (k one other : ℕ) → k < length xs → get_or xs k one ≡ get_or xs k other
any_past [] k one other within = absurd (omega (arith, within))
any_past (x ∷ xs) zero one other within = refl
any_past (x ∷ xs) (suc k) one other within = any_past xs k one other (omega (arith, within))

numbers_push : {X : Type 0} (from : ℕ) (xs : List X) (x : X) → enumerate_from from (xs ++ x ∷ []) ≡ enumerate_from from xs ++ (from + length xs, x) ∷ []
numbers_push {X = X} from [] x = let same : from ≡ from + 0 = omega arith in ap (λ n. (n, x) ∷ []) same
numbers_push {X = X} from (y ∷ xs) x =
    let same : from + 1 + length xs ≡ from + suc (length xs) = omega arith in
    ap (λ (l : List (ℕ × X)). (from, y) ∷ l) (numbers_push (from + 1) xs x ∙ ap (λ n. enumerate_from (from + 1) xs ++ (n, x) ∷ []) same)

numbers_within : {X : Type 0} (from : ℕ) (xs : List X) (of : ℕ × X) → Contains (enumerate_from from xs) of → of.0 < from + length xs
numbers_within from [] of has = absurd (Contains-none of has)
numbers_within {X = X} from (x ∷ xs) of has = elim (Contains-cases (from, x) (enumerate_from (from + 1) xs) of has) [
  | inl same ↦ let is : from ≡ of.0 = ap (λ (p : ℕ × X). p.0) same in omega (arith, is)
  | inr more ↦ let rest = numbers_within (from + 1) xs of more in omega (arith, rest)
]

-- ---- numbers

free_push : (script : List Command) (command : Command) → is_free command ≡ true → free_numbers (script ++ command ∷ []) ≡ free_numbers script ++ suc (length script) ∷ []
free_push script command is =
    let p = λ (of : ℕ × Command). is_free of.1 in
    let number = λ (of : ℕ × Command). of.0 in
    ap (λ (l : List (ℕ × Command)). map number (filter p l)) (numbers_push 1 script command)
    ∙ ap (map number) (filter-append p (enumerate_from 1 script) ((1 + length script, command) ∷ []))
    ∙ map-append number (filter p (enumerate_from 1 script)) (filter p ((1 + length script, command) ∷ []))
    ∙ ap (λ l. free_numbers script ++ l) (let same : 1 + length script ≡ suc (length script) = omega arith in rw is (ap (λ (n : ℕ). n ∷ []) same))

other_push : (script : List Command) (command : Command) → is_free command ≡ false → free_numbers (script ++ command ∷ []) ≡ free_numbers script
other_push script command is =
    let p = λ (of : ℕ × Command). is_free of.1 in
    let number = λ (of : ℕ × Command). of.0 in
    ap (λ (l : List (ℕ × Command)). map number (filter p l)) (numbers_push 1 script command)
    ∙ ap (map number) (filter-append p (enumerate_from 1 script) ((1 + length script, command) ∷ []))
    ∙ map-append number (filter p (enumerate_from 1 script)) (filter p ((1 + length script, command) ∷ []))
    ∙ ap (λ l. free_numbers script ++ l) (rw is refl) ∙ append-nil (free_numbers script)

number_within : (script : List Command) (seen : List Seen) (s : Seen) → map (λ (s : Seen). s.number) seen ≡ free_numbers script → Contains seen s → s.number ≤ length script
number_within script seen s numbers has =
    let among = from_map (λ (of : ℕ × Command). of.0) (filter (λ (of : ℕ × Command). is_free of.1) (enumerate_from 1 script)) s.number
    (subst (λ l. Contains l s.number) numbers (Contains-map (λ (s : Seen). s.number) seen s has)) in
    let within = numbers_within 1 script among.origin (from_filter (λ (of : ℕ × Command). is_free of.1) (enumerate_from 1 script) among.origin among.among) in
    let is : among.origin.0 ≡ s.number = among.is in
    omega (arith, within, is)

-- ---- a book that goes on

-- Rows behind some others, and numbers at which parts begin that are those of a script and one more.
module _ (members : ℕ) (table : Table) (script longer : List Command) (rows more : List Row) (starts : List ℕ)
    (same_commands : (place : ℕ) (command : Command) → place < length script → slice_get longer place ≡ Some command → slice_get script place ≡ Some command)
    (still_commands : (place : ℕ) (command : Command) → slice_get script place ≡ Some command → slice_get longer place ≡ Some command)
    (count : length starts ≡ length script) (within : (place : ℕ) → get_or starts place (length rows) ≤ length rows) where
  abbrev all_rows : List Row
  all_rows = rows ++ more

  abbrev all_starts : List ℕ
  all_starts = starts ++ length rows ∷ []

  behind_still : (number : ℕ) → number < length rows → prefix_after members table all_rows number ≡ prefix_after members table rows number
  behind_still number before =
      ap (λ (l : List Row). prefix_of ((standing_after members (first_rows table) l).replicas 0)) (take-append-le (suc number) rows more (omega (arith, before)))

  -- a part begins and ends where it did
  since_still : (place : ℕ) → place < length script → get_or all_starts place 0 ≡ get_or starts place 0
  since_still place before = get_or_append_left starts (length rows ∷ []) 0 place (omega (arith, before, count))

  until_still : (place : ℕ) → place < length script → get_or all_starts (suc place) (length all_rows) ≡ get_or starts (suc place) (length rows)
  until_still place before = elim (before_or_last (suc place) (length starts) (omega (arith, before, count))) [
    | inl less ↦ get_or_append_left starts (length rows ∷ []) (length all_rows) (suc place) less ∙ any_past starts (suc place) (length all_rows) (length rows) less
    | inr last ↦ get_or_push starts (length rows) (length all_rows) (suc place) (sym last) ∙ sym (get_or_past starts (suc place) (length rows) (omega (arith, last)))
  ]

  -- a turn of a part before the last is shown as it was
  shown_still : (before number : ℕ) → before ≤ length script → IsShownTurn script rows starts before number → IsShownTurn longer all_rows all_starts before number
  shown_still before number few shown =
      let early : shown.place < length script = (let early = shown.early in omega (arith, early, few)) in
      record {
        place = shown.place;
        early = shown.early;
        command = shown.command;
        is_command = still_commands shown.place shown.command shown.is_command;
        free = shown.free;
        since = subst (λ n. n ≤ number) (sym (since_still shown.place early)) shown.since;
        until = subst (λ n. number < n) (sym (until_still shown.place early)) shown.until;
        row = shown.row;
        is_row = found_still rows more number shown.row shown.is_row;
        mine = shown.mine;
      }

  pub turn_within : (before number : ℕ) → before ≤ length script → IsShownTurn longer all_rows all_starts before number → number < length rows
  turn_within before number few shown =
      let early : shown.place < length script = (let early = shown.early in omega (arith, early, few)) in
      let until : number < get_or starts (suc shown.place) (length rows) = subst (λ n. number < n) (until_still shown.place early) shown.until in
      let last = within (suc shown.place) in
      omega (arith, until, last)

  shown_before : (before number : ℕ) → before ≤ length script → IsShownTurn longer all_rows all_starts before number → IsShownTurn script rows starts before number
  shown_before before number few shown =
      let early : shown.place < length script = (let early = shown.early in omega (arith, early, few)) in
      record {
        place = shown.place;
        early = shown.early;
        command = shown.command;
        is_command = same_commands shown.place shown.command early shown.is_command;
        free = shown.free;
        since = subst (λ n. n ≤ number) (since_still shown.place early) shown.since;
        until = subst (λ n. number < n) (until_still shown.place early) shown.until;
        row = shown.row;
        is_row = found_before rows more number shown.row (turn_within before number few shown) shown.is_row;
        mine = shown.mine;
      }

  -- the prefix after a turn before the last part is among those of the script
  pub highest_still : (before prefix : ℕ) → before ≤ length script → IsHighest members table script rows starts before prefix
      → IsHighest members table longer all_rows all_starts before prefix
  highest_still before prefix few highest = record {
    most = λ number shown.
        subst (λ n. n ≤ prefix) (sym (behind_still number (turn_within before number few shown))) (highest.most number (shown_before before number few shown));
    is = elim highest.is [
      | inl none ↦ inl none
      | inr (number, shown, is) ↦ inr (number, shown_still before number few shown, behind_still number (found_within rows number shown.row shown.is_row) ∙ is)
    ];
  }

  pub seen_still : members ≤ 7 → IsLegal members table all_rows → (seen : Seen) → seen.number ≤ length script
      → IsSeen members table script rows starts seen → IsSeen members table longer all_rows all_starts seen
  seen_still few legal seen number is = record {
    highest = highest_still seen.number seen.prefix number is.highest;
    launches = is.launches;
    of_book = still_of_book members table rows more seen.prefix is.launches few legal is.of_book;
    jobs_open = is.jobs_open;
  }

  pub all_still : members ≤ 7 → IsLegal members table all_rows → (seen : List Seen) → AreSeen members table script rows starts seen
      → (s : Seen) → Contains seen s → IsSeen members table longer all_rows all_starts s
  all_still few legal seen are s has = seen_still few legal s (number_within script seen s are.numbers has) (are.each s has)

  pub within_still : (place : ℕ) → get_or all_starts place (length all_rows) ≤ length all_rows
  within_still place =
      let size = length-append rows more in
      elim (cases_lt place (length starts)) [
        | inl less ↦ subst (λ n. n ≤ length all_rows) (sym (get_or_append_left starts (length rows ∷ []) (length all_rows) place less ∙ any_past starts place (length all_rows) (length rows) less))
            (let old = within place in omega (arith, old, size))
        | inr past ↦ elim (cases_eq place (length starts)) [
          | inl last ↦ subst (λ n. n ≤ length all_rows) (sym (get_or_push starts (length rows) (length all_rows) place (sym last))) (omega (arith, size))
          | inr other ↦ subst (λ n. n ≤ length all_rows) (sym (get_or_past all_starts place (length all_rows) (let long = length_push starts (length rows) in omega (arith, long, past, other)))) (omega arith)
        ]
      ]

-- ---- the highest prefix of a part

-- the prefix is the greatest of one and of those after turns of a part
pub record IsReach (members : ℕ) (table : Table) (rows more : List Row) (first highest : ℕ) : Type 0 where
  pub above : first ≤ highest
  pub most : (k : ℕ) (row : Row) → slice_get more k ≡ Some row → is_turn_of 0 row.turn ≡ true → prefix_after members table (rows ++ more) (length rows + k) ≤ highest
  pub is : (highest ≡ first) ⊎ ((k : ℕ) × (row : Row) × (slice_get more k ≡ Some row) × (is_turn_of 0 row.turn ≡ true) × (prefix_after members table (rows ++ more) (length rows + k) ≡ highest))

module _ (members : ℕ) (table : Table) where
  abbrev standing_of : List Row → Standing
  standing_of = standing_after members (first_rows table)

  -- a row more in front is a row less behind
  moved : (rows more : List Row) (row : Row) (k : ℕ) → prefix_after members table ((rows ++ row ∷ []) ++ more) (length (rows ++ row ∷ []) + k) ≡ prefix_after members table (rows ++ row ∷ more) (length rows + suc k)
  moved rows more row k =
      let size : length (rows ++ row ∷ []) + k ≡ length rows + suc k = (let long = length_push rows row in omega (arith, long)) in
      ap (λ (l : List Row). prefix_after members table l (length (rows ++ row ∷ []) + k)) (append_assoc rows (row ∷ []) more)
      ∙ ap (prefix_after members table (rows ++ row ∷ more)) size

  -- directly behind the first row of a part
  first_behind : (rows more : List Row) (row : Row) → prefix_after members table (rows ++ row ∷ more) (length rows + 0) ≡ prefix_of ((standing_of (rows ++ row ∷ [])).replicas 0)
  first_behind rows more row =
      let size : suc (length rows + 0) ≡ length (rows ++ row ∷ []) = (let long = length_push rows row in omega (arith, long)) in
      let front : take (suc (length rows + 0)) (rows ++ row ∷ more) ≡ rows ++ row ∷ [] =
      ap (λ n. take n (rows ++ row ∷ more)) size
      ∙ ap (take (length (rows ++ row ∷ []))) (sym (append_assoc rows (row ∷ []) more)) ∙ take-append_seam (rows ++ row ∷ []) more in
      ap (λ (l : List Row). prefix_of ((standing_of l).replicas 0)) front

  next_stands : (rows : List Row) (row : Row) (situation : Situation) → situation.standing ≡ standing_of rows → (after_posted members situation row).standing ≡ standing_of (rows ++ row ∷ [])
  next_stands rows row situation stands =
      ap (λ (s : Standing). after_row members s row.turn row.event row.letters) stands
      ∙ sym (fold_push (λ (s : Standing) (row : Row). after_row members s row.turn row.event row.letters) (first_standing members (first_rows table)) rows row)

  pub reaches : (rows more : List Row) (first : ℕ) (situation : Situation) → situation.standing ≡ standing_of rows
      → IsReach members table rows more first (highest_after members 0 first situation more)
  reaches rows [] first situation stands = record { above = omega arith; most = λ k row is mine. absurd cc; is = inl refl }
  reaches rows (row ∷ more) first situation stands = elim (cases_Bool (is_turn_of 0 row.turn)) [
    | inl mine ↦
        let now = prefix_of ((after_posted members situation row).standing.replicas 0) in
        let step : reach_after_row members 0 (record { here = situation; highest = first }) row ≡ record { here = after_posted members situation row; highest = max first now } = rw mine refl in
        let now_is : now ≡ prefix_after members table (rows ++ row ∷ more) (length rows + 0) =
        ap (λ (s : Standing). prefix_of (s.replicas 0)) (next_stands rows row situation stands) ∙ sym (first_behind rows more row) in
        subst (λ (r : Reach). IsReach members table rows (row ∷ more) first (fold (reach_after_row members 0) r more).highest) (sym step)
        (counted (max first now) now now_is (reaches (rows ++ row ∷ []) more (max first now) (after_posted members situation row) (next_stands rows row situation stands)) mine (λ n. refl))
    | inr other ↦
        let step : reach_after_row members 0 (record { here = situation; highest = first }) row ≡ record { here = after_posted members situation row; highest = first } = rw other refl in
        subst (λ (r : Reach). IsReach members table rows (row ∷ more) first (fold (reach_after_row members 0) r more).highest) (sym step)
        (passed (reaches (rows ++ row ∷ []) more first (after_posted members situation row) (next_stands rows row situation stands)) other)
  ]
    where
      counted : (top now : ℕ) → now ≡ prefix_after members table (rows ++ row ∷ more) (length rows + 0) → {highest : ℕ} → IsReach members table (rows ++ row ∷ []) more top highest
          → is_turn_of 0 row.turn ≡ true → ((n : ℕ) → top ≡ max first now) → IsReach members table rows (row ∷ more) first highest
      counted top now now_is {highest = highest} rest mine top_is =
          let above = rest.above in
          let is_top : top ≡ max first now = top_is 0 in
          record {
            above = omega (arith, above, is_top);
            most = each;
            is = elim rest.is [
              | inl same ↦ elim (cases_lt first now) [
                | inl low ↦ inr (0, row, refl, mine, (let sum : highest ≡ now = omega (arith, same, is_top, low) in sym now_is ∙ sym sum))
                | inr high ↦ inl (omega (arith, same, is_top, high))
              ]
              | inr (k, later, found, of, is) ↦ inr (suc k, later, found, of, sym (moved rows more row k) ∙ is)
            ];
          }
        where
          each : (k : ℕ) (other : Row) → slice_get (row ∷ more) k ≡ Some other → is_turn_of 0 other.turn ≡ true → prefix_after members table (rows ++ row ∷ more) (length rows + k) ≤ highest
          each zero other is of = let above = rest.above in let is_top : top ≡ max first now = top_is 0 in omega (arith, above, is_top, now_is)
          each (suc k) other is of = subst (λ n. n ≤ highest) (moved rows more row k) (rest.most k other is of)

      passed : {highest : ℕ} → IsReach members table (rows ++ row ∷ []) more first highest → is_turn_of 0 row.turn ≡ false → IsReach members table rows (row ∷ more) first highest
      passed {highest = highest} rest others = record {
        above = rest.above;
        most = each;
        is = elim rest.is [
          | inl same ↦ inl same
          | inr (k, later, found, of, is) ↦ inr (suc k, later, found, of, sym (moved rows more row k) ∙ is)
        ];
      }
        where
          each : (k : ℕ) (other : Row) → slice_get (row ∷ more) k ≡ Some other → is_turn_of 0 other.turn ≡ true → prefix_after members table (rows ++ row ∷ more) (length rows + k) ≤ highest
          each zero other is of =
              let same : row ≡ other = cc in
              let wrong : true ≡ false = sym of ∙ ap (λ (r : Row). is_turn_of 0 r.turn) (sym same) ∙ others in
              absurd cc
          each (suc k) other is of = subst (λ n. n ≤ highest) (moved rows more row k) (rest.most k other is of)

  -- ---- a part of free turns

  -- with the turns of one part more
  pub highest_next : (script : List Command) (command : Command) (rows more : List Row) (starts : List ℕ) (first : ℕ) (situation : Situation) → is_free command ≡ true
      → length starts ≡ length script → ((place : ℕ) → get_or starts place (length rows) ≤ length rows) → situation.standing ≡ standing_of rows
      → IsHighest members table script rows starts (length script) first
      → IsHighest members table (script ++ command ∷ []) (rows ++ more) (starts ++ length rows ∷ []) (suc (length script)) (highest_after members 0 first situation more)
  highest_next script command rows more starts first situation free count within stands old =
      let reach = reaches rows more first situation stands in
      let top = highest_after members 0 first situation more in
      record {
        most = λ number shown. elim (before_or_last shown.place (length script) shown.early) [
          | inl before ↦
              let here : IsShownTurn (script ++ command ∷ []) (rows ++ more) (starts ++ length rows ∷ []) (length script) number = earlier number shown before in
              let low = (highest_still members table script (script ++ command ∷ []) rows more starts (same_front script command) (still_front script command) count within (length script) first (omega arith) old).most number here in
              let above = reach.above in
              omega (arith, low, above)
          | inr last ↦
              let since : length rows ≤ number = subst (λ n. n ≤ number) (get_or_push starts (length rows) 0 shown.place (count ∙ sym last)) shown.since in
              let place : number ≡ length rows + (number - length rows) = omega (arith, since) in
              let found : slice_get more (number - length rows) ≡ Some shown.row = sym (found_after rows more (number - length rows)) ∙ ap (slice_get (rows ++ more)) (sym place) ∙ shown.is_row in
              subst (λ n. prefix_after members table (rows ++ more) n ≤ top) (sym place) (reach.most (number - length rows) shown.row found shown.mine)
        ];
        is = elim reach.is [
          | inl same ↦
              elim (highest_still members table script (script ++ command ∷ []) rows more starts (same_front script command) (still_front script command) count within (length script) first (omega arith) old).is [
                | inl none ↦ inl (same ∙ none)
                | inr (number, shown, is) ↦ inr (number, later number shown, is ∙ sym same)
              ]
          | inr (k, row, found, mine, is) ↦ inr (length rows + k, now k row found mine, is)
        ];
      }
    where
      same_front : (script : List Command) (command : Command) (place : ℕ) (one : Command) → place < length script → slice_get (script ++ command ∷ []) place ≡ Some one → slice_get script place ≡ Some one
      same_front script command place one before is = found_before script (command ∷ []) place one before is

      still_front : (script : List Command) (command : Command) (place : ℕ) (one : Command) → slice_get script place ≡ Some one → slice_get (script ++ command ∷ []) place ≡ Some one
      still_front script command place one is = found_still script (command ∷ []) place one is

      earlier : (number : ℕ) → (shown : IsShownTurn (script ++ command ∷ []) (rows ++ more) (starts ++ length rows ∷ []) (suc (length script)) number) → shown.place < length script
          → IsShownTurn (script ++ command ∷ []) (rows ++ more) (starts ++ length rows ∷ []) (length script) number
      earlier number shown before = record {
        place = shown.place;
        early = before;
        command = shown.command;
        is_command = shown.is_command;
        free = shown.free;
        since = shown.since;
        until = shown.until;
        row = shown.row;
        is_row = shown.is_row;
        mine = shown.mine;
      }

      later : (number : ℕ) → IsShownTurn (script ++ command ∷ []) (rows ++ more) (starts ++ length rows ∷ []) (length script) number
          → IsShownTurn (script ++ command ∷ []) (rows ++ more) (starts ++ length rows ∷ []) (suc (length script)) number
      later number shown = record {
        place = shown.place;
        early = let early = shown.early in omega (arith, early);
        command = shown.command;
        is_command = shown.is_command;
        free = shown.free;
        since = shown.since;
        until = shown.until;
        row = shown.row;
        is_row = shown.is_row;
        mine = shown.mine;
      }

      now : (k : ℕ) (row : Row) → slice_get more k ≡ Some row → is_turn_of 0 row.turn ≡ true
          → IsShownTurn (script ++ command ∷ []) (rows ++ more) (starts ++ length rows ∷ []) (suc (length script)) (length rows + k)
      now k row found mine =
          let within_more = found_within more k row found in
          let size = length-append rows more in
          let long = length_push starts (length rows) in
          record {
            place = length script;
            early = omega arith;
            command = command;
            is_command = ap (slice_get (script ++ command ∷ [])) (omega arith) ∙ found_after script (command ∷ []) 0;
            free = free;
            since = subst (λ n. n ≤ length rows + k) (sym (get_or_push starts (length rows) 0 (length script) count)) (omega arith);
            until = subst (λ n. length rows + k < n) (sym (get_or_past (starts ++ length rows ∷ []) (suc (length script)) (length (rows ++ more)) (omega (arith, long, count)))) (omega (arith, within_more, size));
            row = row;
            is_row = found_after rows more k ∙ found;
            mine = mine;
          }

  -- ---- commands

  -- a command that isn't `free` has no turn that is shown
  highest_with : (script : List Command) (command : Command) (rows : List Row) (starts : List ℕ) (prefix : ℕ) → is_free command ≡ false
      → IsHighest members table (script ++ command ∷ []) rows starts (length script) prefix → IsHighest members table (script ++ command ∷ []) rows starts (suc (length script)) prefix
  highest_with script command rows starts prefix other highest = record {
    most = λ number shown. elim (before_or_last shown.place (length script) shown.early) [
      | inl before ↦ highest.most number (record {
        place = shown.place;
        early = before;
        command = shown.command;
        is_command = shown.is_command;
        free = shown.free;
        since = shown.since;
        until = shown.until;
        row = shown.row;
        is_row = shown.is_row;
        mine = shown.mine;
      })
      | inr last ↦
          let here : slice_get (script ++ command ∷ []) shown.place ≡ Some command = ap (slice_get (script ++ command ∷ [])) (last ∙ omega arith) ∙ found_after script (command ∷ []) 0 in
          let same : Some shown.command ≡ Some command = sym shown.is_command ∙ here in
          let one : shown.command ≡ command = cc in
          let wrong : true ≡ false = sym shown.free ∙ ap is_free one ∙ other in
          absurd cc
    ];
    is = elim highest.is [
      | inl none ↦ inl none
      | inr (number, shown, is) ↦ inr (
        number,
        record {
          place = shown.place;
          early = let early = shown.early in omega (arith, early);
          command = shown.command;
          is_command = shown.is_command;
          free = shown.free;
          since = shown.since;
          until = shown.until;
          row = shown.row;
          is_row = shown.is_row;
          mine = shown.mine;
        },
        is,
      )
    ];
  }

  one_more : (script : List Command) (command : Command) → suc (length script) ≡ length (script ++ command ∷ [])
  one_more script command = let long = length_push script command in omega (arith, long)

  -- a watch goes on after a command that isn't `free`
  pub other_watches : (script : List Command) (command : Command) (rows more : List Row) (starts : List ℕ) (watch : Watch) → is_free command ≡ false → members ≤ 7
      → IsLegal members table (rows ++ more) → length starts ≡ length script → Watches members table script rows starts watch
      → Watches members table (script ++ command ∷ []) (rows ++ more) (starts ++ length rows ∷ []) watch
  other_watches script command rows more starts watch other few legal count old = record {
    within = within_still members table script (script ++ command ∷ []) rows more starts (found_before script (command ∷ [])) (found_still script (command ∷ [])) count old.within;
    highest = subst (λ n. IsHighest members table (script ++ command ∷ []) (rows ++ more) (starts ++ length rows ∷ []) n watch.writer.prefix) (one_more script command)
        (highest_with script command (rows ++ more) (starts ++ length rows ∷ []) watch.writer.prefix other
        (highest_still members table script (script ++ command ∷ []) rows more starts (found_before script (command ∷ [])) (found_still script (command ∷ [])) count old.within (length script) watch.writer.prefix (omega arith) old.highest));
    of_book = still_of_book members table rows more watch.writer.prefix watch.writer.machine.rows few legal old.of_book;
    seen = record {
      numbers = old.seen.numbers ∙ sym (other_push script command other);
      each = all_still members table script (script ++ command ∷ []) rows more starts (found_before script (command ∷ [])) (found_still script (command ∷ [])) count old.within few legal watch.seen.items old.seen;
    };
  }

  -- and after one that is, where the part was shown, and looked at
  pub free_watches : (script : List Command) (command : Command) (rows more : List Row) (starts : List ℕ) (situation : Situation) (old new : Watch) (writer : Writing) → is_free command ≡ true → members ≤ 7
      → IsLegal members table (rows ++ more) → length starts ≡ length script → situation.standing ≡ standing_of rows → Watches members table script rows starts old
      → ShowsPart members 0 table situation rows more old.writer writer → new.writer ≡ writer
      → new.seen.items ≡ old.seen.items ++ record { number = suc (length script); prefix = writer.prefix; jobs_open = open_jobs writer.machine.rows } ∷ []
      → Watches members table (script ++ command ∷ []) (rows ++ more) (starts ++ length rows ∷ []) new
  free_watches script command rows more starts situation old new writer free few legal count stands before shows writer_is seen_is =
      let last : Seen = record { number = suc (length script); prefix = writer.prefix; jobs_open = open_jobs writer.machine.rows } in
      let longer = script ++ command ∷ [] in
      let all_rows = rows ++ more in
      let all_starts = starts ++ length rows ∷ [] in
      let high : IsHighest members table longer all_rows all_starts (suc (length script)) writer.prefix =
      subst (IsHighest members table longer all_rows all_starts (suc (length script))) (sym shows.highest) (highest_next script command rows more starts old.writer.prefix situation free count before.within stands before.highest) in
      let of_book = shows.last before.of_book in
      record {
        within = within_still members table script longer rows more starts (found_before script (command ∷ [])) (found_still script (command ∷ [])) count before.within;
        highest = subst (λ n. IsHighest members table longer all_rows all_starts n new.writer.prefix) (one_more script command)
            (subst (λ (w : Writing). IsHighest members table longer all_rows all_starts (suc (length script)) w.prefix) (sym writer_is) high);
        of_book = subst (λ (w : Writing). IsOfBook members table all_rows w.prefix w.machine.rows) (sym writer_is) of_book;
        seen = subst (AreSeen members table longer all_rows all_starts) (sym seen_is) (record {
          numbers = map-append (λ (s : Seen). s.number) old.seen.items (last ∷ []) ∙ ap (λ l. l ++ suc (length script) ∷ []) before.seen.numbers ∙ sym (free_push script command free);
          each = λ s has. elim (Contains-append_cases old.seen.items (last ∷ []) s has) [
            | inl among ↦ all_still members table script longer rows more starts (found_before script (command ∷ [])) (found_still script (command ∷ [])) count before.within few legal old.seen.items before.seen s among
            | inr now ↦ elim (Contains-cases last [] s now) [
              | inl same ↦ subst (IsSeen members table longer all_rows all_starts) same (record { highest = high; launches = writer.machine.rows; of_book = of_book; jobs_open = refl })
              | inr none ↦ absurd (Contains-none s none)
            ]
          ];
        });
      }

  -- what was seen stays, whatever turns follow the script
  pub walk_seen : (script : List Command) (rows more : List Row) (starts : List ℕ) (watch : Watch) → members ≤ 7 → IsLegal members table (rows ++ more) → length starts ≡ length script
      → Watches members table script rows starts watch → AreSeen members table script (rows ++ more) (starts ++ length rows ∷ []) watch.seen.items
  walk_seen script rows more starts watch few legal count old = record {
    numbers = old.seen.numbers;
    each = all_still members table script script rows more starts (λ place command before is. is) (λ place command is. is) count old.within few legal watch.seen.items old.seen;
  }

-- ---- open jobs

open_front : (rows : List JobRow) (job : ℕ) (row : JobRow) → slice_get rows job ≡ Some row → open_jobs (take (job + 1) rows) ≡ open_jobs (take job rows) + open_jobs (row ∷ [])
open_front rows job row found =
    let p = λ (row : JobRow). is_some row.open_now in
    let more : take (job + 1) rows ≡ take job rows ++ row ∷ [] = take_more rows job row (found_within rows job row found) ∙ ap (λ r. take job rows ++ r ∷ []) (get_or_from_slice_get rows job row row found) in
    ap open_jobs more ∙ ap length (filter-append p (take job rows) (row ∷ [])) ∙ length-append (filter p (take job rows)) (filter p (row ∷ []))

-- one row more
pub open_more : (rows : List JobRow) (job : ℕ) (row : JobRow) (open_now : Bool) → slice_get rows job ≡ Some row → is_some row.open_now ≡ open_now
    → open_jobs (take (job + 1) rows) ≡ open_jobs (take job rows) + (if open_now then 1 else 0)
open_more rows job row true found is = open_front rows job row found ∙ ap (λ n. open_jobs (take job rows) + n) (rw is refl)
open_more rows job row false found is = open_front rows job row found ∙ ap (λ n. open_jobs (take job rows) + n) (rw is refl)
