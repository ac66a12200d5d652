-- What was seen of a board is one list, whichever rows stand behind the book.
use Rattle.std.proofs.Common.{◌≡◌, ◌≤◌, ◌<◌, inl, inr, ℕ, suc, List, [], ◌∷◌, Option, None, Some, true, length, map, take, Contains, get_or, option_map, slice_get, arith, refl, sym, ap, subst, ◌∙◌}
use Rattle.std.proofs.lemmas.List.{length-map, take-map}
use Rattle.std.proofs.lemmas.Option.{slice_get-map}
use Rattle.due_set.specs.Table.{Table}
use Rattle.due_set.proofs.Rising.{Contains-head, Contains-tail}
use Rattle.launch_machine.specs.Clerk.{AppliesAll, first_rows}
use Rattle.launch_machine.proofs.ClerkLemmas.{AppliesAll-same}
use Rattle.paxos_base.specs.declared.entry.Entry.{Entry}
use Rattle.step_spec.specs.State.{prefix_of}
use Rattle.agreement.specs.Log.{IsLog}
use Rattle.agreement.specs.World.{CastVote}
use Rattle.history.specs.Book.{Row, Standing, standing_after, votes_in}
use Rattle.history.specs.Legal.{IsLegal}
use Rattle.history.specs.declared.turn.Turn.{Turn}
use Rattle.history.proofs.Agreement.{cut_is_legal}
use Rattle.script_semantics.specs.Free.{is_turn_of}
use Rattle.script_text.specs.declared.command.Command.{Command}
use Rattle.world_law.specs.Book.{BookState, StandsBehind}
use Rattle.world_law.proofs.Settled.{come_here, turns_settle}
use Rattle.journal_text.proofs.StartLemmas.{same_begin}
use Rattle.script_play.specs.Watch.{AreSeen, IsHighest, IsSeen, IsShownTurn, open_jobs, prefix_after}
use Rattle.script_play.specs.declared.seen.Seen.{Seen}
use Rattle.cron_serve.specs.Watch.{IsBookWatch, watch_text}

abbrev turns_of : List Row → List Turn
turns_of rows = map (λ (row : Row). row.turn) rows

some_mapped : (row : Option Row) (turn : Turn) → option_map (λ (r : Row). r.turn) row ≡ Some turn → (r : Row) × (row ≡ Some r) × (r.turn ≡ turn)
some_mapped None turn is = absurd (cc)
some_mapped (Some r) turn is = (r, refl, (let same : r.turn ≡ turn = cc in same))

-- ---- two lists of rows with the same turns

module _ (members : ℕ) (table : Table) (rows others : List Row) (legal : IsLegal members table rows) (lawful : IsLegal members table others) (turns : turns_of rows ≡ turns_of others) where
  same_cut : (n : ℕ) → standing_after members (first_rows table) (take n rows) ≡ standing_after members (first_rows table) (take n others)
  same_cut n =
      let cut : turns_of (take n rows) ≡ turns_of (take n others) =
      sym (take-map (λ (r : Row). r.turn) n rows) ∙ ap (take n) turns ∙ take-map (λ (r : Row). r.turn) n others in
      (turns_settle members table (take n rows) (take n others) (cut_is_legal members table rows n legal) (cut_is_legal members table others n lawful) cut).stands

  same_prefix : (n : ℕ) → prefix_after members table rows n ≡ prefix_after members table others n
  same_prefix n = ap (λ (s : Standing). prefix_of (s.replicas 0)) (same_cut (suc n))

  same_count : length rows ≡ length others
  same_count = sym (length-map _ _) ∙ ap length turns ∙ length-map _ _

  same_row : (n : ℕ) (row : Row) → slice_get rows n ≡ Some row → (other : Row) × (slice_get others n ≡ Some other) × (other.turn ≡ row.turn)
  same_row n row is =
      some_mapped (slice_get others n) row.turn
      (sym (slice_get-map (λ (r : Row). r.turn) others n) ∙ ap (λ (l : List Turn). slice_get l n) (sym turns) ∙ slice_get-map (λ (r : Row). r.turn) rows n
      ∙ ap (option_map (λ (r : Row). r.turn)) is)

  same_shown : (script : List Command) (starts : List ℕ) (before number : ℕ) → IsShownTurn script rows starts before number → IsShownTurn script others starts before number
  same_shown script starts before number shown =
      let (other, is_other, turn) = same_row number shown.row shown.is_row in
      record {
        place = shown.place;
        early = shown.early;
        command = shown.command;
        is_command = shown.is_command;
        free = shown.free;
        since = shown.since;
        until = subst (λ n. number < get_or starts (suc shown.place) n) same_count shown.until;
        row = other;
        is_row = is_other;
        mine = subst (λ (t : Turn). is_turn_of 0 t ≡ true) (sym turn) shown.mine;
      }

  pub not_higher : (script : List Command) (starts : List ℕ) (before one two : ℕ) → IsHighest members table script rows starts before one
      → IsHighest members table script others starts before two → one ≤ two
  not_higher script starts before one two first second = elim first.is [
    | inl none ↦ omega (arith, none)
    | inr (number, shown, is) ↦
        let high = second.most number (same_shown script starts before number shown) in
        let same = same_prefix number in
        omega (arith, high, same, is)
  ]

-- ---- two lists of what was seen

same_list : (a b : List Seen) → map (λ (s : Seen). s.number) a ≡ map (λ (s : Seen). s.number) b
    → ((s t : Seen) → Contains a s → Contains b t → s.number ≡ t.number → s ≡ t) → a ≡ b
same_list [] [] numbers each = refl
same_list [] (t ∷ b) numbers each = absurd (cc)
same_list (s ∷ a) [] numbers each = absurd (cc)
same_list (s ∷ a) (t ∷ b) numbers each =
    let first : s.number ≡ t.number = cc in
    let others : map (λ (s : Seen). s.number) a ≡ map (λ (s : Seen). s.number) b = cc in
    let same : s ≡ t = each s t (Contains-head s a) (Contains-head t b) first in
    let rest = same_list a b others (λ x y in_a in_b. each x y (Contains-tail s a x in_a) (Contains-tail t b y in_b)) in
    ap (λ (x : Seen). x ∷ a) same ∙ ap (λ (l : List Seen). t ∷ l) rest

module _ (members : ℕ) (table : Table) (script : List Command) (starts : List ℕ) (rows others : List Row) (legal : IsLegal members table rows) (lawful : IsLegal members table others)
    (turns : turns_of rows ≡ turns_of others) (log : List Entry) (is_log : IsLog members (votes_in rows) log) (of_others : IsLog members (votes_in others) log) where
  same_seen : (s t : Seen) → s.number ≡ t.number → IsSeen members table script rows starts s → IsSeen members table script others starts t → s ≡ t
  same_seen s t number first second =
      let highest = subst (λ n. IsHighest members table script others starts n t.prefix) (sym number) second.highest in
      let low = not_higher members table rows others legal lawful turns script starts s.number s.prefix t.prefix first.highest highest in
      let high = not_higher members table others rows lawful legal (sym turns) script starts s.number t.prefix s.prefix highest first.highest in
      let prefix : s.prefix ≡ t.prefix = omega (arith, low, high) in
      let one = first.of_book log is_log in
      let two = second.of_book log of_others in
      let launches : first.launches ≡ second.launches =
      AppliesAll-same table (first_rows table) (take t.prefix log) first.launches second.launches
      (subst (λ n. AppliesAll table (first_rows table) (take n log) first.launches) prefix one.clerk) two.clerk in
      let jobs_open : s.jobs_open ≡ t.jobs_open = first.jobs_open ∙ ap open_jobs launches ∙ sym second.jobs_open in
      rw (number, prefix, jobs_open) refl

  pub same_sight : (seen other : List Seen) → AreSeen members table script rows starts seen → AreSeen members table script others starts other → seen ≡ other
  same_sight seen other first second =
      same_list seen other (first.numbers ∙ sym second.numbers) (λ s t in_a in_b number. same_seen s t number (first.each s in_a) (second.each t in_b))

-- ---- of a book

-- a book that has a log has one text of what was seen
pub one_watch : (table : Table) (script : List Command) (book : BookState) (rows : List Row) (log : List Entry) → StandsBehind table rows book
    → IsLog book.members (votes_in rows) log → (a b : List ℕ) → IsBookWatch table script book a → IsBookWatch table script book b → a ≡ b
one_watch table script book rows log behind is_log a b one two =
    let first = one.has in
    let second = two.has in
    let turns : turns_of first.rows ≡ turns_of second.rows = sym first.behind.turns ∙ second.behind.turns in
    let starts : two.starts ≡ one.starts = same_begin table script book second.rows first.rows two.starts one.starts second.behind first.behind second.begin first.begin in
    let log_of_first : IsLog book.members (votes_in first.rows) log =
    subst (λ (cast : List CastVote). IsLog book.members cast log) (come_here table rows first.rows book behind first.behind).votes is_log in
    let log_of_second : IsLog book.members (votes_in second.rows) log =
    subst (λ (cast : List CastVote). IsLog book.members cast log) (come_here table rows second.rows book behind second.behind).votes is_log in
    let same =
    same_sight book.members table script one.starts first.rows second.rows first.behind.legal second.behind.legal turns log log_of_first log_of_second one.seen two.seen first.are
    (subst (λ (s : List ℕ). AreSeen book.members table script second.rows s two.seen) starts second.are) in
    one.text_is ∙ ap watch_text same ∙ sym two.text_is
