-- Turns in no order: the next turn of a replica is one more, and the part is whole where nobody has one left.
use Rattle.std.proofs.Common.{◌≡◌, ◌⊎◌, ◌<◌, ℕ, ℤ, true, List, [], ◌∷◌, ◌++◌, append-nil, suc, Some, inl, inr, length, take, refl, ap, sym, subst, ◌∙◌, arith}
use Rattle.std.specs.Prelude.{slice_get}
use Rattle.std.proofs.lemmas.Bool.{cases_lt}
use Rattle.std.proofs.lemmas.List.{get_or_append_left, get_or_at, length-append, take-append-le, take_at}
use Rattle.std.proofs.lemmas.Option.{get_or_from_slice_get, slice_get-get_or, slice_get_within}
use Rattle.zone_minutes.specs.declared.minute.Window.{Window}
use Rattle.history.specs.Book.{Row, Standing, after_row}
use Rattle.script_semantics.specs.Free.{Course, IsFreePart, IsFreeTurn, after_all_posted, begun as begun_at, course_of, is_turn_of}
use Rattle.script_semantics.specs.Situation.{Situation}
use Rattle.journal_text.proofs.Courses.{course_alike}
use Rattle.journal_text.proofs.Twins.{AreTwins}
use Rattle.run_audit.specs.Begins.{BeginsFree}
use Rattle.run_audit.proofs.EndLemmas.{found_there}
use Rattle.run_audit.specs.Played.{StopsIn}

-- a row of a list with one more is one of the list, or that one
abbrev IsRowOf : (rows : List Row) (row : Row) (place : ℕ) (found : Row) → Type 0
IsRowOf rows row place found =
    ((place < length rows) × (slice_get rows place ≡ Some found)) ⊎ ((place ≡ length rows) × (found ≡ row))

which : (rows : List Row) (row : Row) (place : ℕ) (found : Row) → slice_get (rows ++ row ∷ []) place ≡ Some found → IsRowOf rows row place found
which rows row place found there =
    let inside = slice_get_within (rows ++ row ∷ []) place found there in
    let size = length-append rows (row ∷ []) in
    let is = get_or_from_slice_get (rows ++ row ∷ []) place found found there in
    elim (cases_lt place (length rows)) [
      | inl lt ↦ inl (lt, slice_get-get_or rows place found lt ∙ ap Some (sym (get_or_append_left rows (row ∷ []) found place lt) ∙ is))
      | inr past ↦
          let last : length rows ≡ place = omega (arith, past, inside, size) in
          inr (sym last, sym is ∙ get_or_at rows row [] found place last)
    ]

-- **The next turn of a replica that has one left is one more.**
pub free_more : (members : ℕ) (window : Window) (at : ℤ) (turns : ℕ) (situation : Situation) (rows : List Row) (row : Row) (who : ℕ)
    → BeginsFree members window at turns situation rows → who < members → is_turn_of who row.turn ≡ true
    → ((other : ℕ) → is_turn_of other row.turn ≡ true → other ≡ who)
    → IsFreeTurn members window at turns who (course_of members who situation rows) row → BeginsFree members window at turns situation (rows ++ row ∷ [])
free_more members window at turns situation rows row who begun member own alone free = record {
  named = λ place found there. elim (which rows row place found there) [
    | inl before ↦ begun.named place found before.1
    | inr last ↦ (who, member, ap (λ (r : Row). is_turn_of who r.turn) last.1 ∙ own)
  ];
  each = λ other below place found there mine. elim (which rows row place found there) [
    | inl before ↦
        subst (λ (l : List Row). IsFreeTurn members window at turns other (course_of members other situation l) found)
        (sym (take-append-le place rows (row ∷ []) (omega (arith, before.0)))) (begun.each other below place found before.1 mine)
    | inr last ↦
        let same : other ≡ who = alone other (sym (ap (λ (r : Row). is_turn_of other r.turn) last.1) ∙ mine) in
        let taken : take place (rows ++ row ∷ []) ≡ rows = take_at rows (row ∷ []) place (sym last.0) in
        subst (λ (l : List Row). IsFreeTurn members window at turns other (course_of members other situation l) found) (sym taken)
        (subst (λ (w : ℕ). IsFreeTurn members window at turns w (course_of members w situation rows) found) (sym same)
        (subst (λ (r : Row). IsFreeTurn members window at turns who (course_of members who situation rows) r) (sym last.1) free))
  ];
}

-- where each replica that runs has had all its turns the part is whole
pub free_whole : (members : ℕ) (window : Window) (at : ℤ) (turns : ℕ) (situation : Situation) (rows : List Row) → BeginsFree members window at turns situation rows
    → ((who : ℕ) → who < members → (course_of members who situation rows).seen.standing.runs who ≡ true → (course_of members who situation rows).taken ≡ turns)
    → IsFreePart members window at turns situation rows (after_all_posted members situation rows)
free_whole members window at turns situation rows begun all = record {
  named = begun.named;
  each = λ who member. record { goes = begun.each who member; all = all who member };
  is = refl;
}

-- ---- where it stops

twins_size : (members : ℕ) (standing : Standing) (rows others : List Row) → AreTwins members standing rows others → length rows ≡ length others
twins_size members standing [] [] twins = refl
twins_size members standing [] (other ∷ others) twins = absurd twins
twins_size members standing (row ∷ rows) [] twins = absurd twins
twins_size members standing (row ∷ rows) (other ∷ others) twins =
    ap (λ n. suc n) (twins_size members (after_row members standing row.turn row.event row.letters) rows others twins.3)

-- a list whose twin goes on behind some rows: as many rows, and one more
record GoesOn (rows front : List Row) : Type 0 where
  pub first : List Row
  pub next : Row
  pub rest : List Row
  pub is : rows ≡ first ++ next ∷ rest
  pub size : length first ≡ length front

goes_on : (members : ℕ) (standing : Standing) (rows front : List Row) (row : Row) (more : List Row) → AreTwins members standing rows (front ++ row ∷ more)
    → GoesOn rows front
goes_on members standing [] [] row more twins = absurd twins
goes_on members standing [] (other ∷ front) row more twins = absurd twins
goes_on members standing (first ∷ rows) [] row more twins = record { first = []; next = first; rest = rows; is = refl; size = refl }
goes_on members standing (first ∷ rows) (other ∷ front) row more twins =
    let further = goes_on members (after_row members standing first.turn first.event first.letters) rows front row more twins.3 in
    record {
      first = first ∷ further.first;
      next = further.next;
      rest = further.rest;
      is = ap (λ (l : List Row). first ∷ l) further.is;
      size = ap (λ n. suc n) further.size;
    }

-- no whole part has fewer turns
none_shorter : (members : ℕ) (window : Window) (at : ℤ) (turns : ℕ) (situation : Situation) (rows front : List Row) (row : Row) (more : List Row) (after : Situation)
    → BeginsFree members window at turns situation rows → IsFreePart members window at turns situation front after
    → AreTwins members situation.standing rows (front ++ row ∷ more) → ⊥
none_shorter members window at turns situation rows front row more after begun whole twins =
    let there = goes_on members situation.standing rows front row more twins in
    let found : slice_get rows (length there.first) ≡ Some there.next =
    ap (λ (l : List Row). slice_get l (length there.first)) there.is ∙ found_there there.first there.next there.rest in
    let (who, member, own) = begun.named (length there.first) there.next found in
    let free = begun.each who member (length there.first) there.next found own in
    let first : take (length there.first) rows ≡ there.first =
    ap (take (length there.first)) there.is ∙ take_at there.first (there.next ∷ there.rest) (length there.first) refl in
    let course : course_of members who situation (take (length there.first) rows) ≡ course_of members who situation front =
    ap (course_of members who situation) first
    ∙ course_alike members who (begun_at situation) there.first front (there.next ∷ there.rest) (row ∷ more) there.size
    (subst (λ (l : List Row). AreTwins members situation.standing l (front ++ row ∷ more)) there.is twins) in
    let runs : (course_of members who situation front).seen.standing.runs who ≡ true = subst (λ (c : Course). c.seen.standing.runs who ≡ true) course free.runs in
    let all : (course_of members who situation front).taken ≡ turns = (whole.each who member).all runs in
    let left : (course_of members who situation front).taken < turns = subst (λ (c : Course). c.taken < turns) course free.left in
    omega (arith, all, left)

-- **It stops where the next row that may come is the next turn of no replica**, and some replica has one left.
pub free_stops : (members : ℕ) (window : Window) (at : ℤ) (turns : ℕ) (situation : Situation) (rows : List Row) (waiting : ℕ) (Next : Row → Type 0)
    → BeginsFree members window at turns situation rows → waiting < members
    → (course_of members waiting situation rows).seen.standing.runs waiting ≡ true → (course_of members waiting situation rows).taken < turns
    → ((row : Row) (who : ℕ) → Next row → who < members → is_turn_of who row.turn ≡ true
    → IsFreeTurn members window at turns who (course_of members who situation rows) row → ⊥)
    → StopsIn members (BeginsFree members window at turns) (IsFreePart members window at turns) Next situation rows
free_stops members window at turns situation rows waiting Next begun member runs left none = record {
  begun = begun;
  not_whole = not_whole;
  stuck = stuck;
}
  where
    -- the courses of all are one after twins
    same : (others : List Row) (who : ℕ) → AreTwins members situation.standing rows others → course_of members who situation rows ≡ course_of members who situation others
    same others who twins =
        let plain : AreTwins members situation.standing (rows ++ []) (others ++ []) =
        subst (λ (l : List Row). AreTwins members situation.standing l (others ++ [])) (sym (append-nil rows))
        (subst (λ (l : List Row). AreTwins members situation.standing rows l) (sym (append-nil others)) twins) in
        course_alike members who (begun_at situation) rows others [] [] (twins_size members situation.standing rows others twins) plain

    not_whole : (front more : List Row) (after : Situation) → IsFreePart members window at turns situation front after
        → AreTwins members situation.standing rows (front ++ more) → ⊥
    not_whole front [] after whole twins =
        let alike = same front waiting (subst (λ (l : List Row). AreTwins members situation.standing rows l) (append-nil front) twins) in
        let here : (course_of members waiting situation front).seen.standing.runs waiting ≡ true =
        subst (λ (c : Course). c.seen.standing.runs waiting ≡ true) alike runs in
        let all : (course_of members waiting situation front).taken ≡ turns = (whole.each waiting member).all here in
        let few : (course_of members waiting situation front).taken < turns = subst (λ (c : Course). c.taken < turns) alike left in
        omega (arith, all, few)
    not_whole front (row ∷ more) after whole twins =
        none_shorter members window at turns situation rows front row more after begun whole twins

    stuck : (others : List Row) (row : Row) → AreTwins members situation.standing rows others → Next row
        → BeginsFree members window at turns situation (others ++ row ∷ []) → ⊥
    stuck others row twins is begins =
        let there : slice_get (others ++ row ∷ []) (length others) ≡ Some row =
        slice_get-get_or (others ++ row ∷ []) (length others) row (let size = length-append others (row ∷ []) in omega (arith, size))
        ∙ ap Some (get_or_at others row [] row (length others) refl) in
        let (who, below, own) = begins.named (length others) row there in
        let free = begins.each who below (length others) row there own in
        let taken : take (length others) (others ++ row ∷ []) ≡ others = take_at others (row ∷ []) (length others) refl in
        none row who is below own
        (subst (λ (c : Course). IsFreeTurn members window at turns who c row) (sym (same others who twins))
        (subst (λ (l : List Row). IsFreeTurn members window at turns who (course_of members who situation l) row) taken free))
