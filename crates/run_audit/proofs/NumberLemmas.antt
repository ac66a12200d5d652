-- The numbers of a legal book's turns have 64 bits where it has few turns: a turn posts a letter to each replica at most, and leaves a late call at most.
use Rattle.std.proofs.Common.{◌≡◌, ℕ, suc, ◌+◌, ◌*◌, ◌<◌, ◌≤◌, ◌^◌, List, [], ◌∷◌, ◌++◌, append-nil, append_assoc, length, map, Option, None, Some, ap, sym, subst, arith}
use Rattle.std.specs.List.{AllZip, flat_map, range_with_len}
use Rattle.std.proofs.lemmas.List.{length-append, length-map}
use Rattle.std.proofs.lemmas.List.FromFn.{length-range_with_len}
use Rattle.due_set.specs.Table.{Table}
use Rattle.cluster_sched.specs.Fates.{added, call}
use Rattle.cluster_sched.specs.declared.fate.Fate.{Fate}
use Rattle.cluster_sched.specs.declared.fate.Fate.TheVariants.{Done, LostBefore, LostAfter, Late}
use Rattle.cluster_sched.specs.declared.row.SchedRow.{SchedRow}
use Rattle.launch_machine.specs.Clerk.{first_rows}
use Rattle.step_spec.specs.Act.{Act}
use Rattle.step_spec.specs.Folds.{letter_of, letters_of, sent_to}
use Rattle.step_spec.specs.Letters.{AreLettersOf, IsSpelled}
use Rattle.step_spec.specs.Message.{Message}
use Rattle.step_spec.specs.State.{Identity}
use Rattle.step_spec.specs.declared.out.OutLetter.{OutLetter}
use Rattle.agreement.specs.Transition.{identity_of}
use Rattle.history.specs.Book.{PostedLetter, Row, Standing, acts_at, after_row, late_after, standing_after, under}
use Rattle.history.specs.Legal.{IsLegal, MayFollow}
use Rattle.history.specs.declared.turn.CallRow.{CallRow}
use Rattle.history.specs.declared.turn.Turn.{Turn}
use Rattle.history.specs.declared.turn.Turn.TheVariants.{Did, Stopped, Restarted, Arrived}
use Rattle.history.proofs.FrontLemmas.{follows_there}
use Rattle.history.proofs.Keeping.{stands_next}
use Rattle.journal_text.specs.Told.{HasNumbers}
use Rattle.run_audit.proofs.ComingLemmas.{turn_numbers}

-- ---- letters of a turn

letter_few : (to : ℕ) (messages : List Message) → length (letter_of to messages) ≤ 1
letter_few to [] = omega arith
letter_few to (message ∷ messages) = omega arith

letters_few : (self : Identity) (acts : List Act) (places : List ℕ) → length (flat_map (λ member. letter_of member (sent_to self.me member acts)) places) ≤ length places
letters_few self acts [] = omega arith
letters_few self acts (place ∷ places) =
    let first = letter_of place (sent_to self.me place acts) in
    let size = length-append first (flat_map (λ member. letter_of member (sent_to self.me member acts)) places) in
    let one = letter_few place (sent_to self.me place acts) in
    let more = letters_few self acts places in
    omega (arith, size, one, more)

as_many : {A B : Type 0} (P : A → B → Type 0) (xs : List A) (ys : List B) → AllZip P xs ys → length xs ≡ length ys
as_many P [] [] zips = omega arith
as_many P [] (y ∷ ys) zips = absurd zips
as_many P (x ∷ xs) [] zips = absurd zips
as_many P (x ∷ xs) (y ∷ ys) zips = ap suc (as_many P xs ys zips.1)

posts_few : (members who : ℕ) (acts : List Act) (letters : List OutLetter) → AreLettersOf (identity_of members who) acts letters → length letters ≤ members
posts_few members who acts letters are =
    let self = identity_of members who in
    let few = letters_few self acts (range_with_len 0 members) in
    let size = as_many (IsSpelled self.members self.me) (letters_of self acts) letters are in
    let places = length-range_with_len 0 members in
    omega (arith, few, size, places)

-- ---- late calls of a turn

added_few : (row : SchedRow) (found : Option SchedRow) → length (added row found) ≤ 1
added_few row None = omega arith
added_few row (Some first) = omega arith

late_few : (fate : Fate) (row : SchedRow) (found : Option SchedRow) → length (call fate row found).late ≤ 1
late_few Done row None = omega arith
late_few LostBefore row None = omega arith
late_few LostAfter row None = omega arith
late_few Late row None = added_few row None
late_few Done row (Some first) = omega arith
late_few LostBefore row (Some first) = omega arith
late_few LostAfter row (Some first) = omega arith
late_few Late row (Some first) = omega arith

late_next : (made : Option CallRow) (held late : List SchedRow) → length (late_after made held late) ≤ length late + 1
late_next None held late = omega arith
late_next (Some made) held late =
    let joined = (call made.fate made.row (under made.row.name held)).late in
    let one = late_few made.fate made.row (under made.row.name held) in
    let size = length-append late joined in
    omega (arith, one, size)

-- ---- of a book

module _ (members : ℕ) (table : Table) (few : members ≤ 7) where
  abbrev stands : List Row → Standing
  stands rows = standing_after members (first_rows table) rows

  -- so many letters are posted, and so many calls are late, at most
  record HasFew (standing : Standing) (turns : ℕ) : Type 0 where
    pub posted : length standing.posted ≤ 7 * turns
    pub late : length standing.late ≤ turns

  few_next : (standing : Standing) (turn : Turn) (row : Row) (turns : ℕ) → MayFollow members table standing turn row → HasFew standing turns
      → HasFew (after_row members standing turn row.event row.letters) (turns + 1)
  unfolding after_row
  few_next standing (Did who cause made) row turns may had =
      let letters = posts_few members who (acts_at members standing who row.event) row.letters may.1.letters in
      let posting : OutLetter → PostedLetter = λ letter. record { from = who; to = letter.to; bytes = letter.bytes } in
      let size = length-append standing.posted (map posting row.letters) in
      let count = length-map row.letters posting in
      let posted = had.posted in
      let one = late_next made standing.held standing.late in
      let late = had.late in
      record { posted = omega (arith, letters, size, count, posted, few); late = omega (arith, one, late) }
  few_next standing (Stopped who cause kept) row turns may had = let posted = had.posted in let late = had.late in record { posted = omega (arith, posted); late = omega (arith, late) }
  few_next standing (Restarted who) row turns may had = let posted = had.posted in let late = had.late in record { posted = omega (arith, posted); late = omega (arith, late) }
  few_next standing (Arrived number) row turns may had = let posted = had.posted in let late = had.late in record { posted = omega (arith, posted); late = omega (arith, late) }

  few_from : (front back : List Row) → IsLegal members table (front ++ back) → HasFew (stands front) (length front) → HasFew (stands (front ++ back)) (length (front ++ back))
  few_from front [] legal had = subst (λ (l : List Row). HasFew (stands l) (length l)) (sym (append-nil front)) had
  few_from front (row ∷ back) legal had =
      let whole : (front ++ row ∷ []) ++ back ≡ front ++ row ∷ back = append_assoc front (row ∷ []) back in
      let next = few_next (stands front) row.turn row (length front) (follows_there members table front back row legal) had in
      let size : length front + 1 ≡ length (front ++ row ∷ []) = sym (length-append front (row ∷ [])) in
      subst (λ (l : List Row). HasFew (stands l) (length l)) whole
      (few_from (front ++ row ∷ []) back (subst (IsLegal members table) (sym whole) legal)
      (subst (HasFew (stands (front ++ row ∷ []))) size (subst (λ (s : Standing). HasFew s (length front + 1)) (sym (stands_next members (first_rows table) front row)) next)))

  -- **The numbers of a turn that comes next behind few turns have 64 bits.**
  pub next_numbers : (rows : List Row) (row : Row) → IsLegal members table rows → length rows < 2 ^ 32 → MayFollow members table (stands rows) row.turn row → HasNumbers row.turn
  next_numbers rows row legal short may =
      let all = few_from [] rows legal (record { posted = omega arith; late = omega arith }) in
      let posted = all.posted in
      let late = all.late in
      turn_numbers members table (stands rows) row.turn row (omega (arith, posted, short)) (omega (arith, late, short)) may
