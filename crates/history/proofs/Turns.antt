-- Books row by row: a legal book with a row that may follow is legal; and what a step's turn makes of two replicas.
use Rattle.std.proofs.Common.{◌≡◌, ℕ, zero, suc, ◌<◌, true, Option, Some, None, List, [], ◌∷◌, ◌++◌, take, fold, refl, sym, ap, ◌∙◌, inl, inr, ◌⊎◌, subst, append_assoc, append-nil, lit<, length}
use Rattle.std.specs.List.{slice_get}
use Rattle.std.proofs.lemmas.List.Sums.{fold_push}
use Rattle.due_set.specs.Table.{Table}
use Rattle.launch_machine.specs.Clerk.{first_rows}
use Rattle.cluster_sched.specs.declared.row.SchedRow.{SchedRow}
use Rattle.step_spec.specs.Act.{Act}
use Rattle.step_spec.specs.Folds.{after_acts, calls_of, learnt_of}
use Rattle.step_spec.specs.Letters.{AreLettersOf}
use Rattle.step_spec.specs.State.{State}
use Rattle.step_spec.specs.Step.{Event, IsPlanned, step}
use Rattle.step_spec.specs.declared.out.OutLetter.{OutLetter}
use Rattle.agreement.specs.Transition.{identity_of}
use Rattle.history.specs.Book.{PostedLetter, Row, Standing, acts_at, after_row, answer_to, first_standing, held_after, post, standing_after, votes_of}
use Rattle.history.specs.Legal.{IsEventOfCause, IsLegal, IsMade, MayFollow}
use Rattle.history.specs.declared.turn.CallRow.{CallRow}
use Rattle.history.specs.declared.turn.Cause.{Cause}
use Rattle.history.specs.declared.turn.Turn.TheVariants.{Did}
use Rattle.history.proofs.FrontLemmas.{finds_first, take_front}

-- ---- books

-- what a number finds in a list with one more element: what it found, or that element
push_finds : {X : Type 0} (xs : List X) (x : X) (i : ℕ) (y : X) → slice_get (xs ++ x ∷ []) i ≡ Some y
    → ((slice_get xs i ≡ Some y) × (take i (xs ++ x ∷ []) ≡ take i xs)) ⊎ ((x ≡ y) × (take i (xs ++ x ∷ []) ≡ xs))
push_finds [] x zero y is = let same : x ≡ y = cc in inr (same, refl)
push_finds [] x (suc i) y is = absurd cc
push_finds (z ∷ xs) x zero y is = inl (is, refl)
push_finds (z ∷ xs) x (suc i) y is = elim (push_finds xs x i y is) [
  | inl (there, front) ↦ inl (there, ap (λ rest. z ∷ rest) front)
  | inr (same, whole) ↦ inr (same, ap (λ rest. z ∷ rest) whole)
]

pub legal_push : (n : ℕ) (table : Table) (book : List Row) (row : Row) → IsLegal n table book
    → MayFollow n table (standing_after n (first_rows table) book) row.turn row → IsLegal n table (book ++ row ∷ [])
legal_push n table book row legal may number found is = elim (push_finds book row number found is) [
  | inl (there, front) ↦ subst (λ rows. MayFollow n table (standing_after n (first_rows table) rows) found.turn found) (sym front) (legal number found there)
  | inr (same, whole) ↦
      subst (λ rows. MayFollow n table (standing_after n (first_rows table) rows) found.turn found) (sym whole)
      (subst (λ (r : Row). MayFollow n table (standing_after n (first_rows table) book) r.turn r) same may)
]

-- rows of which each may follow those before it
abbrev pub AllFollow : ℕ → Table → Standing → List Row → Type 0
AllFollow n table standing [] = Unit {0}
AllFollow n table standing (row ∷ rows) =
    MayFollow n table standing row.turn row × AllFollow n table (after_row n standing row.turn row.event row.letters) rows

-- what stands after them
abbrev pub after_rows : ℕ → Standing → List Row → Standing
after_rows n standing rows = fold (λ standing row. after_row n standing row.turn row.event row.letters) standing rows

pub legal_append : (n : ℕ) (table : Table) (book rows : List Row) → IsLegal n table book
    → AllFollow n table (standing_after n (first_rows table) book) rows → IsLegal n table (book ++ rows)
legal_append n table book [] legal all = subst (λ some. IsLegal n table some) (sym (append-nil book)) legal
legal_append n table book (row ∷ rows) legal all =
    subst (λ some. IsLegal n table some) (append_assoc book (row ∷ []) rows)
    (legal_append n table (book ++ row ∷ []) rows (legal_push n table book row legal all.0)
    (subst (λ standing. AllFollow n table standing rows) (sym (fold_push _ (first_standing n (first_rows table)) book row)) all.1))

-- a legal book, and what holds of what stands after it
pub record Book (n : ℕ) (table : Table) (Holds : Standing → Type 0) : Type 0 where
  pub rows : List Row
  pub legal : IsLegal n table rows
  pub holds : Holds (standing_after n (first_rows table) rows)

-- a row that may follow, and what holds then
pub record Next (n : ℕ) (table : Table) (standing : Standing) (Holds : Standing → Type 0) : Type 0 where
  pub row : Row
  pub may : MayFollow n table standing row.turn row
  pub holds : Holds (after_row n standing row.turn row.event row.letters)

pub go_on : (n : ℕ) (table : Table) (P Q : Standing → Type 0) → ((standing : Standing) → P standing → Next n table standing Q) → Book n table P → Book n table Q
go_on n table P Q next book =
    let more = next (standing_after n (first_rows table) book.rows) book.holds in
    record {
      rows = book.rows ++ more.row ∷ [];
      legal = legal_push n table book.rows more.row book.legal more.may;
      holds = subst Q (sym (fold_push _ (first_standing n (first_rows table)) book.rows more.row)) more.holds;
    }

-- ---- two replicas

-- what stands of two replicas that run: what each has, the letters, the rows that are held, and the answer that waits for the first
pub record Stands (one other : State) (posted : List PostedLetter) (held : List SchedRow) (waits : Option SchedRow) (standing : Standing) : Type 0 where
  pub first : standing.replicas 0 ≡ one
  pub second : standing.replicas 1 ≡ other
  pub runs : standing.runs 0 ≡ true
  pub runs_too : standing.runs 1 ≡ true
  pub posted_are : standing.posted ≡ posted
  pub held_are : standing.held ≡ held
  pub waits_is : standing.waits 0 ≡ waits

-- the row of a turn in which a replica did these acts
abbrev pub did : ℕ → Cause → Option CallRow → Event → List Act → List OutLetter → Row
did who cause made event acts letters =
    record { turn = Did who cause made; event = event; letters = letters; votes = votes_of acts; learnt = learnt_of acts }

-- it may follow where these are the acts of the replica's step
pub may_do : (table : Table) (standing : Standing) (who : ℕ) (cause : Cause) (made : Option CallRow) (event : Event) (acts : List Act) (letters : List OutLetter) (state : State)
    → who < 2 → standing.runs who ≡ true → standing.replicas who ≡ state → step (identity_of 2 who) event state ≡ acts
    → IsEventOfCause 2 table standing who cause event → IsPlanned table state event → AreLettersOf (identity_of 2 who) acts letters
    → IsMade standing.held (calls_of acts) made → MayFollow 2 table standing (Did who cause made) (did who cause made event acts letters)
may_do table standing who cause made event acts letters state member runs is are of_cause planned spelled call =
    let same : acts_at 2 standing who event ≡ acts = ap (step (identity_of 2 who) event) is ∙ are in (
      record { member = member; runs = runs; event_of = of_cause; planned = subst (λ s. IsPlanned table s event) (sym is) planned },
      record {
        letters = subst (λ some. AreLettersOf (identity_of 2 who) some letters) (sym same) spelled;
        votes = ap votes_of (sym same);
        learnt = ap learnt_of (sym same);
        call = subst (λ some. IsMade standing.held (calls_of some) made) (sym same) call;
      },
    )

-- what stands after a turn of the first, and of the second
pub first_did : (one other after : State) (posted : List PostedLetter) (held : List SchedRow) (waits : Option SchedRow) (standing : Standing) (cause : Cause) (made : Option CallRow) (event : Event) (acts : List Act) (letters : List OutLetter)
    → Stands one other posted held waits standing → step (identity_of 2 0) event one ≡ acts → after_acts acts one ≡ after
    → Stands after other (posted ++ post 0 letters) (held_after made held) (answer_to made) (after_row 2 standing (Did 0 cause made) event letters)
unfolding after_row
first_did one other after posted held waits standing cause made event acts letters there are comes = record {
  first = ap (λ state. after_acts (step (identity_of 2 0) event state) state) there.first ∙ ap (λ some. after_acts some one) are ∙ comes;
  second = there.second;
  runs = there.runs;
  runs_too = there.runs_too;
  posted_are = ap (λ some. some ++ post 0 letters) there.posted_are;
  held_are = ap (λ some. held_after made some) there.held_are;
  waits_is = refl;
}

pub second_did : (one other after : State) (posted : List PostedLetter) (held : List SchedRow) (waits : Option SchedRow) (standing : Standing) (cause : Cause) (event : Event) (acts : List Act) (letters : List OutLetter)
    → Stands one other posted held waits standing → step (identity_of 2 1) event other ≡ acts → after_acts acts other ≡ after
    → Stands one after (posted ++ post 1 letters) held waits (after_row 2 standing (Did 1 cause None) event letters)
unfolding after_row
second_did one other after posted held waits standing cause event acts letters there are comes = record {
  first = there.first;
  second = ap (λ state. after_acts (step (identity_of 2 1) event state) state) there.second ∙ ap (λ some. after_acts some other) are ∙ comes;
  runs = there.runs;
  runs_too = there.runs_too;
  posted_are = ap (λ some. some ++ post 1 letters) there.posted_are;
  held_are = there.held_are;
  waits_is = there.waits_is;
}

-- the next row by a turn of the first, and of the second
pub first_turn : (table : Table) (one other after : State) (posted : List PostedLetter) (held : List SchedRow) (waits : Option SchedRow) (standing : Standing) (cause : Cause) (made : Option CallRow) (event : Event) (acts : List Act) (letters : List OutLetter)
    → step (identity_of 2 0) event one ≡ acts → after_acts acts one ≡ after → IsPlanned table one event → AreLettersOf (identity_of 2 0) acts letters
    → IsMade held (calls_of acts) made → IsEventOfCause 2 table standing 0 cause event → Stands one other posted held waits standing
    → Next 2 table standing (Stands after other (posted ++ post 0 letters) (held_after made held) (answer_to made))
first_turn table one other after posted held waits standing cause made event acts letters are comes planned spelled call of_cause there = record {
  row = did 0 cause made event acts letters;
  may =
      may_do table standing 0 cause made event acts letters one (lit< tt) there.runs there.first are of_cause planned spelled
      (subst (λ some. IsMade some (calls_of acts) made) (sym there.held_are) call);
  holds = first_did one other after posted held waits standing cause made event acts letters there are comes;
}

pub second_turn : (table : Table) (one other after : State) (posted : List PostedLetter) (held : List SchedRow) (waits : Option SchedRow) (standing : Standing) (cause : Cause) (event : Event) (acts : List Act) (letters : List OutLetter)
    → step (identity_of 2 1) event other ≡ acts → after_acts acts other ≡ after → IsPlanned table other event → AreLettersOf (identity_of 2 1) acts letters
    → calls_of acts ≡ [] → IsEventOfCause 2 table standing 1 cause event → Stands one other posted held waits standing
    → Next 2 table standing (Stands one after (posted ++ post 1 letters) held waits)
second_turn table one other after posted held waits standing cause event acts letters are comes planned spelled none of_cause there = record {
  row = did 1 cause None event acts letters;
  may =
      may_do table standing 1 cause None event acts letters other (lit< tt) there.runs_too there.second are of_cause planned spelled
      (subst (λ calls. IsMade standing.held calls None) (sym none) refl);
  holds = second_did one other after posted held waits standing cause event acts letters there are comes;
}

pub all_follow : (members : ℕ) (table : Table) (book rows : List Row) → IsLegal members table (book ++ rows)
    → AllFollow members table (standing_after members (first_rows table) book) rows
all_follow members table book [] legal = tt
all_follow members table book (row ∷ rows) legal = (
  subst (λ front. MayFollow members table (standing_after members (first_rows table) front) row.turn row) (take_front book (row ∷ rows))
      (legal (length book) row (finds_first book row rows)),
  subst (λ standing. AllFollow members table standing rows) (fold_push _ (first_standing members (first_rows table)) book row)
      (all_follow members table (book ++ row ∷ []) rows (subst (λ list. IsLegal members table list) (sym (append_assoc book (row ∷ []) rows)) legal)),
)
