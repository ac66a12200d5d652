-- Where a part stops within: turns that begin it, of which none ends it, and behind which none of some rows goes on.
use Rattle.std.proofs.Common.{◌≡◌, ◌⊎◌, ℕ, List, [], ◌∷◌, ◌++◌, append_assoc, inl, inr, refl, ap, sym, subst, ◌∙◌}
use Rattle.history.specs.Book.{Row, Standing, after_row}
use Rattle.script_semantics.specs.Parts.{Plays, Then}
use Rattle.script_semantics.specs.Situation.{AreTurnsFor, IsTurnFor, Situation, Task, after_turn, after_turns}
use Rattle.journal_text.proofs.Determined.{EndAlike}
use Rattle.journal_text.proofs.Twins.{AreTwins, after_twin, twins_refl}
use Rattle.run_audit.specs.Begins.{BeginsThen, BeginsToPlay, BeginsTurnsFor}
use Rattle.run_audit.proofs.BeginLemmas.{BeginsAsWhole}
use Rattle.run_audit.proofs.EndLemmas.{EndsThere, nothing_longer}
use Rattle.run_audit.specs.Played.{StopsIn}

-- of a list with one row more, cut in two: the second part is empty, or it ends in that row
abbrev CutLast : (others : List Row) (row : Row) (done back : List Row) → Type 0
CutLast others row done back = ((done ≡ others ++ row ∷ []) × (back ≡ [])) ⊎ ((before : List Row) × (others ≡ done ++ before) × (back ≡ before ++ row ∷ []))

cut_last : (others : List Row) (row : Row) (done back : List Row) → others ++ row ∷ [] ≡ done ++ back → CutLast others row done back
cut_last [] row [] back same = inr ([], refl, sym same)
cut_last [] row (first ∷ []) back same = inl (let one : row ≡ first = cc in cc, let rest : [] ≡ back = cc in sym rest)
cut_last [] row (first ∷ second ∷ done) back same = absurd cc
cut_last (other ∷ others) row [] back same = inr (other ∷ others, refl, sym same)
cut_last (other ∷ others) row (first ∷ done) back same =
    let head : other ≡ first = cc in
    let rests : others ++ row ∷ [] ≡ done ++ back = cc in
    elim (cut_last others row done back rests) [
      | inl whole ↦ inl ((let rest = whole.0 in cc), whole.1)
      | inr more ↦ inr (more.0, (let rest = more.1 in cc), more.2)
    ]

-- ---- twins, one after another

-- a row more behind twins is its own twin
pub twins_with : (members : ℕ) (standing : Standing) (rows others : List Row) (row : Row) → AreTwins members standing rows others
    → AreTwins members standing (rows ++ row ∷ []) (others ++ row ∷ [])
twins_with members standing [] [] row twins = twins_refl members standing (row ∷ [])
twins_with members standing [] (other ∷ others) row twins = absurd twins
twins_with members standing (first ∷ rows) [] row twins = absurd twins
twins_with members standing (first ∷ rows) (other ∷ others) row twins =
    let (turn, stands, changes, behind) = twins in
    (turn, stands, changes, twins_with members (after_row members standing first.turn first.event first.letters) rows others row behind)

-- without their last rows twins are twins
pub twins_front : (members : ℕ) (situation : Situation) (rows others : List Row) (row other : Row)
    → AreTwins members situation.standing (rows ++ row ∷ []) (others ++ other ∷ []) → AreTwins members situation.standing rows others
twins_front members situation [] [] row other twins = tt
twins_front members situation [] (first ∷ []) row other twins = absurd twins.3
twins_front members situation [] (first ∷ second ∷ others) row other twins = absurd twins.3
twins_front members situation (first ∷ rows) [] row other twins = absurd (nothing_longer members (after_turn members situation first) rows row [] twins.3)
twins_front members situation (first ∷ rows) (second ∷ others) row other twins =
    let (turn, stands, changes, behind) = twins in
    (turn, stands, changes, twins_front members (after_turn members situation first) rows others row other behind)

-- ---- parts that are put together

module _ (members : ℕ) (begins : Situation → List Row → Type 0) (whole : Situation → List Row → Situation → Type 0)
    (next : Situation → List Row → Type 0) (second : Situation → List Row → Situation → Type 0) (Next : Row → Type 0)
    (as_whole : BeginsAsWhole begins whole) (ends : EndsThere members begins whole) (alike : EndAlike members whole whole) where
  -- what stops within the first part stops within both
  pub stops_first : (situation : Situation) (rows : List Row) → StopsIn members begins whole Next situation rows
      → StopsIn members (BeginsThen begins whole next) (Then whole second) Next situation rows
  stops_first situation rows stops = record {
    begun = inl stops.begun;
    not_whole = λ front more after is twins.
        stops.not_whole is.front (is.back ++ more) is.middle is.one
        (subst (λ (l : List Row). AreTwins members situation.standing rows l) (ap (λ (l : List Row). l ++ more) is.parts ∙ append_assoc is.front is.back more) twins);
    stuck = stuck;
  }
    where
      stuck : (others : List Row) (row : Row) → AreTwins members situation.standing rows others → Next row
          → BeginsThen begins whole next situation (others ++ row ∷ []) → ⊥
      stuck others row twins is (inl begun) = stops.stuck others row twins is begun
      stuck others row twins is (inr into) = elim (cut_last others row into.done into.back into.parts) [
        | inl all ↦ stops.stuck others row twins is (subst (begins situation) all.0 (as_whole situation into.done into.middle into.one))
        | inr more ↦ stops.not_whole into.done more.0 into.middle into.one (subst (λ (l : List Row). AreTwins members situation.standing rows l) more.1 twins)
      ]

  -- what stops within the second part stops within both, behind the first
  pub stops_second : (situation : Situation) (done : List Row) (middle : Situation) (rows : List Row) → whole situation done middle
      → StopsIn members next second Next middle rows
      → StopsIn members (BeginsThen begins whole next) (Then whole second) Next situation (done ++ rows)
  stops_second situation done middle rows one stops = record {
    begun = inr (record { done = done; middle = middle; back = rows; parts = refl; one = one; two = stops.begun });
    not_whole = not_whole;
    stuck = stuck;
  }
    where
      not_whole : (front more : List Row) (after : Situation) → Then whole second situation front after
          → AreTwins members situation.standing (done ++ rows) (front ++ more) → ⊥
      not_whole front more after is twins =
          let same = alike situation done is.front rows (is.back ++ more) middle is.middle one is.one
          (subst (λ (l : List Row). AreTwins members situation.standing (done ++ rows) l)
          (ap (λ (l : List Row). l ++ more) is.parts ∙ append_assoc is.front is.back more) twins) in
          stops.not_whole is.back more after (subst (λ (m : Situation). second m is.back after) (sym same.same) is.two) same.twins

      stuck : (others : List Row) (row : Row) → AreTwins members situation.standing (done ++ rows) others → Next row
          → BeginsThen begins whole next situation (others ++ row ∷ []) → ⊥
      stuck others row twins is begun =
          let longer : AreTwins members situation.standing (done ++ (rows ++ row ∷ [])) (others ++ row ∷ []) =
          subst (λ (l : List Row). AreTwins members situation.standing l (others ++ row ∷ [])) (append_assoc done rows (row ∷ []))
          (twins_with members situation.standing (done ++ rows) others row twins) in
          by begun longer
        where
          beyond : (back : List Row) → AreTwins members situation.standing (done ++ (back ++ row ∷ [])) (others ++ row ∷ []) → begins situation (others ++ row ∷ []) → ⊥
          beyond [] twins begun = ends situation done row [] (others ++ row ∷ []) middle one begun twins
          beyond (first ∷ back) twins begun = ends situation done first (back ++ row ∷ []) (others ++ row ∷ []) middle one begun twins

          by : BeginsThen begins whole next situation (others ++ row ∷ []) → AreTwins members situation.standing (done ++ (rows ++ row ∷ [])) (others ++ row ∷ []) → ⊥
          by (inl begun) twins = beyond rows twins begun
          by (inr into) twins =
              let same = alike situation done into.done (rows ++ row ∷ []) into.back middle into.middle one into.one
              (subst (λ (l : List Row). AreTwins members situation.standing (done ++ (rows ++ row ∷ [])) l) into.parts twins) in
              let begun : next middle into.back = subst (λ (m : Situation). next m into.back) (sym same.same) into.two in
              elim (cut_last others row into.done into.back into.parts) [
                | inl all ↦ nothing_longer members middle rows row [] (subst (λ (l : List Row). AreTwins members middle.standing (rows ++ row ∷ []) l) all.1 same.twins)
                | inr more ↦
                    let both : AreTwins members middle.standing (rows ++ row ∷ []) (more.0 ++ row ∷ []) =
                    subst (λ (l : List Row). AreTwins members middle.standing (rows ++ row ∷ []) l) more.2 same.twins in
                    stops.stuck more.0 row (twins_front members middle rows more.0 row row both) is (subst (next middle) more.2 begun)
              ]

-- ---- turns of tasks

-- what stops within turns of tasks: those of the first tasks have come, and none of these rows is the next one's
turns_stop : (members : ℕ) (situation : Situation) (done : List Task) (task : Task) (tasks : List Task) (rows : List Row) (Next : Row → Type 0)
    → AreTurnsFor members situation done rows → ((row : Row) → Next row → IsTurnFor (after_turns members situation rows).fates task row.turn → ⊥)
    → BeginsTurnsFor members situation (done ++ task ∷ tasks) rows
turns_stop members situation [] task tasks [] Next are none = tt
turns_stop members situation [] task tasks (row ∷ rows) Next are none = cc
turns_stop members situation (first ∷ done) task tasks [] Next are none = tt
turns_stop members situation (first ∷ done) task tasks (row ∷ rows) Next are none =
    (are.0, turns_stop members (after_turn members situation row) done task tasks rows Next are.1 none)

-- so many turns are not those of all tasks
not_all : (members : ℕ) (situation : Situation) (done : List Task) (task : Task) (tasks : List Task) (rows front more : List Row)
    → AreTurnsFor members situation done rows → AreTurnsFor members situation (done ++ task ∷ tasks) front
    → AreTwins members situation.standing rows (front ++ more) → ⊥
not_all members situation [] task tasks [] [] more are all twins = cc
not_all members situation [] task tasks [] (other ∷ front) more are all twins = twins
not_all members situation [] task tasks (row ∷ rows) front more are all twins = cc
not_all members situation (first ∷ done) task tasks [] front more are all twins = cc
not_all members situation (first ∷ done) task tasks (row ∷ rows) [] more are all twins = cc
not_all members situation (first ∷ done) task tasks (row ∷ rows) (other ∷ front) more are all twins =
    let (turn, stands, changes, others) = twins in
    let here = after_turn members situation row in
    let same : here ≡ after_turn members situation other = after_twin members situation row other turn stands changes in
    not_all members here done task tasks rows front more are.1 (subst (λ (at : Situation). AreTurnsFor members at (done ++ task ∷ tasks) front) (sym same) all.1) others

-- behind the turns of the first tasks, a turn that isn't the next one's begins no more
no_other : (members : ℕ) (situation : Situation) (done : List Task) (task : Task) (tasks : List Task) (rows others : List Row) (row : Row)
    → AreTurnsFor members situation done rows → AreTwins members situation.standing rows others
    → (IsTurnFor (after_turns members situation rows).fates task row.turn → ⊥) → BeginsTurnsFor members situation (done ++ task ∷ tasks) (others ++ row ∷ []) → ⊥
no_other members situation [] task tasks [] [] row are twins none begun = none begun.0
no_other members situation [] task tasks [] (other ∷ others) row are twins none begun = twins
no_other members situation [] task tasks (first ∷ rows) others row are twins none begun = cc
no_other members situation (given ∷ done) task tasks [] others row are twins none begun = cc
no_other members situation (given ∷ done) task tasks (first ∷ rows) [] row are twins none begun = twins
no_other members situation (given ∷ done) task tasks (first ∷ rows) (other ∷ others) row are twins none begun =
    let (turn, stands, changes, behind) = twins in
    let here = after_turn members situation first in
    let same : here ≡ after_turn members situation other = after_twin members situation first other turn stands changes in
    no_other members here done task tasks rows others row are.1 behind none
    (subst (λ (at : Situation). BeginsTurnsFor members at (done ++ task ∷ tasks) (others ++ row ∷ [])) (sym same) begun.1)

-- **Turns of tasks stop where the next row that may come isn't the next task's turn.**
pub plays_stop : (members : ℕ) (asked : Situation → List Task) (situation : Situation) (done : List Task) (task : Task) (tasks : List Task) (rows : List Row)
    (Next : Row → Type 0) → asked situation ≡ done ++ task ∷ tasks → AreTurnsFor members situation done rows
    → ((row : Row) → Next row → IsTurnFor (after_turns members situation rows).fates task row.turn → ⊥)
    → StopsIn members (BeginsToPlay members asked) (Plays members asked) Next situation rows
plays_stop members asked situation done task tasks rows Next all are none = record {
  begun = subst (λ (l : List Task). BeginsTurnsFor members situation l rows) (sym all) (turns_stop members situation done task tasks rows Next are none);
  not_whole = λ front more after is twins.
      not_all members situation done task tasks rows front more are (subst (λ (l : List Task). AreTurnsFor members situation l front) all is.turns) twins;
  stuck = λ others row twins is begun.
      no_other members situation done task tasks rows others row are twins (none row is)
      (subst (λ (l : List Task). BeginsTurnsFor members situation l (others ++ row ∷ [])) all begun);
}
