-- The answer to a call has its name.
use Rattle.std.proofs.Common.{◌≡◌, Option, None, Some, List, [], ◌∷◌, refl, sym, ap, ◌∙◌, inl, inr, subst}
use Rattle.std.proofs.lemmas.Bool.{cases_Bool}
use Rattle.cluster_sched.specs.Fates.{call}
use Rattle.cluster_sched.specs.declared.fate.Fate.TheVariants as fate
use Rattle.cluster_sched.specs.declared.row.Name.{Name}
use Rattle.cluster_sched.specs.declared.row.SchedRow.{SchedRow}
use Rattle.history.specs.Book.{answer_to, is_name, under}
use Rattle.history.specs.Legal.{IsMade, answered}
use Rattle.history.specs.declared.turn.CallRow.{CallRow}
use Rattle.synchronous_rounds.specs.Rounds.{IsAnswerTo}
use Rattle.history.proofs.Keeping.{name_is as named}

-- what is found under a name has it
pub under_named : (name : Name) (held : List SchedRow) (row : SchedRow) → under name held ≡ Some row → row.name ≡ name
under_named name [] row is = absurd cc
under_named name (first ∷ held) row is = elim (cases_Bool (is_name first.name name)) [
  | inl here ↦
      let so : Some first ≡ Some row = rw here at is in
      let same : first ≡ row = cc in
      ap (λ (r : SchedRow). r.name) (sym same) ∙ named first.name name here
  | inr other ↦ under_named name held row (rw other at is)
]

done_answer : (row : SchedRow) (found : Option SchedRow) → ((first : SchedRow) → found ≡ Some first → first.name ≡ row.name)
    → (answer : SchedRow) × (answered (call fate.Done row found).answer ≡ Some answer) × (answer.name ≡ row.name)
done_answer row None named = (row, refl, refl)
done_answer row (Some first) named = (first, refl, named first refl)

-- a call that is answered has an answer under its name, and there is none where none was made
pub made_answer : (held calls : List SchedRow) (made : Option CallRow) → IsMade held calls made → ((call : CallRow) → made ≡ Some call → call.fate ≡ fate.Done)
    → IsAnswerTo calls (answer_to made)
made_answer held [] made is done = rw is refl
made_answer held (row ∷ calls) None is done = absurd is
made_answer held (row ∷ calls) (Some made) (alone, same, answer) done =
    let one = done_answer row (under row.name held) (λ first found. under_named row.name held first found) in
    let so = subst (λ f. made.answer ≡ answered (call f row (under row.name held)).answer) (done made refl) answer in
    (one.0, so ∙ one.1, one.2)
