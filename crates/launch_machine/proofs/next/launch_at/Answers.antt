use Rattle.std.proofs.Common.{ℤ, FitsSigned, w64, sym, ◌∙◌, inr}
use Rattle.std.specs.Prelude.{IfNone, IfSome}
use Rattle.std.proofs.lemmas.Int.{to_z-of_z}
use Rattle.due_set.specs.Anacron.{IsJobOpen}
use Rattle.due_set.proofs.TableLemmas.{IfNone-map}
use Rattle.launch_machine.specs.Clerk.{MayStart}
use Rattle.launch_machine.proofs.MachineLemmas.{IfSome-map, first_may_start, may_start_by}
use Rattle.launch_machine.proofs.next.launch_at.Goals as goal

pub returns-then-is_anacron-clause-found : goal.returns-then-is_anacron-clause-found
returns-then-is_anacron-clause-found c =
    let now_fits : FitsSigned w64 c.args.now = c.ranges.now in
    let found : IfSome c.date_at.result (IsJobOpen c.args.table.now c.args.force.version c.args.job c.args.row.last c.args.row.cursor c.args.now) = simp to_z-of_z at c.date_at.ensures.found in
    IfSome-map (IsJobOpen c.args.table.now c.args.force.version c.args.job c.args.row.last c.args.row.cursor c.args.now)
    (λ at. MayStart c.args.table.now c.args.force c.args.job c.args.row at c.args.now) c.date_at.result found (λ at opens. inr opens)

pub returns-then-is_anacron-clause-none : goal.returns-then-is_anacron-clause-none
returns-then-is_anacron-clause-none c =
    let now_fits : FitsSigned w64 c.args.now = c.ranges.now in
    let none : IfNone c.date_at.result ((date : ℤ) → IsJobOpen c.args.table.now c.args.force.version c.args.job c.args.row.last c.args.row.cursor c.args.now date → ⊥) =
    simp to_z-of_z at c.date_at.ensures.none in
    IfNone-map ((date : ℤ) → IsJobOpen c.args.table.now c.args.force.version c.args.job c.args.row.last c.args.row.cursor c.args.now date → ⊥)
    ((at : ℤ) → MayStart c.args.table.now c.args.force c.args.job c.args.row at c.args.now → ⊥) c.date_at.result none
    (λ not at may.
    not at (may_start_by c.args.table.now c.args.force c.args.job c.args.row at c.args.now c.is_anacron.ensures.sound (sym c.is_anacron.ensures.by_name ∙ c.if-is_anacron.true) may))

pub returns-else-is_anacron-clause-found : goal.returns-else-is_anacron-clause-found
returns-else-is_anacron-clause-found c =
    let first_fits : FitsSigned w64 c.args.first = c.ranges.first in
    simp to_z-of_z
    (first_may_start c.args.table.now c.args.force c.args.job c.args.row c.args.first c.args.now c.requires.first c.is_anacron.ensures.sound
    (sym c.is_anacron.ensures.by_name ∙ c.if-is_anacron.false) c.requires.come)
