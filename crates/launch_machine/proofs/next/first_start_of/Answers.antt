use Rattle.std.proofs.Common.{Option, ℤ, ◌∙◌, subst, sym}
use Rattle.std.specs.Prelude.{IfNone, IfSome}
use Rattle.due_set.specs.Table.{IsAfter, IsJobDue, IsNextDue}
use Rattle.launch_machine.proofs.MachineLemmas.{first_by_due, first_by_opening}
use Rattle.launch_machine.proofs.next.first_start_of.Goals as goal

pub returns-then-is_anacron : goal.returns-then-is_anacron
returns-then-is_anacron c =
    first_by_opening c.args.table.now c.args.force c.args.job c.args.row c.first_opening.result c.is_anacron.ensures.sound
    (sym c.is_anacron.ensures.by_name ∙ c.if-is_anacron.true) c.first_opening.ensures.found c.first_opening.ensures.none

pub returns-else-is_anacron : goal.returns-else-is_anacron
returns-else-is_anacron c =
    first_by_due c.args.table.now c.args.force c.args.job c.args.row c.next_due.result c.is_anacron.ensures.sound
    (sym c.is_anacron.ensures.by_name ∙ c.if-is_anacron.false)
    (subst (λ (after : Option ℤ). IfSome c.next_due.result (IsNextDue c.args.table.now c.args.force.version c.args.job after)) c.later_of.ensures c.next_due.ensures.found)
    (subst (λ (after : Option ℤ). IfNone c.next_due.result ((t : ℤ) → IsJobDue c.args.table.now c.args.force.version c.args.job t → IsAfter after t → ⊥)) c.later_of.ensures c.next_due.ensures.none)
