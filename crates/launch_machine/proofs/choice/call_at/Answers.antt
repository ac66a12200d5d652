use Rattle.std.proofs.Common.{FitsSigned, w64, arith, subst, ◌↔◌, IsTrue}
use Rattle.std.proofs.lemmas.Int.{ints, to_z-of_z}
use Rattle.jiff.specs.Types.{TimeZone}
use Rattle.due_set.specs.Calls.{HasCome}
use Rattle.due_set.specs.Table.{Job, IsJobIn, IsJobRead}
use Rattle.paxos_base.specs.Rows.{fresh_row}
use Rattle.launch_machine.specs.Clerk.{in_force}
use Rattle.launch_machine.specs.declared.force.InForce.{InForce}
use Rattle.launch_machine.proofs.MachineLemmas.{no_call, one_call}
use Rattle.launch_machine.proofs.choice.call_at.Goals as goal

pub returns-else-may_call-clause-none : goal.returns-else-may_call-clause-none
returns-else-may_call-clause-none c =
    let at_fits : FitsSigned w64 c.in_ok-at.at = omega (arith, ints) in
    let tells : (j : Job) (zone : TimeZone) → IsJobIn c.args.table.now (in_force c.args.table.now c.args.rows.now).version c.args.job j zone → (IsTrue c.may_call.result ↔ HasCome j.kind zone c.in_ok-at.at c.args.now.0) =
    subst (λ (force : InForce). (j : Job) (zone : TimeZone) → IsJobIn c.args.table.now force.version c.args.job j zone → (IsTrue c.may_call.result ↔ HasCome j.kind zone c.in_ok-at.at c.args.now.0))
    c.in_force-version.ensures.force (simp to_z-of_z at c.may_call.ensures.come) in
    no_call c.args.table.now c.args.rows.now c.args.job c.in_ok-at.at c.args.now.0 (fresh_row 0) c.may_call.result (omega (arith, c.requires.stands.numbered.count)) c.in_ok-at.was tells c.if-may_call.false

pub returns-then-may_call-clause-found : goal.returns-then-may_call-clause-found
returns-then-may_call-clause-found c =
    let at_fits : FitsSigned w64 c.in_ok-at.at = omega (arith, ints) in
    let tells : (j : Job) (zone : TimeZone) → IsJobIn c.args.table.now (in_force c.args.table.now c.args.rows.now).version c.args.job j zone → (IsTrue c.may_call.result ↔ HasCome j.kind zone c.in_ok-at.at c.args.now.0) =
    subst (λ (force : InForce). (j : Job) (zone : TimeZone) → IsJobIn c.args.table.now force.version c.args.job j zone → (IsTrue c.may_call.result ↔ HasCome j.kind zone c.in_ok-at.at c.args.now.0))
    c.in_force-version.ensures.force (simp to_z-of_z at c.may_call.ensures.come) in
    simp to_z-of_z
    (one_call c.args.table.now c.args.rows.now c.args.job c.in_ok-at.at c.in_ok-row.field-0 c.args.now.0 (fresh_row 0) c.may_call.result c.requires.job (omega (arith, c.requires.stands.numbered.count))
    c.in_ok-row.was c.in_ok-at.was
    (subst (λ (force : InForce). IsJobRead c.args.table.now force.version c.args.job) c.in_force-version.ensures.force c.may_call.ensures.read) tells c.if-may_call.true)
