use Rattle.std.proofs.Common.{arith}
use Rattle.replica_core.proofs.SnapLemmas.{snap-old, snap-taken}
use Rattle.replica_core.proofs.SteadyLemmas.{on_ok_so}
use Rattle.replica_core.proofs.parts.Core.on_snap.Goals as goal

pub returns-then-slot-next_slot-clause-does : goal.returns-then-slot-next_slot-clause-does
returns-then-slot-next_slot-clause-does c = snap-old c.args.self.now c.args.draft.now c.args.slot _ (rw (← c.next_slot.ensures.value) c.if-slot-next_slot.true)

pub returns-clause-does : goal.returns-clause-does
returns-clause-does c =
    let behind = rw c.next_slot.ensures.value at c.if-slot-next_slot.false in
    on_ok_so c.rebase.result _ _
    (λ takes. snap-taken c.args.self.now c.args.draft.now c.rebase.new.self c.args.slot _ _ c.requires.change (omega (arith, behind))
    (rw (c.in_ok-rows.ensures, c.copy.ensures) at takes))
    c.rebase.ensures.takes
