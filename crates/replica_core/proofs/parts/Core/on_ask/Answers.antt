use Rattle.replica_draft.proofs.DraftLemmas.{on_ok}
use Rattle.replica_core.proofs.SnapLemmas.{ask-below_base, ask-kept}
use Rattle.replica_core.proofs.parts.Core.on_ask.Goals as goal

pub returns-then-slot-base-clause-does : goal.returns-then-slot-base-clause-does
returns-then-slot-base-clause-does c =
    on_ok c.send_snapshot.result _ _ _
    (λ does sends. ask-below_base c.args.self.now c.args.draft.now c.send_snapshot.new.draft c.args.from c.args.slot (rw (← c.base.ensures) c.if-slot-base.true) does)
    c.send_snapshot.ensures.does c.send_snapshot.ensures.sends

pub returns-else-slot-base-clause-does : goal.returns-else-slot-base-clause-does
returns-else-slot-base-clause-does c =
    on_ok c.tell_from.result _ _ _
    (λ says sends. ask-kept c.args.self.now c.args.draft.now c.tell_from.new.draft c.args.from c.args.slot (rw (← c.base.ensures) c.if-slot-base.false) sends says)
    c.tell_from.ensures.says c.tell_from.ensures.sends
