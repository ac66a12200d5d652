use Rattle.replica_core.proofs.LineLemmas.{asks, asks_not}
use Rattle.replica_draft.proofs.DraftLemmas.{on_ok}
use Rattle.replica_core.proofs.parts.Core.ask_below.Goals as goal

pub returns-then-prefix-slot-clause-does : goal.returns-then-prefix-slot-clause-does
returns-then-prefix-slot-clause-does c =
    on_ok c.send_ask.result _ _ _
    (λ goes sends. asks c.args.self.now c.args.draft.now c.send_ask.new.self c.args.from c.args.slot
    (rw (← c.next_slot-prefix.ensures.value) c.if-prefix-slot.true) (rw (← c.next_slot-prefix.ensures.value) goes))
    c.send_ask.ensures.goes c.send_ask.ensures.sends

pub returns-else-prefix-slot-clause-does : goal.returns-else-prefix-slot-clause-does
returns-else-prefix-slot-clause-does c =
    asks_not c.args.self.now c.args.draft.now c.args.from c.args.slot (rw (← c.next_slot-prefix.ensures.value) c.if-prefix-slot.false)
