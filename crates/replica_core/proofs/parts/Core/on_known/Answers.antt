use Rattle.std.proofs.Common.{◌∙◌, sym}
use Rattle.replica_core.proofs.LineLemmas.{known-next, known-later, known-asked}
use Rattle.replica_draft.proofs.DraftLemmas.{on_ok}
use Rattle.replica_core.proofs.parts.Core.on_known.Goals as goal

pub returns-then-slot-next_slot-clause-does : goal.returns-then-slot-next_slot-clause-does
returns-then-slot-next_slot-clause-does c =
    on_ok c.learn.result _ _ _
    (λ learns same. known-next c.args.self.now c.args.draft.now c.learn.new.self c.args.from c.args.slot c.args.entry c.args.asked (c.if-slot-next_slot.true ∙ c.next_slot.ensures.value) learns)
    c.learn.ensures.learns c.learn.ensures.learns

pub returns-then-asked-clause-does : goal.returns-then-asked-clause-does
returns-then-asked-clause-does c =
    rw c.if-asked.true (known-asked c.args.self.now c.args.draft.now c.args.from c.args.slot c.args.entry (λ same. c.if-slot-next_slot.false (same ∙ sym c.next_slot.ensures.value)))

pub returns-else-asked-clause-does : goal.returns-else-asked-clause-does
returns-else-asked-clause-does c =
    on_ok c.ask_below.result _ _ _
    (λ does sends. rw c.if-asked.false (known-later c.args.self.now c.args.draft.now c.ask_below.new.draft c.args.from c.args.slot c.args.entry (λ same. c.if-slot-next_slot.false (same ∙ sym c.next_slot.ensures.value)) does))
    c.ask_below.ensures.does c.ask_below.ensures.sends
