use Rattle.std.proofs.Common.{sym, ◌∙◌}
use Rattle.replica_draft.proofs.DraftLemmas.{on_ok}
use Rattle.replica_core.proofs.SnapLemmas.{snapshot-again, snapshot-sent}
use Rattle.replica_core.proofs.parts.Core.send_snapshot.Goals as goal

pub returns-then-has_copied-clause-does : goal.returns-then-has_copied-clause-does
returns-then-has_copied-clause-does c = snapshot-again c.args.self.now c.args.draft.now c.args.from (sym c.has_copied.ensures ∙ c.if-has_copied.true)

pub returns-clause-does : goal.returns-clause-does
returns-clause-does c =
    on_ok c.tell_from.result _ _ _
    (λ says sends. snapshot-sent c.args.self.now c.args.draft.now c.send_table.new.draft c.tell_from.new.draft c.args.from (sym c.has_copied.ensures ∙ c.if-has_copied.false)
    c.in_ok-send_table.ensures.sends sends c.in_ok-send_table.ensures.says (rw c.base.ensures at says))
    c.tell_from.ensures.says c.tell_from.ensures.sends
