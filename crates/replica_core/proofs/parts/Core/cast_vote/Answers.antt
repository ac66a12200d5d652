use Rattle.replica_core.proofs.LineLemmas.{casts}
use Rattle.replica_draft.proofs.DraftLemmas.{on_ok}
use Rattle.replica_core.proofs.parts.Core.cast_vote.Goals as goal

pub returns-clause-does : goal.returns-clause-does
returns-clause-does c =
    on_ok c.tell_vote.result _ _ _
    (λ told sends. casts c.args.self.now c.args.draft.now c.cast.new.self c.tell_vote.new.draft c.args.from c.args.vote.now c.cast.ensures.goes told)
    c.tell_vote.ensures.does c.tell_vote.ensures.sends
