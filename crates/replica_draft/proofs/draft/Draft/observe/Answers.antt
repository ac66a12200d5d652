use Rattle.std.proofs.Common.{ap, ◌∙◌, max}
use Rattle.replica_draft.proofs.DraftLemmas.{drafted-observe}
use Rattle.replica_draft.proofs.draft.Draft.observe.Goals as goal

pub returns-clause-goes : goal.returns-clause-goes
returns-clause-goes c kept =
    drafted-observe kept c.args.self.now c.on_ballot.new.self c.max-self.result c.args.ballot
    (c.max-self.ensures ∙ ap (max c.args.self.now.seen) c.number.ensures.value) c.on_ballot.ensures.term
