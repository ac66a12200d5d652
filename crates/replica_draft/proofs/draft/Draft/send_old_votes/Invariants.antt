use Rattle.std.proofs.Common.{◌≡◌, ◌++◌, map, take}
use Rattle.step_spec.specs.Heard.{old_vote}
use Rattle.step_spec.specs.Message.{Only}
use Rattle.replica_draft.specs.Draft.{SendsOnly, said_in}
use Rattle.replica_draft.proofs.draft.Draft.send_old_votes.Given as goal

abbrev pub invariant-loop-vote : goal.invariant-loop-vote
invariant-loop-vote l =
    (map said_in l.self.sends.items ≡ map said_in l.fn.self.sends.items ++ map (λ vote. (Only l.to, old_vote l.ballot vote)) (take l.vote-index l.votes))
    × SendsOnly l.fn.self l.self
