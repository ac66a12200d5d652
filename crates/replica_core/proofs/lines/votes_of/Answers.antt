use Rattle.std.proofs.Common.{◌≡◌, ◌++◌, Global, Vec, sym, ap, ◌∙◌}
use Rattle.std.proofs.lemmas.List.{append-nil}
use Rattle.step_spec.specs.Heard.{vote_in}
use Rattle.replica_core.proofs.SnapLemmas.{counted-next, no-vote}
use Rattle.replica_core.proofs.lines.votes_of.Goals as goal
use Rattle.replica_core.proofs.lines.votes_of.Goals.{in-OldVote+in_ok-push, in_default-packet}

pub loop-preserved : goal.loop-preserved
loop-preserved c =
    let found : c.match-packet.votes.items ≡ c.loop.votes.items ++ vote_in c.in-Some.packet = elim c.match-packet.branch [
      | in-OldVote+in_ok-push w ↦ rw w.in-OldVote.is (ap (λ (votes : Vec _ Global). votes.items) w.votes-is ∙ w.in_ok-push.ensures.items)
      | in_default-packet w ↦ rw (w.votes-is, no-vote c.in-Some.packet w.in_default-packet.not-OldVote) (sym (append-nil c.loop.votes.items))
    ] in
    rw found (counted-next vote_in c.loop.votes.items c.in-Some.packet c.next.new.self c.args.count c.loop.counter _ c.loop-test.true (rw c.in-Some.ensures.steps at c.loop.invariant))
