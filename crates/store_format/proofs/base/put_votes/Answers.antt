use Rattle.std.proofs.Common.{[]}
use Rattle.paxos_base.specs.declared.entry.Vote.{Vote}
use Rattle.store_format.specs.declared.body.Record.TheVariants.{Voted}
use Rattle.store_format.proofs.WriteLemmas.{AddsRecords-more}
use Rattle.store_format.proofs.base.put_votes.Goals as goal

pub loop-vote-preserved : goal.loop-vote-preserved
loop-vote-preserved c =
    AddsRecords-more (λ (vote : Vote). Voted vote) [] c.args.votes.now c.loop-vote.vote-index c.vote-item.result c.args.bodies.now.items c.loop-vote.bodies.items c.put.new.bodies.items c.loop-vote-test.true c.vote-item.is c.loop-vote.invariant c.in_ok-put.ensures
