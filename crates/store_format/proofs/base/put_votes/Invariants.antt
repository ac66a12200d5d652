use Rattle.std.proofs.Common.{List, [], ◌++◌, map, take}
use Rattle.paxos_base.specs.declared.entry.Vote.{Vote}
use Rattle.store_format.specs.declared.body.Record.{Record}
use Rattle.store_format.specs.declared.body.Record.TheVariants.{Voted}
use Rattle.store_format.specs.Written.{AddsRecords}
use Rattle.store_format.proofs.base.put_votes.Given as goal

abbrev pub invariant-loop-vote : goal.invariant-loop-vote
invariant-loop-vote l =
    let none : List Record = [] in
    AddsRecords (none ++ map (λ (vote : Vote). Voted vote) (take l.vote-index l.votes)) l.fn.bodies.items l.bodies.items
