use Rattle.disk_model.specs.MemDisk.{view_of}
use Rattle.replica_node.specs.Node.{IsNodeAtRest}
use Rattle.node_bench.proofs.RunLemmas.{rests_on}
use Rattle.node_bench.proofs.seat.OnDiskSteps.step.Goals as goal

pub invariant_of-self : goal.invariant_of-self
invariant_of-self c =
    rests_on (IsNodeAtRest view_of c.self.inside.table.now) c.handle.new.self c.handle.result c.handle.ensures.at_rest c.handle.ensures.refused c.handle.ensures.ended c.handle.ensures.undamaged
