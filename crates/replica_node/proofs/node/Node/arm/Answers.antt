use Rattle.replica_store.specs.Store.{area_of}
use Rattle.replica_node.proofs.KeptLemmas.{tells_armed}
use Rattle.replica_node.proofs.ReliableLemmas.{tells_armed_unfailing}
use Rattle.replica_node.proofs.node.Node.arm.Goals as goal

pub returns-clause-clean : goal.returns-clause-clean
returns-clause-clean g c clean =
    (tells_armed c.args.pass c.args.image (area_of c.args.self.now.store) (g.D.Disk.view.told c.args.self.now.disk) (g.D.Disk.view.told c.arm.new.self) clean c.arm.ensures.told).0

pub returns-clause-armed : goal.returns-clause-armed
returns-clause-armed g c clean =
    (tells_armed c.args.pass c.args.image (area_of c.args.self.now.store) (g.D.Disk.view.told c.args.self.now.disk) (g.D.Disk.view.told c.arm.new.self) clean c.arm.ensures.told).1

pub returns-clause-unfailing : goal.returns-clause-unfailing
returns-clause-unfailing g c sure = tells_armed_unfailing c.args.pass c.args.image (g.D.Disk.view.told c.args.self.now.disk) (g.D.Disk.view.told c.arm.new.self) sure c.arm.ensures.told
