use Rattle.replica_store.specs.Store.{area_of}
use Rattle.replica_node.proofs.KeptLemmas.{tells_disarmed}
use Rattle.replica_node.proofs.ReliableLemmas.{tells_disarmed_reliable}
use Rattle.replica_node.proofs.node.Node.disarm.Goals as goal

pub returns-clause-clean : goal.returns-clause-clean
returns-clause-clean g c clean = tells_disarmed (area_of c.args.self.now.store) (g.D.Disk.view.told c.args.self.now.disk) (g.D.Disk.view.told c.disarm.new.self) clean c.disarm.ensures.told

pub returns-clause-reliable : goal.returns-clause-reliable
returns-clause-reliable g c sure = tells_disarmed_reliable (g.D.Disk.view.told c.args.self.now.disk) (g.D.Disk.view.told c.disarm.new.self) sure c.disarm.ensures.told
