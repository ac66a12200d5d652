use Rattle.std.proofs.Common.{◌≡◌, ◌↔◌, IsTrue, Some, length, refl, sym, subst}
use Rattle.std.specs.List.{slice_get}
use Rattle.std.proofs.lemmas.Option.{slice_get_read}
use Rattle.replica_core.specs.Replica.{ReplicaState}
use Rattle.replica_core.specs.Step.{IsOfTable}
use Rattle.script_semantics.specs.Settling.{AsksNothing}
use Rattle.world_rounds.proofs.QuietLemmas.{node_table, tells_state}
use Rattle.world_rounds.proofs.world.World.asks_nothing.Goals as goal

pub asks_nothing-requires-clause-of_table : goal.asks_nothing-requires-clause-of_table
asks_nothing-requires-clause-of_table g c =
    let there : slice_get c.args.self.now.members.items c.args.who ≡ Some c.index.result.now =
    slice_get_read c.args.self.now.members.items (length c.args.self.now.members.items) c.args.who c.index.result.now refl c.requires.member c.index.ensures in
    subst (IsOfTable c.args.table.now) (sym c.replica.ensures)
    (node_table g.D.Disk.view c.args.table.now c.requires.world.rows c.args.self.now c.requires.world.situation c.args.who c.index.result.now c.requires.world.is there
    (c.requires.run c.args.who c.index.result.now there))

pub returns : goal.returns
returns g c =
    let there : slice_get c.args.self.now.members.items c.args.who ≡ Some c.index.result.now =
    slice_get_read c.args.self.now.members.items (length c.args.self.now.members.items) c.args.who c.index.result.now refl c.requires.member c.index.ensures in
    tells_state g.D.Disk.view c.args.table.now c.args.self.now c.args.who c.index.result.now (λ state. AsksNothing c.args.table.now c.args.at.0 state)
    c.asks_nothing.result c.requires.run there
    (subst (λ (r : ReplicaState). IsTrue c.asks_nothing.result ↔ AsksNothing c.args.table.now c.args.at.0 r.state) c.replica.ensures c.asks_nothing.ensures)
