use Rattle.std.proofs.Common.{◌≡◌, ◌+◌, Some, length, refl, sym, subst}
use Rattle.std.specs.List.{slice_get}
use Rattle.std.proofs.lemmas.Option.{slice_get_read}
use Rattle.replica_core.specs.Replica.{ReplicaState}
use Rattle.replica_core.specs.Step.{IsOfTable}
use Rattle.world_rounds.specs.Walking.{AsksNothingIn}
use Rattle.world_rounds.proofs.QuietLemmas.{node_table}
use Rattle.world_rounds.proofs.WalkLemmas.{rests_of}
use Rattle.world_rounds.proofs.world.World.next_to_look_at.Goals as goal

pub next_to_look_at-requires-clause-of_table : goal.next_to_look_at-requires-clause-of_table
next_to_look_at-requires-clause-of_table g c =
    let there : slice_get c.args.self.now.members.items c.args.who ≡ Some c.index.result.now =
    slice_get_read c.args.self.now.members.items (length c.args.self.now.members.items) c.args.who c.index.result.now refl c.requires.member c.index.ensures in
    subst (IsOfTable c.args.table.now) (sym c.replica.ensures)
    (node_table g.D.Disk.view c.args.table.now c.requires.world.rows c.args.self.now c.requires.world.situation c.args.who c.index.result.now c.requires.world.is there
    (c.requires.run c.args.who c.index.result.now there))

pub returns-clause-none : goal.returns-clause-none
returns-clause-none g c =
    let there : slice_get c.args.self.now.members.items c.args.who ≡ Some c.index.result.now =
    slice_get_read c.args.self.now.members.items (length c.args.self.now.members.items) c.args.who c.index.result.now refl c.requires.member c.index.ensures in
    rests_of g.D.Disk.view c.args.table.now c.args.self.now c.args.who (c.args.minute + 1) c.next_to_look_at.result c.index.result.now c.requires.run there
    (subst (λ (r : ReplicaState). AsksNothingIn c.args.table.now (c.args.minute + 1) c.next_to_look_at.result r.state) c.replica.ensures c.next_to_look_at.ensures.none)
