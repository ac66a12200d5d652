use Rattle.std.proofs.Common.{◌≡◌, ◌↔◌, IsTrue, Some, length, refl, subst}
use Rattle.std.specs.List.{slice_get}
use Rattle.std.proofs.lemmas.Option.{slice_get_read}
use Rattle.replica_core.specs.Replica.{ReplicaState}
use Rattle.step_spec.specs.May.{IsFollower}
use Rattle.world_rounds.proofs.QuietLemmas.{tells_state}
use Rattle.world_rounds.proofs.world.World.follows.Goals as goal

pub returns : goal.returns
returns g c =
    let there : slice_get c.args.self.now.members.items c.args.who ≡ Some c.index.result.now =
    slice_get_read c.args.self.now.members.items (length c.args.self.now.members.items) c.args.who c.index.result.now refl c.requires.member c.index.ensures in
    tells_state g.D.Disk.view c.args.table.now c.args.self.now c.args.who c.index.result.now (λ state. IsFollower state.term)
    c.is_follower.result c.requires.run there
    (subst (λ (r : ReplicaState). IsTrue c.is_follower.result ↔ IsFollower r.state.term) c.replica.ensures
    (subst (λ term. IsTrue c.is_follower.result ↔ IsFollower term) c.term.ensures c.is_follower.ensures))
