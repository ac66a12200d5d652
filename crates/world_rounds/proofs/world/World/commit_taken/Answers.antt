use Rattle.std.proofs.Common.{◌≡◌, IfSome, Some, length, refl, subst}
use Rattle.std.specs.List.{slice_get}
use Rattle.std.proofs.lemmas.Option.{slice_get_read}
use Rattle.world_rounds.proofs.Worlds.{may_join, some_same, world_did}
use Rattle.world_rounds.proofs.world.World.commit_taken.Goals as goal

pub commit_step-requires : goal.commit_step-requires
commit_step-requires g c =
    let may = c.requires.may.1 in
    let there : slice_get c.args.self.now.members.items c.args.who ≡ Some c.index.result.now =
    slice_get_read c.args.self.now.members.items (length c.args.self.now.members.items) c.args.who c.index.result.now refl may.member c.index.ensures in
    record {
      may =
          may_join g.D.Disk.view c.args.table.now may.rows c.args.self.now may.situation may.ahead_by c.args.who c.args.taken c.requires.may.0
          c.index.result.now may.ahead may.mine there;
    }

pub returns-clause-did : goal.returns-clause-did
returns-clause-did g c =
    λ more rows situation ahead_by ahead mine.
    let may = c.requires.may.1 in
    let one : slice_get c.args.self.now.members.items c.args.who ≡ Some c.index.result.now =
    slice_get_read c.args.self.now.members.items (length c.args.self.now.members.items) c.args.who c.index.result.now refl may.member c.index.ensures in
    let there : slice_get c.args.self.now.members.items c.args.who ≡ Some c.index_mut.result.now =
    slice_get_read c.args.self.now.members.items (length c.args.self.now.members.items) c.args.who c.index_mut.result.now refl may.member c.index_mut.ensures.value in
    let same : c.index.result.now ≡ c.index_mut.result.now = some_same (slice_get c.args.self.now.members.items c.args.who) c.index.result.now c.index_mut.result.now one there in
    world_did g.D.Disk.view c.args.table.now rows c.args.self.now _ situation ahead_by c.args.who c.args.taken more c.index_mut.result.now c.in_ok-call.call
    ahead mine there
    c.in_ok-call.ensures.joined (subst (λ member. IfSome c.in_ok-call.call (λ call. call.fate ≡ member.mail.fate)) same c.in_ok-call.ensures.fate)
    (rw (c.note_step.ensures.noted, c.calls_to_save-calls.ensures.calls) refl) refl c.reading_with-self.ensures.latest
