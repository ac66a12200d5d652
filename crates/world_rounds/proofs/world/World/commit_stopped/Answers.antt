use Rattle.std.proofs.Common.{◌≡◌, Some, length, refl, ap, ◌∙◌, subst}
use Rattle.std.specs.List.{slice_get}
use Rattle.std.proofs.lemmas.Option.{slice_get_read, slice_get_within}
use Rattle.replica_node.specs.Node.{replica_of}
use Rattle.world_steps.specs.Turns.{IsHalted}
use Rattle.world_rounds.proofs.OneByOne.{alone_stopped, stops_goes, turn_stopped}
use Rattle.world_rounds.proofs.StepsAt.{get_set_here}
use Rattle.world_rounds.proofs.Worlds.{some_same}
use Rattle.world_rounds.proofs.world.World.commit_stopped.Goals as goal

pub commit_alone-requires : goal.commit_alone-requires
commit_alone-requires g c =
    let may = c.requires.may.3 in
    record {
      alone = (
        c.requires.may.0,
        (turn_stopped g.D.Disk.view c.args.table.now c.requires.may.0 may.before.book c.args.who c.args.cause c.requires.may.2 c.args.change (replica_of may.new.node).state.kept may.stopped).row,
        rw c.is_some.ensures (alone_stopped g.D.Disk.view c.args.table.now c.requires.may.0 c.args.self.now c.requires.may.1 c.args.who c.args.cause c.requires.may.2 c.args.change may),
      );
    }

pub returns-clause-stops : goal.returns-clause-stops
returns-clause-stops g c =
    λ rows situation arm may.
    let there : slice_get c.args.self.now.members.items c.args.who ≡ Some c.index_mut.result.now =
    slice_get_read c.args.self.now.members.items (length c.args.self.now.members.items) c.args.who c.index_mut.result.now refl c.requires.member c.index_mut.ensures.value in
    let put : slice_get c.args.self.now.members.items c.args.who ≡ Some may.new =
    ap (λ items. slice_get items c.args.who) may.members ∙ get_set_here may.before.members.items c.args.who may.new (slice_get_within may.before.members.items c.args.who may.old may.there) in
    let same : c.index_mut.result.now ≡ may.new = some_same (slice_get c.args.self.now.members.items c.args.who) c.index_mut.result.now may.new there put in
    let alone = alone_stopped g.D.Disk.view c.args.table.now rows c.args.self.now situation c.args.who c.args.cause arm c.args.change may in
    let joined = c.in_ok-commit_alone.ensures.joins rows (turn_stopped g.D.Disk.view c.args.table.now rows may.before.book c.args.who c.args.cause arm c.args.change (replica_of may.new.node).state.kept may.stopped).row
    (rw c.is_some.ensures alone) in
    stops_goes g.D.Disk.view c.args.table.now rows c.args.self.now _ situation c.args.who c.args.cause arm c.args.change _ may joined refl
    (ap (λ member. member.node) same) (ap (λ member. member.steps) same) (subst (λ member. IsHalted member.mail c.note_stop.new.mail) same c.note_stop.ensures.stopped) refl c.reading_with-self.ensures.latest

pub returns-clause-members : goal.returns-clause-members
returns-clause-members g c =
    let may = c.requires.may.3 in
    let alone = alone_stopped g.D.Disk.view c.args.table.now c.requires.may.0 c.args.self.now c.requires.may.1 c.args.who c.args.cause c.requires.may.2 c.args.change may in
    (c.in_ok-commit_alone.ensures.joins c.requires.may.0
    (turn_stopped g.D.Disk.view c.args.table.now c.requires.may.0 may.before.book c.args.who c.args.cause c.requires.may.2 c.args.change (replica_of may.new.node).state.kept may.stopped).row
    (rw c.is_some.ensures alone)).members
