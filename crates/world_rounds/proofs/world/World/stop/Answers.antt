use Rattle.std.proofs.Common.{◌≡◌, Some, false, length, refl, sym, ap, ◌∙◌}
use Rattle.std.specs.List.{slice_get}
use Rattle.std.proofs.lemmas.Option.{slice_get_read}
use Rattle.script_semantics.specs.Commands.{set_by, tasks_for}
use Rattle.script_text.specs.declared.command.Command.TheVariants as command
use Rattle.world_rounds.proofs.Halts.{may_stop, stop_goes}
use Rattle.world_rounds.proofs.Setting.{sets_go}
use Rattle.world_rounds.proofs.Worlds.{some_same}
use Rattle.world_rounds.proofs.world.World.stop.Goals as goal

pub returns-then-not-index-clause-goes : goal.returns-then-not-index-clause-goes
returns-then-not-index-clause-goes g c =
    let one : slice_get c.args.self.now.members.items c.args.who ≡ Some c.index.result.now =
    slice_get_read c.args.self.now.members.items (length c.args.self.now.members.items) c.args.who c.index.result.now refl c.requires.member c.index.ensures in
    sets_go g.D.Disk.view c.args.table.now c.args.self.now.book.members c.args.self.now c.args.self.now (tasks_for (command.Stop c.args.who)) (set_by (command.Stop c.args.who))
    (λ rows situation is.
    let stands : situation.standing.runs c.args.who ≡ false = sym (is.ahead.each c.args.who c.index.result.now one).mail.runs ∙ c.if-not-index.true in rw stands refl)
    (λ table rows situation is. is)

pub commit_alone-requires : goal.commit_alone-requires
commit_alone-requires g c =
    let one : slice_get c.args.self.now.members.items c.args.who ≡ Some c.index.result.now =
    slice_get_read c.args.self.now.members.items (length c.args.self.now.members.items) c.args.who c.index.result.now refl c.requires.member c.index.ensures in
    record { alone = may_stop g.D.Disk.view c.args.table.now c.args.self.now c.args.who c.index.result.now c.requires.world one c.if-not-index.false }

pub returns-clause-goes : goal.returns-clause-goes
returns-clause-goes g c =
    let one : slice_get c.args.self.now.members.items c.args.who ≡ Some c.index.result.now =
    slice_get_read c.args.self.now.members.items (length c.args.self.now.members.items) c.args.who c.index.result.now refl c.requires.member c.index.ensures in
    let there : slice_get c.args.self.now.members.items c.args.who ≡ Some c.index_mut.result.now =
    slice_get_read c.args.self.now.members.items (length c.args.self.now.members.items) c.args.who c.index_mut.result.now refl c.requires.member c.index_mut.ensures.value in
    let same : c.index.result.now ≡ c.index_mut.result.now = some_same (slice_get c.args.self.now.members.items c.args.who) c.index.result.now c.index_mut.result.now one there in
    stop_goes g.D.Disk.view c.args.table.now c.args.self.now _ c.args.who c.index_mut.result.now _ there (ap (λ member. member.mail.runs) (sym same) ∙ c.if-not-index.false)
    c.in_ok-commit_alone.ensures.joins refl refl refl c.note_stop.ensures.stopped refl refl

pub returns-clause-members : goal.returns-clause-members
returns-clause-members g c =
    let one : slice_get c.args.self.now.members.items c.args.who ≡ Some c.index.result.now =
    slice_get_read c.args.self.now.members.items (length c.args.self.now.members.items) c.args.who c.index.result.now refl c.requires.member c.index.ensures in
    let may = may_stop g.D.Disk.view c.args.table.now c.args.self.now c.args.who c.index.result.now c.requires.world one c.if-not-index.false in
    (c.in_ok-commit_alone.ensures.joins may.0 may.1 may.2).members
