use Rattle.std.proofs.Common.{false, refl, sym, ◌∙◌}
use Rattle.script_semantics.specs.Commands.{set_by, tasks_for}
use Rattle.script_text.specs.declared.command.Command.TheVariants as command
use Rattle.world_rounds.proofs.Arrivals.{arrival_goes, asks_arrival, may_come}
use Rattle.world_rounds.proofs.Setting.{sets_go}
use Rattle.world_rounds.proofs.world.World.arrive.Goals as goal
use Rattle.replica_core.proofs.SteadyLemmas.{on_ok_so as on_ok}

pub returns-then-not-may_arrive-clause-goes : goal.returns-then-not-may_arrive-clause-goes
returns-then-not-may_arrive-clause-goes g c =
    sets_go g.D.Disk.view c.args.table.now c.args.self.now.book.members c.args.self.now c.args.self.now (tasks_for (command.Arrive c.args.late)) (set_by (command.Arrive c.args.late))
    (λ rows situation is. asks_arrival g.D.Disk.view c.args.table.now rows c.args.self.now situation c.args.late false is (sym c.may_arrive.ensures ∙ c.if-not-may_arrive.true))
    (λ table rows situation is. is)

pub commit_alone-requires : goal.commit_alone-requires
commit_alone-requires g c =
    record { alone = may_come g.D.Disk.view c.args.table.now c.args.self.now c.args.late c.requires.world (sym c.may_arrive.ensures ∙ c.if-not-may_arrive.false) }

pub returns-clause-goes : goal.returns-clause-goes
returns-clause-goes g c =
    on_ok c.commit_alone.result _ _
    (arrival_goes g.D.Disk.view c.args.table.now c.args.self.now _ c.args.late (sym c.may_arrive.ensures ∙ c.if-not-may_arrive.false) refl refl refl)
    c.commit_alone.ensures.joins

pub returns-clause-members : goal.returns-clause-members
returns-clause-members g c =
    let may = may_come g.D.Disk.view c.args.table.now c.args.self.now c.args.late c.requires.world (sym c.may_arrive.ensures ∙ c.if-not-may_arrive.false) in
    on_ok c.commit_alone.result _ _ (λ joins. (joins may.0 may.1 may.2).members) c.commit_alone.ensures.joins
