use Rattle.std.proofs.Common.{ap, ◌∙◌}
use Rattle.world_law.specs.Book.{BookState}
use Rattle.world_rounds.proofs.ClearLemmas.{all_started, started_over}
use Rattle.world_rounds.proofs.world.World.start_over.Goals as goal

pub returns-clause-goes : goal.returns-clause-goes
returns-clause-goes g c =
    started_over g.D.Disk.view c.args.table.now c.args.self.now.book.members c.args.self.now c.restart_all.new.self c.end_faults.new.self
    c.in_ok-restart_all.ensures.goes c.end_faults.ensures.sets

pub returns-clause-run : goal.returns-clause-run
returns-clause-run g c =
    all_started g.D.Disk.view c.args.table.now c.args.self.now c.restart_all.new.self c.end_faults.new.self c.requires.world
    c.in_ok-restart_all.ensures.goes c.in_ok-restart_all.ensures.members c.end_faults.ensures.sets c.end_faults.ensures.book

pub returns-clause-members : goal.returns-clause-members
returns-clause-members g c = ap (λ (book : BookState). book.members) c.end_faults.ensures.book ∙ c.in_ok-restart_all.ensures.members
