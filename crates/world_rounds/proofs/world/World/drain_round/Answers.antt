use Rattle.script_semantics.specs.Settling.{IsDrainRound}
use Rattle.world_rounds.proofs.DrainLemmas.{drained_as_set, run_on, world_gone}
use Rattle.world_rounds.proofs.RoundsOfAll.{legal_world, on_any, on_err}
use Rattle.world_rounds.proofs.world.World.drain_round.Goals as goal

pub returns-clause-goes : goal.returns-clause-goes
returns-clause-goes g c = on_any c.check_bounds.result _ c.in_ok-lead_round.ensures.goes

pub returns-clause-run : goal.returns-clause-run
returns-clause-run g c =
    on_any c.check_bounds.result _
    (run_on g.D.Disk.view c.args.table.now (IsDrainRound c.args.self.now.book.members c.args.table.now c.args.who c.args.at.0) c.args.self.now c.lead_round.new.self
    (λ situation rows after part. drained_as_set c.args.self.now.book.members c.args.table.now c.args.who c.args.at.0 situation after rows part) c.requires.world c.requires.run
    c.in_ok-lead_round.ensures.members c.in_ok-lead_round.ensures.goes)

pub returns-clause-members : goal.returns-clause-members
returns-clause-members g c = on_any c.check_bounds.result _ c.in_ok-lead_round.ensures.members

pub returns-clause-legal : goal.returns-clause-legal
returns-clause-legal g c =
    on_err c.check_bounds.result _
    (legal_world g.D.Disk.view c.args.table.now c.lead_round.new.self
    (world_gone g.D.Disk.view c.args.table.now (IsDrainRound c.args.self.now.book.members c.args.table.now c.args.who c.args.at.0) c.args.self.now c.lead_round.new.self c.requires.world c.in_ok-lead_round.ensures.goes))
