use Rattle.std.proofs.Common.{◌∷◌, [], OnOk, sym, subst}
use Rattle.history.specs.declared.turn.Cause.TheVariants.{Campaign}
use Rattle.script_semantics.specs.Parts.{Plays}
use Rattle.script_semantics.specs.Round.{IsRound}
use Rattle.script_semantics.specs.Situation.{Do}
use Rattle.world_rounds.specs.Quiet.{AnswersFor}
use Rattle.step_spec.specs.May.{IsFollower}
use Rattle.world_rounds.specs.World.{GoesOnBy, IsWorld}
use Rattle.world_rounds.specs.declared.world.World.{World}
use Rattle.world_rounds.proofs.DrainLemmas.{led_round, plain_round, world_gone}
use Rattle.world_rounds.proofs.world.World.lead_round.Goals as goal
use Rattle.world_rounds.proofs.world.World.lead_round.Goals.{then-follows+in_ok-lead, else-follows}
use Rattle.replica_core.proofs.SteadyLemmas.{on_ok_so as on_ok}

pub round_once-requires-clause-world : goal.round_once-requires-clause-world
round_once-requires-clause-world g c = elim c.if-follows.branch [
  | then-follows+in_ok-lead w ↦ subst (λ (now : World g.row.D.Denot). IsWorld g.D.Disk.view c.args.table.now now) (sym w.self-is)
      (world_gone g.D.Disk.view c.args.table.now (Plays c.args.self.now.book.members (λ here. Do c.args.who Campaign ∷ [])) c.args.self.now w.lead.new.self c.requires.world w.in_ok-lead.ensures.goes)
  | else-follows w ↦ subst (λ (now : World g.row.D.Denot). IsWorld g.D.Disk.view c.args.table.now now) (sym w.self-is) c.requires.world
]

pub returns-clause-goes : goal.returns-clause-goes
returns-clause-goes g c = elim c.if-follows.branch [
  | then-follows+in_ok-lead w ↦
      on_ok c.round_once.result _ _
      (led_round g.D.Disk.view c.args.table.now c.args.who c.args.at.0 c.args.self.now w.lead.new.self c.round_once.new.self
      (subst (λ answer. AnswersFor g.D.Disk.view c.args.table.now (λ situation. IsFollower (situation.standing.replicas c.args.who).term) c.args.self.now answer) w.if-follows.true c.follows.ensures)
      w.in_ok-lead.ensures.goes w.in_ok-lead.ensures.members)
      (subst (λ (now : World g.row.D.Denot). OnOk c.round_once.result (GoesOnBy g.D.Disk.view c.args.table.now (IsRound now.book.members c.args.table.now.window c.args.at.0) now c.round_once.new.self)) w.self-is c.round_once.ensures.goes)
  | else-follows w ↦
      on_ok c.round_once.result _ _
      (plain_round g.D.Disk.view c.args.table.now c.args.who c.args.at.0 c.args.self.now c.round_once.new.self
      (subst (λ answer. AnswersFor g.D.Disk.view c.args.table.now (λ situation. IsFollower (situation.standing.replicas c.args.who).term) c.args.self.now answer) w.if-follows.false c.follows.ensures))
      (subst (λ (now : World g.row.D.Denot). OnOk c.round_once.result (GoesOnBy g.D.Disk.view c.args.table.now (IsRound now.book.members c.args.table.now.window c.args.at.0) now c.round_once.new.self)) w.self-is c.round_once.ensures.goes)
]
