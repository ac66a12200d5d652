use Rattle.script_semantics.specs.Parts.{Plays}
use Rattle.script_semantics.specs.Situation.{Do}
use Rattle.history.specs.declared.turn.Cause.TheVariants.{Campaign}
use Rattle.std.proofs.Common.{◌∷◌, []}
use Rattle.world_rounds.proofs.DrainLemmas.{campaigned_as_set, lead_goes, run_on}
use Rattle.world_rounds.proofs.world.World.lead.Goals as goal
use Rattle.replica_core.proofs.SteadyLemmas.{on_ok_so as on_ok}
use Rattle.replica_draft.proofs.DraftLemmas.{on_ok as on_both}

pub returns-clause-goes : goal.returns-clause-goes
returns-clause-goes g c = on_ok c.stand.result _ _ (lead_goes g.D.Disk.view c.args.table.now c.args.who c.args.self.now c.stand.new.self c.requires.run c.requires.member) c.stand.ensures.goes

pub returns-clause-run : goal.returns-clause-run
returns-clause-run g c =
    on_both c.stand.result _ _ _
    (λ goes members.
    run_on g.D.Disk.view c.args.table.now (Plays c.args.self.now.book.members (λ here. Do c.args.who Campaign ∷ [])) c.args.self.now c.stand.new.self
    (λ situation rows after plays. campaigned_as_set c.args.self.now.book.members c.args.who situation after rows plays) c.requires.world c.requires.run members
    (lead_goes g.D.Disk.view c.args.table.now c.args.who c.args.self.now c.stand.new.self c.requires.run c.requires.member goes))
    c.stand.ensures.goes c.stand.ensures.members
