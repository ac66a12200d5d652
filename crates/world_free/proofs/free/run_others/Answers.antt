use Rattle.std.proofs.Common.{◌≡◌, ◌+◌, false, sym, ap, ◌∙◌, subst, arith}
use Rattle.std.proofs.lemmas.Grind.{common_steps}
use Rattle.script_semantics.specs.Situation.{Situation}
use Rattle.world_free.specs.Jobs.{IsJobAt}
use Rattle.world_free.specs.Plan.{plan_of}
use Rattle.world_free.specs.declared.job.FreeJob.{FreeJob}
use Rattle.world_free.proofs.free.run_others.Goals as goal

pub for_each_mut-requires-clause-accepts : goal.for_each_mut-requires-clause-accepts
for_each_mut-requires-clause-accepts g c κs within who job below is lives caller here name calls ranges n lives' among =
    let begun = c.requires.begun who job.now below in
    let plan = plan_of c.args.table.now c.args.book.now begun.0 c.args.setting.now in (
      omega (arith, below, c.requires.few),
      (
        c.requires.inside,
        (
          (
            begun.0,
            subst (λ (j : FreeJob g.row.D.Denot). IsJobAt g.D.Disk.view plan c.args.book.now (who + 1) 0 j)
                (sym is) begun.1,
          ),
          ap (λ (j : FreeJob g.row.D.Denot). j.short) is ∙ c.requires.memory who job.now below,
        ),
      ),
    )

pub returns-clause-runs : goal.returns-clause-runs
returns-clause-runs g c = λ who none within had situation begun.
    let at = (c.for_each_mut.ensures who none within).1 in
    let plan = plan_of c.args.table.now c.args.book.now situation c.args.setting.now in
    let runs : at.after_call.now.short ≡ false → (other : Situation)
    → IsJobAt g.D.Disk.view
    (plan_of c.args.table.now c.args.book.now other c.args.setting.now) c.args.book.now (who + 1) 0 at.argument.now
    → IsJobAt g.D.Disk.view
    (plan_of c.args.table.now c.args.book.now other c.args.setting.now) c.args.book.now (who + 1) c.args.setting.now.turns at.after_call.now =
    grind (arith, common_steps, at.call) in
    let short : at.after_call.now.short ≡ false = ap (λ (j : FreeJob g.row.D.Denot). j.short) at.left ∙ had in
    let old : IsJobAt g.D.Disk.view plan c.args.book.now (who + 1) 0 at.argument.now =
    subst (λ (j : FreeJob g.row.D.Denot). IsJobAt g.D.Disk.view plan c.args.book.now (who + 1) 0 j)
    (sym at.argument_is) begun in
    let turns = c.args.setting.now.turns in
    subst (λ (j : FreeJob g.row.D.Denot). IsJobAt g.D.Disk.view plan c.args.book.now (who + 1) turns j) at.left
    (runs short situation old)
