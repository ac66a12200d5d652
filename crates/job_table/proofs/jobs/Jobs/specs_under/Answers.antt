use Rattle.job_table.proofs.NamedJobLemmas.{next_under}
use Rattle.job_table.proofs.jobs.Jobs.specs_under.Goals as goal

pub loop-place-preserved : goal.loop-place-preserved
loop-place-preserved c =
    next_under c.args.names.now c.args.self.now c.loop-place.place c.name-name.result.now c.timing-timing.result c.loop-place.specs.items c.push.new.self.items c.in_ok-new.field-0
    c.name-name.ensures c.timing-timing.ensures c.loop-place.invariant c.in_ok-push.ensures.items c.in_ok-new.ensures.name c.in_ok-new.ensures.zone c.in_ok-new.ensures.kind
