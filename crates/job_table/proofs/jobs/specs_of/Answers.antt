use Rattle.std.proofs.Common.{◌≡◌, Some, ◌∙◌, sym, ap}
use Rattle.std.specs.Prelude.{slice_get, option_map}
use Rattle.job_table.proofs.JobLemmas.{next_spec}
use Rattle.job_table.proofs.jobs.specs_of.Goals as goal

pub loop-place-preserved : goal.loop-place-preserved
loop-place-preserved c =
    let entry : slice_get c.args.timings.now.entries c.loop-place.place ≡ Some (c.unwrap.result.0.now, c.unwrap.result.1.now) =
    sym c.get_index.ensures.entry ∙ ap (λ r. option_map (λ p. (p.0.now, p.1.now)) r) c.unwrap.ensures in
    next_spec c.args.timings.now.entries c.loop-place.place (c.unwrap.result.0.now, c.unwrap.result.1.now) c.loop-place.specs.items c.push.new.self.items c.in_ok-new.field-0
    entry c.loop-place.invariant c.in_ok-push.ensures.items (c.in_ok-new.ensures.name ∙ c.as_str.ensures.value) c.in_ok-new.ensures.zone c.in_ok-new.ensures.kind
