use Rattle.std.proofs.Common.{◌≡◌, ◌∙◌, sym, ap, subst}
use Rattle.job_table.specs.Jobs.{named_job}
use Rattle.job_table.specs.Versions.{job_named}
use Rattle.std.specs.Prelude.{option_copied}
use Rattle.job_table.proofs.NamedJobLemmas.{found_timing, found_none}
use Rattle.job_table.proofs.jobs.Jobs.timing.Goals as goal

pub returns-in-Some : goal.returns-in-Some
returns-in-Some c =
    subst (λ jobs. named_job c.args.name.now c.in-Some.timing.now.zone c.in-Some.timing.now.kind ≡ job_named c.args.name.now jobs) c.self.view_is
    (found_timing c.self.inside.timings.entries c.args.name.now c.in-Some.timing.now (sym c.get.ensures.value ∙ ap (λ r. option_copied r) c.in-Some.is))

pub returns-in-None : goal.returns-in-None
returns-in-None c =
    subst (λ jobs. named_job c.args.name.now 0 _ ≡ job_named c.args.name.now jobs) c.self.view_is
    (found_none c.self.inside.timings.entries c.args.name.now (sym c.get.ensures.value ∙ ap (λ r. option_copied r) c.in-None.is))
