use Rattle.std.proofs.Common.{◌≡◌, ◌∙◌, sym, subst, map}
use Rattle.due_set.specs.Table.{own_name, AreNamesDistinct}
use Rattle.job_table.specs.Jobs.{entry_job}
use Rattle.job_table.specs.Versions.{jobs_under, with_name}
use Rattle.job_table.proofs.JobLemmas.{found_job, no_job, distinct_push}
use Rattle.job_table.proofs.NamedJobLemmas.{never, known_more, new_more, name_added}
use Rattle.job_table.proofs.jobs.Jobs.add_name.Goals as goal

pub returns-else-not-contains_key : goal.returns-else-not-contains_key
returns-else-not-contains_key c =
    let found = found_job c.self.inside.timings.entries c.args.name.now (sym c.contains_key.ensures ∙ c.if-not-contains_key.false) in
    subst (λ jobs. jobs ≡ jobs_under (with_name (map own_name jobs) c.args.name.now) jobs) c.self.view_is
    (known_more (map entry_job c.self.inside.timings.entries) c.args.name.now c.self.invariant found)

pub invariant_of-self-in_ok-insert : goal.invariant_of-self-in_ok-insert
invariant_of-self-in_ok-insert c =
    let entries = c.self.inside.timings.entries in
    let absent = sym c.contains_key.ensures ∙ c.if-not-contains_key.true in
    let more = name_added entries c.insert.new.self.entries c.in_ok-from_str.field-0 c.args.name.now c.in_ok-from_str.ensures.ok absent c.in_ok-insert.ensures.entries in
    subst AreNamesDistinct (sym more) (distinct_push (map entry_job entries) (never c.args.name.now) c.self.invariant (no_job entries c.args.name.now absent))

pub returns-in_ok-insert : goal.returns-in_ok-insert
returns-in_ok-insert c =
    let entries = c.self.inside.timings.entries in
    let absent = sym c.contains_key.ensures ∙ c.if-not-contains_key.true in
    let more = name_added entries c.insert.new.self.entries c.in_ok-from_str.field-0 c.args.name.now c.in_ok-from_str.ensures.ok absent c.in_ok-insert.ensures.entries in
    subst (λ jobs. map entry_job c.insert.new.self.entries ≡ jobs_under (with_name (map own_name jobs) c.args.name.now) jobs) c.self.view_is
    (more ∙ new_more (map entry_job entries) c.args.name.now c.self.invariant (no_job entries c.args.name.now absent))
