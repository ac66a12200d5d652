use Rattle.due_set.specs.Table.{job_of}
use Rattle.due_set.proofs.OpenLemmas.{opening_found}
use Rattle.due_set.proofs.table.JobTable.first_opening.Goals as goal

pub returns-clause-found : goal.returns-clause-found
returns-clause-found c =
    let opening = c.in_ok-opening.opening in
    let found = c.in_ok-opening.ensures in
    opening_found c.args.self.now c.args.version c.args.job (job_of c.spec-spec.result.now) opening c.zone.result.now c.window.result c.args.last c.args.cursor c.first_opening.result
    found.last found.cursor (record { is_job = c.spec-spec.ensures.spec; kind = found.kind; is_zone = c.zone.ensures.zone })
    c.zone.ensures.built c.window.ensures.window c.first_opening.ensures.found c.first_opening.ensures.since c.first_opening.ensures.before
