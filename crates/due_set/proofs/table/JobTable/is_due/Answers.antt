use Rattle.due_set.specs.Table.{job_of}
use Rattle.due_set.proofs.TableLemmas.{IsJobDue-iff}
use Rattle.due_set.proofs.table.JobTable.is_due.Goals as goal

pub returns-in-Crontab-clause-due : goal.returns-in-Crontab-clause-due
returns-in-Crontab-clause-due c =
    IsJobDue-iff c.args.self.now c.args.version c.args.job (job_of c.spec-spec.result.now) c.in-Crontab.fields c.zone.result.now c.args.t.0 c.is_due.result
    (record { is_job = c.spec-spec.ensures.spec; kind = c.in-Crontab.is; is_zone = c.zone.ensures.zone }) c.requires.inside c.is_due.ensures
