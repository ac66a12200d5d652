use Rattle.std.proofs.Common.{sym, subst}
use Rattle.due_set.specs.Table.{IsJobDueList, IsShare, job_of}
use Rattle.due_set.specs.declared.job.JobKind.{JobKind}
use Rattle.due_set.proofs.CountLemmas.{IsJobDueList-entry}
use Rattle.due_set.proofs.table.JobTable.count_due.Goals as goal

pub returns-in-Crontab-clause-share : goal.returns-in-Crontab-clause-share
returns-in-Crontab-clause-share c =
    let job = job_of c.spec-spec.result.now in
    let list : IsJobDueList c.args.self.now c.args.version c.args.job c.count_due.ensures.0 =
    IsJobDueList-entry c.args.self.now c.args.version c.args.job job c.in-Crontab.fields c.zone.result.now c.window.result c.count_due.ensures.0
    (record { is_job = c.spec-spec.ensures.spec; kind = c.in-Crontab.is; is_zone = c.zone.ensures.zone }) c.window.ensures.window c.count_due.ensures.1 in
    let share : IsShare c.args.self.now c.args.version c.args.job job.kind c.count_due.result =
    subst (λ (k : JobKind). IsShare c.args.self.now c.args.version c.args.job k c.count_due.result) (sym c.in-Crontab.is) (c.count_due.ensures.0, list, c.count_due.ensures.2) in
    rw c.spec-spec.ensures.spec share
