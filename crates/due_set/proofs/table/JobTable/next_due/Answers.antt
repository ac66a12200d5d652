use Rattle.std.proofs.Common.{pos}
use Rattle.due_set.specs.Table.{job_of, instant_of}
use Rattle.due_set.proofs.TableLemmas.{next_found, nothing_next}
use Rattle.due_set.proofs.table.JobTable.next_due.Goals as goal

pub returns-in-Crontab-clause-found : goal.returns-in-Crontab-clause-found
returns-in-Crontab-clause-found c =
    next_found c.args.self.now c.args.version c.args.job (job_of c.spec-spec.result.now) c.in-Crontab.fields c.zone.result.now c.window-window.result (instant_of c.args.after) (pos c.first_minute-first.result) c.next_due.result
    (record { is_job = c.spec-spec.ensures.spec; kind = c.in-Crontab.is; is_zone = c.zone.ensures.zone })
    c.window-window.ensures.window c.first_minute-first.ensures.since c.first_minute-first.ensures.first c.next_due.ensures.found c.next_due.ensures.before

pub returns-in-Crontab-clause-none : goal.returns-in-Crontab-clause-none
returns-in-Crontab-clause-none c =
    nothing_next c.args.self.now c.args.version c.args.job (job_of c.spec-spec.result.now) c.in-Crontab.fields c.zone.result.now c.window-window.result (instant_of c.args.after) (pos c.first_minute-first.result) c.next_due.result
    (record { is_job = c.spec-spec.ensures.spec; kind = c.in-Crontab.is; is_zone = c.zone.ensures.zone })
    c.window-window.ensures.window c.first_minute-first.ensures.first c.next_due.ensures.none
