use Rattle.std.proofs.Common.{inl, inr, string_bytes, subst, sym}
use Rattle.std.proofs.lemmas.Result.{on_ok_weaker}
use Rattle.due_set.specs.Table.{IsAnacron}
use Rattle.due_list.proofs.LineLemmas.{instant_lines, period_lines}
use Rattle.due_list.proofs.due.put_job.Goals as goal

pub returns-in-Anacron : goal.returns-in-Anacron
returns-in-Anacron c =
    on_ok_weaker c.put_anacron.result
    (period_lines c.args.table.now c.args.version c.args.job c.kind.result.now (string_bytes c.args.into.now) (string_bytes c.put_anacron.new.into) c.name-name.result.now c.name-name.ensures.sound c.requires.version c.requires.job
    c.kind.ensures.kind (subst IsAnacron (sym c.in-Anacron.is) tt) c.name-name.ensures.name)
    c.put_anacron.ensures

pub returns-in-Crontab : goal.returns-in-Crontab
returns-in-Crontab c =
    on_ok_weaker c.put_entry.result
    (instant_lines c.args.table.now c.args.version c.args.job c.kind.result.now (string_bytes c.args.into.now) (string_bytes c.put_entry.new.into) c.name-name.ensures.sound c.requires.version c.requires.job
    c.kind.ensures.kind (elim c.in-Crontab.is [ inl (fields, is) ↦ λ by. subst IsAnacron is by | inr is ↦ λ by. subst IsAnacron is by ]))
    c.put_entry.ensures
