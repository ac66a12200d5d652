use Rattle.std.proofs.Common.{length, ap, ◌∙◌}
use Rattle.zone_minutes.proofs.StampLemmas.{length-basic_stamp_text, length-date_text}
use Rattle.cluster_sched.proofs.NameLemmas.{told_date, told_stamp}
use Rattle.cluster_sched.proofs.name.time_len.Goals as goal

pub returns-then-is_anacron-clause-len : goal.returns-then-is_anacron-clause-len
returns-then-is_anacron-clause-len c = λ at. ap length (told_date c.args.table.now c.args.job c.is_anacron.result at c.is_anacron.ensures.by_name c.if-is_anacron.true).text ∙ length-date_text at

pub returns-else-is_anacron-clause-len : goal.returns-else-is_anacron-clause-len
returns-else-is_anacron-clause-len c = λ at. ap length (told_stamp c.args.table.now c.args.job c.is_anacron.result at c.is_anacron.ensures.by_name c.if-is_anacron.false).text ∙ length-basic_stamp_text at
