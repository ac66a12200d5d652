use Rattle.crontab_text.specs.Lines.{lines_of}
use Rattle.run_text.specs.declared.table.Tables.TheVariants.{Judged}
use Rattle.run_text.proofs.UniqueLemmas.{one_run_by, one_refusal_by, never_both_by}
use Rattle.run_text.proofs.laws.a_text_has_one_reading.Goals as goal

pub returns-clause-one_run : goal.returns-clause-one_run
returns-clause-one_run c = λ text a b p q. one_run_by Judged (lines_of text) a b p q

pub returns-clause-one_refusal : goal.returns-clause-one_refusal
returns-clause-one_refusal c = λ text a b p q. one_refusal_by Judged (lines_of text) a b p q

pub returns-clause-not_both : goal.returns-clause-not_both
returns-clause-not_both c = λ text run refusal p q. never_both_by Judged (lines_of text) run refusal p q
