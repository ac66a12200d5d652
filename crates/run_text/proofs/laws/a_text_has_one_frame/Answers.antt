use Rattle.crontab_text.specs.Lines.{lines_of}
use Rattle.run_text.specs.declared.table.Tables.TheVariants.{Counted}
use Rattle.run_text.proofs.UniqueLemmas.{one_run_by, one_refusal_by, never_both_by}
use Rattle.run_text.proofs.laws.a_text_has_one_frame.Goals as goal

pub returns-clause-one_frame : goal.returns-clause-one_frame
returns-clause-one_frame c = λ text a b p q. one_run_by Counted (lines_of text) a b p q

pub returns-clause-one_refusal : goal.returns-clause-one_refusal
returns-clause-one_refusal c = λ text a b p q. one_refusal_by Counted (lines_of text) a b p q

pub returns-clause-not_both : goal.returns-clause-not_both
returns-clause-not_both c = λ text run refusal p q. never_both_by Counted (lines_of text) run refusal p q
