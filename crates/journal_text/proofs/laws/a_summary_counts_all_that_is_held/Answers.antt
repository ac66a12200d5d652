use Rattle.journal_text.proofs.SummaryLemmas.{counts_all, of_ledger, one_summary}
use Rattle.journal_text.proofs.laws.a_summary_counts_all_that_is_held.Goals as goal

pub returns-clause-one : goal.returns-clause-one
returns-clause-one c = one_summary

pub returns-clause-all : goal.returns-clause-all
returns-clause-all c = counts_all

pub returns-clause-ledger : goal.returns-clause-ledger
returns-clause-ledger c = of_ledger
