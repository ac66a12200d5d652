use Rattle.journal_line.proofs.CountLemmas.{count_of_decimal, decimal_of_count, some_count}
use Rattle.journal_line.proofs.laws.a_number_has_one_text.Goals as goal

pub returns-clause-written : goal.returns-clause-written
returns-clause-written c = count_of_decimal

pub returns-clause-only : goal.returns-clause-only
returns-clause-only c = decimal_of_count

pub returns-clause-some : goal.returns-clause-some
returns-clause-some c = some_count
