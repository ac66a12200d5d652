use Rattle.journal_text.proofs.StartLemmas.{book_starts, book_there, one_journal}
use Rattle.journal_text.proofs.laws.a_book_has_one_journal.Goals as goal

pub returns-clause-there : goal.returns-clause-there
returns-clause-there c = book_there

pub returns-clause-one : goal.returns-clause-one
returns-clause-one c = one_journal

pub returns-clause-starts : goal.returns-clause-starts
returns-clause-starts c = book_starts
