use Rattle.anacron_text.proofs.AnswerLemmas.{some_answer, same_answer}
use Rattle.anacron_text.proofs.law.a_line_has_one_reading.Goals as goal

pub returns : goal.returns
returns c = record { some = some_answer; one = same_answer }
