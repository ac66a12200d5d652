use Rattle.anacron_text.proofs.AnswerLemmas.{some_answers, same_answers}
use Rattle.anacron_text.proofs.law.a_table_has_one_list_of_answers.Goals as goal

pub returns : goal.returns
returns c = record { some = some_answers; one = same_answers }
