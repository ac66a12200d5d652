use Rattle.job_table.proofs.NameLemmas.{words_of_run}
use Rattle.job_table.proofs.laws.each_job_has_a_word_for_its_name.Goals as goal

pub returns : goal.returns
returns c = words_of_run
