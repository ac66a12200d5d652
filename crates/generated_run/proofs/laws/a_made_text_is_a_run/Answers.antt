use Rattle.generated_run.proofs.TextLemmas.{text_says, text_is_short}
use Rattle.generated_run.proofs.ZeroLemmas.{text_lacks_zero}
use Rattle.generated_run.proofs.laws.a_made_text_is_a_run.Goals as goal

pub returns-clause-says : goal.returns-clause-says
returns-clause-says c = text_says

pub returns-clause-short : goal.returns-clause-short
returns-clause-short c = text_is_short

pub returns-clause-no_zero : goal.returns-clause-no_zero
returns-clause-no_zero c = text_lacks_zero
