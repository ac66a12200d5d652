use Rattle.anacron_text.proofs.ReaderLemmas.{span_holds}
use Rattle.anacron_text.proofs.law.a_span_is_that_of_its_line.Goals as goal

pub returns : goal.returns
returns c = span_holds
