use Rattle.anacron_text.proofs.ReaderLemmas.{answers_before, no_answers}
use Rattle.anacron_text.proofs.law.answers_come_in_order.Goals as goal

pub returns : goal.returns
returns c = record { next = answers_before; end = no_answers }
