use Rattle.cron_serve.proofs.OneTextLemmas.{one_text_of}
use Rattle.cron_serve.proofs.laws.a_book_has_one_text.Goals as goal

pub returns : goal.returns
returns c = one_text_of
