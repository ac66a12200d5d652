use Rattle.report_text.proofs.OneOrder.{one_text}
use Rattle.report_text.proofs.laws.a_report_says_one_text.Goals as goal

pub returns : goal.returns
returns c = one_text
