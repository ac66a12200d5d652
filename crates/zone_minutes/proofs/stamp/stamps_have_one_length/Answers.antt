use Rattle.zone_minutes.proofs.StampLemmas.{length-stamp_text, length-basic_stamp_text, length-date_text}
use Rattle.zone_minutes.proofs.stamp.stamps_have_one_length.Goals as goal

pub returns-clause-extended : goal.returns-clause-extended
returns-clause-extended c = λ at _. length-stamp_text at

pub returns-clause-basic : goal.returns-clause-basic
returns-clause-basic c = λ at _. length-basic_stamp_text at

pub returns-clause-date : goal.returns-clause-date
returns-clause-date c = λ day _. length-date_text day
