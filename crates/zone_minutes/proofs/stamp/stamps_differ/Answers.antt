use Rattle.zone_minutes.proofs.StampLemmas.{stamp_text-injective, basic_stamp_text-injective, date_text-injective}
use Rattle.zone_minutes.proofs.stamp.stamps_differ.Goals as goal

pub returns-clause-extended : goal.returns-clause-extended
returns-clause-extended c = stamp_text-injective

pub returns-clause-basic : goal.returns-clause-basic
returns-clause-basic c = basic_stamp_text-injective

pub returns-clause-date : goal.returns-clause-date
returns-clause-date c = date_text-injective
