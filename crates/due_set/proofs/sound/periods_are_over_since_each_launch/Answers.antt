use Rattle.due_set.proofs.OpenLemmas.{IsPeriodOver-since}
use Rattle.due_set.proofs.sound.periods_are_over_since_each_launch.Goals as goal

pub returns : goal.returns
returns c = IsPeriodOver-since
