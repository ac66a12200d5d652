use Rattle.due_set.specs.Table.{instant_of}
use Rattle.due_list.specs.Parts.{numbers_of_instants}
use Rattle.due_list.proofs.DueLemmas.{DuesUpTo, minutes_left}
use Rattle.due_list.proofs.dues.dues_of.Given as goal

abbrev pub invariant-dues : goal.invariant-dues
invariant-dues l = DuesUpTo l.table l.version l.job (numbers_of_instants l.dues.items) (instant_of l.last)

abbrev pub decreases-dues : goal.decreases-dues
decreases-dues l = minutes_left l.table.window (instant_of l.last)
