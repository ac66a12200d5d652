use Rattle.store_format.proofs.StandLemmas.{group_rows_stand}
use Rattle.store_format.proofs.laws.the_rows_of_a_group_stand.Goals as goal

pub returns : goal.returns
returns c = group_rows_stand
