use Rattle.step_spec.proofs.RowLemmas.{copied_stand, heard_stand}
use Rattle.step_spec.proofs.laws.rows_that_are_heard_stand.Goals as goal

pub returns-clause-stand : goal.returns-clause-stand
returns-clause-stand c = λ members size bytes from slot messages rows heard has.
    copied_stand rows size (heard_stand members size bytes from slot messages rows heard has)

pub returns-clause-cursors : goal.returns-clause-cursors
returns-clause-cursors c = λ members size bytes from slot messages rows heard has.
    (heard_stand members size bytes from slot messages rows heard has).cursors

pub returns-clause-counts : goal.returns-clause-counts
returns-clause-counts c = λ members size bytes from slot messages rows heard has.
    (heard_stand members size bytes from slot messages rows heard has).counts
