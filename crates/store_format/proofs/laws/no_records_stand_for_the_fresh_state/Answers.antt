use Rattle.std.proofs.Common.{[], inl, refl}
use Rattle.store_format.specs.Area.{fresh_kept}
use Rattle.store_format.proofs.LogLemmas.{IsChangeLog-nil}
use Rattle.store_format.proofs.laws.no_records_stand_for_the_fresh_state.Goals as goal

pub returns-clause-records : goal.returns-clause-records
returns-clause-records c = λ size. inl (IsChangeLog-nil size (fresh_kept size))

pub returns-clause-bodies : goal.returns-clause-bodies
returns-clause-bodies c = λ size. record { items = []; are_records = tt; stands = inl (IsChangeLog-nil size (fresh_kept size)); own_is = refl }
