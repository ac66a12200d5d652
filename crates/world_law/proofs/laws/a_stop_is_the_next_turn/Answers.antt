use Rattle.world_law.proofs.Stops.{stop_between, stop_within}
use Rattle.world_law.proofs.laws.a_stop_is_the_next_turn.Goals as goal

pub returns-clause-within : goal.returns-clause-within
returns-clause-within c table rows book cause input old event change answer behind at is inside told changes either =
    stop_within table rows book cause input old event change behind at is inside told changes answer either

pub returns-clause-between : goal.returns-clause-between
returns-clause-between c = stop_between
