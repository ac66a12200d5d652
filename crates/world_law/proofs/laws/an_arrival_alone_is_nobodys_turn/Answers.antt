use Rattle.world_law.proofs.Rows.{names_none}
use Rattle.world_law.proofs.laws.an_arrival_alone_is_nobodys_turn.Goals as goal

pub returns : goal.returns
returns c = record { none = names_none }
