use Rattle.std.proofs.Common.{refl, []}
use mir.Syntax.{named}
use Rattle.turn_book.specs.contracts.turn.Turn.{the_row}
use Rattle.turn_book.proofs.turn.Turn.state.Goals as goal

-- Two turns are one where their fields are, whatever the proofs of their facts.
pub returns : goal.returns
returns g c = (
  (refl, (λ w. (the_row (record { mir = named 1; lft = [] }) g.row.L g.row.L-Key g.row.L-Row g.row.L-Room g.L.Law).coded.inj _ _ refl)),
  record { lends = tt; state = refl },
)
