-- The state of a turn, which is lent.
use Rattle.std.specs.Prelude.{[]}
use Rattle.std.specs.Borrow.{Fml, Lends, MutBor, RattleType}
use mir.Syntax.{named}
use Rattle.turn_book.specs.contracts.turn.Turn.{the_row}
use Rattle.turn_book.specs.declared.law.Law.{Ghosts}
use Rattle.turn_book.specs.declared.turn.Turn.{Turn}

-- the turn with another state
abbrev pub with_state : {L K R M : Type 0} → Turn L K R M → L → Turn L K R M
with_state turn state = record turn { state = state }

module _ (L K R M : RattleType) (law : Ghosts L.Denot K.Denot R.Denot M.Denot) where
  -- the turn ends with the state that the last value behind the result is
  abbrev pub LendsState : MutBor (Turn L.Denot K.Denot R.Denot M.Denot) → MutBor L.Denot → Fml
  LendsState turn state = Lends (the_row (record { mir = named 1; lft = [] }) L K R M law) L turn state (with_state turn.now)
