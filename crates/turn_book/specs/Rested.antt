-- What a seat is outside of a turn, and within one. Private functions alone cite it.
use Rattle.std.specs.Prelude.{◌≡◌, true, false, [], Option, Some}
use Rattle.atomic_table.specs.Table.{Me}
use Rattle.turn_book.specs.declared.law.Law.{Ghosts}
use Rattle.turn_book.specs.declared.view.Opening.{Opening}
use Rattle.turn_book.specs.declared.view.View.{View}
use Rattle.turn_book.specs.Rule.{IsAtRest, follows_in}

module _ {L K R : Type 0} where
  -- the seat has no ticket
  pub record Rests (v : View L K R) : Type 0 where
    pub lives : v.spent ≡ false
    pub waits : v.waits ≡ false
    pub turn : v.turn ≡ false

  -- the seat has a ticket, which isn't served yet
  pub record IsInLine (m : Me (Option L) (View L K R)) : Type 0 where
    pub lives : m.0.spent ≡ false
    pub waits : m.0.waits ≡ true
    pub turn : m.0.turn ≡ false
    pub slot : m.1 ≡ []

module _ {L K R M : Type 0} (law : Ghosts L K R M) where
  -- the seat has the turn, and the row may come next: it names the seat
  pub record MayCommit (v : View L K R) (row : R) : Type 0 where
    pub opening : Opening L K
    pub opened : v.opening ≡ Some opening
    pub turn : v.turn ≡ true
    pub seat : law.seat row ≡ Some v.number
    pub follows : follows_in law opening v.seen row

  -- the seat has the turn, and the state has the rows that it has seen, and is at rest
  pub record MayHandOn (v : View L K R) (state : L) : Type 0 where
    pub opening : Opening L K
    pub opened : v.opening ≡ Some opening
    pub turn : v.turn ≡ true
    pub rests : IsAtRest law opening v.seen state
