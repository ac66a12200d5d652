-- The views of seats, and how each step changes its seat's.
use Rattle.std.specs.Prelude.{ℕ, ◌+◌, true, false, List, [], ◌∷◌, ◌++◌, None, Some}
use Rattle.turn_book.specs.declared.view.Opening.{Opening}
use Rattle.turn_book.specs.declared.view.Past.{Past}
use Rattle.turn_book.specs.declared.view.View.{View}

module _ {L K R : Type 0} where
  -- the view of the first seat
  abbrev pub first_view : Opening L K → View L K R
  first_view opening =
      record {
        spent = false;
        opening = Some opening;
        first = None;
        number = 0;
        made = 1;
        waits = false;
        ticket = 0;
        turn = false;
        seen = [];
        own = [];
        joined = [];
      }

  -- what is left of a view that was joined to another
  abbrev pub spent_view : View L K R
  spent_view =
      record {
        spent = true;
        opening = None;
        first = None;
        number = 0;
        made = 0;
        waits = false;
        ticket = 0;
        turn = false;
        seen = [];
        own = [];
        joined = [];
      }

  -- it has made one seat more
  abbrev pub with_seat : View L K R → View L K R
  with_seat v = record v { made = v.made + 1 }

  -- the seat that it makes next
  abbrev pub newcomer : View L K R → View L K R
  newcomer v =
      record {
        spent = false;
        opening = v.opening;
        first = None;
        number = v.made;
        made = 0;
        waits = false;
        ticket = 0;
        turn = false;
        seen = [];
        own = [];
        joined = [];
      }

  -- it has drawn a ticket
  abbrev pub in_line : ℕ → View L K R → View L K R
  in_line ticket v = record v { waits = true; ticket = ticket }

  -- it has the turn, at which the history is the first rows and those after them
  abbrev pub with_turn : (first after : List R) → View L K R → View L K R
  with_turn first after v = record v { turn = true; first = Some first; seen = first ++ after }

  -- it has committed rows
  abbrev pub with_rows : List R → View L K R → View L K R
  with_rows added v = record v { seen = v.seen ++ added; own = v.own ++ added }

  -- it has handed the turn on
  abbrev pub out_of_line : View L K R → View L K R
  out_of_line v = record v { waits = false; turn = false }

  -- what it leaves to the seat that it is joined to
  abbrev pub past_of : View L K R → Past R
  past_of v = record { number = v.number; first = v.first; seen = v.seen; own = v.own }

  -- it has taken another in
  abbrev pub with_past : View L K R → View L K R → View L K R
  with_past v w = record v { joined = past_of w ∷ v.joined }

  -- it has made so many seats
  abbrev pub counting : ℕ → View L K R → View L K R
  counting made v = record v { made = made }

  -- it has taken these in
  abbrev pub with_pasts : List (Past R) → View L K R → View L K R
  with_pasts pasts v = record v { joined = pasts ++ v.joined }
