-- What callers know of a book, of its seats, and of a turn.
use Rattle.std.specs.Prelude.{◌≡◌, ◌↔◌, ℕ, ◌+◌, List, [], ◌∷◌, ◌++◌, length, slice_get, Option, None, Some}
use Rattle.std.specs.Borrow.{MutBor}
use Rattle.turn_book.specs.declared.book.TurnBook.{TurnBook}
use Rattle.turn_book.specs.declared.book.TurnSeat.{TurnSeat}
use Rattle.turn_book.specs.declared.law.Law.{Ghosts}
use Rattle.turn_book.specs.declared.turn.Turn.{Turn}
use Rattle.turn_book.specs.declared.view.Opening.{Opening}
use Rattle.turn_book.specs.declared.view.Past.{Past}
use Rattle.turn_book.specs.declared.view.View.{View}
use Rattle.turn_book.specs.Rested.{Rests}
use Rattle.turn_book.specs.Rows.{BeginsWith, IsLawful, rows_of}
use Rattle.turn_book.specs.Rule.{IsAtRest, NamesBelow, follows_in}
use Rattle.turn_book.specs.Steps.{IsHistory}
use Rattle.turn_book.specs.Views.{past_of, spent_view}

-- what was there first
abbrev pub first_or_spent : {L K R : Type 0} → List (View L K R) → View L K R
first_or_spent [] = spent_view
first_or_spent (v ∷ vs) = v

module _ {L K R M : Type 0} where
  -- what the book began with
  abbrev pub opening_of : TurnBook L K R M → Opening L K
  opening_of book = book.table.shared.key

  -- how many seats it has
  abbrev pub seats_of : TurnBook L K R M → ℕ
  seats_of book = (opening_of book).seats

  -- what a seat knows
  abbrev pub view_of : TurnSeat L K R M → View L K R
  view_of seat = first_or_spent seat.badge.views

  abbrev pub number_of : TurnSeat L K R M → ℕ
  number_of seat = (view_of seat).number

  -- the rows that it has committed, in order
  abbrev pub own_rows : TurnSeat L K R M → List R
  own_rows seat = (view_of seat).own

  -- the history as its last turn left it
  abbrev pub seen_by : TurnSeat L K R M → List R
  seen_by seat = (view_of seat).seen

  -- the rows that the book began with, once one of its turns has shown them
  abbrev pub first_rows_by : TurnSeat L K R M → Option (List R)
  first_rows_by seat = (view_of seat).first

  -- the seat is one of the book, and has no turn
  pub record IsSeatOf (book : TurnBook L K R M) (seat : TurnSeat L K R M) : Type 0 where
    pub table : seat.badge.table_id ≡ book.table.shared.table_id
    pub views : seat.badge.views ≡ view_of seat ∷ []
    pub rests : Rests (view_of seat)
    pub opened : (view_of seat).opening ≡ Some (opening_of book)
    pub counts : number_of seat ≡ 0 → (view_of seat).made ≡ seats_of book

  -- the book began with these
  pub record BeganWith (key : K) (state : L) (seats : ℕ) (book : TurnBook L K R M) : Type 0 where
    pub key_is : (opening_of book).key.value ≡ key
    pub state_is : (opening_of book).state.value ≡ state
    pub seats_are : seats_of book ≡ seats

  -- the seat of that number, before its first turn
  pub record IsNewSeat (book : TurnBook L K R M) (number : ℕ) (seat : TurnSeat L K R M) : Type 0 where
    pub seat_of : IsSeatOf book seat
    pub number_is : number_of seat ≡ number
    pub first : first_rows_by seat ≡ None
    pub own : own_rows seat ≡ []
    pub saw : seen_by seat ≡ []

  -- the seats of the numbers from one on, before their first turns
  abbrev pub AreNewSeats : TurnBook L K R M → ℕ → List (TurnSeat L K R M) → Type 0
  AreNewSeats book from seats = (place : ℕ) (seat : TurnSeat L K R M) → slice_get seats place ≡ Some seat → IsNewSeat book (from + place) seat

  -- seats of the book
  abbrev pub AreSeatsOf : TurnBook L K R M → List (TurnSeat L K R M) → Type 0
  AreSeatsOf book seats = (place : ℕ) (seat : TurnSeat L K R M) → slice_get seats place ≡ Some seat → IsSeatOf book seat

  -- what a seat leaves to the one that it is joined to
  abbrev pub past_by : TurnSeat L K R M → Past R
  past_by seat = past_of (view_of seat)

  -- all seats of the book, each at the place of its number
  pub record AreAllSeats (book : TurnBook L K R M) (seats : List (TurnSeat L K R M)) : Type 0 where
    pub count : length seats ≡ seats_of book
    pub each : AreSeatsOf book seats
    pub number : (place : ℕ) (seat : TurnSeat L K R M) → slice_get seats place ≡ Some seat → number_of seat ≡ place

  -- the book of a turn
  abbrev pub book_at : Turn L K R M → TurnBook L K R M
  book_at turn = turn.book.now

  abbrev pub opening_at : Turn L K R M → Opening L K
  opening_at turn = opening_of (book_at turn)

  -- the number of its seat
  abbrev pub number_at : Turn L K R M → ℕ
  number_at turn = turn.inner.me.0.number

  -- the rows that its seat has committed
  abbrev pub own_at : Turn L K R M → List R
  own_at turn = turn.inner.me.0.own

  -- the history that it shows
  abbrev pub shown_at : Turn L K R M → List R
  shown_at turn = turn.inner.me.0.seen

  -- the rows that the book began with
  abbrev pub first_rows_at : Turn L K R M → Option (List R)
  first_rows_at turn = turn.inner.me.0.first

  -- the state as it is now
  abbrev pub state_at : Turn L K R M → L
  state_at turn = turn.state

  -- the turn is the one that the seat is lent to
  abbrev pub IsLentTo : MutBor (TurnSeat L K R M) → Turn L K R M → Type 0
  IsLentTo seat turn = turn.seat.ghost_name ≡ seat.ghost_name

  -- the turn is that of the seat at the book
  pub record IsTurnAt (book : TurnBook L K R M) (seat : TurnSeat L K R M) (turn : Turn L K R M) : Type 0 where
    pub of_book : book_at turn ≡ book
    pub number : number_at turn ≡ number_of seat
    pub own : own_at turn ≡ own_rows seat

  -- a turn is the same but for the state
  pub record IsSameTurn (old new : Turn L K R M) : Type 0 where
    pub of_book : new.book ≡ old.book
    pub lent : new.seat.ghost_name ≡ old.seat.ghost_name
    pub inner : new.inner ≡ old.inner

  -- the turn has left the seat with these rows as its own, and with this history as seen
  pub record LeavesSeat (turn : Turn L K R M) (own seen : List R) (seat : TurnSeat L K R M) : Type 0 where
    pub seat_of : IsSeatOf (book_at turn) seat
    pub number : number_of seat ≡ number_at turn
    pub first : first_rows_by seat ≡ first_rows_at turn
    pub owns : own_rows seat ≡ own
    pub saw : seen_by seat ≡ seen

module _ {L K R M : Type 0} (law : Ghosts L K R M) where
  -- The history that a turn shows, after what its seat knew: the first rows and those after them. Once a turn has shown the first
  -- rows, they are the same at each later turn of the seat.
  pub record ShowsHistory (seat : TurnSeat L K R M) (turn : Turn L K R M) : Type 0 where
    pub first : List R
    pub after : List R
    pub first_is : first_rows_at turn ≡ Some first
    pub shown : shown_at turn ≡ first ++ after
    pub same : (rows : List R) → first_rows_by seat ≡ Some rows → rows ≡ first
    pub history : IsHistory law (opening_at turn) (number_of seat) (seen_by seat) (own_rows seat) first after

  -- the state of a turn has the rows that it shows and the number that the book began with, and is at rest
  abbrev pub ShowsRest : Turn L K R M → Type 0
  ShowsRest turn = IsAtRest law (opening_at turn) (shown_at turn) (state_at turn)

  -- the state stands for the same, whatever room it has, and has no less of that
  pub record KeepsState (old new : L) : Type 0 where
    pub rows : (key : K) (rows : List R) → law.has_rows key old rows → law.has_rows key new rows
    pub number : law.number new ≡ law.number old
    pub rest : law.at_rest new ↔ law.at_rest old
    pub takes : (row : R) → law.takes new row ↔ law.takes old row
    pub room : (row : R) → law.has_room old row → law.has_room new row

  -- The state has the whole history of the book: the first rows and those after them, of which each names a seat, and each seat has
  -- those that name it as its own.
  pub record HasHistory (book : TurnBook L K R M) (seats : List (TurnSeat L K R M)) (state : L) : Type 0 where
    pub first : List R
    pub after : List R
    pub begins : law.has_rows (opening_of book).key.value (opening_of book).state.value first
    pub lawful : IsLawful (follows_in law (opening_of book)) (first ++ after)
    pub named : (place : ℕ) (row : R) → slice_get after place ≡ Some row → NamesBelow law (seats_of book) row
    pub own : (place : ℕ) (seat : TurnSeat L K R M) → slice_get seats place ≡ Some seat → own_rows seat ≡ rows_of law.seat place after
    pub saw : (place : ℕ) (seat : TurnSeat L K R M) → slice_get seats place ≡ Some seat → BeginsWith (first ++ after) (seen_by seat)
    pub same : (place : ℕ) (seat : TurnSeat L K R M) (rows : List R) → slice_get seats place ≡ Some seat → first_rows_by seat ≡ Some rows → rows ≡ first
    pub rests : IsAtRest law (opening_of book) (first ++ after) state
