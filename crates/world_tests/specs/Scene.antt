-- Some replicas, and the book of their turns. Private functions alone cite it.
use Rattle.std.specs.Prelude.{◌≡◌, ℕ, List, ◌∷◌, [], ◌++◌, Some, slice_get}
use Rattle.due_set.specs.Table.{Table}
use Rattle.history.specs.Book.{Row}
use Rattle.history.specs.declared.turn.Turn.TheVariants.{Arrived}
use Rattle.world_law.specs.Book.{BookState}
use Rattle.world_tests.specs.Seat.{IsBookAtRest, IsNew, IsSeated, SeatState}

-- each of them has started for the first time
abbrev pub AreNew : Table → (members : ℕ) → List SeatState → Type 0
AreNew table members seats = (who : ℕ) (seat : SeatState) → slice_get seats who ≡ Some seat → IsNew table who members seat

-- each of them is as these rows leave it
abbrev pub AreSeated : Table → List Row → BookState → List SeatState → Type 0
AreSeated table rows book seats = (who : ℕ) (seat : SeatState) → slice_get seats who ≡ Some seat → IsSeated table rows book who seat

-- the book is legal, and each of them is as its rows leave it
pub record IsLegalScene (table : Table) (book : BookState) (seats : List SeatState) : Type 0 where
  pub rows : List Row
  pub rests : IsBookAtRest table rows book
  pub seated : AreSeated table rows book seats

-- one row more stands behind the book, that of an arrival
pub record HasArrived (table : Table) (rows : List Row) (old new : BookState) (late : ℕ) : Type 0 where
  pub row : Row
  pub turn : row.turn ≡ Arrived late
  pub rests : IsBookAtRest table (rows ++ row ∷ []) new
  pub members : new.members ≡ old.members
