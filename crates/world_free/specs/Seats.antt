-- A seat at a shared book, by the rows that it has seen since the part began.
use Rattle.std.specs.Prelude.{◌≡◌, ◌⊎◌, ℕ, List, [], ◌++◌, None, Some}
use Rattle.history.specs.Book.{turn_of}
use Rattle.turn_book.specs.Rows.{rows_of}
use Rattle.turn_book.specs.Turns.{IsSeatOf, first_rows_by, number_of, own_rows, seen_by}
use Rattle.world_law.specs.declared.row.BookRow.{BookRow}
use Rattle.world_free.specs.Plan.{Seat, SharedBook}

-- the rows of a replica
abbrev pub rows_by : ℕ → List BookRow → List BookRow
rows_by who rows = rows_of (λ (row : BookRow). turn_of row.turn) who rows

-- what the seat has seen: nothing yet, or the rows with which the book began and these
abbrev pub HasSeen : Seat → List BookRow → Type 0
HasSeen seat after =
    ((first_rows_by seat ≡ None) × (seen_by seat ≡ []) × (after ≡ []))
    ⊎ ((first : List BookRow) × (first_rows_by seat ≡ Some first) × (seen_by seat ≡ first ++ after))

-- The seat of a replica between two turns. Of the rows that it has seen since the part began it has committed those of its replica.
pub record IsSeatAt (book : SharedBook) (who : ℕ) (after : List BookRow) (seat : Seat) : Type 0 where
  pub of_book : IsSeatOf book seat
  pub number : number_of seat ≡ who
  pub seen : HasSeen seat after
  pub own : own_rows seat ≡ rows_by who after
