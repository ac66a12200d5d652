-- Lists of rows: their fronts, which of them are lawful, and which rows name a seat.
use Rattle.std.specs.Prelude.{◌≡◌, ℕ, ◌==◌, Bool, false, List, ◌++◌, filter, take, slice_get, Option, None, Some}

-- the row names the seat of that number
abbrev pub is_seat : ℕ → Option ℕ → Bool
is_seat number None = false
is_seat number (Some named) = named == number

module _ {R : Type 0} where
  -- the list begins with the rows of another
  abbrev pub BeginsWith : List R → List R → Type 0
  BeginsWith rows front = (back : List R) × (rows ≡ front ++ back)

  -- each row may follow those before it
  abbrev pub IsLawful : (List R → R → Type 0) → List R → Type 0
  IsLawful follows rows = (place : ℕ) (row : R) → slice_get rows place ≡ Some row → follows (take place rows) row

  -- the rows that name the seat of that number, in order
  abbrev pub rows_of : (R → Option ℕ) → ℕ → List R → List R
  rows_of seat number rows = filter (λ row. is_seat number (seat row)) rows

  -- the row may follow a list that is the state's
  pub record MayAdd (rows : List R → Type 0) (follows : List R → R → Type 0) (row : R) : Type 0 where
    pub before : List R
    pub are : rows before
    pub may : follows before row

  -- some list that is the state's is lawful
  pub record HasLawful (rows : List R → Type 0) (follows : List R → R → Type 0) : Type 0 where
    pub first : List R
    pub are : rows first
    pub lawful : IsLawful follows first
