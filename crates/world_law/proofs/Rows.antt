-- The rows of a book that threads share, and what may come next after them.
use Rattle.std.proofs.Common.{◌≡◌, ◌↔◌, ℕ, ◌≤◌, List, [], ◌∷◌, ◌++◌, map, None, refl, sym, ap, ◌∙◌, subst, arith}
use Rattle.std.specs.List.{AllZip}
use Rattle.due_set.specs.Table.{Table}
use Rattle.history.specs.Book.{Row, Standing, turn_of}
use Rattle.history.specs.Legal.{MayFollow}
use Rattle.history.specs.declared.turn.Turn.{Turn}
use Rattle.history.specs.declared.turn.Turn.TheVariants.{Did, Stopped, Restarted, Arrived}
use Rattle.turn_book.specs.Rows.{MayAdd}
use Rattle.world_law.specs.Book.{BookState, HasRoom, IsSameBook, IsNext, IsRowOf, StandsBehind, standing_behind}
use Rattle.world_law.specs.Rows.{HasRows, HasTurnOf, MayComeNext}
use Rattle.world_law.specs.declared.row.BookRow.{BookRow}
use Rattle.world_law.proofs.Called.{alike_stands}
use Rattle.world_law.proofs.Settled.{turns_settle}

-- ---- rows and those behind them

zip_push : {A B : Type 0} (R : A → B → Type 0) (xs : List A) (ys : List B) (x : A) (y : B) → AllZip R xs ys → R x y → AllZip R (xs ++ x ∷ []) (ys ++ y ∷ [])
zip_push R [] [] x y each here = (here, tt)
zip_push R [] (b ∷ ys) x y each here = absurd each
zip_push R (a ∷ xs) [] x y each here = absurd each
zip_push R (a ∷ xs) (b ∷ ys) x y each here = (each.0, zip_push R xs ys x y each.1 here)

pub turns_behind : (rows : List BookRow) (behind : List Row) → AllZip HasTurnOf rows behind
    → map (λ (row : Row). row.turn) behind ≡ map (λ (row : BookRow). row.turn) rows
turns_behind [] [] each = refl
turns_behind [] (next ∷ behind) each = absurd each
turns_behind (row ∷ rows) [] each = absurd each
turns_behind (row ∷ rows) (next ∷ behind) each =
    ap (λ turn. turn ∷ map (λ (row : Row). row.turn) behind) each.0.turn_is ∙ ap (λ turns. row.turn ∷ turns) (turns_behind rows behind each.1)

-- the rows of a book have its turns
pub turns_are : (table : Table) (rows : List BookRow) (book : BookState) → HasRows table rows book → map (λ (row : BookRow). row.turn) rows ≡ book.turns
turns_are table rows book has = sym (turns_behind rows has.behind has.each) ∙ sym has.stands.turns

pub rows_stay : (table : Table) (rows : List BookRow) (old new : BookState) → IsSameBook new old → HasRows table rows old → HasRows table rows new
rows_stay table rows old new alike has = record { behind = has.behind; stands = alike_stands table has.behind old new alike has.stands; each = has.each }

pub room_for_fewer : (fewer more : ℕ) (book : BookState) → fewer ≤ more → HasRoom more book → HasRoom fewer book
room_for_fewer fewer more book few room = record { turn = room.turn; letter = omega (arith, few, room.letter); arrival = room.arrival; row = room.row }

-- ---- what may come next

-- what may come next after the rows of a book may follow whichever rows stand behind it
pub may_follow : (table : Table) (before : List BookRow) (row : BookRow) (behind : List Row) (book : BookState) → HasRows table before book
    → (may : MayComeNext book.members table before row) → StandsBehind table behind book
    → MayFollow book.members table (standing_behind table behind book) may.next.turn may.next
may_follow table before row behind book has may stands =
    let same : map (λ (row : Row). row.turn) may.behind ≡ map (λ (row : Row). row.turn) behind =
    turns_behind before may.behind may.each ∙ turns_are table before book has ∙ stands.turns in
    subst (λ (s : Standing). MayFollow book.members table s may.next.turn may.next)
    (turns_settle book.members table may.behind behind may.legal stands.legal same).stands may.may

-- so it may be added
pub row_is_next : (table : Table) (row : BookRow) (book : BookState) → MayAdd (λ rows. HasRows table rows book) (λ before row. MayComeNext book.members table before row) row
    → IsNext table book row.turn row.out
row_is_next table row book add =
    record {
      rows = add.are.behind;
      behind = add.are.stands;
      row = add.may.next;
      is = add.may.is;
      may = may_follow table add.before row add.are.behind book add.are add.may add.are.stands;
    }

-- and then it is the last of the book's rows
pub row_joins : (table : Table) (before : List BookRow) (row : BookRow) (old new : BookState)
    → ((rows : List Row) (next : Row) → StandsBehind table rows old → IsRowOf row.turn row.out next → MayFollow old.members table (standing_behind table rows old) next.turn next
    → StandsBehind table (rows ++ next ∷ []) new)
    → HasRows table before old → MayComeNext old.members table before row → HasRows table (before ++ row ∷ []) new
row_joins table before row old new added has may = record {
  behind = has.behind ++ may.next ∷ [];
  stands = added has.behind may.next has.stands may.is (may_follow table before row has.behind old has may has.stands);
  each = zip_push HasTurnOf before has.behind row may.next has.each may.is;
}

-- ---- the seats of turns

named_none : (turn : Turn) → turn_of turn ≡ None → (number : ℕ) × (turn ≡ Arrived number)
named_none (Did who cause made) is = absurd cc
named_none (Stopped who cause kept) is = absurd cc
named_none (Restarted who) is = absurd cc
named_none (Arrived number) is = (number, refl)

-- an arrival alone is nobody's
pub names_none : (turn : Turn) → (turn_of turn ≡ None) ↔ ((number : ℕ) × (turn ≡ Arrived number))
names_none turn = (named_none turn, λ is. ap turn_of is.1)
