use Rattle.std.proofs.Common.{[], ◌∷◌}
use Rattle.turn_book.proofs.book.TurnBook.count_row.Given as goal

abbrev pub ghosts-count : goal.ghosts-count
ghosts-count g a = record { added = a.row.now ∷ [] }
