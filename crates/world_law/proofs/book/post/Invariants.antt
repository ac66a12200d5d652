use Rattle.std.proofs.Common.{Some, ◌≡◌, ◌+◌, ◌≤◌, ◌++◌, length, vec_len, vec_capacity}
use Rattle.world_law.specs.Book.{letter_rows, longest_of}
use Rattle.world_law.proofs.book.post.Given as goal

abbrev pub invariant-loop-letter : goal.invariant-loop-letter
invariant-loop-letter l =
    (l.letters.items ≡ l.fn.letters.items ++ letter_rows (Some l.from) l.turn l.yielded)
    × (vec_len l.letters ≡ vec_len l.fn.letters + length l.yielded)
    × (vec_capacity l.fn.letters ≤ vec_capacity l.letters)
    × (l.longest ≡ longest_of l.letters.items)
