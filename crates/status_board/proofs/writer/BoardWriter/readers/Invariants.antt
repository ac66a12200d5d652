use Rattle.std.proofs.Common.{◌≡◌, length}
use Rattle.status_board.specs.Writing.{AreReadersOf}
use Rattle.status_board.proofs.writer.BoardWriter.readers.Given as goal

abbrev pub invariant-readers : goal.invariant-readers
invariant-readers l = (l.self ≡ l.fn.self) × AreReadersOf l.fn.self l.readers.items × (length l.readers.items ≡ l.counter)
