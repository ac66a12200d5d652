use Rattle.std.proofs.Common.{ℕ, ◌<◌, get_or}
use Rattle.std.specs.Char.{IsAsciiAlphabetic}
use Rattle.cron_fields.proofs.atom.are_letters.Given as goal

abbrev pub invariant-loop-byte : goal.invariant-loop-byte
invariant-loop-byte l = (k : ℕ) → k < l.byte-index → IsAsciiAlphabetic (get_or l.bytes k 0)
