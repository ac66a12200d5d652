use Rattle.std.proofs.Common.{◌≡◌, ◌++◌, take}
use Rattle.world_rounds.proofs.letters.add_all.Given as goal

abbrev pub invariant-numbers : goal.invariant-numbers
invariant-numbers l = l.mail.items ≡ l.fn.mail.items ++ take l.number-index l.numbers
