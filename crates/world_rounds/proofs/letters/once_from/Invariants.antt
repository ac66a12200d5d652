use Rattle.std.proofs.Common.{◌≡◌, map, take}
use Rattle.script_semantics.specs.Commands.{each_once, from_one}
use Rattle.world_law.specs.Book.{posted_as}
use Rattle.world_rounds.proofs.letters.once_from.Given as goal

abbrev pub invariant-numbers : goal.invariant-numbers
invariant-numbers l = l.found.keys ≡ each_once (from_one (map posted_as l.book.letters) l.who (take l.place l.mail.items))
