use Rattle.std.proofs.Common.{map}
use Rattle.world_law.specs.Book.{posted_as}
use Rattle.world_free.proofs.MailSteps.{Looking}
use Rattle.world_free.proofs.job.FreeMail.look_at_book.Given as goal

abbrev pub invariant-letters : goal.invariant-letters
invariant-letters l = Looking l.cuts l.who (map posted_as l.letters) l.fn.self.looked l.number l.fn.self l.self
