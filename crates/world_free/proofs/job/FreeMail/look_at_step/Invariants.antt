use Rattle.std.proofs.Common.{◌≡◌, ◌+◌, List, ◌++◌, length}
use Rattle.history.specs.Book.{PostedLetter, post}
use Rattle.world_free.specs.Mails.{KeepsSet}
use Rattle.world_free.proofs.MailSteps.{Looking}
use Rattle.world_free.proofs.job.FreeMail.look_at_step.Given as goal

abbrev pub invariant-letters : goal.invariant-letters
invariant-letters l =
    KeepsSet l.fn.self l.self
    × ((before : List PostedLetter) → length before ≡ l.first → Looking l.cuts l.who (before ++ post l.who l.posted) l.first (l.first + l.place) l.fn.self l.self)
