-- Why the proofs hold. Names in backquotes are files of this folder and lemmas in them.
--
-- The way of a command from one situation to the next:
--
--   a situation
--      |
--      v
--   tasks              what the command asks for there, as one list: in a round for each replica that runs the answer that
--      |               waits, its mail and a tick; for other commands one turn or none
--      v
--   turns              one for each task, in order; each changes what stands. A letter that is heard leaves its mail, a
--      |               stop empties a mail, a call spends its fate. On a disk that is armed, and has too few calls left for
--      |               the change of a step, the replica stops within the step, and its other tasks have no turn
--      v
--   letters join       those that the turns sent, each after the mail of its addressee, if that runs and the letter isn't
--      |               cut off
--      v
--   a change           of cuts, mails, skews, fates or arms: one command sets one of them
--      |
--      v
--   the next situation
--
-- Since the tasks are a list of the situation at the start, no letter is heard in the round in which it is sent. Parts
-- of a book are put together by `Then`, one after another.
--
-- Of free turns: while others take their turns, a replica's mail gains just the letters that were posted to it
-- meanwhile, in their order; its state, its answer and its fate stay, and so do the arm of its disk, the bases that it
-- has kept and what it saw last. So what it saw directly after its last turn still stands at its next one, and turns
-- of one replica are put together one by one, whatever others do between them.

pub mod ArmsLemmas
pub mod CauseLemmas
pub mod CoordinatorLemmas
pub mod EndLemmas
pub mod FreeEndLemmas
pub mod FreeMailLemmas
pub mod LeftLemmas
pub mod LetterLemmas
pub mod ListLemmas
pub mod MailLemmas
pub mod NextLemmas
pub mod OtherLemmas
pub mod PartLemmas
pub mod RoundLemmas
pub mod RunningArms
pub mod RunningLemmas
pub mod SeenLemmas
pub mod SomeFreeStop
pub mod SomeParts
pub mod SomeScript
pub mod SomeStop
pub mod StartLemmas
pub mod StopLemmas
pub mod TurnLemmas
pub mod WalkLemmas
