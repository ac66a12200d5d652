-- Why the proofs hold. Names in backquotes are files of this folder and lemmas in them.
--
-- What a replica does next is settled by what it saw directly after its last turn. Its thread keeps that: its mail up
-- to the last letter that it has looked at, with the bytes of the first one. So a step is taken outside of any turn:
-- it is decoded there, and its change is saved. Only then does the thread enter the book: it looks at the letters that
-- have come since, makes room, makes the call that the step asks for, and adds the turn. The call is last, since
-- nothing else may want memory while it is pending.
--
-- What a thread knows between its turns is said of all legal rows that have what its seat has seen, and not of some:
-- then it holds of those of the book at its next turn, whichever they are. Whatever others did since, the replica
-- still stands after its last turn, runs, and is sent the same letter or answer, since letters only grow and turns of
-- others leave what waits for it; so its step is a turn that may come next. Its mail then is the one that it had,
-- without the letter that it heard, and with those that came meanwhile. A stop needs no look at the book, since the
-- mail of a replica that stops is empty. At the end each thread shows that its replica has gone freely and has had all
-- its turns or has stopped; the history of the book has these turns and no others, and is legal; so the whole is the
-- part.

pub mod BaseLemmas
pub mod Begun
pub mod BoardEnds
pub mod BoardLemmas
pub mod Closed
pub mod Commits
pub mod EndLemmas
pub mod Ending
pub mod Gone
pub mod Halting
pub mod Handed
pub mod JobLemmas
pub mod Joining
pub mod Joins
pub mod Letters
pub mod Lists
pub mod MailSteps
pub mod Played
pub mod Readying
pub mod Runs
pub mod Showing
pub mod Since
pub mod Stepping
