-- Why the proofs hold. Names in backquotes are files of this folder and lemmas in them.
--
-- A launch's way through the turns of a book, if all goes well:
--
--   turn                  what it brings                           the ledger
--   tick                  letters and a vote: the start
--   hear, hear ..         votes, and the start is learned
--   call                  the call is pending, with its answer     gains the launch's row
--   tick, with the call   no call is pending                       as it was
--   answer                letters and a vote: the end
--   hear, hear ..         votes, and the end is learned
--
-- Whichever rows stand for a book, the votes and learned entries in them are the same, and what stands after them: by
-- induction over the turns, since a cause has one event if the rows before came to the same.

pub mod Behind
pub mod Called
pub mod Lawful
pub mod Ledgers
pub mod Longest
pub mod Others
pub mod Rows
pub mod Settled
pub mod Steps
pub mod Stops
