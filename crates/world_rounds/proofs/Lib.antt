-- Why the proofs hold. Names in backquotes are files of this folder and lemmas in them.
--
-- The way of a turn through world, node, store, disk and book:
--
--   world                  node                     store                  disk                book
--   take_step
--     | an answer, a letter
--     | or a clock's reading
--     +--------------------> handle
--     |                        | plan: the step, on the side
--     |                        | its change, if any
--     |                        +-----------------------> save
--     |                        |                           | its record
--     |                        |                           +--------------> write, sync
--     |                        |                           | the record's gate
--     |                        |                           +--------------> write, sync
--     |                        | saved                     |
--     |                        | <-------------------------+
--     |                        | complete: the replica takes the step
--     | letters, votes, entries, a call
--     | <----------------------+
--     |      so far it is a step and no turn: the replica is ahead of the book
--   commit_step
--     | room for the turn and its letters
--     +-------------------------------------------------------------------------------------> reserve
--     | the call that the step asks for, if any, with the replica's fate
--     +-------------------------------------------------------------------------------------> call, at the ledger
--     | the turn, with what the step brings
--     +-------------------------------------------------------------------------------------> commit
--   note_step
--     | an answer waits for the replica, and its fate is spent
--   deliver
--       the letters join the mails, after the last turn of a round
--
-- A round has two phases. First each replica takes its steps on its own, with what waited for it as the round began;
-- then their turns join the book in the order of the replicas' numbers, and last the letters join the mails. Between
-- the phases a replica is some steps ahead of the book, and other replicas' turns leave it there, so lanes can share
-- out the first phase. While a disk is armed a round has one phase: the replicas have their parts one after another,
-- and each step becomes a turn before the next one is taken; a replica whose disk stops within a step has no more
-- turns in the round.
--
-- A drain comes to an end: within four rounds one replica leads, then each round leaves it fewer until it is at rest,
-- and five rounds later all have learned as much. A world whose book has 2^59 turns, or a letter of 2^31 packets, runs
-- out of memory.

pub mod HearLemmas
pub mod AfterTurn
pub mod Worlds
pub mod Chains
pub mod StepsAt
pub mod Delivery
pub mod RoundLemmas
pub mod RoundsOfAll
pub mod Starting
pub mod Setting
pub mod Campaigns
pub mod Waiting
pub mod Repeats
pub mod Halts
pub mod Arrivals
pub mod Restarts
pub mod QuietLemmas
pub mod ClearLemmas
pub mod DrainLemmas
pub mod WalkLemmas
pub mod LoopLemmas
pub mod LaneLemmas
pub mod Ended
pub mod Apart
pub mod Together
pub mod Limits
pub mod Led
pub mod OneByOne
pub mod InOrder
pub mod Next
