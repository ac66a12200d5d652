-- Why the proofs hold. Names in backquotes are files of this folder and lemmas in them.
--
-- The order of memory, disk and letters in `handle`:
--
--   memory     plan       the step, on the side: its change, its letters, and all room that it needs
--                            no letter, or out of memory: the node is as it was
--   disk       save       the change, written and synced, while the replica is as it was
--                            out of memory: the node is as it was
--                            the disk stops or fails: nothing is handed out, and the node doesn't run any more; the files
--                            stand for what the replica kept before the step, or for what it keeps after it; a node whose
--                            disk stopped keeps the step, and `reopen` says which of the two it is
--   replica    complete   the step is taken, which needs no memory and can't refuse
--   letters, learned entries, a call: whatever a stop does from now on, the files stand for the state after the step
--
-- Whether a change is kept, within whose save an armed disk stops:
--
-- | The change | Its save | It is kept if the disk stops within | and the image shows |
-- |---|---|---|---|
-- | a round, a promise or a vote | write, sync, write, sync | the third or fourth | the gate's byte as 1 |
-- | a base | cut, write, sync, write, sync | the fourth or fifth | the chooser's byte with the low bit of the other area |

pub mod AgainLemmas
pub mod ArmLemmas
pub mod AttachedLemmas
pub mod ChangeLemmas
pub mod FaultLemmas
pub mod KeptLemmas
pub mod QuietLemmas
pub mod ReopenLemmas
pub mod ReliableLemmas
pub mod RestLemmas
pub mod StepLemmas
pub mod StoppedLemmas
pub mod ToldLemmas
