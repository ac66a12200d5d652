-- Why the proofs hold. Names in backquotes are files of this folder and lemmas in them.
--
-- No two entries are chosen for one slot, in the words of "Paxos Made Simple":
-- - A replica that has promised a ballot votes in no lower one, and its stored vote at a slot is its latest (P1a)
--   (`Kept`: `below`, `latest`, `stored`).
-- - Proposals have different ballots: a ballot is one proposer's, who proposes one entry a slot in it (`Kept`:
--   `accepts`, `proposed`, `rounds`, `owns`, `once`).
-- - A promise has all votes below its ballot, and they stay all (`Told`: `promises`, `Heeds`).
-- - A leader has heard a majority, and holds at each slot the highest vote that these have cast (`Told`: `terms`,
--   `IsRallied`, `IsLed`).
-- - So what it proposes is what every older vote of the majority gave way to (P2c) (`Safe`: `proposal_is_safe`).
-- - Two majorities meet, so each vote above a chosen entry is for that entry (P2b), and two chosen ones are one (P2)
--   (`OneValue`: `later_votes`, `one_value`).
-- - A flight counts votes that were cast for it, so what is learned was chosen (`Chosen`, `ChosenLemmas`).
-- - A log exists, and there is one; each launch table is that of a prefix of it (`LogLemmas`, `Tables`).
-- - A step, a stop in its midst and a restart are acts that may be done (`Transitions`).

pub mod Answering
pub mod Chosen
pub mod ChosenLemmas
pub mod Growing
pub mod GuardLemmas
pub mod Kept
pub mod KeptLemmas
pub mod LogLemmas
pub mod OneValue
pub mod Safe
pub mod Tables
pub mod Told
pub mod ToldLemmas
pub mod Transitions
pub mod Whole
