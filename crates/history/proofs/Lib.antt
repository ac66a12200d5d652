-- Why the proofs hold. Names in backquotes are files of this folder and lemmas in them.
--
-- No number of a legal book is above the number of its turns:
-- - A step stands for leader one round above all that its replica has tried and seen, proposes at its prefix, and
--   answers within what it has heard (`Grows`: `step_grows`).
-- - What may be done and grows within a bound keeps it: a vote is cast for what was proposed, a message names what
--   is promised, voted for or learned (`Bounded`: `bounded_after`).
-- - What is learned was chosen, so that for each slot below a prefix a vote was cast (`Bounded`: `prefix_low`).
-- - So a step takes the bound one higher, and a start doesn't, and a turn has one step at most (`TurnBounds`:
--   `bounded_transition`; `BookLemmas`: `stands`).
-- - An entry raises the counts of a launch table by one at most (`Counts`: `applied_within`).
pub mod Acts
pub mod Agreement
pub mod Asks
pub mod BookLemmas
pub mod Bounded
pub mod Counts
pub mod FrontLemmas
pub mod Grows
pub mod Heard
pub mod Keeping
pub mod Launched
pub mod Launches
pub mod Leaves
pub mod PlainLemmas
pub mod Posted
pub mod Reached
pub mod Refused
pub mod Rounds
pub mod Snapshots
pub mod SomeBook
pub mod Spelled
pub mod Standings
pub mod TableRows
pub mod Takeover
pub mod TurnBounds
pub mod Turns
pub mod Within
