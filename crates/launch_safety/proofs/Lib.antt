-- Why the proofs hold. Names in backquotes are files of this folder and lemmas in them.
--
-- What the scheduler holds fits the log of each legal book, turn by turn:
-- - A step calls and proposes by its first act alone, as the replica stands; its other votes were asked for in a
--   letter (`history::PlainLemmas`: `step_plain`, `step_calls`, `step_origin`).
-- - More votes leave what is chosen, so the log of later turns goes on after the log of earlier ones (`LogLemmas`:
--   `log_goes_on`).
-- - A launch that is open was started under the version in force, since none is adopted while one is open
--   (`OpenLemmas`: `start_under`).
-- - A replica's launch table is that of a prefix of the log, so what it calls was started there: the row is backed
--   (`Turns`: `turn_calls`).
-- - A row that is held or late is that of such a call, and what backs it stays in the log (`Invariant`: `held`,
--   `late`; `Books`: `row_fits`).
-- - The answer to a call is the row that is held then, and stays held while it waits (`Invariant`: `waits`; `Books`:
--   `made_held`).
-- - An end of a replica's own accord is the answer that waited for it, so it says what is held (`Turns`:
--   `answer_held`, `enters`).
-- - A start, an end or an adoption of its own accord takes effect at its prefix, and is proposed at the slot of that
--   prefix (`Turns`: `enters`).
-- - A vote that binds a proposal, and one that was asked for, was cast for that slot before: so each vote says what
--   is held, and takes effect at its slot (`Invariant`: `says`, `works`; `Turns`: `proposes`, `turn_votes`).
-- - A chosen entry has a vote, so each end of the log says what is held, and each entry but a no-op takes effect
--   (`Whole`: `end_held`, `entry_takes`).
-- - So the entries leave a launch table one after another, a job's starts come in order, and its launches are a
--   period apart (`Whole`: `log_clerk`, `whole`).
-- - An entry for a version takes effect, so a log that adopts none has no such entry, and the first version stays in
--   force (`Whole`: `no_version`, `front_force`); of a table of one version each log is such (`Whole`: `none_adopted`).
--
-- Versions are adopted one after another, each by the one in force then and no sooner than that was (`VersionLemmas`:
-- `behind_from`).
--
-- Each start, each adoption and each call was asked for at its reading:
-- - A step votes for what a letter asks for, or offers an entry by its first act; it offers a start or an adoption at a
--   tick alone, and that is what its launch table asks for (`Offers`: `step_offers`, `step_votes`).
-- - An offer that a vote binds is of an entry that was voted for at the slot before; what a letter asks for was
--   voted for by its sender (`Asking`: `bound_before`, `asked_before`).
-- - So each vote of a turn was cast before for its slot and entry, or is asked for in the turn; and so is each call
--   (`Asking`: `row_votes`, `row_call`).
-- - This holds turn by turn (`WholeReadings`: `next_asked`, `book_asked`).
-- - A replica that doesn't stop forgets nothing that it has learned (`Rises`: `rises`).
pub mod Alone
pub mod Asking
pub mod Books
pub mod CallLemmas
pub mod CoverLemmas
pub mod Dates
pub mod EffectLemmas
pub mod Ended
pub mod FitLemmas
pub mod InTime
pub mod Invariant
pub mod LogLemmas
pub mod Offers
pub mod OnceLemmas
pub mod OpenLemmas
pub mod OrderLemmas
pub mod PartLemmas
pub mod PeriodLemmas
pub mod ReadLemmas
pub mod Rises
pub mod SettledLemmas
pub mod SomeAdoption
pub mod Takeover
pub mod Turns
pub mod VersionLemmas
pub mod Void
pub mod VoidLemmas
pub mod Whole
pub mod WholeReadings
