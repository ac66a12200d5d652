-- Why the proofs hold. Names in backquotes are files of this folder and lemmas in them.
--
-- Each due instant has ended after a walk:
-- - A step calls by its first act alone, and at a tick: the call has the clock's reading
--   (`launch_safety::CallLemmas`: `first_call`, `call_read`).
-- - So what is held, and what is late, was called at a reading of the book's turns, and these are minutes of the
--   window (`launch_safety::ReadLemmas`: `held_by`, `book_inside`).
-- - Each part of a script comes to what its turns make of the standing and of the latest reading (`PartLemmas`:
--   `parts_come`, `walks_come`, `latest_by`, `each_by`).
-- - While it settles or drains at a minute, all clocks are right and read it (`DrainLemmas`: `settles_by`,
--   `drains_by`).
-- - The whole log has nothing left to do at the window's last minute, so each due instant, by the versions in force
--   then, has ended in it (`ScriptLemmas`: `script_settled`; `SettledLemmas`: `ended`).
-- - If a replica's launch table asks for nothing at an instant, and the log adopts no version, each due instant up to
--   it has ended in the log (`SettledLemmas`: `table_of`, `over`).
-- - A walk past an instant comes to such a table at it before a clock reads a later one: it is drained there, or
--   asks for nothing there (`WalkWhole`: `walks_past`, `passes`).
-- - So the row that is held for it was called no later and no sooner than at it, and its kind is a launch
--   (`SettledLemmas`: `called`).
-- - A job without a `/` in its name is started at due instants alone, by the version in force then, so that with long
--   grace each row that is held of one is a launch (`SettledLemmas`: `started_due`, `launched`).
-- - Three rounds drain a minute of a job that is due at each: its start, its call, its end (`SomeRounds`:
--   `launches`; `SomeWalk`: `some_walk`).
--
-- A script ends quietly:
-- - A part of a legal book within the limits is within them, and so is what comes before it and after it
--   (`SpanLemmas`: `front_of`, `back_of`).
-- - What settling begins with leaves no fault and no letter, so that its campaign is that of settling
--   (`QuietDrainLemmas`: `start_faultless`, `settled_leads`).
-- - Each round of a drain brings the coordinator nearer to leading, and as it ends it leads (`QuietDrainLemmas`:
--   `led_in`).
-- - Each minute of a walk is drained by one that leads, and after the last of them nothing is asked for
--   (`WalkLemmas`: `walked_in`, `led_until`).
-- - The walk after a script is a walk from what the script has left (`ScriptLemmas`: `walks_behind`, `script_ends`).
--
-- A due instant, by the versions in force then, that no clock of the script has passed is called at it:
-- - The walk past it is one to it, which goes on; behind that each clock reads a later instant (`StopLemmas`:
--   `walk_stops`, `walks_after`).
-- - So the book ends quietly there, and the log that it has by then is settled at the instant (`AtOnceLemmas`: `quiet`,
--   `settled`).
-- - A version that is adopted behind that log was asked for in a turn that reads a later instant: by one before it the
--   version would have been adopted there (`AtOnceLemmas`: `front_late`, `back_late`, `adopted_late`).
-- - So the versions in force up to the instant are those of that log, in which each due instant has ended; its row was
--   called at it (`AtOnceLemmas`: `same_version`, `called_upto`, `called_on`).
--
-- All of it as one definition:
-- - Each part is a law of a crate below: history's, launch_safety's, run_outcome's and run_outcome's (`WholeLemmas`:
--   `script_whole`).
-- - A book has one log, and that has one launch table, so that what is said of one holds of each (`SaidLemmas`:
--   `the_log`, `said_settled`).
-- - The book of run_outcome in which a clock ticks in the script is within the limits (`SomeWhole`: `some_whole`).
--
-- Dates of jobs of an anacrontab:
-- - Each job has a row in the launch table of a replica, which is that of a prefix of the log
--   (`launch_safety::SettledLemmas`: `row_of`; `FrontLemmas`: `table_at`).
-- - A launch that has ended before a clock has passed the instant was called before it, or then and on its date
--   (`DateLemmas`: `launched`).
-- - A void of the date or a later one was called at an earlier instant (`DateLemmas`: `void_later`).
-- - If the table asks for nothing then, a job that may open was launched then, or its launch is open on a later
--   date, or a void (`DateLemmas`: `opened`, `ended_as`, `not_started`).
-- - A start on a later date was read at an earlier instant, since no clock has passed this one (`DateLemmas`:
--   `started_later`).
-- - The walk comes to such a table at each instant that no clock of the script has passed; of no command there is no
--   clock (`WholeDates`: `each_date`, `none_read`).
-- - In a walk from the window's first minute each clock reads its minute, no replica stops, and each turn that reads
--   an instant stands in a prefix of the book that is drained at it (`Minutes`: `drained_on`, `all_drained`).
-- - By then all have learned more than the slot of a start that was asked for in such a turn, or else it could be
--   made still (`Unscripted`: `up`, `not_last`, `below`).
-- - So it isn't open any more, since it could be called then; and what ended it was called no later and no sooner
--   than at its reading (`Unscripted`: `not_open`, `no_later`, `no_sooner`, `called_then`).
-- - So nothing is barred (`OpenedDates`: `not_started`, `not_voided`).
-- - Starts stand in the log in the order of their readings, so what a launch table remembers as a job's last launch
--   is the last that was called before (`Unscripted`: `in_order`; `OpenedDates`: `launched_before`, `last_called`,
--   `opened_by`).
-- - Three rounds drain the minute of a job that may open: its start, its call, its end (`SomeDaily`: `opens`;
--   `SomeTurns`: `starts`, `calls`, `ends`; `SomeDate`: `launches`, `some_date`).
pub mod AtOnceLemmas
pub mod DateLemmas
pub mod DrainLemmas
pub mod FrontLemmas
pub mod Minutes
pub mod OpenedDates
pub mod PartLemmas
pub mod Passed
pub mod QuietDrainLemmas
pub mod SaidLemmas
pub mod ScriptLemmas
pub mod SettledLemmas
pub mod SomeDaily
pub mod SomeDate
pub mod SomeMoves
pub mod SomeObeyed
pub mod SomeRounds
pub mod SomeTable
pub mod SomeTurns
pub mod SomeWalk
pub mod SomeWhole
pub mod SpanLemmas
pub mod StopLemmas
pub mod Unscripted
pub mod WalkLemmas
pub mod WalkWhole
pub mod WholeDates
pub mod WholeLemmas
