-- Turns of three replicas in which a leader proposes a start and stops, another takes over, and the launch is called and ended.
--
-- P is a prepare, p a promise, A an accept, a what answers it, K an entry that was chosen, n a refusal; a number is that of
-- the letter. The vote of turn 4 outlives its leader: replica 1 sends it in turn 10, so that replica 2 can propose nothing else at
-- that slot. The launch is called twice and held once. Its end, which turn 20 proposes, says what is held.
--
--   turn   replica 0            replica 1               replica 2              chosen        held
--     0    campaign P0, P1
--     1                         hears 0: p2
--     2    hears 2: leads
--     3    start: votes A3, A4
--     4                         hears 3: votes a5
--     5    stops
--     6    starts again
--     7                         stops
--     8                         starts again
--     9                                                 campaign P6, P7
--    10                         hears 7: p8, its vote
--    11                                                 hears 8: leads
--    12                                                 start: votes A9, A10
--    13                         hears 10: votes a11                            the start
--    14                                                 hears 11: K12, K13
--    15    hears 12: learns
--    16                         hears 3, late: n14
--    17                                                 calls: goes late
--    18    (the late call arrives)                                                           its row
--    19                                                 calls: that row
--    20                                                 answer: votes A15, A16
use Rattle.std.specs.Prelude.{ℕ, ◌<◌, ◌^◌, ℤ, false, List, [], ◌∷◌, None, Some, FitsSigned}
use Rattle.std.specs.Int.{w64}
use Rattle.zone_minutes.specs.Window.{IsInWindow}
use Rattle.due_set.specs.Table.{Table}
use Rattle.paxos_base.specs.declared.entry.Entry.{Entry}
use Rattle.paxos_base.specs.declared.entry.Entry.TheVariants as entry
use Rattle.paxos_base.specs.declared.entry.Kind.TheVariants.{Launch}
use Rattle.paxos_base.specs.declared.rows.JobRow.{JobRow}
use Rattle.cluster_sched.specs.declared.fate.Fate.TheVariants.{Done, Late}
use Rattle.cluster_sched.specs.declared.row.SchedRow.{SchedRow}
use Rattle.launch_machine.specs.Answers.{IsIntent}
use Rattle.launch_machine.specs.Clerk.{first_rows, rows_after}
use Rattle.launch_machine.specs.declared.machine.Intent.TheVariants as intent
use Rattle.agreement.specs.World.{Learning}
use Rattle.history.specs.declared.turn.Cause.TheVariants.{Campaign, Tick, Hear, Answer}
use Rattle.history.specs.declared.turn.Turn.{Turn}
use Rattle.history.specs.declared.turn.Turn.TheVariants.{Did, Stopped, Restarted, Arrived}

-- the start of a launch at a clock reading
abbrev pub start_of : ℕ → (at now : ℤ) → Entry
start_of job at now = entry.Start job at now

-- the launch table after that start alone
abbrev pub started_rows : Table → ℕ → (at now : ℤ) → List JobRow
started_rows table job at now = rows_after table (first_rows table) (start_of job at now)

-- At a clock reading in its window the table asks for the start of a launch, and then for its call.
pub record AsksFor (table : Table) (job : ℕ) (at now : ℤ) : Type 0 where
  pub inside : IsInWindow table.window now
  pub start : IsIntent table (first_rows table) now (intent.Start job at)
  pub call : IsIntent table (started_rows table job at now) now (intent.Call job at Launch)
  pub job_fits : job < 2 ^ 32
  pub at_fits : FitsSigned w64 at
  pub now_fits : FitsSigned w64 now

-- the row of the launch, as replica 2 calls it
abbrev pub launch_row : ℕ → (at now : ℤ) → SchedRow
launch_row job at now = record { name = record { job = job; at = at }; kind = Launch; now = record { 0 = now }; by = 2 }

-- Replica 0 leads by the promise of replica 1, and proposes a start, for which replica 1 votes. Both stop, and start again. Replica
-- 2 leads by the promise of replica 1, which tells that vote; it proposes the start once more, and learns that it is chosen.
-- Replica 0 learns it too; replica 1 hears the first proposal again, late, and refuses. Replica 2 calls the scheduler: the first
-- call goes late, and arrives; the second is answered by it. Then it proposes the launch's end.
abbrev pub takeover : ℕ → (at now : ℤ) → List Turn
takeover job at now =
    Did 0 Campaign None
    ∷ Did 1 (Hear 0) None
    ∷ Did 0 (Hear 2) None
    ∷ Did 0 (Tick (record { 0 = now })) None
    ∷ Did 1 (Hear 3) None
    ∷ Stopped 0 None false
    ∷ Restarted 0
    ∷ Stopped 1 None false
    ∷ Restarted 1
    ∷ Did 2 Campaign None
    ∷ Did 1 (Hear 7) None
    ∷ Did 2 (Hear 8) None
    ∷ Did 2 (Tick (record { 0 = now })) None
    ∷ Did 1 (Hear 10) None
    ∷ Did 2 (Hear 11) None
    ∷ Did 0 (Hear 12) None
    ∷ Did 1 (Hear 3) None
    ∷ Did 2 (Tick (record { 0 = now })) (Some (record { row = launch_row job at now; fate = Late; answer = None }))
    ∷ Arrived 0
    ∷ Did 2 (Tick (record { 0 = now })) (Some (record { row = launch_row job at now; fate = Done; answer = Some (launch_row job at now) }))
    ∷ Did 2 Answer None
    ∷ []

-- the start, as replica 2 and then replica 0 have learned it
abbrev pub learned_twice : ℕ → (at now : ℤ) → List Learning
learned_twice job at now =
    record { by = 2; slot = 0; entry = start_of job at now } ∷ record { by = 0; slot = 0; entry = start_of job at now } ∷ []
