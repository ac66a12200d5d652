-- A round: each replica that runs takes what waits for it, and its clock ticks.
use Rattle.std.specs.Prelude.{ℕ, zero, suc, ◌++◌, ◌∷◌, [], List, map, Option, None, Some, ℤ, pos, ◌+ℤ◌, ◌-ℤ◌, if◌then◌else◌}
use Rattle.std.specs.List.{flat_map, range_with_len}
use Rattle.std.specs.Int.{int_max, int_min}
use Rattle.zone_minutes.specs.declared.minute.Minute.{Minute}
use Rattle.zone_minutes.specs.declared.minute.Window.{Window}
use Rattle.cluster_sched.specs.declared.row.SchedRow.{SchedRow}
use Rattle.history.specs.Book.{Row}
use Rattle.history.specs.declared.turn.Cause.TheVariants.{Tick, Hear, Answer}
use Rattle.script_semantics.specs.Parts.{Plays, Stays, Then}
use Rattle.script_semantics.specs.Situation.{Situation, Task, Do}

-- what a clock reads that is so many minutes ahead, held within the window
abbrev pub clock_reading : Window → (at skew : ℤ) → Minute
clock_reading window at skew = record { 0 = int_max window.from.0 (int_min (at +ℤ skew) (window.until.0 -ℤ pos 1)) }

-- the answer that waits for a replica is taken
abbrev pub answer_tasks : ℕ → Option SchedRow → List Task
answer_tasks who None = []
answer_tasks who (Some row) = Do who Answer ∷ []

-- the letters of a mail are heard, in order
abbrev pub hear_tasks : ℕ → List ℕ → List Task
hear_tasks who mail = map (λ number. Do who (Hear number)) mail

-- what a replica that runs does in a round: it takes an answer that waits for it, hears its mail, and its clock ticks
abbrev pub tasks_of : Window → (at : ℤ) → Situation → ℕ → List Task
tasks_of window at situation who =
    if situation.standing.runs who
    then answer_tasks who (situation.standing.waits who)
    ++ (hear_tasks who (situation.mails who) ++ Do who (Tick (clock_reading window at (situation.skews who))) ∷ [])
    else []

-- what all do in a round, in the order of their numbers, each with the mail that it had as the round began
abbrev pub round_tasks : ℕ → Window → (at : ℤ) → Situation → List Task
round_tasks members window at situation = flat_map (tasks_of window at situation) (range_with_len 0 members)

-- a round at an instant; the letters of it join the mails behind it
abbrev pub IsRound : ℕ → Window → (at : ℤ) → Situation → List Row → Situation → Type 0
IsRound members window at = Plays members (round_tasks members window at)

-- so many rounds at an instant
abbrev pub AreRounds : ℕ → Window → (at : ℤ) → ℕ → Situation → List Row → Situation → Type 0
AreRounds members window at zero = Stays
AreRounds members window at (suc more) = Then (IsRound members window at) (AreRounds members window at more)
