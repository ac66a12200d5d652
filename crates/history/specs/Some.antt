-- Some turns of two replicas over a table without jobs.
use Rattle.std.specs.Prelude.{pos, true, false, List, [], ◌∷◌, None, Some}
use Rattle.due_set.specs.Table.{Table}
use Rattle.launch_machine.specs.Clerk.{first_rows}
use Rattle.history.specs.Book.{Standing, first_standing}
use Rattle.history.specs.declared.turn.Cause.TheVariants.{Campaign, Tick, Hear}
use Rattle.history.specs.declared.turn.Turn.{Turn}
use Rattle.history.specs.declared.turn.Turn.TheVariants.{Did, Stopped, Restarted}

-- a table without jobs, of a window of one minute
abbrev pub no_jobs : Table
no_jobs = record { window = record { from = record { 0 = pos 0 }; until = record { 0 = pos 1 } }; grace = 0; zones = []; jobs = []; later = [] }

-- Replica 0 stands for leader; replica 1 hears of it and promises; replica 0 hears the promise and leads; its clock ticks; replica
-- 1 hears the first letter once more, and refuses. Then replica 0 stops, and starts again; and replica 1 stops while it stands for
-- leader, with its ballot kept, and starts again.
abbrev pub some_turns : List Turn
some_turns =
    Did 0 Campaign None
    ∷ Did 1 (Hear 0) None
    ∷ Did 0 (Hear 1) None
    ∷ Did 0 (Tick (record { 0 = pos 0 })) None
    ∷ Did 1 (Hear 0) None
    ∷ Stopped 0 None false
    ∷ Restarted 0
    ∷ Stopped 1 (Some Campaign) true
    ∷ Restarted 1
    ∷ []

-- what stands before the first turn of two replicas over that table
abbrev pub beginning : Standing
beginning = first_standing 2 (first_rows no_jobs)
