-- The room of a ledger, and where memory is wanted.
use Rattle.std.proofs.Common.{◌≡◌, ◌≢◌, ℕ, ◌+◌, ◌≤◌, ◌<◌, Bool, List, ◌++◌, length, Option, None, Some, Result, Ok, Err, ap, ◌∙◌, inl, inr, arith, length-append}
use Rattle.cron_io.specs.declared.out_of_memory.OutOfMemory.{OutOfMemory as Refusal}
use Rattle.cluster_sched.specs.Fates.{Holdings, added, creation, call, LacksMemory, Creates, Calls, IsArrival}
use Rattle.cluster_sched.specs.declared.fate.Fate.{Fate}
use Rattle.cluster_sched.specs.declared.fate.Fate.TheVariants.{Done, LostBefore, LostAfter, Late}
use Rattle.cluster_sched.specs.declared.fault.CallFault.{CallFault}
use Rattle.cluster_sched.specs.declared.fault.CallFault.TheVariants.{OutOfMemory}
use Rattle.cluster_sched.specs.declared.row.SchedRow.{SchedRow}

-- how many rows a ledger holds or can hold without memory
abbrev pub capacity : Holdings → ℕ
capacity ledger = length ledger.held + ledger.spare

-- rows that join, and the room that is left
joins : (old new : Holdings) (rows : List SchedRow) → new.held ≡ old.held ++ rows → old.spare ≤ new.spare + length rows → capacity old ≤ capacity new
joins old new rows held spare =
    let long : length new.held ≡ length old.held + length rows = ap length held ∙ length-append old.held rows in
    omega (arith, long, spare)

lacks : (armed : Fate) (old new : Holdings) (row : SchedRow) → LacksMemory armed old row new → capacity old ≤ capacity new
lacks armed old new row l = let long : length new.held ≡ length old.held = ap length l.same.held in omega (arith, long, l.spare)

pub Creates-capacity : (old new : Holdings) (row : SchedRow) (result : Result SchedRow CallFault) → Creates old row result new → capacity old ≤ capacity new
Creates-capacity old new row result (inl c) = joins old new (creation old.fate row c.found).held c.comes.held c.comes.spare
Creates-capacity old new row result (inr l) = lacks old.fate old new row l.1

pub Calls-capacity : (old new : Holdings) (row : SchedRow) (result : Result SchedRow CallFault) → Calls old row result new → capacity old ≤ capacity new
Calls-capacity old new row result (inl c) = joins old new (call old.fate row c.found).held c.comes.held c.comes.spare
Calls-capacity old new row result (inr l) = lacks old.fate old new row l.1

pub IsArrival-capacity : (late : Option SchedRow) (old new : Holdings) (result : Result Bool Refusal) → IsArrival late old result new → capacity old ≤ capacity new
IsArrival-capacity None old new result none = let e = none.1 in rw e (omega arith)
IsArrival-capacity (Some row) old new (Ok stands) arrives = joins old new (added row arrives.found) arrives.holds.held arrives.holds.spare
IsArrival-capacity (Some row) old new (Err refusal) l = lacks Done old new row l

-- what comes of a call is never want of memory
call-answered : (fate : Fate) (row : SchedRow) (found : Option SchedRow) → Err OutOfMemory ≢ (call fate row found).answer
call-answered Done row None e = absurd cc
call-answered LostBefore row None e = absurd cc
call-answered LostAfter row None e = absurd cc
call-answered Late row None e = absurd cc
call-answered Done row (Some first) e = absurd cc
call-answered LostBefore row (Some first) e = absurd cc
call-answered LostAfter row (Some first) e = absurd cc
call-answered Late row (Some first) e = absurd cc

creation-answered : (fate : Fate) (row : SchedRow) (found : Option SchedRow) → Err OutOfMemory ≢ (creation fate row found).answer
creation-answered Done row found e = absurd cc
creation-answered LostBefore row found e = absurd cc
creation-answered LostAfter row found e = absurd cc
creation-answered Late row found e = absurd cc

pub Calls-lacks : (old new : Holdings) (row : SchedRow) → Calls old row (Err OutOfMemory) new → LacksMemory old.fate old row new
Calls-lacks old new row (inl c) = absurd (call-answered old.fate row c.found c.comes.answer)
Calls-lacks old new row (inr l) = l.1

pub Creates-lacks : (old new : Holdings) (row : SchedRow) → Creates old row (Err OutOfMemory) new → LacksMemory old.fate old row new
Creates-lacks old new row (inl c) = absurd (creation-answered old.fate row c.found c.comes.answer)
Creates-lacks old new row (inr l) = l.1

-- with room, a call that is to be answered asks for no memory
pub LacksMemory-done : (old new : Holdings) (row : SchedRow) → LacksMemory old.fate old row new → old.fate ≡ Done → 0 < old.spare → ⊥
LacksMemory-done old new row l done room =
    let none : old.spare ≡ 0 = rw done at l.asks in
    omega (arith, none, room)
