-- A ledger, and what becomes of its calls: they are answered, lost on the way there or back, or late.
use Rattle.std.specs.Prelude.{◌≡◌, ◌⊎◌, ◌↔◌, ℕ, ◌+◌, ◌≤◌, ⊤, Bool, false, IsTrue, List, [], ◌∷◌, ◌++◌, length, Option, None, Some, Result, Ok, Err, MatchResult, unwrap_or}
use Rattle.cron_io.specs.Faults.{next_count}
use Rattle.cron_io.specs.declared.out_of_memory.OutOfMemory.{OutOfMemory as Refusal}
use Rattle.cluster_sched.specs.declared.fate.Fate.{Fate}
use Rattle.cluster_sched.specs.declared.fate.Fate.TheVariants.{Done, LostBefore, LostAfter, Late}
use Rattle.cluster_sched.specs.declared.fault.CallFault.{CallFault}
use Rattle.cluster_sched.specs.declared.fault.CallFault.TheVariants.{Failed, OutOfMemory}
use Rattle.cluster_sched.specs.declared.row.Name.{Name}
use Rattle.cluster_sched.specs.declared.row.SchedRow.{SchedRow}
use Rattle.cluster_sched.specs.Held.{NoneUnder, IsFirstUnder, IsLookedUp}

-- what a ledger holds, which calls are late, the fate of the next call, how many calls failed, and how many more rows can
-- be held without memory
pub record Holdings : Type 0 where
  pub held : List SchedRow
  pub late : List SchedRow
  pub fate : Fate
  pub faults : ℕ
  pub spare : ℕ

-- the ledger stands as it did; its room isn't told
pub record IsUnchanged (old new : Holdings) : Type 0 where
  pub held : new.held ≡ old.held
  pub late : new.late ≡ old.late
  pub fate : new.fate ≡ old.fate
  pub faults : new.faults ≡ old.faults

-- the count of faults after an answer
abbrev pub faults_after : {T : Type 0} → ℕ → Result T CallFault → ℕ
faults_after faults (Ok answer) = faults
faults_after faults (Err Failed) = next_count faults
faults_after faults (Err OutOfMemory) = faults

-- ---- looks

-- the answer to a look, by its fate and the row that is held under the name
abbrev pub look_answer : Fate → Option SchedRow → Result (Option SchedRow) CallFault
look_answer Done found = Ok found
look_answer LostBefore found = Err Failed
look_answer LostAfter None = Ok None
look_answer LostAfter (Some first) = Err Failed
look_answer Late found = Ok found

-- a look that fails or finds a row spends the fate
abbrev pub fate_after_look : Fate → Result (Option SchedRow) CallFault → Fate
fate_after_look before (Ok None) = before
fate_after_look before (Ok (Some first)) = Done
fate_after_look before (Err fault) = Done

-- a ledger is looked into: nothing but its fate and its count of faults changes
pub record LooksUp (old : Holdings) (name : Name) (result : Result (Option SchedRow) CallFault) (new : Holdings) : Type 0 where
  pub found : Option SchedRow
  pub is_found : IsLookedUp old.held name found
  pub answer : result ≡ look_answer old.fate found
  pub held : new.held ≡ old.held
  pub late : new.late ≡ old.late
  pub fate : new.fate ≡ fate_after_look old.fate result
  pub faults : new.faults ≡ faults_after old.faults result
  pub spare : new.spare ≡ old.spare

-- ---- creations, and calls by a name

-- a row is added only where none is held under its name
abbrev pub added : SchedRow → Option SchedRow → List SchedRow
added row None = row ∷ []
added row (Some first) = []

-- what comes of a call: its answer, and the rows that join those that are held and those that are late
pub record Outcome : Type 0 where
  pub answer : Result SchedRow CallFault
  pub held : List SchedRow
  pub late : List SchedRow

-- what comes of a creation, by its fate and the row that is held under the name
abbrev pub creation : Fate → SchedRow → Option SchedRow → Outcome
creation Done row found = record { answer = Ok (unwrap_or found row); held = added row found; late = [] }
creation LostBefore row found = record { answer = Err Failed; held = []; late = [] }
creation LostAfter row found = record { answer = Err Failed; held = added row found; late = [] }
creation Late row found = record { answer = Err Failed; held = []; late = added row found }

-- What comes of a call by a name. Where a row is held, it is the look that answers or fails, and no row joins.
abbrev pub call : Fate → SchedRow → Option SchedRow → Outcome
call fate row None = creation fate row None
call Done row (Some first) = record { answer = Ok first; held = []; late = [] }
call LostBefore row (Some first) = record { answer = Err Failed; held = []; late = [] }
call LostAfter row (Some first) = record { answer = Err Failed; held = []; late = [] }
call Late row (Some first) = record { answer = Ok first; held = []; late = [] }

-- a call is answered so, its rows join the others, and its fate is spent
pub record ComesTo (outcome : Outcome) (old : Holdings) (result : Result SchedRow CallFault) (new : Holdings) : Type 0 where
  pub answer : result ≡ outcome.answer
  pub held : new.held ≡ old.held ++ outcome.held
  pub late : new.late ≡ old.late ++ outcome.late
  pub fate : new.fate ≡ Done
  pub faults : new.faults ≡ faults_after old.faults result
  pub spare : old.spare ≤ new.spare + length outcome.held

-- memory is asked for where a row is to be held and there is no room, or is to be late
abbrev pub AsksMemory : Fate → ℕ → Type 0
AsksMemory Done spare = spare ≡ 0
AsksMemory LostBefore spare = ⊥
AsksMemory LostAfter spare = spare ≡ 0
AsksMemory Late spare = ⊤

-- there is no memory for a row that is to join the others, and nothing changes
pub record LacksMemory (fate : Fate) (old : Holdings) (row : SchedRow) (new : Holdings) : Type 0 where
  pub none : NoneUnder old.held row.name
  pub asks : AsksMemory fate old.spare
  pub same : IsUnchanged old new
  pub spare : old.spare ≤ new.spare

-- a row is created in a ledger
pub record CreatesRow (old : Holdings) (row : SchedRow) (result : Result SchedRow CallFault) (new : Holdings) : Type 0 where
  pub found : Option SchedRow
  pub is_found : IsLookedUp old.held row.name found
  pub comes : ComesTo (creation old.fate row found) old result new

-- a ledger is called by a name
pub record CallsByName (old : Holdings) (row : SchedRow) (result : Result SchedRow CallFault) (new : Holdings) : Type 0 where
  pub found : Option SchedRow
  pub is_found : IsLookedUp old.held row.name found
  pub comes : ComesTo (call old.fate row found) old result new

-- what a creation does, with and without memory
abbrev pub Creates : Holdings → SchedRow → Result SchedRow CallFault → Holdings → Type 0
Creates old row result new =
    CreatesRow old row result new ⊎ ((result ≡ Err OutOfMemory) × LacksMemory old.fate old row new)

-- what a call by a name does, with and without memory
abbrev pub Calls : Holdings → SchedRow → Result SchedRow CallFault → Holdings → Type 0
Calls old row result new =
    CallsByName old row result new ⊎ ((result ≡ Err OutOfMemory) × LacksMemory old.fate old row new)

-- ---- arrivals

-- a row is held where none is held under its name, and nothing else changes
pub record HoldsRow (old : Holdings) (row : SchedRow) (found : Option SchedRow) (new : Holdings) : Type 0 where
  pub is_found : IsLookedUp old.held row.name found
  pub held : new.held ≡ old.held ++ added row found
  pub late : new.late ≡ old.late
  pub fate : new.fate ≡ old.fate
  pub faults : new.faults ≡ old.faults
  pub spare : old.spare ≤ new.spare + length (added row found)

-- a late call arrives, and the answer is whether its row is now the one under its name
pub record Arrives (old : Holdings) (row : SchedRow) (stands : Bool) (new : Holdings) : Type 0 where
  pub found : Option SchedRow
  pub holds : HoldsRow old row found new
  pub told : IsTrue stands ↔ IsFirstUnder new.held row.name row

-- what the arrival of a late call does, with and without memory; where there is no call of that number, it does nothing
abbrev pub IsArrival : Option SchedRow → Holdings → Result Bool Refusal → Holdings → Type 0
IsArrival None old result new = (result ≡ Ok false) × (new ≡ old)
IsArrival (Some row) old result new =
    MatchResult result (λ stands. Arrives old row stands new) (λ _. LacksMemory Done old row new)
