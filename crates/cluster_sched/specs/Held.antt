-- What a scheduler holds: under each name the first row that was created there.
-- Source: "Reliable Cron across the Planet": a launch is looked up by a name that was computed beforehand.
use Rattle.std.specs.Prelude.{◌≡◌, ◌≢◌, ◌⊎◌, List, [], ◌∷◌, ◌++◌, All, AllPairs, Option, None, Some, Result, Err}
use Rattle.cluster_sched.specs.declared.fault.CallFault.{CallFault}
use Rattle.cluster_sched.specs.declared.fault.CallFault.TheVariants.{Failed}
use Rattle.cluster_sched.specs.declared.row.Name.{Name}
use Rattle.cluster_sched.specs.declared.row.SchedRow.{SchedRow}

-- each row of a map is under its own name
abbrev pub AreUnderTheirNames : List (Name × SchedRow) → Type 0
AreUnderTheirNames entries = All (λ entry. entry.1.name ≡ entry.0) entries

-- no row is held under the name
abbrev pub NoneUnder : List SchedRow → Name → Type 0
NoneUnder held name = All (λ row. row.name ≢ name) held

-- the row is the first that is held under the name
pub record IsFirstUnder (held : List SchedRow) (name : Name) (row : SchedRow) : Type 0 where
  pub before : List SchedRow
  pub after : List SchedRow
  pub parts : held ≡ before ++ row ∷ after
  pub named : row.name ≡ name
  pub first : NoneUnder before name

-- no two rows are held under one name
abbrev pub AreNamedOnce : List SchedRow → Type 0
AreNamedOnce held = AllPairs (λ a b. a.name ≢ b.name) held

-- the answer to a look: the first row under the name, or none
abbrev pub IsLookedUp : List SchedRow → Name → Option SchedRow → Type 0
IsLookedUp held name None = NoneUnder held name
IsLookedUp held name (Some row) = IsFirstUnder held name row

-- after a call the rows are the same, or the call's row is the last of them, whose name was new
abbrev pub FollowsCall : List SchedRow → SchedRow → List SchedRow → Type 0
FollowsCall old row new = (new ≡ old) ⊎ (NoneUnder old row.name × (new ≡ old ++ row ∷ []))

-- A call goes late: nothing is held under its row's name, what is held stays, and the row joins the late rows at their
-- end, whatever else is late.
pub record GoesLate (held held' late late' : List SchedRow) (row : SchedRow) : Type 0 where
  pub none : NoneUnder held row.name
  pub stays : held' ≡ held
  pub joins : late' ≡ late ++ row ∷ []

-- after a call the late rows are the same, or the call failed and goes late
abbrev pub MayGoLate : List SchedRow → List SchedRow → List SchedRow → List SchedRow → SchedRow → Result SchedRow CallFault → Type 0
MayGoLate held held' late late' row result = (late' ≡ late) ⊎ ((result ≡ Err Failed) × GoesLate held held' late late' row)

-- A call is answered by the first row under its name, whether it was held before, and nothing changed, or is the row of
-- the call itself.
abbrev pub Answers : List SchedRow → SchedRow → SchedRow → List SchedRow → Type 0
Answers old row first new =
    (IsFirstUnder old row.name first × (new ≡ old))
    ⊎ (NoneUnder old row.name × (new ≡ old ++ row ∷ []) × (first ≡ row))
