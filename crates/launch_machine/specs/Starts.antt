-- The launches that a list of entries starts and ends, and the versions that it adopts: each entry is applied to the rows that those before it left.
use Rattle.std.specs.Prelude.{◌≡◌, ◌⊎◌, ℕ, ◌+◌, List, [], ◌∷◌, ℤ}
use Rattle.paxos_base.specs.declared.entry.Entry.{Entry}
use Rattle.paxos_base.specs.declared.entry.Entry.TheVariants.{Start, End, Table as TableEntry}
use Rattle.paxos_base.specs.declared.entry.Kind.{Kind}
use Rattle.paxos_base.specs.declared.rows.JobRow.{JobRow}
use Rattle.due_set.specs.Table.{Table}
use Rattle.launch_machine.specs.Clerk.{TakesStart, TakesEnd, TakesTable, Applies, first_rows}

-- the entry is a start of the job that takes effect
pub record StartsJob (table : Table) (rows : List JobRow) (entry : Entry) (job : ℕ) (at : ℤ) : Type 0 where
  pub now : ℤ
  pub is : entry ≡ Start job at now
  pub takes : TakesStart table rows job at now

-- the entry is an end of the job that takes effect, and says this kind
pub record EndsJob (rows : List JobRow) (entry : Entry) (job : ℕ) (kind : Kind) : Type 0 where
  pub at : ℤ
  pub is : entry ≡ End job at kind
  pub takes : TakesEnd rows job at

-- a start of the job that takes effect puts its instant before those that follow
abbrev pub AddsStart : Table → List JobRow → Entry → ℕ → List ℤ → List ℤ → Type 0
AddsStart table rows entry job later instants =
    ((at : ℤ) × StartsJob table rows entry job at × (instants ≡ at ∷ later))
    ⊎ (((at : ℤ) → StartsJob table rows entry job at → ⊥) × (instants ≡ later))

-- the instants of the job's starts that take effect, of entries that are applied to the rows
abbrev pub StartsFrom : Table → List JobRow → List Entry → ℕ → List ℤ → Type 0
StartsFrom table rows [] job instants = instants ≡ []
StartsFrom table rows (entry ∷ entries) job instants =
    (middle : List JobRow) × (later : List ℤ) × Applies table rows entry middle × AddsStart table rows entry job later instants
    × StartsFrom table middle entries job later

-- the instants of the job's starts that take effect, in the order of the entries
abbrev pub StartsOf : Table → List Entry → ℕ → List ℤ → Type 0
StartsOf table entries job instants = StartsFrom table (first_rows table) entries job instants

-- the entry is a version that is adopted at the instant
pub record AdoptsAt (table : Table) (rows : List JobRow) (entry : Entry) (now : ℤ) : Type 0 where
  pub version : ℕ
  pub is : entry ≡ TableEntry version now
  pub takes : TakesTable table rows version now

-- a version that is adopted puts its instant before those that follow
abbrev pub AddsAdoption : Table → List JobRow → Entry → List ℤ → List ℤ → Type 0
AddsAdoption table rows entry later instants =
    ((now : ℤ) × AdoptsAt table rows entry now × (instants ≡ now ∷ later)) ⊎ (((now : ℤ) → AdoptsAt table rows entry now → ⊥) × (instants ≡ later))

-- the instants at which versions are adopted, of entries that are applied to the rows
abbrev pub AdoptionsFrom : Table → List JobRow → List Entry → List ℤ → Type 0
AdoptionsFrom table rows [] instants = instants ≡ []
AdoptionsFrom table rows (entry ∷ entries) instants =
    (middle : List JobRow) × (later : List ℤ) × Applies table rows entry middle × AddsAdoption table rows entry later instants
    × AdoptionsFrom table middle entries later

-- the instants at which versions are adopted, in the order of the entries
abbrev pub AdoptionsOf : Table → List Entry → List ℤ → Type 0
AdoptionsOf table entries instants = AdoptionsFrom table (first_rows table) entries instants

-- an end of the job with the kind that takes effect is one more
abbrev pub AddsEnd : List JobRow → Entry → ℕ → Kind → ℕ → ℕ → Type 0
AddsEnd rows entry job kind later count =
    (EndsJob rows entry job kind × (count ≡ later + 1)) ⊎ ((EndsJob rows entry job kind → ⊥) × (count ≡ later))

-- how many of the job's ends with the kind take effect, of entries that are applied to the rows
abbrev pub EndsFrom : Table → List JobRow → List Entry → ℕ → Kind → ℕ → Type 0
EndsFrom table rows [] job kind count = count ≡ 0
EndsFrom table rows (entry ∷ entries) job kind count =
    (middle : List JobRow) × (later : ℕ) × Applies table rows entry middle × AddsEnd rows entry job kind later count
    × EndsFrom table middle entries job kind later

-- how many of the job's ends with the kind take effect
abbrev pub EndsOf : Table → List Entry → ℕ → Kind → ℕ → Type 0
EndsOf table entries job kind count = EndsFrom table (first_rows table) entries job kind count
