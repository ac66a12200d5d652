-- Jobs that are collected under their names. Private functions alone cite it.
use Rattle.std.specs.Prelude.{◌≡◌, ◌⊎◌, ℕ, Bool, true, false, List, [], ◌∷◌, ◌++◌, String, string_bytes}
use Rattle.std.specs.declared.alloc.Global.{Global}
use Rattle.due_set.specs.Table.{Job}
use Rattle.due_set.specs.declared.job.JobKind.{JobKind}
use Rattle.job_table.specs.declared.jobs.Timing.{Timing}

-- a job, by its name, the number of its zone, and when it runs
abbrev pub named_job : List ℕ → ℕ → JobKind → Job
named_job name zone kind = record { name = name; zone = zone; kind = kind }

-- the job of a name and a time to run that are kept together
abbrev pub entry_job : String Global × Timing → Job
entry_job entry = named_job (string_bytes entry.0) entry.1.zone entry.1.kind

-- one of the jobs has the name
abbrev pub HasJob : List ℕ → List Job → Type 0
HasJob name [] = ⊥
HasJob name (job ∷ jobs) = (job.name ≡ name) ⊎ HasJob name jobs

-- a job was added, whose name was new; or its name was there, and all is as before
abbrev pub Adds : List Job → List Job → Job → Bool → Type 0
Adds old new job true = (new ≡ old ++ job ∷ []) × (HasJob job.name old → ⊥)
Adds old new job false = (new ≡ old) × HasJob job.name old
