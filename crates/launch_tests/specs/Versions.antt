-- A table of two versions of two jobs. Source: this project.
use Rattle.std.specs.Prelude.{◌≡◌, List, [], ◌∷◌, codes, pos}
use Rattle.cron_fields.specs.declared.field.Fields.{Fields}
use Rattle.due_set.specs.Table.{IsKindOfName, Job}
use Rattle.due_set.specs.declared.job.JobKind.{JobKind}
use Rattle.due_set.specs.declared.job.JobKind.TheVariants.{Crontab}
use Rattle.zone_minutes.specs.declared.minute.Window.{Window}

-- the hour from 2024-03-31T00:00Z on
abbrev pub first_hour : Window
first_hour = record { from = record { 0 = pos 28_530_720 }; until = record { 0 = pos 28_530_780 } }

-- an entry of alice's
abbrev pub alices_entry : Fields → Job
alices_entry fields = record { name = codes "alice:1"; zone = 0; kind = Crontab fields }

-- a job of bob's that runs by its period, or never
abbrev pub bobs_job : JobKind → Job
bobs_job kind = record { name = codes "bob/2"; zone = 0; kind = kind }

-- the jobs are an entry of alice's and one of bob's, which has a `/` in its name
abbrev pub HasTwoJobs : List Job → Type 0
HasTwoJobs jobs = (fields : Fields) × (kind : JobKind) × IsKindOfName (codes "bob/2") kind × (jobs ≡ alices_entry fields ∷ bobs_job kind ∷ [])
