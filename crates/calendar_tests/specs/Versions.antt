-- A table of two versions. Source: this project.
use Rattle.std.specs.Prelude.{◌≡◌, List, [], ◌∷◌, codes, pos}
use Rattle.cron_fields.specs.declared.field.Fields.{Fields}
use Rattle.due_set.specs.Table.{Job}
use Rattle.due_set.specs.declared.job.JobKind.TheVariants.{Crontab}
use Rattle.zone_minutes.specs.declared.minute.Window.{Window}

-- the hour from 2024-03-31T00:00Z on
abbrev pub hour : Window
hour = record { from = record { 0 = pos 28_530_720 }; until = record { 0 = pos 28_530_780 } }

-- an entry of alice's
abbrev pub entry_with : Fields → Job
entry_with fields = record { name = codes "alice:1"; zone = 0; kind = Crontab fields }

-- the jobs are one entry of alice's
abbrev pub HasOneEntry : List Job → Type 0
HasOneEntry jobs = (fields : Fields) × (jobs ≡ entry_with fields ∷ [])
