-- A version of a table. Private functions alone cite it.
use Rattle.std.specs.Prelude.{◌≡◌, List, [], ◌∷◌, codes}
use Rattle.cron_fields.specs.declared.field.Fields.{Fields}
use Rattle.due_set.specs.Table.{Job}
use Rattle.due_set.specs.declared.job.JobKind.TheVariants.{Crontab}

-- an entry of alice's
abbrev pub alices_entry : Fields → Job
alices_entry fields = record { name = codes "alice:1"; zone = 0; kind = Crontab fields }

-- the jobs are one entry of alice's
abbrev pub IsAlicesEntry : List Job → Type 0
IsAlicesEntry jobs = (fields : Fields) × (jobs ≡ alices_entry fields ∷ [])
