-- Of which bytes a job's name is made. Source: this project; labels by docs/RUN_FILE.md, identifiers by anacrontab(5) of cronie.
use Rattle.std.specs.Prelude.{◌≢◌, ℕ, List, All}
use Rattle.std.specs.List.{AllByRecursion}
use Rattle.due_set.specs.Table.{Job}

-- neither a space, a tab nor a newline
abbrev pub IsWordByte : ℕ → Type 0
IsWordByte c = (c ≢ 32) × (c ≢ 9) × (c ≢ 10)

-- each job's name is one word: no byte of it parts words or lines
abbrev pub HaveWordNames : List Job → Type 0
HaveWordNames jobs = All (λ (job : Job). AllByRecursion IsWordByte job.name) jobs
