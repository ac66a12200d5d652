-- The report's text, as a function of the table of jobs, the number of replicas and the rows that are held.
-- Source: docs/RUN_FILE.md.
use Rattle.std.specs.Prelude.{◌≡◌, ◌⊎◌, ℕ, ◌<◌, ◌==◌, ◌&&◌, Bool, true, false, List, [], ◌∷◌, ◌++◌, ◌≤ℤ◌, length, map, count_by, codes, decimal, AllPairs}
use Rattle.std.specs.List.{range_with_len}
use Rattle.std.specs.List.Sorted.{IsPermutation}
use Rattle.zone_minutes.specs.Window.{window_line}
use Rattle.due_set.specs.Table.{Table, job_name}
use Rattle.paxos_base.specs.declared.entry.Kind.{Kind}
use Rattle.paxos_base.specs.declared.entry.Kind.TheVariants.{Launch, Void}
use Rattle.cluster_sched.specs.Names.{name_text}
use Rattle.cluster_sched.specs.declared.row.Name.{Name}
use Rattle.cluster_sched.specs.declared.row.SchedRow.{SchedRow}
use Rattle.cron_io.specs.Lines.{text_of_lines}

-- what stands before the jobs
abbrev pub head_lines : Table → ℕ → List (List ℕ)
head_lines table members =
    codes "cron report 1" ∷ window_line table.window ∷ (codes "replicas " ++ decimal members) ∷ (codes "jobs " ++ decimal (length table.jobs)) ∷ []

-- both are of one kind
abbrev pub is_same_kind : Kind → Kind → Bool
is_same_kind Launch Launch = true
is_same_kind Void Void = true
is_same_kind a b = false

-- how many of the rows are of the job and the kind
abbrev pub count_of_kind : List SchedRow → ℕ → Kind → ℕ
count_of_kind rows job kind = count_by (λ row. (row.name.job == job) && is_same_kind row.kind kind) rows

-- job NAME launched A void B
abbrev pub job_line : List ℕ → ℕ → ℕ → List ℕ
job_line name launched voided =
    codes "job " ++ name ++ codes " launched " ++ decimal launched ++ codes " void " ++ decimal voided

-- how often the job was launched, and how many of its launches were given up
abbrev pub count_line : Table → List SchedRow → ℕ → List ℕ
count_line table held job = job_line (job_name table job) (count_of_kind held job Launch) (count_of_kind held job Void)

-- the word before a row's name
abbrev pub kind_word : Kind → List ℕ
kind_word Launch = codes "launch "
kind_word Void = codes "void "

-- launch NAME, or void NAME
abbrev pub row_line : Table → SchedRow → List ℕ
row_line table row = kind_word row.kind ++ name_text table row.name

-- the second is of a later job, or of the same job and not earlier
abbrev pub IsNotAfter : Name → Name → Type 0
IsNotAfter a b = (a.job < b.job) ⊎ ((a.job ≡ b.job) × (a.at ≤ℤ b.at))

-- the rows by job, and those of a job by instant
pub record IsInOrder (held rows : List SchedRow) : Type 0 where
  pub same : IsPermutation held rows
  pub sorted : AllPairs (λ a b. IsNotAfter a.name b.name) rows

-- the report's lines, given the rows in order
abbrev pub report_lines : Table → ℕ → List SchedRow → List SchedRow → List (List ℕ)
report_lines table members held rows =
    head_lines table members ++ map (count_line table held) (range_with_len 0 (length table.jobs)) ++ map (row_line table) rows ++ codes "end" ∷ []

-- the text is the report of a run of so many replicas over the rows that are held
pub record IsReport (table : Table) (members : ℕ) (held : List SchedRow) (text : List ℕ) : Type 0 where
  pub rows : List SchedRow
  pub in_order : IsInOrder held rows
  pub text_is : text ≡ text_of_lines (report_lines table members held rows)
