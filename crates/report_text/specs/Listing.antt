-- The rows of a job that a report lists. Source: docs/RUN_FILE.md.
use Rattle.std.specs.Prelude.{ℕ, ◌==◌, ◌&&◌, List, map, filter, ℤ}
use Rattle.paxos_base.specs.declared.entry.Kind.{Kind}
use Rattle.cluster_sched.specs.declared.row.SchedRow.{SchedRow}
use Rattle.report_text.specs.Report.{is_same_kind}

-- the instants of the job's rows, in the order of the rows
abbrev pub instants_of : List SchedRow → ℕ → List ℤ
instants_of rows job = map (λ row. row.name.at) (filter (λ row. row.name.job == job) rows)

-- the job's rows of a kind
abbrev pub rows_of_kind : List SchedRow → ℕ → Kind → List SchedRow
rows_of_kind rows job kind = filter (λ row. (row.name.job == job) && is_same_kind row.kind kind) rows
