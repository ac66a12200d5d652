-- The counts of a job's rows. Private functions alone cite it.
use Rattle.std.specs.Prelude.{ℕ, ◌+◌, List}
use Rattle.paxos_base.specs.declared.entry.Kind.{Kind}
use Rattle.paxos_base.specs.declared.entry.Kind.TheVariants.{Launch, Void}
use Rattle.cluster_sched.specs.declared.row.SchedRow.{SchedRow}
use Rattle.report_text.specs.Report.{count_of_kind}
use Rattle.report_text.specs.declared.count.Counts.{Counts}

-- the counts of a job
abbrev pub counts_of_job : List SchedRow → ℕ → Counts
counts_of_job rows job = record { launched = count_of_kind rows job Launch; voided = count_of_kind rows job Void }

-- the counts with one more of the kind
abbrev pub counted : Kind → Counts → Counts
counted Launch counts = record { launched = counts.launched + 1; voided = counts.voided }
counted Void counts = record { launched = counts.launched; voided = counts.voided + 1 }
