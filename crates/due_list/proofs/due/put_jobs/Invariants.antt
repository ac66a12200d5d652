use Rattle.std.proofs.Common.{string_bytes}
use Rattle.std.specs.List.{range_with_len}
use Rattle.due_list.specs.DueText.{AreLinesOfJob}
use Rattle.due_list.specs.Parts.{AppendsParts}
use Rattle.due_list.proofs.due.put_jobs.Given as goal

abbrev pub invariant-loop-job : goal.invariant-loop-job
invariant-loop-job l = AppendsParts (AreLinesOfJob l.table l.version) (range_with_len 0 l.job) (string_bytes l.fn.into) (string_bytes l.into)
