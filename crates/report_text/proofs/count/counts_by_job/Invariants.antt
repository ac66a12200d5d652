use Rattle.std.proofs.Common.{◌≡◌, map, take}
use Rattle.std.specs.List.{range_with_len}
use Rattle.report_text.specs.Counts.{counts_of_job}
use Rattle.report_text.proofs.count.counts_by_job.Given as goal

abbrev pub invariant-loop-row : goal.invariant-loop-row
invariant-loop-row l = l.counts.items ≡ map (counts_of_job (take l.row-index l.held)) (range_with_len 0 l.jobs)
