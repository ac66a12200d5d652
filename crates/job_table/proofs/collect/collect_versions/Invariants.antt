use Rattle.run_text.specs.Run.{run_of}
use Rattle.job_table.proofs.VersionMarkLemmas.{MarkedFirst}
use Rattle.job_table.proofs.collect.collect_versions.Given as goal

abbrev pub invariant-loop-version : goal.invariant-loop-version
invariant-loop-version l = MarkedFirst (run_of l.run) l.version l.versions.items
