use Rattle.std.proofs.Common.{◌≡◌, ◌∷◌, map, take}
use Rattle.std.specs.Prelude.{zip}
use Rattle.due_set.specs.Table.{own_name, version_of}
use Rattle.run_text.specs.Run.{run_of}
use Rattle.job_table.specs.Versions.{version_froms, version_under}
use Rattle.job_table.proofs.versions.specs_of_versions.Given as goal

abbrev pub invariant-loop-place : goal.invariant-loop-place
invariant-loop-place l =
    map version_of l.versions.items ≡ map (version_under (map own_name l.first)) (zip (version_froms (run_of l.run)) (l.first ∷ take l.place l.later))
