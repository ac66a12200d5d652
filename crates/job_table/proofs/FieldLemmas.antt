-- What a run's table has of its run.
use Rattle.std.proofs.Common.{◌≡◌, ℕ, zero, suc, List, [], ◌∷◌, length, map, zip, refl, ap, ◌∙◌}
use Rattle.due_set.specs.Table.{Job, Table, Version, table_of_versions}
use Rattle.run_text.specs.Run.{Run}
use Rattle.job_table.specs.Marks.{Mark}
use Rattle.job_table.specs.Table.{IsTableOf, jobs_of, names_in, table_of}
use Rattle.job_table.specs.Versions.{version_froms, version_under}
use Rattle.job_table.specs.Zones.{zones_over}

-- the versions of a run whose sections have these marks
abbrev versions_of : Run → List (List Mark) → List Version
versions_of run marks = map (version_under (names_in marks)) (zip (version_froms run) (map jobs_of marks))

-- the window of the run
pub table_window : (run : Run) (table : Table) → IsTableOf run table → table.window ≡ run.window
table_window run table is = ap (λ (t : Table). t.window) is.is ∙ by (versions_of run is.marks)
  where
    by : (versions : List Version) → (table_of_versions run.window run.grace (zones_over run.window run.zones) versions).window ≡ run.window
    by [] = refl
    by (first ∷ later) = refl

-- its grace
pub table_grace : (run : Run) (table : Table) → IsTableOf run table → table.grace ≡ run.grace
table_grace run table is = ap (λ (t : Table). t.grace) is.is ∙ by (versions_of run is.marks)
  where
    by : (versions : List Version) → (table_of_versions run.window run.grace (zones_over run.window run.zones) versions).grace ≡ run.grace
    by [] = refl
    by (first ∷ later) = refl

-- and no version after the first, where the run has none
pub later_of_one : (run : Run) (table : Table) → IsTableOf run table → run.versions ≡ [] → table.later ≡ []
later_of_one run table is none = ap (λ (t : Table). t.later) is.is ∙ by run is.marks none
  where
    by : (run : Run) (marks : List (List Mark)) → run.versions ≡ [] → (table_of run marks).later ≡ []
    by run [] none = refl
    by run (first ∷ marks) none = rw none refl
