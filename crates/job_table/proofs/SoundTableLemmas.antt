-- The table of a run is sound.
use Rattle.std.proofs.Common.{◌≡◌, ℕ, suc, ◌+◌, ◌<◌, ◌≤◌, ℤ, ◌≤ℤ◌, List, [], ◌∷◌, length, map, refl, ◌∙◌, sym, subst, arith}
use Rattle.std.specs.Prelude.{All, AllPairs, flat_map, zip}
use Rattle.std.proofs.lemmas.List.{length-map}
use Rattle.std.proofs.lemmas.List.Elements.{All-nil, All-cons, All-head, All-tail}
use Rattle.std.proofs.lemmas.List.Kept.{AllPairs-cons}
use Rattle.std.proofs.lemmas.Slice.Zip.{length-zip}
use Rattle.due_set.specs.Table.{Job, Table, Version, own_name, AreKindsOfNames, AreZonesBelow, IsBuiltFor, IsKindOfName, IsSound, IsVersionOf}
use Rattle.run_text.specs.Reading.{IsRunText}
use Rattle.run_text.specs.Run.{Run}
use Rattle.run_text.specs.Sound.{IsNotLater}
use Rattle.run_text.specs.declared.run.VersionLine.{VersionLine}
use Rattle.run_text.proofs.SoundLemmas.{sound_run}
use Rattle.zone_minutes.specs.Window.{IsInWindow}
use Rattle.zone_minutes.specs.Zone.{Zone}
use Rattle.job_table.specs.Marks.{Mark, AreSound}
use Rattle.job_table.specs.Table.{jobs_of, names_in, table_of}
use Rattle.job_table.specs.Versions.{AreVersionMarks, job_named, jobs_under, sections_in, version_under}
use Rattle.job_table.specs.Zones.{zones_over}
use Rattle.job_table.proofs.KindLemmas.{kinds_of_version}
use Rattle.job_table.proofs.NamedJobLemmas.{all_under, distinct_of_names, names_under}
use Rattle.job_table.proofs.TableLemmas.{zones_below}
use Rattle.job_table.proofs.VersionMarkLemmas.{AreMarksFrom, from_first}
use Rattle.job_table.proofs.ZoneLemmas.{zones_count}

-- the instant of a version's line
abbrev from_of : VersionLine → ℤ
from_of line = line.from.0

-- the versions of these lines and jobs, under these names
abbrev versions_under : List (List ℕ) → List VersionLine → List (List Mark) → List Version
versions_under names lines marks = map (version_under names) (zip (map from_of lines) (map jobs_of marks))

-- each job runs by one of the zones, and as its name says
record AreSoundJobs (zones : List Zone) (jobs : List Job) : Type 0 where
  pub zone_numbers : AreZonesBelow (length zones) jobs
  pub kinds : AreKindsOfNames jobs

-- under any names too
sound_under : (zones : List Zone) (names : List (List ℕ)) (jobs : List Job) → 0 < length zones → AreSoundJobs zones jobs → AreSoundJobs zones (jobs_under names jobs)
sound_under zones names jobs some sound = record {
  zone_numbers = all_under (λ (job : Job). job.zone < length zones) names jobs (λ name. some) sound.zone_numbers;
  kinds = all_under (λ (job : Job). IsKindOfName job.name job.kind) names jobs (λ name. tt) sound.kinds;
}

-- those of each version
all_sound_jobs : (text : List ℕ) (run : Run) (version : ℕ) (marks : List (List Mark)) → IsRunText text run → AreMarksFrom run version marks → All (AreSound run.zones) marks
    → All (λ (here : List Mark). AreSoundJobs (zones_over run.window run.zones) (jobs_of here)) marks
all_sound_jobs text run version [] says are sound = All-nil (λ (here : List Mark). AreSoundJobs (zones_over run.window run.zones) (jobs_of here))
all_sound_jobs text run version (first ∷ marks) says are sound =
    let zones = zones_over run.window run.zones in
    let count : 1 + length run.zones ≡ length zones = zones_count run.window run.zones zones refl in
    let here : AreSoundJobs zones (jobs_of first) = record {
      zone_numbers = subst (λ n. AreZonesBelow n (jobs_of first)) count
          (zones_below run.zones (sections_in run version) first are.0 (All-head (AreSound run.zones) first marks sound));
      kinds = kinds_of_version text run version first says are.0;
    } in
    All-cons (λ (m : List Mark). AreSoundJobs zones (jobs_of m)) first marks here
    (all_sound_jobs text run (suc version) marks says are.1 (All-tail (AreSound run.zones) first marks sound))

-- each version after the first has the table's names, within its window
each_version : (table : Table) (names : List (List ℕ)) (lines : List VersionLine) (marks : List (List Mark)) → 0 < length table.zones → map own_name table.jobs ≡ names
    → All (λ (line : VersionLine). IsInWindow table.window line.from.0) lines → All (λ (here : List Mark). AreSoundJobs table.zones (jobs_of here)) marks
    → All (IsVersionOf table) (versions_under names lines marks)
each_version table names [] marks some own inside sound = All-nil (IsVersionOf table)
each_version table names (line ∷ lines) [] some own inside sound = All-nil (IsVersionOf table)
each_version table names (line ∷ lines) (here ∷ marks) some own inside sound =
    let jobs = sound_under table.zones names (jobs_of here) some (All-head (λ (m : List Mark). AreSoundJobs table.zones (jobs_of m)) here marks sound) in
    All-cons (IsVersionOf table) (version_under names (line.from.0, jobs_of here)) (versions_under names lines marks)
    (record {
      inside = All-head (λ (l : VersionLine). IsInWindow table.window l.from.0) line lines inside;
      names = names_under names (jobs_of here) ∙ sym own;
      zone_numbers = jobs.zone_numbers;
      kinds = jobs.kinds;
    })
    (each_version table names lines marks some own (All-tail (λ (l : VersionLine). IsInWindow table.window l.from.0) line lines inside)
    (All-tail (λ (m : List Mark). AreSoundJobs table.zones (jobs_of m)) here marks sound))

-- none comes before an earlier one
versions_after : (from : ℤ) (names : List (List ℕ)) (lines : List VersionLine) (marks : List (List Mark)) → All (λ (line : VersionLine). from ≤ℤ line.from.0) lines
    → All (λ (version : Version). from ≤ℤ version.from) (versions_under names lines marks)
versions_after from names [] marks after = All-nil (λ (version : Version). from ≤ℤ version.from)
versions_after from names (line ∷ lines) [] after = All-nil (λ (version : Version). from ≤ℤ version.from)
versions_after from names (line ∷ lines) (here ∷ marks) after =
    All-cons (λ (version : Version). from ≤ℤ version.from) (version_under names (line.from.0, jobs_of here)) (versions_under names lines marks)
    (All-head (λ (l : VersionLine). from ≤ℤ l.from.0) line lines after) (versions_after from names lines marks (All-tail (λ (l : VersionLine). from ≤ℤ l.from.0) line lines after))

versions_in_order : (names : List (List ℕ)) (lines : List VersionLine) (marks : List (List Mark)) → AllPairs IsNotLater lines
    → AllPairs (λ (a b : Version). a.from ≤ℤ b.from) (versions_under names lines marks)
versions_in_order names [] marks in_order = λ i j d rises within. absurd (omega (arith, within))
versions_in_order names (line ∷ lines) [] in_order = λ i j d rises within. absurd (omega (arith, within))
versions_in_order names (line ∷ lines) (here ∷ marks) in_order =
    AllPairs-cons (λ (a b : Version). a.from ≤ℤ b.from) (version_under names (line.from.0, jobs_of here)) (versions_under names lines marks)
    (versions_after line.from.0 names lines marks (λ k d within. (in_order 0 (suc k) d (omega arith) (omega (arith, within))).by_instant))
    (versions_in_order names lines marks (λ i j d rises within. in_order (suc i) (suc j) d (omega (arith, rises)) (omega (arith, within))))

few_versions : (names : List (List ℕ)) (lines : List VersionLine) (marks : List (List Mark)) → length (versions_under names lines marks) ≤ length lines
few_versions names lines marks =
    omega (arith, length-map (zip (map from_of lines) (map jobs_of marks)) (version_under names), length-zip (map from_of lines) (map jobs_of marks), length-map lines from_of)

sound_of : (text : List ℕ) (run : Run) (first : List Mark) (marks : List (List Mark)) → IsRunText text run → AreMarksFrom run 0 (first ∷ marks) → All (AreSound run.zones) (first ∷ marks)
    → length (names_in (first ∷ marks)) ≤ 1000 → All (IsBuiltFor run.window) (zones_over run.window run.zones) → IsSound (table_of run (first ∷ marks))
sound_of text run first marks says are sound few built =
    let table = table_of run (first ∷ marks) in
    let names = names_in (first ∷ marks) in
    let known = sound_run text run says in
    let some : 0 < length table.zones = omega arith in
    let all = all_sound_jobs text run 0 (first ∷ marks) says are sound in
    let jobs = sound_under table.zones names (jobs_of first) some (All-head (λ (m : List Mark). AreSoundJobs table.zones (jobs_of m)) first marks all) in
    let later = versions_under names run.versions marks in
    record {
      limits = known.limits;
      grace = known.grace;
      built = built;
      zone_numbers = jobs.zone_numbers;
      few = omega (arith, length-map names (λ name. job_named name (jobs_of first)), few);
      distinct = distinct_of_names (flat_map jobs_of (first ∷ marks)) (jobs_of first);
      kinds = jobs.kinds;
      versions = record {
        few = omega (arith, few_versions names run.versions marks, known.versions.few);
        each = each_version table names run.versions marks some (names_under names (jobs_of first)) known.versions.inside
            (All-tail (λ (m : List Mark). AreSoundJobs table.zones (jobs_of m)) first marks all);
        in_order = versions_in_order names run.versions marks known.versions.in_order;
      };
    }

-- **The table of a run's marks is sound.**
pub sound_table : (text : List ℕ) (run : Run) (marks : List (List Mark)) → IsRunText text run → AreVersionMarks run marks → All (AreSound run.zones) marks
    → length (names_in marks) ≤ 1000 → All (IsBuiltFor run.window) (zones_over run.window run.zones) → IsSound (table_of run marks)
sound_table text run [] says are sound few built = absurd (let size = are.versions in omega arith)
sound_table text run (first ∷ marks) says are sound few built = sound_of text run first marks says (from_first run (first ∷ marks) are) sound few built
