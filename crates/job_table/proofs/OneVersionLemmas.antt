-- A run of one version.
use Rattle.std.proofs.Common.{◌≡◌, ℕ, suc, ◌≤◌, List, [], ◌∷◌, length, map, refl, ap, ◌∙◌, sym, subst, arith}
use Rattle.std.specs.Prelude.{zip}
use Rattle.std.proofs.lemmas.List.{append-nil, length-map}
use Rattle.std.proofs.lemmas.List.Concat.{flat_map-cons}
use Rattle.std.proofs.lemmas.List.Elements.{All-nil, All-cons}
use Rattle.due_set.specs.Table.{Job, Table, Version, own_name}
use Rattle.run_text.specs.Run.{NamedZone, Run}
use Rattle.run_text.specs.declared.run.VersionLine.{VersionLine}
use Rattle.job_table.specs.Marks.{Mark, AreMarks, AreSound}
use Rattle.job_table.specs.Table.{jobs_of, names_in, table_of, IsTableOf, IsVersionCount}
use Rattle.job_table.specs.Versions.{AreVersionMarks, jobs_under, job_names, version_under}
use Rattle.job_table.specs.Zones.{AreReadable, zones_over}
use Rattle.job_table.proofs.DueCountLemmas.{count_of_one}
use Rattle.job_table.proofs.MarkLemmas.{sound_distinct}
use Rattle.job_table.proofs.NamedJobLemmas.{names_of_distinct, own_under}
use Rattle.job_table.proofs.VersionMarkLemmas.{to_first}
use Rattle.job_table.proofs.VersionSectionLemmas.{sections_of_one}

-- a table of these jobs in one version, of the run's zones
abbrev pub table_of_jobs : Run → List Job → Table
table_of_jobs run jobs = record { window = run.window; grace = run.grace; zones = zones_over run.window run.zones; jobs = jobs; later = [] }

-- the marks of all sections are those of the one version
pub marks_of_one : (run : Run) (marks : List Mark) → run.versions ≡ [] → AreMarks run.zones run.sections marks → AreVersionMarks run (marks ∷ [])
marks_of_one run marks none are =
    to_first run (marks ∷ []) (ap (λ (l : List VersionLine). suc (length l)) (sym none))
    (subst (λ s. AreMarks run.zones s marks) (sym (sections_of_one run none)) are, tt)

-- the names are those of its jobs
pub names_of_one : (zones : List NamedZone) (marks : List Mark) → AreSound zones marks → names_in (marks ∷ []) ≡ map own_name (jobs_of marks)
names_of_one zones marks sound =
    ap job_names (flat_map-cons jobs_of marks [] ∙ append-nil (jobs_of marks)) ∙ names_of_distinct (jobs_of marks) (sound_distinct zones marks sound)

-- the table has its jobs, and no version after it
pub table_of_one : (run : Run) (marks : List Mark) → run.versions ≡ [] → AreSound run.zones marks → table_of_jobs run (jobs_of marks) ≡ table_of run (marks ∷ [])
table_of_one run marks none sound =
    let names = names_in (marks ∷ []) in
    let jobs : jobs_under names (jobs_of marks) ≡ jobs_of marks =
    ap (λ l. jobs_under l (jobs_of marks)) (names_of_one run.zones marks sound) ∙ own_under (jobs_of marks) (sound_distinct run.zones marks sound) in
    let later : map (version_under names) (zip (map (λ (line : VersionLine). line.from.0) run.versions) []) ≡ [] =
    ap (λ (l : List VersionLine). map (version_under names) (zip (map (λ (line : VersionLine). line.from.0) l) [])) none in
    sym (ap (λ (l : List Version). record { window = run.window; grace = run.grace; zones = zones_over run.window run.zones; jobs = jobs_under names (jobs_of marks); later = l }) later
    ∙ ap (table_of_jobs run) jobs)

-- **A run of one version has the table of the jobs of its marks, if these aren't at fault and there aren't too many jobs or due instants.**
pub is_table_of_one : (run : Run) (marks : List Mark) (count : ℕ) → run.versions ≡ [] → AreReadable run.zones → AreMarks run.zones run.sections marks → AreSound run.zones marks
    → length (jobs_of marks) ≤ 1000 → IsVersionCount (table_of_jobs run (jobs_of marks)) 0 count → count ≤ 20_000 → IsTableOf run (table_of_jobs run (jobs_of marks))
is_table_of_one run marks count none readable are sound few counted few_due = record {
  readable = readable;
  marks = marks ∷ [];
  are = marks_of_one run marks none are;
  sound = All-cons (AreSound run.zones) marks [] sound (All-nil (AreSound run.zones));
  few_jobs = omega (arith, ap length (names_of_one run.zones marks sound), length-map (jobs_of marks) own_name, few);
  is = table_of_one run marks none sound;
  count = count;
  counted = count_of_one (table_of_jobs run (jobs_of marks)) count refl counted;
  few_due = few_due;
}
