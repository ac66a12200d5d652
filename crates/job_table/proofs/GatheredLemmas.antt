-- The jobs of all versions of a run, under their names.
use Rattle.std.proofs.Common.{◌≡◌, suc, ◌+◌, ◌<◌, List, [], ◌∷◌, ◌++◌, length, map, get_or, refl, ap, ◌∙◌, sym, subst, arith}
use Rattle.std.specs.Prelude.{All, flat_map, zip}
use Rattle.std.specs.List.{remove}
use Rattle.std.proofs.lemmas.List.{length-map}
use Rattle.std.proofs.lemmas.List.Concat.{flat_map-cons}
use Rattle.std.proofs.lemmas.List.Folds.{flat_map-map}
use Rattle.due_set.specs.Table.{Job, Table, Version, own_name, table_of_versions, AreNamesDistinct}
use Rattle.run_text.specs.Run.{Run}
use Rattle.run_text.specs.declared.run.VersionLine.{VersionLine}
use Rattle.job_table.specs.Collect.{HaveMarkedJobs}
use Rattle.job_table.specs.Marks.{Mark, AreSound}
use Rattle.job_table.specs.Table.{jobs_of, names_in, table_of}
use Rattle.job_table.specs.Zones.{zones_over}
use Rattle.zone_minutes.specs.Zone.{Zone}
use Rattle.job_table.specs.Versions.{AreVersionMarks, jobs_under, job_names, version_froms, version_under}
use Rattle.job_table.proofs.NamedJobLemmas.{distinct_of_names, names_under, own_under}

-- a version's jobs that are taken off the front
front_taken : (versions rest : List (List Job)) (first : List Job) → 0 < length versions → first ≡ get_or versions 0 first → rest ≡ remove versions 0 → versions ≡ first ∷ rest
front_taken [] rest first some is others = absurd (omega arith)
front_taken (here ∷ versions) rest first some is others = ap (λ (j : List Job). j ∷ versions) (sym is) ∙ ap (λ l. first ∷ l) (sym others)

-- there is a version
some_versions : (run : Run) (versions : List (List Job)) → HaveMarkedJobs run versions → length versions ≡ suc (length run.versions)
some_versions run versions marked = ap length marked.jobs_are ∙ length-map marked.marks jobs_of ∙ marked.are.versions

-- the first version has these jobs under the names of all versions, and the later ones have these under their own
pub record AreGathered (run : Run) (first : List Job) (later : List (List Job)) : Type 0 where
  pub marks : List (List Mark)
  pub are : AreVersionMarks run marks
  pub sound : All (AreSound run.zones) marks
  pub names : map own_name first ≡ names_in marks
  pub versions : map (version_under (map own_name first)) (zip (version_froms run) (first ∷ later)) ≡ map (version_under (names_in marks)) (zip (version_froms run) (map jobs_of marks))

pub gathered : (run : Run) (versions later passed : List (List Job)) (start first : List Job) → HaveMarkedJobs run versions → start ≡ get_or versions 0 start → later ≡ remove versions 0
    → passed ≡ later → first ≡ jobs_under (job_names (start ++ flat_map (λ jobs. jobs) passed)) start → AreGathered run first later
gathered run versions later passed start first marked start_is later_is same started =
    let size = some_versions run versions marked in
    let is = front_taken versions later start (omega arith) start_is later_is in
    let first_is = started ∙ ap (λ l. jobs_under (job_names (start ++ flat_map (λ (jobs : List Job). jobs) l)) start) same in
    let all = start ++ flat_map (λ (jobs : List Job). jobs) later in
    let jobs_are : start ∷ later ≡ map jobs_of marked.marks = sym is ∙ marked.jobs_are in
    let joined : all ≡ flat_map jobs_of marked.marks =
    sym (flat_map-cons (λ (jobs : List Job). jobs) start later) ∙ ap (flat_map (λ (jobs : List Job). jobs)) jobs_are ∙ flat_map-map (λ (jobs : List Job). jobs) jobs_of marked.marks in
    let own : map own_name first ≡ job_names all = ap (map own_name) first_is ∙ names_under (job_names all) start in
    let names : map own_name first ≡ names_in marked.marks = own ∙ ap job_names joined in
    let distinct : AreNamesDistinct first = subst AreNamesDistinct (sym first_is) (distinct_of_names all start) in
    let under : jobs_under (map own_name first) first ≡ jobs_under (map own_name first) start = own_under first distinct ∙ first_is ∙ ap (λ l. jobs_under l start) (sym own) in
    let from = run.window.from.0 in
    let others = map (version_under (map own_name first)) (zip (map (λ (line : VersionLine). line.from.0) run.versions) later) in
    let head : version_under (map own_name first) (from, first) ≡ version_under (map own_name first) (from, start) = rw under refl in
    record {
      marks = marked.marks;
      are = marked.are;
      sound = marked.sound;
      names = names;
      versions = ap (λ (v : Version). v ∷ others) head ∙ ap (λ l. map (version_under l) (zip (version_froms run) (start ∷ later))) names
          ∙ ap (λ l. map (version_under (names_in marked.marks)) (zip (version_froms run) l)) jobs_are;
    }

-- the versions that are assembled are those of the run's table
pub specs_are : (run : Run) (first : List Job) (later passed : List (List Job)) (all : AreGathered run first later) (specs : List Version) → passed ≡ later
    → specs ≡ map (version_under (map own_name first)) (zip (version_froms run) (first ∷ passed))
    → specs ≡ map (version_under (names_in all.marks)) (zip (version_froms run) (map jobs_of all.marks))
specs_are run first later passed all specs same is =
    is ∙ ap (λ l. map (version_under (map own_name first)) (zip (version_froms run) (first ∷ l))) same ∙ all.versions

pub table_is : (run : Run) (first : List Job) (later : List (List Job)) (all : AreGathered run first later) (zones : List Zone) (specs : List Version) (table : Table)
    → zones ≡ zones_over run.window run.zones → specs ≡ map (version_under (names_in all.marks)) (zip (version_froms run) (map jobs_of all.marks))
    → table ≡ table_of_versions run.window run.grace zones specs → table ≡ table_of run all.marks
table_is run first later all zones specs table zones_are is assembled =
    assembled ∙ ap (λ z. table_of_versions run.window run.grace z specs) zones_are ∙ ap (table_of_versions run.window run.grace (zones_over run.window run.zones)) is
