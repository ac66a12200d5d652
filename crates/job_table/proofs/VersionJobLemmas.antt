-- The jobs of versions, one after another.
use Rattle.std.proofs.Common.{◌≡◌, ℕ, zero, suc, ◌+◌, ◌<◌, ◌≤◌, Some, List, [], ◌∷◌, ◌++◌, length, map, take, get_or, refl, ap, ◌∙◌, sym, subst, arith}
use Rattle.std.specs.Prelude.{IsSomeAnd, flat_map, option_map, slice_get, zip}
use Rattle.std.specs.List.{fold}
use Rattle.std.proofs.lemmas.Grind.{flat_map-append}
use Rattle.std.proofs.lemmas.List.{append-nil, length-map, map-append, take_all, take_more}
use Rattle.std.proofs.lemmas.Option.{slice_get-map}
use Rattle.due_set.specs.Table.{Job, Version, job_of, own_name, version_of, AreNamesDistinct}
use Rattle.due_set.specs.declared.job.VersionSpec.{VersionSpec}
use Rattle.run_text.specs.Run.{Run}
use Rattle.run_text.specs.declared.run.VersionLine.{VersionLine}
use Rattle.job_table.specs.Versions.{with_name, job_names, jobs_under, version_froms, version_under}
use Rattle.job_table.proofs.NamedJobLemmas.{distinct_more, names_more, names_of_more, own_under, take_name}

-- the names of the jobs of all versions
abbrev pub names_of_all : List (List Job) → List (List ℕ)
names_of_all versions = map own_name (flat_map (λ (jobs : List Job). jobs) versions)

-- no name more
pub no_names : (jobs : List Job) → AreNamesDistinct jobs → jobs ≡ jobs_under (fold with_name (map own_name jobs) []) jobs
no_names jobs distinct = sym (own_under jobs distinct)

-- jobs under more names stay distinct
pub still_distinct : (start now : List Job) (done : List (List ℕ)) → AreNamesDistinct start → now ≡ jobs_under (fold with_name (map own_name start) done) start → AreNamesDistinct now
still_distinct start now done distinct is = subst AreNamesDistinct (sym is) (distinct_more start done distinct)

-- the names of one version more
pub jobs_more : (start now new here : List Job) (later : List (List Job)) (i : ℕ) → AreNamesDistinct start → i < length later → here ≡ get_or later i here
    → now ≡ jobs_under (fold with_name (map own_name start) (names_of_all (take i later))) start → new ≡ jobs_under (job_names (now ++ here)) now
    → new ≡ jobs_under (fold with_name (map own_name start) (names_of_all (take (i + 1) later))) start
jobs_more start now new here later i distinct within is now_is new_is =
    let done = names_of_all (take i later) in
    let more = names_more start now new done (map own_name here) now_is
    (new_is ∙ ap (λ l. jobs_under l now) (names_of_more now here (still_distinct start now done distinct now_is))) in
    let front : take (i + 1) later ≡ take i later ++ here ∷ [] = take_more later i here within ∙ ap (λ j. take i later ++ j ∷ []) (sym is) in
    let names : names_of_all (take (i + 1) later) ≡ done ++ map own_name here =
    ap names_of_all front ∙ ap (map own_name) (flat_map-append (λ (jobs : List Job). jobs) (take i later) (here ∷ []) ∙ ap (λ l. flat_map (λ (jobs : List Job). jobs) (take i later) ++ l) (append-nil here))
    ∙ map-append own_name (flat_map (λ (jobs : List Job). jobs) (take i later)) here in
    more ∙ sym (ap (λ l. jobs_under (fold with_name (map own_name start) l) start) names)

-- all of them
pub all_jobs_more : (start now : List Job) (later : List (List Job)) (i : ℕ) → AreNamesDistinct start → length later ≤ i
    → now ≡ jobs_under (fold with_name (map own_name start) (names_of_all (take i later))) start → now ≡ jobs_under (job_names (start ++ flat_map (λ jobs. jobs) later)) start
all_jobs_more start now later i distinct all is =
    is ∙ ap (λ l. jobs_under (fold with_name (map own_name start) (names_of_all l)) start) (take_all i later all)
    ∙ sym (ap (λ l. jobs_under l start) (names_of_more start (flat_map (λ (jobs : List Job). jobs) later) distinct))

-- one name more of a version
pub next_name_more : (start now new jobs : List Job) (place : ℕ) (name : List ℕ) → IsSomeAnd (slice_get jobs place) (λ job. name ≡ job.name)
    → now ≡ jobs_under (fold with_name (map own_name start) (take place (map own_name jobs))) start → new ≡ jobs_under (with_name (map own_name now) name) now
    → new ≡ jobs_under (fold with_name (map own_name start) (take (place + 1) (map own_name jobs))) start
next_name_more start now new jobs place name here now_is new_is =
    names_more start now new (take place (map own_name jobs)) (name ∷ []) now_is new_is
    ∙ sym (ap (λ l. jobs_under (fold with_name (map own_name start) l) start) (take_name jobs place name here))

-- the names of one version alone
pub own_jobs_more : (start now jobs : List Job) (place : ℕ) → AreNamesDistinct start → length jobs ≤ place
    → now ≡ jobs_under (fold with_name (map own_name start) (take place (map own_name jobs))) start → now ≡ jobs_under (job_names (start ++ jobs)) start
own_jobs_more start now jobs place distinct all is =
    is ∙ ap (λ l. jobs_under (fold with_name (map own_name start) l) start) (take_all place (map own_name jobs) (omega (arith, length-map jobs own_name)))
    ∙ sym (ap (λ l. jobs_under l start) (names_of_more start jobs distinct))

-- ---- versions and their jobs

zip_none : {A B : Type 0} (as' : List A) → zip {K = A} {X = B} as' [] ≡ []
zip_none [] = refl
zip_none (a ∷ as') = refl

zip_next : {A B : Type 0} (as' : List A) (bs : List B) (place : ℕ) (a : A) (b : B) → slice_get as' place ≡ Some a → slice_get bs place ≡ Some b
    → zip as' (take (suc place) bs) ≡ zip as' (take place bs) ++ (a, b) ∷ []
zip_next [] bs place a b is other = cc
zip_next (x ∷ as') [] place a b is other = cc
zip_next {A = A} {B = B} (x ∷ as') (y ∷ bs) zero a b is other =
    let first : x ≡ a = cc in
    let second : y ≡ b = cc in
    ap (λ l. (x, y) ∷ l) (zip_none as') ∙ ap (λ (p : A). (p, y) ∷ []) first ∙ ap (λ (q : B). (a, q) ∷ []) second
zip_next (x ∷ as') (y ∷ bs) (suc place) a b is other = ap (λ l. (x, y) ∷ l) (zip_next as' bs place a b is other)

-- the first version, before any other
pub first_version : (run : Run) (first : List Job) (later : List (List Job)) (spec : VersionSpec) → AreNamesDistinct first → spec.from ≡ run.window.from → map job_of spec.jobs.items ≡ first
    → map version_of (spec ∷ []) ≡ map (version_under (map own_name first)) (zip (version_froms run) (first ∷ take 0 later))
first_version run first later spec distinct from jobs =
    let names = map own_name first in
    ap (λ (v : Version). v ∷ []) (rw (from, jobs ∙ sym (own_under first distinct)) refl)
    ∙ sym (ap (λ l. version_under names (run.window.from.0, first) ∷ map (version_under names) l) (zip_none (map (λ (version : VersionLine). version.from.0) run.versions)))

-- one version more
pub next_version : (run : Run) (names : List (List ℕ)) (first here : List Job) (later : List (List Job)) (place : ℕ) (line : VersionLine) (old new : List VersionSpec) (spec : VersionSpec)
    → slice_get run.versions place ≡ Some line → slice_get later place ≡ Some here
    → map version_of old ≡ map (version_under names) (zip (version_froms run) (first ∷ take place later)) → new ≡ old ++ spec ∷ []
    → spec.from ≡ line.from → map job_of spec.jobs.items ≡ jobs_under names here
    → map version_of new ≡ map (version_under names) (zip (version_froms run) (first ∷ take (place + 1) later))
next_version run names first here later place line old new spec line_is here_is so_far is from jobs =
    let from_of = λ (version : VersionLine). version.from.0 in
    let froms = map from_of run.versions in
    let known = zip (version_froms run) (first ∷ take place later) in
    let from_is : slice_get froms place ≡ Some line.from.0 = slice_get-map from_of run.versions place ∙ ap (option_map from_of) line_is in
    let one : place + 1 ≡ suc place = omega arith in
    let more : zip (version_froms run) (first ∷ take (place + 1) later) ≡ known ++ (line.from.0, here) ∷ [] =
    ap (λ l. (run.window.from.0, first) ∷ l) (ap (λ n. zip froms (take n later)) one ∙ zip_next froms later place line.from.0 here from_is here_is) in
    let version : version_of spec ≡ version_under names (line.from.0, here) = rw (from, jobs) refl in
    ap (map version_of) is ∙ map-append version_of old (spec ∷ []) ∙ ap (λ l. l ++ version_of spec ∷ []) so_far ∙ ap (λ v. map (version_under names) known ++ v ∷ []) version
    ∙ sym (ap (map (version_under names)) more ∙ map-append (version_under names) known ((line.from.0, here) ∷ []))
