-- The names of some jobs, each once, and the jobs under some names.
use Rattle.std.proofs.Common.{◌≡◌, ◌≢◌, Option, None, Some, String, ◌⊎◌, ℕ, suc, ◌<◌, Bool, true, false, ◌||◌, cond, ◌+◌, take, List, [], ◌∷◌, ◌++◌, length, map, get_or, refl, ap, ◌∙◌, sym, subst, inl, inr, arith, true≢false, bytes_eq, append_assoc}
use Rattle.std.specs.Prelude.{All, IsSomeAnd, is_some, slice_get, string_bytes}
use Rattle.std.specs.Map.{lookup}
use Rattle.std.specs.String.{string_eq}
use Rattle.indexmap.specs.IndexMap.{insert_entry}
use Rattle.std.specs.declared.alloc.Global.{Global}
use Rattle.std.specs.List.{AllByRecursion, fold, list_any}
use Rattle.std.proofs.lemmas.List.{append-nil, length-map, map-append, take_more}
use Rattle.std.proofs.lemmas.Option.{slice_get_cases}
use Rattle.std.proofs.lemmas.List.Elements.{All-nil, All-cons, All-head, All-tail}
use Rattle.std.proofs.lemmas.List.Folds.{list_any-append}
use Rattle.std.proofs.lemmas.List.Sums.{fold-append}
use Rattle.std.proofs.lemmas.Slice.Eq.{bytes_eq-Decides}
use Rattle.std.proofs.Math.ListN.{get_or-map}
use Rattle.due_set.specs.Table.{Job, job_of, own_name, AreNamesDistinct}
use Rattle.due_set.specs.declared.job.JobKind.TheVariants.{Never}
use Rattle.due_set.specs.declared.job.JobSpec.{JobSpec}
use Rattle.job_table.specs.Jobs.{named_job, entry_job, HasJob}
use Rattle.job_table.specs.Versions.{with_name, job_names, job_named, jobs_under}
use Rattle.job_table.specs.declared.jobs.Timing.{Timing}
use Rattle.job_table.proofs.JobLemmas.{distinct_push, insert_new, no_job, same_job}

-- whether one of the names is this one
abbrev pub has_name : List (List ℕ) → List ℕ → Bool
has_name names name = list_any (λ other. bytes_eq other name) names

-- a job of the name that never runs
abbrev pub never : List ℕ → Job
never name = record { name = name; zone = 0; kind = Never }

differ : (a b : List ℕ) → a ≢ b → bytes_eq a b ≡ false
differ a b other = by (bytes_eq a b) refl
  where
    by : (r : Bool) → bytes_eq a b ≡ r → r ≡ false
    by true is = absurd (other ((bytes_eq-Decides a b).0 is))
    by false is = refl

neither : (a b : Bool) → a ≡ false → b ≡ false → (a || b) ≡ false
neither a b first second = rw (first, second) refl

first_false : (a b : Bool) → (a || b) ≡ false → a ≡ false
first_false true b is = is
first_false false b is = refl

-- a name among those of some jobs is that of one of them
pub job_of_name : (jobs : List Job) (name : List ℕ) → has_name (map own_name jobs) name ≡ true → HasJob name jobs
job_of_name [] name is = absurd (true≢false (sym is))
job_of_name (job ∷ jobs) name is = by (bytes_eq job.name name) refl (job_of_name jobs name) is
  where
    by : (b : Bool) → bytes_eq job.name name ≡ b → (has_name (map own_name jobs) name ≡ true → HasJob name jobs) → (b || has_name (map own_name jobs) name) ≡ true
        → (job.name ≡ name) ⊎ HasJob name jobs
    by true e later is = inl ((bytes_eq-Decides job.name name).0 e)
    by false e later is = inr (later is)

pub no_job_of_name : (jobs : List Job) (name : List ℕ) → has_name (map own_name jobs) name ≡ false → HasJob name jobs → ⊥
no_job_of_name [] name is has = has
no_job_of_name (job ∷ jobs) name is has = by (bytes_eq job.name name) refl (no_job_of_name jobs name) is has
  where
    by : (b : Bool) → bytes_eq job.name name ≡ b → (has_name (map own_name jobs) name ≡ false → HasJob name jobs → ⊥) → (b || has_name (map own_name jobs) name) ≡ false
        → (job.name ≡ name) ⊎ HasJob name jobs → ⊥
    by true e later is has = true≢false is
    by false e later is (inl same) = true≢false (sym ((bytes_eq-Decides job.name name).1 same) ∙ e)
    by false e later is (inr has) = later is has

-- and the other way round
pub name_of_job : (jobs : List Job) (name : List ℕ) → HasJob name jobs → has_name (map own_name jobs) name ≡ true
name_of_job jobs name has = by (has_name (map own_name jobs) name) refl
  where
    by : (b : Bool) → has_name (map own_name jobs) name ≡ b → b ≡ true
    by true is = refl
    by false is = absurd (no_job_of_name jobs name is has)

pub name_of_no_job : (jobs : List Job) (name : List ℕ) → (HasJob name jobs → ⊥) → has_name (map own_name jobs) name ≡ false
name_of_no_job jobs name none = by (has_name (map own_name jobs) name) refl
  where
    by : (b : Bool) → has_name (map own_name jobs) name ≡ b → b ≡ false
    by true is = absurd (none (job_of_name jobs name is))
    by false is = refl

-- ---- the job of a name

-- where none has the name, it never runs
pub named_never : (jobs : List Job) (name : List ℕ) → has_name (map own_name jobs) name ≡ false → job_named name jobs ≡ never name
named_never [] name is = refl
named_never (job ∷ jobs) name is = by (bytes_eq job.name name) (named_never jobs name) is
  where
    by : (b : Bool) → (has_name (map own_name jobs) name ≡ false → job_named name jobs ≡ never name) → (b || has_name (map own_name jobs) name) ≡ false
        → cond b job (job_named name jobs) ≡ never name
    by true later is = absurd (true≢false is)
    by false later is = later is

-- it has the name
pub named_so : (name : List ℕ) (jobs : List Job) → (job_named name jobs).name ≡ name
named_so name [] = refl
named_so name (job ∷ jobs) = by (bytes_eq job.name name) refl (named_so name jobs)
  where
    by : (b : Bool) → bytes_eq job.name name ≡ b → (job_named name jobs).name ≡ name → (cond b job (job_named name jobs)).name ≡ name
    by true e later = (bytes_eq-Decides job.name name).0 e
    by false e later = later

pub names_under : (names : List (List ℕ)) (jobs : List Job) → map own_name (jobs_under names jobs) ≡ names
names_under [] jobs = refl
names_under (name ∷ names) jobs = ap (λ n. n ∷ map own_name (jobs_under names jobs)) (named_so name jobs) ∙ ap (λ l. name ∷ l) (names_under names jobs)

-- what holds of each job and of those that never run holds under any names
named_all : (P : Job → Type 0) (name : List ℕ) (jobs : List Job) → P (never name) → All P jobs → P (job_named name jobs)
named_all P name [] never_so all = never_so
named_all P name (job ∷ jobs) never_so all = by (bytes_eq job.name name) (All-head P job jobs all) (named_all P name jobs never_so (All-tail P job jobs all))
  where
    by : (b : Bool) → P job → P (job_named name jobs) → P (cond b job (job_named name jobs))
    by true here later = here
    by false here later = later

pub all_under : (P : Job → Type 0) (names : List (List ℕ)) (jobs : List Job) → ((name : List ℕ) → P (never name)) → All P jobs → All P (jobs_under names jobs)
all_under P [] jobs never_so all = All-nil P
all_under P (name ∷ names) jobs never_so all =
    All-cons P (job_named name jobs) (jobs_under names jobs) (named_all P name jobs (never_so name) all) (all_under P names jobs never_so all)

-- ---- jobs of distinct names, under their own

-- a job that stands before those of other names isn't theirs
passed : (job : Job) (jobs others : List Job) → ((k : ℕ) (d : Job) → k < length others → job.name ≢ (get_or others k d).name)
    → jobs_under (map own_name others) (job ∷ jobs) ≡ jobs_under (map own_name others) jobs
passed job jobs [] other = refl
passed job jobs (next ∷ others) other =
    let here : bytes_eq job.name next.name ≡ false = differ job.name next.name (other 0 next (omega arith)) in
    let later = passed job jobs others (λ k d lt. other (suc k) d (omega arith)) in
    ap (λ b. cond b job (job_named next.name jobs) ∷ jobs_under (map own_name others) (job ∷ jobs)) here ∙ ap (λ l. job_named next.name jobs ∷ l) later

distinct_tail : (job : Job) (jobs : List Job) → AreNamesDistinct (job ∷ jobs) → AreNamesDistinct jobs
distinct_tail job jobs distinct = λ i j d rises within. distinct (suc i) (suc j) d (omega arith) (omega arith)

distinct_head : (job : Job) (jobs : List Job) → AreNamesDistinct (job ∷ jobs) → (k : ℕ) (d : Job) → k < length jobs → job.name ≢ (get_or jobs k d).name
distinct_head job jobs distinct k d within = distinct 0 (suc k) d (omega arith) (omega arith)

pub own_under : (jobs : List Job) → AreNamesDistinct jobs → jobs_under (map own_name jobs) jobs ≡ jobs
own_under [] distinct = refl
own_under (job ∷ jobs) distinct =
    ap (λ b. cond b job (job_named job.name jobs) ∷ jobs_under (map own_name jobs) (job ∷ jobs)) ((bytes_eq-Decides job.name job.name).1 refl)
    ∙ ap (λ l. job ∷ l) (passed job jobs jobs (distinct_head job jobs distinct) ∙ own_under jobs (distinct_tail job jobs distinct))

-- ---- one name more

pub with_known : (names : List (List ℕ)) (name : List ℕ) → has_name names name ≡ true → with_name names name ≡ names
with_known names name is = ap (λ b. cond b names (names ++ name ∷ [])) is

pub with_new : (names : List (List ℕ)) (name : List ℕ) → has_name names name ≡ false → with_name names name ≡ names ++ name ∷ []
with_new names name is = ap (λ b. cond b names (names ++ name ∷ [])) is

-- jobs whose names have this one stay as they are
pub known_more : (jobs : List Job) (name : List ℕ) → AreNamesDistinct jobs → HasJob name jobs → jobs ≡ jobs_under (with_name (map own_name jobs) name) jobs
known_more jobs name distinct has =
    sym (ap (λ l. jobs_under l jobs) (with_known (map own_name jobs) name (name_of_job jobs name has)) ∙ own_under jobs distinct)

-- others have a job more, which never runs
pub new_more : (jobs : List Job) (name : List ℕ) → AreNamesDistinct jobs → (HasJob name jobs → ⊥) → jobs ++ never name ∷ [] ≡ jobs_under (with_name (map own_name jobs) name) jobs
new_more jobs name distinct none =
    let new = name_of_no_job jobs name none in
    sym (ap (λ l. jobs_under l jobs) (with_new (map own_name jobs) name new) ∙ map-append (λ n. job_named n jobs) (map own_name jobs) (name ∷ [])
    ∙ ap (λ l. l ++ job_named name jobs ∷ []) (own_under jobs distinct) ∙ ap (λ j. jobs ++ j ∷ []) (named_never jobs name new))

-- ---- several names more

lacks_less : (names : List (List ℕ)) (new name : List ℕ) → has_name (with_name names new) name ≡ false → has_name names name ≡ false
lacks_less names new name is = by (has_name names new) is
  where
    by : (b : Bool) → has_name (cond b names (names ++ new ∷ [])) name ≡ false → has_name names name ≡ false
    by true lacks = lacks
    by false lacks = first_false (has_name names name) (has_name (new ∷ []) name) (sym (list_any-append (λ other. bytes_eq other name) names (new ∷ [])) ∙ lacks)

lacks_still : (names more : List (List ℕ)) (name : List ℕ) → has_name (fold with_name names more) name ≡ false → has_name names name ≡ false
lacks_still names [] name is = is
lacks_still names (new ∷ more) name is = lacks_less names new name (lacks_still (with_name names new) more name is)

looked_up : (names : List (List ℕ)) (jobs : List Job) (name : List ℕ) → (has_name names name ≡ false → job_named name jobs ≡ never name)
    → job_named name (jobs_under names jobs) ≡ job_named name jobs
looked_up [] jobs name none = sym (none refl)
looked_up (first ∷ names) jobs name none =
    subst (λ n. cond (bytes_eq n name) (job_named first jobs) (job_named name (jobs_under names jobs)) ≡ job_named name jobs) (sym (named_so first jobs))
    (by (bytes_eq first name) refl (looked_up names jobs name) none)
  where
    by : (b : Bool) → bytes_eq first name ≡ b → ((has_name names name ≡ false → job_named name jobs ≡ never name) → job_named name (jobs_under names jobs) ≡ job_named name jobs)
        → ((b || has_name names name) ≡ false → job_named name jobs ≡ never name)
        → cond b (job_named first jobs) (job_named name (jobs_under names jobs)) ≡ job_named name jobs
    by true e later other = ap (λ n. job_named n jobs) ((bytes_eq-Decides first name).0 e)
    by false e later other = later other

-- jobs under all their names and more, looked up again
under_again : (names others : List (List ℕ)) (jobs : List Job) → ((name : List ℕ) → has_name others name ≡ false → job_named name jobs ≡ never name)
    → jobs_under names (jobs_under others jobs) ≡ jobs_under names jobs
under_again [] others jobs none = refl
under_again (name ∷ names) others jobs none =
    ap (λ j. j ∷ jobs_under names (jobs_under others jobs)) (looked_up others jobs name (none name)) ∙ ap (λ l. job_named name jobs ∷ l) (under_again names others jobs none)

-- more names behind those that came before
pub names_more : (start now new : List Job) (done more : List (List ℕ)) → now ≡ jobs_under (fold with_name (map own_name start) done) start
    → new ≡ jobs_under (fold with_name (map own_name now) more) now → new ≡ jobs_under (fold with_name (map own_name start) (done ++ more)) start
names_more start now new done more now_is new_is =
    let names = fold with_name (map own_name start) done in
    let own : map own_name now ≡ names = ap (map own_name) now_is ∙ names_under names start in
    let all : fold with_name (map own_name start) (done ++ more) ≡ fold with_name names more = fold-append with_name (map own_name start) done more in
    new_is ∙ ap (λ l. jobs_under (fold with_name l more) now) own ∙ ap (λ l. jobs_under (fold with_name names more) l) now_is
    ∙ under_again (fold with_name names more) names start (λ name lacks. named_never start name (lacks_still (map own_name start) done name lacks))
    ∙ ap (λ l. jobs_under l start) (sym all)

-- ---- names of jobs

-- names that are new each go behind those before them
names_behind : (names : List (List ℕ)) (jobs : List Job) → AreNamesDistinct jobs → ((k : ℕ) (d : Job) → k < length jobs → has_name names (get_or jobs k d).name ≡ false)
    → fold with_name names (map own_name jobs) ≡ names ++ map own_name jobs
names_behind names [] distinct new = sym (append-nil names)
names_behind names (job ∷ jobs) distinct new =
    let here : with_name names job.name ≡ names ++ job.name ∷ [] = with_new names job.name (new 0 job (omega arith)) in
    let later = names_behind (names ++ job.name ∷ []) jobs (distinct_tail job jobs distinct)
    (λ k d within. list_any-append (λ other. bytes_eq other (get_or jobs k d).name) names (job.name ∷ [])
    ∙ neither (has_name names (get_or jobs k d).name) (has_name (job.name ∷ []) (get_or jobs k d).name) (new (suc k) d (omega arith))
    (neither (bytes_eq job.name (get_or jobs k d).name) false (differ job.name (get_or jobs k d).name (distinct_head job jobs distinct k d within)) refl)) in
    ap (λ l. fold with_name l (map own_name jobs)) here ∙ later ∙ append_assoc names (job.name ∷ []) (map own_name jobs)

-- those of distinct jobs are their own
pub names_of_distinct : (jobs : List Job) → AreNamesDistinct jobs → job_names jobs ≡ map own_name jobs
names_of_distinct jobs distinct = names_behind [] jobs distinct (λ k d within. refl)

pub job_names-append : (jobs more : List Job) → job_names (jobs ++ more) ≡ fold with_name (job_names jobs) (map own_name more)
job_names-append jobs more = ap (fold with_name []) (map-append own_name jobs more) ∙ fold-append with_name [] (map own_name jobs) (map own_name more)

-- ---- distinct names

-- the names alone say whether they are distinct
pub distinct_by_names : (a b : List Job) → map own_name a ≡ map own_name b → AreNamesDistinct a → AreNamesDistinct b
distinct_by_names a b same distinct i j d rises within equal =
    let size : length a ≡ length b = sym (length-map a own_name) ∙ ap length same ∙ length-map b own_name in
    distinct i j d rises (omega arith) (at_place i ∙ equal ∙ sym (at_place j))
  where
    at_place : (k : ℕ) → (get_or a k d).name ≡ (get_or b k d).name
    at_place k = sym (get_or-map own_name a k d) ∙ ap (λ l. get_or l k d.name) same ∙ get_or-map own_name b k d

own_never : (names : List (List ℕ)) → map own_name (map never names) ≡ names
own_never [] = refl
own_never (name ∷ names) = ap (λ l. name ∷ l) (own_never names)

distinct_with : (names : List (List ℕ)) (name : List ℕ) → AreNamesDistinct (map never names) → AreNamesDistinct (map never (with_name names name))
distinct_with names name distinct = by (has_name names name) refl
  where
    by : (b : Bool) → has_name names name ≡ b → AreNamesDistinct (map never (cond b names (names ++ name ∷ [])))
    by true is = distinct
    by false is =
        let none = no_job_of_name (map never names) name (ap (λ l. has_name l name) (own_never names) ∙ is) in
        subst AreNamesDistinct (sym (map-append never names (name ∷ []))) (distinct_push (map never names) (never name) distinct none)

distinct_fold : (names more : List (List ℕ)) → AreNamesDistinct (map never names) → AreNamesDistinct (map never (fold with_name names more))
distinct_fold names [] distinct = distinct
distinct_fold names (name ∷ more) distinct = distinct_fold (with_name names name) more (distinct_with names name distinct)

-- jobs under their names and more are distinct, if they were
pub distinct_more : (jobs : List Job) (more : List (List ℕ)) → AreNamesDistinct jobs → AreNamesDistinct (jobs_under (fold with_name (map own_name jobs) more) jobs)
distinct_more jobs more distinct =
    let names = fold with_name (map own_name jobs) more in
    distinct_by_names (map never names) (jobs_under names jobs) (own_never names ∙ sym (names_under names jobs))
    (distinct_fold (map own_name jobs) more (distinct_by_names jobs (map never (map own_name jobs)) (sym (own_never (map own_name jobs))) distinct))

-- jobs under the names of some jobs are distinct
pub distinct_of_names : (some jobs : List Job) → AreNamesDistinct (jobs_under (job_names some) jobs)
distinct_of_names some jobs =
    let names = job_names some in
    distinct_by_names (map never names) (jobs_under names jobs) (own_never names ∙ sym (names_under names jobs))
    (distinct_fold [] (map own_name some) (λ i j d rises within. absurd (omega arith)))

-- ---- what holds of each name

pub all_names : (P : List ℕ → Type 0) (names more : List (List ℕ)) → AllByRecursion P names → AllByRecursion P more → AllByRecursion P (fold with_name names more)
all_names P names [] all others = all
all_names P names (name ∷ more) all others = all_names P (with_name names name) more (by (has_name names name)) others.1
  where
    pushed : (list : List (List ℕ)) → AllByRecursion P list → AllByRecursion P (list ++ name ∷ [])
    pushed [] each = (others.0, tt)
    pushed (first ∷ list) each = (each.0, pushed list each.1)

    by : (b : Bool) → AllByRecursion P (cond b names (names ++ name ∷ []))
    by true = all
    by false = pushed names all

-- ---- jobs in a map

-- what a look-up by a text finds is when the job of that name runs
pub found_timing : (entries : List (String Global × Timing)) (name : List ℕ) (timing : Timing) → lookup (λ k. bytes_eq name (string_bytes k)) entries ≡ Some timing
    → named_job name timing.zone timing.kind ≡ job_named name (map entry_job entries)
found_timing [] name timing is = cc
found_timing (entry ∷ entries) name timing is = by (bytes_eq name (string_bytes entry.0)) refl (found_timing entries name timing) is
  where
    others : Job
    others = job_named name (map entry_job entries)

    by : (b : Bool) → bytes_eq name (string_bytes entry.0) ≡ b
        → (lookup (λ k. bytes_eq name (string_bytes k)) entries ≡ Some timing → named_job name timing.zone timing.kind ≡ others)
        → cond b (Some entry.1) (lookup (λ k. bytes_eq name (string_bytes k)) entries) ≡ Some timing
        → named_job name timing.zone timing.kind ≡ cond (bytes_eq (string_bytes entry.0) name) (entry_job entry) others
    by true e later found =
        let same : name ≡ string_bytes entry.0 = (bytes_eq-Decides name (string_bytes entry.0)).0 e in
        let here : entry.1 ≡ timing = cc in
        subst (λ (t : Timing). named_job name t.zone t.kind ≡ cond (bytes_eq (string_bytes entry.0) name) (entry_job entry) others) here
        (ap (λ n. named_job n entry.1.zone entry.1.kind) same ∙ sym (ap (λ b. cond b (entry_job entry) others) ((bytes_eq-Decides (string_bytes entry.0) name).1 (sym same))))
    by false e later found =
        later found ∙ sym (ap (λ b. cond b (entry_job entry) others)
        (differ (string_bytes entry.0) name (λ same. true≢false (sym ((bytes_eq-Decides name (string_bytes entry.0)).1 (sym same)) ∙ e))))

-- where it finds none, it never runs
pub found_none : (entries : List (String Global × Timing)) (name : List ℕ) → lookup (λ k. bytes_eq name (string_bytes k)) entries ≡ None
    → never name ≡ job_named name (map entry_job entries)
found_none entries name is = sym (named_never (map entry_job entries) name (name_of_no_job (map entry_job entries) name (no_job entries name (ap is_some is))))

-- a text that the look-up doesn't find goes last
pub name_added : (entries more : List (String Global × Timing)) (key : String Global) (name : List ℕ) → string_bytes key ≡ name
    → is_some (lookup (λ k. bytes_eq name (string_bytes k)) entries) ≡ false → more ≡ insert_entry string_eq entries key (record { zone = 0; kind = Never })
    → map entry_job more ≡ map entry_job entries ++ never name ∷ []
name_added entries more key name same absent more_is =
    let timing : Timing = record { zone = 0; kind = Never } in
    let none : HasJob (string_bytes key) (map entry_job entries) → ⊥ = λ has. no_job entries name absent (subst (λ n. HasJob n (map entry_job entries)) same has) in
    ap (map entry_job) (more_is ∙ insert_new entries key timing none) ∙ map-append entry_job entries ((key, timing) ∷ []) ∙ ap (λ n. map entry_job entries ++ never n ∷ []) same

-- ---- names, place by place

some_so : {X : Type 0} (o : Option X) (x : X) (P : X → Type 0) → o ≡ Some x → IsSomeAnd o P → P x
some_so None x P is holds = absurd holds
some_so (Some y) x P is holds = let same : y ≡ x = cc in subst P same holds

none_so : {X : Type 0} (o : Option X) (P : X → Type 0) → o ≡ None → IsSomeAnd o P → ⊥
none_so None P is holds = holds
none_so (Some y) P is holds = cc

pub take_name : (jobs : List Job) (place : ℕ) (name : List ℕ) → IsSomeAnd (slice_get jobs place) (λ job. name ≡ job.name)
    → take (place + 1) (map own_name jobs) ≡ take place (map own_name jobs) ++ name ∷ []
take_name jobs place name is = elim (slice_get_cases jobs place).1 [
  | inl (job, inside, found, same) ↦
      let within : place < length (map own_name jobs) = omega (arith, length-map jobs own_name) in
      let here : get_or (map own_name jobs) place job.name ≡ name =
      get_or-map own_name jobs place job ∙ ap own_name same ∙ sym (some_so (slice_get jobs place) job (λ j. name ≡ j.name) found is) in
      take_more (map own_name jobs) place job.name within ∙ ap (λ n. take place (map own_name jobs) ++ n ∷ []) here
  | inr past ↦ absurd (none_so (slice_get jobs place) (λ j. name ≡ j.name) past.1 is)
]

-- one job more under a name
pub next_under : (names jobs : List Job) (place : ℕ) (name : List ℕ) (timing : Timing) (specs more : List JobSpec) (spec : JobSpec)
    → IsSomeAnd (slice_get names place) (λ job. name ≡ job.name) → named_job name timing.zone timing.kind ≡ job_named name jobs
    → map job_of specs ≡ jobs_under (take place (map own_name names)) jobs → more ≡ specs ++ spec ∷ []
    → spec.name ≡ name → spec.zone ≡ timing.zone → spec.kind ≡ timing.kind → map job_of more ≡ jobs_under (take (place + 1) (map own_name names)) jobs
next_under names jobs place name timing specs more spec here runs so_far is same zone kind =
    let front = take place (map own_name names) in
    ap (map job_of) is ∙ map-append job_of specs (spec ∷ []) ∙ ap (λ l. l ++ job_of spec ∷ []) so_far
    ∙ ap (λ j. jobs_under front jobs ++ j ∷ []) (same_job (job_of spec) (named_job name timing.zone timing.kind) same zone kind ∙ runs)
    ∙ sym (ap (λ l. jobs_under l jobs) (take_name names place name here) ∙ map-append (λ n. job_named n jobs) front (name ∷ []))

-- the names of jobs of distinct names and of some behind them
pub names_of_more : (jobs more : List Job) → AreNamesDistinct jobs → job_names (jobs ++ more) ≡ fold with_name (map own_name jobs) (map own_name more)
names_of_more jobs more distinct = job_names-append jobs more ∙ ap (λ l. fold with_name l (map own_name more)) (names_of_distinct jobs distinct)
