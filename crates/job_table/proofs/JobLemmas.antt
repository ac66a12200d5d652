-- Jobs that are kept in a map under their names.
use Rattle.std.proofs.Common.{◌≡◌, ◌≢◌, ◌⊎◌, ℕ, ◌+◌, Bool, true, false, cond, take, get_or, List, [], ◌∷◌, ◌++◌, Some, String, map, refl, ap, ◌∙◌, sym, inl, inr, true≢false, bytes_eq}
use Rattle.std.specs.Prelude.{All, is_some, string_bytes, slice_get}
use Rattle.std.specs.String.{string_eq}
use Rattle.std.specs.Map.{lookup}
use Rattle.std.specs.declared.alloc.Global.{Global}
use Rattle.std.proofs.lemmas.List.{map-append, take_more}
use Rattle.std.proofs.lemmas.Option.{slice_get_within, get_or_from_slice_get}
use Rattle.std.proofs.lemmas.List.Elements.{All-nil, All-cons}
use Rattle.std.proofs.lemmas.List.Quantifiers.{all_pairs_push}
use Rattle.std.proofs.lemmas.Slice.Eq.{bytes_eq-Decides}
use Rattle.indexmap.specs.IndexMap.{insert_entry}
use Rattle.due_set.specs.Table.{Job, job_of, AreNamesDistinct}
use Rattle.due_set.specs.declared.job.JobSpec.{JobSpec}
use Rattle.job_table.specs.Jobs.{entry_job, HasJob}
use Rattle.job_table.specs.declared.jobs.Timing.{Timing}

-- what a look-up by a text finds is a job of that name
pub found_job : (entries : List (String Global × Timing)) (name : List ℕ) → is_some (lookup (λ k. bytes_eq name (string_bytes k)) entries) ≡ true → HasJob name (map entry_job entries)
found_job [] name is = absurd (true≢false (sym is))
found_job (entry ∷ entries) name is = by (bytes_eq name (string_bytes entry.0)) refl (found_job entries name) is
  where
    by : (b : Bool) → bytes_eq name (string_bytes entry.0) ≡ b
        → (is_some (lookup (λ k. bytes_eq name (string_bytes k)) entries) ≡ true → HasJob name (map entry_job entries))
        → is_some (cond b (Some entry.1) (lookup (λ k. bytes_eq name (string_bytes k)) entries)) ≡ true
        → (string_bytes entry.0 ≡ name) ⊎ HasJob name (map entry_job entries)
    by true e later found = inl (sym ((bytes_eq-Decides name (string_bytes entry.0)).0 e))
    by false e later found = inr (later found)

-- a job of the name is found
pub no_job : (entries : List (String Global × Timing)) (name : List ℕ) → is_some (lookup (λ k. bytes_eq name (string_bytes k)) entries) ≡ false → HasJob name (map entry_job entries) → ⊥
no_job [] name is has = has
no_job (entry ∷ entries) name is has = by (bytes_eq name (string_bytes entry.0)) refl (no_job entries name) is has
  where
    by : (b : Bool) → bytes_eq name (string_bytes entry.0) ≡ b
        → (is_some (lookup (λ k. bytes_eq name (string_bytes k)) entries) ≡ false → HasJob name (map entry_job entries) → ⊥)
        → is_some (cond b (Some entry.1) (lookup (λ k. bytes_eq name (string_bytes k)) entries)) ≡ false
        → (string_bytes entry.0 ≡ name) ⊎ HasJob name (map entry_job entries) → ⊥
    by true e none found here = true≢false found
    by false e none found (inl same) = true≢false (sym ((bytes_eq-Decides name (string_bytes entry.0)).1 (sym same)) ∙ e)
    by false e none found (inr later) = none found later

-- a new name goes last
pub insert_new : (entries : List (String Global × Timing)) (name : String Global) (timing : Timing) → (HasJob (string_bytes name) (map entry_job entries) → ⊥)
    → insert_entry string_eq entries name timing ≡ entries ++ (name, timing) ∷ []
insert_new [] name timing none = refl
insert_new (entry ∷ entries) name timing none = by (string_eq name entry.0) refl (insert_new entries name timing (λ later. none (inr later)))
  where
    by : (b : Bool) → string_eq name entry.0 ≡ b → insert_entry string_eq entries name timing ≡ entries ++ (name, timing) ∷ []
        → cond b ((entry.0, timing) ∷ entries) (entry ∷ insert_entry string_eq entries name timing) ≡ entry ∷ (entries ++ (name, timing) ∷ [])
    by true e later = absurd (none (inl (sym ((bytes_eq-Decides (string_bytes name) (string_bytes entry.0)).0 e))))
    by false e later = ap (λ rest. entry ∷ rest) later

none_named : (jobs : List Job) (name : List ℕ) → (HasJob name jobs → ⊥) → All (λ job. job.name ≢ name) jobs
none_named [] name none = All-nil (λ job. job.name ≢ name)
none_named (job ∷ jobs) name none = All-cons (λ j. j.name ≢ name) job jobs (λ same. none (inl same)) (none_named jobs name (λ later. none (inr later)))

-- the names stay distinct with a new one at the end
pub distinct_push : (jobs : List Job) (job : Job) → AreNamesDistinct jobs → (HasJob job.name jobs → ⊥) → AreNamesDistinct (jobs ++ job ∷ [])
distinct_push jobs job distinct none = all_pairs_push (λ a b. a.name ≢ b.name) jobs job distinct (none_named jobs job.name none)

pub same_job : (a b : Job) → a.name ≡ b.name → a.zone ≡ b.zone → a.kind ≡ b.kind → a ≡ b
same_job a b names zones kinds = rw (names, zones, kinds) refl

-- one entry more, as a job of a table
pub next_spec : (entries : List (String Global × Timing)) (place : ℕ) (entry : String Global × Timing) (specs more : List JobSpec) (spec : JobSpec)
    → slice_get entries place ≡ Some entry → map job_of specs ≡ map entry_job (take place entries) → more ≡ specs ++ spec ∷ []
    → spec.name ≡ string_bytes entry.0 → spec.zone ≡ entry.1.zone → spec.kind ≡ entry.1.kind → map job_of more ≡ map entry_job (take (place + 1) entries)
next_spec entries place entry specs more spec found so_far is name zone kind =
    let within = slice_get_within entries place entry found in
    let here : get_or entries place entry ≡ entry = get_or_from_slice_get entries place entry entry found in
    let front : take (place + 1) entries ≡ take place entries ++ entry ∷ [] = take_more entries place entry within ∙ ap (λ e. take place entries ++ e ∷ []) here in
    let job : job_of spec ≡ entry_job entry = same_job (job_of spec) (entry_job entry) name zone kind in
    ap (map job_of) is ∙ map-append job_of specs (spec ∷ []) ∙ ap (λ l. l ++ job_of spec ∷ []) so_far ∙ ap (λ j. map entry_job (take place entries) ++ j ∷ []) job
    ∙ sym (ap (map entry_job) front ∙ map-append entry_job (take place entries) (entry ∷ []))
