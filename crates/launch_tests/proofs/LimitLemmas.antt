-- Jobs of which each has a longer name than those before it.
use Rattle.std.proofs.Common.{◌≡◌, ◌≢◌, ℕ, ◌==◌, Bool, true, false, ◌||◌, ◌+◌, ◌<◌, ◌≤◌, List, [], ◌∷◌, ◌++◌, length, refl, ap, ◌∙◌, arith, length-append}
use Rattle.std.specs.Prelude.{All}
use Rattle.std.proofs.lemmas.List.Elements.{All-push}
use Rattle.std.proofs.lemmas.List.Quantifiers.{all_pairs_push}
use Rattle.due_set.specs.Table.{Job, AreKindsOfNames, AreNamesDistinct, IsKindOfName, is_period_name}

-- so many jobs of the first zone, whose names have at most as many bytes
pub record AreGrowing (jobs : List Job) (count : ℕ) : Type 0 where
  pub count_is : length jobs ≡ count
  pub zones : All (λ job. job.zone < 1) jobs
  pub names : All (λ job. length job.name ≤ count) jobs
  pub distinct : AreNamesDistinct jobs
  pub kinds : AreKindsOfNames jobs

-- a job with a longer name
pub AreGrowing-push : (jobs : List Job) (job : Job) (count : ℕ) → AreGrowing jobs count → length job.name ≡ count + 1 → job.zone ≡ 0
    → IsKindOfName job.name job.kind → AreGrowing (jobs ++ job ∷ []) (count + 1)
AreGrowing-push jobs job count grow long zone kind =
    record {
      count_is = length-append jobs (job ∷ []) ∙ ap (λ n. n + 1) grow.count_is;
      zones = All-push (λ j. j.zone < 1) jobs job grow.zones (omega (arith, zone));
      names = All-push (λ j. length j.name ≤ count + 1) jobs job (λ k d lt. let le = grow.names k d lt in omega (arith, le)) (omega (arith, long));
      distinct = all_pairs_push (λ a b. a.name ≢ b.name) jobs job grow.distinct
          (λ k d lt same. let le = grow.names k d lt in let e = ap length same in absurd (omega (arith, le, e, long)));
      kinds = All-push (λ j. IsKindOfName j.name j.kind) jobs job grow.kinds kind;
    }

-- a name without a `/` that grows by an `x` has none
pub plain_push : (name : List ℕ) → is_period_name name ≡ false → is_period_name (name ++ 120 ∷ []) ≡ false
plain_push [] is = refl
plain_push (c ∷ cs) is = by (c == 47) is (plain_push cs)
  where
    by : (test : Bool) → (test || is_period_name cs) ≡ false → (is_period_name cs ≡ false → is_period_name (cs ++ 120 ∷ []) ≡ false)
        → (test || is_period_name (cs ++ 120 ∷ [])) ≡ false
    by true is more = is
    by false is more = more is
