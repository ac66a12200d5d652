-- The order of rows by job and instant.
use Rattle.std.proofs.Common.{◌≡◌, inl, inr, ◌⊎◌, suc, ◌<◌, List, [], ◌∷◌, get_or, false, refl, sym, arith, ◌<ℤ◌}
use Rattle.std.specs.Prelude.{All, AllPairs}
use Rattle.std.specs.Ordering.{MatchOrdering, is_lt, nat_cmp, int_cmp, ordering_then}
use Rattle.std.specs.Cmp.{IsTotalOrder}
use Rattle.std.specs.declared.cmp.Ordering.{Ordering}
use Rattle.std.specs.declared.cmp.Ordering.TheVariants.{Less, Equal, Greater}
use Rattle.std.specs.List.Sorted.{IsPermutation, IsSortedByKey}
use Rattle.std.proofs.lemmas.Cmp.{ranked, int_ranked, nat_cmp_total, int_cmp_total, on_total, then_total}
use Rattle.std.proofs.lemmas.Int.{ints}
use Rattle.std.proofs.lemmas.List.Elements.{All-nil, All-cons, All-weaker}
use Rattle.std.proofs.lemmas.List.Kept.{AllPairs-cons}
use Rattle.std.proofs.lemmas.List.Sorted.{IsPermutation-refl, IsPermutation-cons, IsPermutation-middle, IsPermutation-trans, All-permutation, ranks_by, sorted_far}
use Rattle.cluster_sched.specs.declared.row.Name.{Name}
use Rattle.cluster_sched.specs.declared.row.SchedRow.{SchedRow}
use Rattle.report_text.specs.Report.{IsInOrder, IsNotAfter}

-- the order of names that is derived
abbrev name_cmp : Name → Name → Ordering
name_cmp a b = ordering_then (nat_cmp a.job b.job) (int_cmp a.at b.at)

name_cmp_total : IsTotalOrder name_cmp
name_cmp_total = then_total (on_total (λ (a : Name). a.job) nat_cmp_total) (on_total (λ (a : Name). a.at) int_cmp_total)

-- a name stands before another, or behind it, by what comparing their parts gives
compared : (a b : Name) (p q : Ordering) → MatchOrdering p (a.job < b.job) (a.job ≡ b.job) (b.job < a.job)
    → MatchOrdering q (a.at <ℤ b.at) (a.at ≡ b.at) (b.at <ℤ a.at) → IsNotAfter a b ⊎ IsNotAfter b a
compared a b Less q jobs ats = inl (inl jobs)
compared a b Equal Less jobs ats = inl (inr (jobs, omega (arith, ints)))
compared a b Equal Equal jobs ats = inl (inr (jobs, omega (arith, ints)))
compared a b Equal Greater jobs ats = inr (inr (sym jobs, omega (arith, ints)))
compared a b Greater q jobs ats = inr (inl jobs)

either_way : (a b : Name) → IsNotAfter a b ⊎ IsNotAfter b a
either_way a b = compared a b (nat_cmp a.job b.job) (int_cmp a.at b.at) (ranked a.job b.job _ refl) (int_ranked a.at b.at _ refl)

not_less : (a b : Name) (p q : Ordering) → MatchOrdering p (b.job < a.job) (b.job ≡ a.job) (a.job < b.job)
    → MatchOrdering q (b.at <ℤ a.at) (b.at ≡ a.at) (a.at <ℤ b.at) → is_lt (ordering_then p q) ≡ false → IsNotAfter a b
not_less a b Less q jobs ats upto = absurd (cc)
not_less a b Equal Less jobs ats upto = absurd (cc)
not_less a b Equal Equal jobs ats upto = inr (sym jobs, omega (arith, ints))
not_less a b Equal Greater jobs ats upto = inr (sym jobs, omega (arith, ints))
not_less a b Greater q jobs ats upto = inl jobs

-- what a sort by name leaves
pub in_order_from_sort : (rows : List SchedRow) → IsSortedByKey (λ (row : SchedRow). row.name) name_cmp rows → AllPairs (λ a b. IsNotAfter a.name b.name) rows
in_order_from_sort rows up i j d before within =
    let a = (get_or rows i d).name in
    let b = (get_or rows j d).name in
    not_less a b (nat_cmp b.job a.job) (int_cmp b.at a.at) (ranked b.job a.job _ refl) (int_ranked b.at a.at _ refl)
    (sorted_far (λ x y. is_lt (name_cmp x.name y.name)) (ranks_by name_cmp_total (λ (row : SchedRow). row.name)) rows up i j d (omega arith) within)

IsNotAfter-trans : (a b c : Name) → IsNotAfter a b → IsNotAfter b c → IsNotAfter a c
IsNotAfter-trans a b c (inl x) (inl y) = inl (omega arith)
IsNotAfter-trans a b c (inl x) (inr y) = inl (let e = y.0 in omega arith)
IsNotAfter-trans a b c (inr x) (inl y) = inl (let e = x.0 in omega arith)
IsNotAfter-trans a b c (inr x) (inr y) =
    let d = x.0 in let e = y.0 in let f = x.1 in let g = y.1 in inr (omega arith, omega (arith, ints))

abbrev pub AreInOrder : List SchedRow → Type 0
AreInOrder rows = AllPairs (λ a b. IsNotAfter a.name b.name) rows

pub first_of_order : (row : SchedRow) (rows : List SchedRow) → AreInOrder (row ∷ rows) → All (λ other. IsNotAfter row.name other.name) rows
first_of_order row rows up k d within = up 0 (suc k) d (omega arith) (omega arith)

pub rest_of_order : (row : SchedRow) (rows : List SchedRow) → AreInOrder (row ∷ rows) → AreInOrder rows
rest_of_order row rows up i j d before within = up (suc i) (suc j) d (omega arith) (omega arith)

-- a row put among others that are in order
record IsPut (row : SchedRow) (rows : List SchedRow) : Type 0 where
  all : List SchedRow
  same : IsPermutation (row ∷ rows) all
  sorted : AreInOrder all

put : (row : SchedRow) (rows : List SchedRow) → AreInOrder rows → IsPut row rows
put row [] up = record {
  all = row ∷ [];
  same = IsPermutation-refl (row ∷ []);
  sorted = AllPairs-cons (λ (a b : SchedRow). IsNotAfter a.name b.name) row [] (All-nil _) up;
}
put row (first ∷ rows) up = elim (either_way row.name first.name) [
  | inl le ↦ record {
    all = row ∷ first ∷ rows;
    same = IsPermutation-refl (row ∷ first ∷ rows);
    sorted = AllPairs-cons (λ (a b : SchedRow). IsNotAfter a.name b.name) row (first ∷ rows)
        (All-cons (λ (other : SchedRow). IsNotAfter row.name other.name) first rows le
        (All-weaker (λ (other : SchedRow). IsNotAfter first.name other.name) (λ other. IsNotAfter row.name other.name)
        (λ other next. IsNotAfter-trans row.name first.name other.name le next) rows (first_of_order first rows up)))
        up;
  }
  | inr ge ↦ (let rest = put row rows (rest_of_order first rows up) in
      record {
        all = first ∷ rest.all;
        same = IsPermutation-trans (row ∷ first ∷ rows) (first ∷ row ∷ rows) (first ∷ rest.all)
            (IsPermutation-middle (row ∷ []) first rows) (IsPermutation-cons first (row ∷ rows) rest.all rest.same);
        sorted = AllPairs-cons (λ (a b : SchedRow). IsNotAfter a.name b.name) first rest.all
            (All-permutation (λ (other : SchedRow). IsNotAfter first.name other.name) (row ∷ rows) rest.all rest.same
            (All-cons (λ (other : SchedRow). IsNotAfter first.name other.name) row rows ge (first_of_order first rows up)))
            rest.sorted;
      })
]

-- the rows can be put in order
pub some_order : (held : List SchedRow) → (rows : List SchedRow) × IsInOrder held rows
some_order [] = ([], record { same = IsPermutation-refl []; sorted = λ i j d before within. absurd (omega arith) })
some_order (row ∷ held) =
    let rest = some_order held in
    let all = put row rest.0 rest.1.sorted in (
      all.all,
      record {
        same = IsPermutation-trans (row ∷ held) (row ∷ rest.0) all.all (IsPermutation-cons row held rest.0 rest.1.same) all.same;
        sorted = all.sorted;
      },
    )
