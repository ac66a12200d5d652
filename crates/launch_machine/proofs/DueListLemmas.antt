-- A job has a list of its due instants, whenever the versions of its table are adopted.
use Rattle.std.proofs.Common.{◌≡◌, ℕ, zero, suc, ◌<◌, List, [], ◌∷◌, ◌++◌, inl, inr, ℤ, pos, ◌+ℤ◌, ◌<ℤ◌, ◌≤ℤ◌, subst, arith}
use Rattle.std.specs.Prelude.{Contains, unsigned_abs, ◌-ℤ◌}
use Rattle.std.proofs.lemmas.Int.{ints, by_lt_z}
use Rattle.std.proofs.lemmas.List.Elements.{Contains-append_left, Contains-push, Contains-push_cases}
use Rattle.due_set.specs.Due.{IsRising}
use Rattle.due_set.specs.Table.{IsSound, Table}
use Rattle.due_set.proofs.DecideLemmas.{IsDecided}
use Rattle.due_set.proofs.ExistLemmas.{due_or_not}
use Rattle.due_set.proofs.Rising.{Contains-none, IsRising-push}
use Rattle.launch_machine.specs.Versions.{IsDueUnder, IsListUnder, version_at}

-- the instants before one of which it holds, where it holds of none before another
record ListBelow (P : ℤ → Type 0) (from : ℤ) (count : ℕ) : Type 0 where
  pub instants : List ℤ
  pub rising : IsRising instants
  pub sound : (t : ℤ) → Contains instants t → P t
  pub below : (t : ℤ) → Contains instants t → t <ℤ (from +ℤ pos count)
  pub complete : (t : ℤ) → P t → t <ℤ (from +ℤ pos count) → Contains instants t

sooner : (from t : ℤ) (count : ℕ) → t <ℤ (from +ℤ pos count) → t <ℤ (from +ℤ pos (suc count))
sooner from t count lt = omega (arith, ints)

is_last : (from t : ℤ) (count : ℕ) → t <ℤ (from +ℤ pos (suc count)) → (from +ℤ pos count) ≤ℤ t → (from +ℤ pos count) ≡ t
is_last from t count lt le = omega (arith, ints)

last_below : (from t : ℤ) (count : ℕ) → (from +ℤ pos count) ≡ t → t <ℤ (from +ℤ pos (suc count))
last_below from t count e = omega (arith, ints)

list_push : (P : ℤ → Type 0) (from : ℤ) (count : ℕ) → ListBelow P from count → P (from +ℤ pos count) → ListBelow P from (suc count)
list_push P from count known here =
    let last : ℤ = from +ℤ pos count in
    record {
      instants = known.instants ++ last ∷ [];
      rising = IsRising-push known.instants last known.rising known.below;
      sound = λ t h. elim (Contains-push_cases known.instants last t h) [ inl had ↦ known.sound t had | inr e ↦ subst P e here ];
      below = λ t h. elim (Contains-push_cases known.instants last t h) [ inl had ↦ sooner from t count (known.below t had) | inr e ↦ last_below from t count e ];
      complete = λ t is lt. by_lt_z t last
          (λ before. Contains-append_left known.instants (last ∷ []) t (known.complete t is before))
          (λ le. subst (Contains (known.instants ++ last ∷ [])) (is_last from t count lt le) (Contains-push known.instants last));
    }

list_stay : (P : ℤ → Type 0) (from : ℤ) (count : ℕ) → ListBelow P from count → (P (from +ℤ pos count) → ⊥) → ListBelow P from (suc count)
list_stay P from count known not = record {
  instants = known.instants;
  rising = known.rising;
  sound = known.sound;
  below = λ t h. sooner from t count (known.below t h);
  complete = λ t is lt. by_lt_z t (from +ℤ pos count) (λ before. known.complete t is before)
      (λ le. absurd (not (subst P (back t lt le) is)));
}
  where
    back : (t : ℤ) → t <ℤ (from +ℤ pos (suc count)) → (from +ℤ pos count) ≤ℤ t → t ≡ (from +ℤ pos count)
    back t lt le = omega (arith, ints)

list_below : (P : ℤ → Type 0) (from : ℤ) → ((t : ℤ) → IsDecided (P t)) → ((t : ℤ) → P t → from ≤ℤ t) → (count : ℕ) → ListBelow P from count
list_below P from decided since zero = record {
  instants = [];
  rising = tt;
  sound = λ t h. absurd (Contains-none t h);
  below = λ t h. absurd (Contains-none t h);
  complete = λ t is lt. absurd (none t (since t is) lt);
}
  where
    none : (t : ℤ) → from ≤ℤ t → t <ℤ (from +ℤ pos 0) → ⊥
    none t from_is lt = omega (arith, ints)
list_below P from decided since (suc count) = elim (decided (from +ℤ pos count)) [
  | inl here ↦ list_push P from count (list_below P from decided since count) here
  | inr not ↦ list_stay P from count (list_below P from decided since count) not
]

pub due_instants : (table : Table) → IsSound table → (adoptions : List ℤ) (job : ℕ) → (dues : List ℤ) × IsListUnder table adoptions job dues
due_instants table sound adoptions job =
    let list = list_below (IsDueUnder table adoptions job) table.window.from.0 (λ t. due_or_not table sound (version_at adoptions t) job t)
    (λ t due. due.inside.since) (unsigned_abs (table.window.until.0 -ℤ table.window.from.0)) in (
      list.instants,
      record {
        rising = list.rising;
        sound = list.sound;
        complete = λ t due. list.complete t due (before t table.window.from.0 table.window.until.0 due.inside.since due.inside.before);
      },
    )
  where
    before : (t from until : ℤ) → from ≤ℤ t → t <ℤ until → t <ℤ (from +ℤ pos (unsigned_abs (until -ℤ from)))
    before t from until since lt = omega (arith, ints)
