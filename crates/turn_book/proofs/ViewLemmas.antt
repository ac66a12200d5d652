-- Lists of views of which one changes.
use Rattle.std.proofs.Common.{◌≡◌, ◌≢◌, ◌⊎◌, ℕ, zero, suc, ◌+◌, ◌<◌, ◌≤◌, Bool, true, false, List, [], ◌∷◌, ◌++◌, length, set, refl, sym, ap, ◌∙◌, subst, inl, inr, ⊎_elim, arith}
use mathlib.Core.Option.{some, some-injective, some-ne-none}
use lib.ListN.{get_elem?}
use Rattle.atomic_table.proofs.Lists.{at_set}
use Rattle.turn_book.specs.declared.view.View.{View}
use Rattle.turn_book.specs.Rule.{one_if, seats_waiting}

module _ {A : Type 0} where
  -- a place that has something is below the length
  pub at_within : (l : List A) (i : ℕ) (a : A) → get_elem? l i ≡ some a → i < length l
  at_within [] i a is = absurd (some-ne-none a (sym is))
  at_within (x ∷ xs) zero a is = omega arith
  at_within (x ∷ xs) (suc i) a is = let more = at_within xs i a is in omega arith

  -- a fact of each after one has changed
  pub each_set : (P : ℕ → A → Type 0) (l : List A) (i : ℕ) (w : A) → ((j : ℕ) (a : A) → j ≢ i → get_elem? l j ≡ some a → P j a) → P i w → (j : ℕ) (a : A) → get_elem? (set l i w) j ≡ some a → P j a
  each_set P l i w others own j a is =
      ⊎_elim (λ t. subst (λ (k : ℕ). P k a) (sym t.0) (subst (λ (x : A). P i x) t.1 own)) (λ t. others j a t.0 t.1) (at_set l i j w a is)

  -- what stands in a list with one more is in the list, or is the last
  pub at_end : (l : List A) (last : A) (j : ℕ) (a : A) → get_elem? (l ++ last ∷ []) j ≡ some a → (get_elem? l j ≡ some a) ⊎ ((j ≡ length l) × (last ≡ a))
  at_end [] last zero a is = inr (refl, some-injective last a is)
  at_end [] last (suc j) a is = absurd (some-ne-none a (sym is))
  at_end (x ∷ xs) last zero a is = inl is
  at_end (x ∷ xs) last (suc j) a is = ⊎_elim (λ t. inl t) (λ t. inr (ap suc t.0, t.1)) (at_end xs last j a is)

one_at_most : (b : Bool) → one_if b ≤ 1
one_at_most true = omega arith
one_at_most false = omega arith

module _ {L K R : Type 0} where
  pub waiting_set : (views : List (View L K R)) (i : ℕ) (v w : View L K R) → get_elem? views i ≡ some v → seats_waiting (set views i w) + one_if v.waits ≡ seats_waiting views + one_if w.waits
  waiting_set [] i v w is = absurd (some-ne-none v (sym is))
  waiting_set (x ∷ xs) zero v w is =
      let same : one_if x.waits ≡ one_if v.waits = ap (λ (u : View L K R). one_if u.waits) (some-injective x v is) in omega arith
  waiting_set (x ∷ xs) (suc i) v w is = let more = waiting_set xs i v w is in omega arith

  pub waiting_end : (views : List (View L K R)) (w : View L K R) → seats_waiting (views ++ w ∷ []) ≡ seats_waiting views + one_if w.waits
  waiting_end [] w = omega arith
  waiting_end (x ∷ xs) w = let more = waiting_end xs w in omega arith

  pub waiting_few : (views : List (View L K R)) → seats_waiting views ≤ length views
  waiting_few [] = omega arith
  waiting_few (x ∷ xs) = let more = waiting_few xs in let one = one_at_most x.waits in omega arith

  -- the tickets of those that wait differ
  abbrev pub AreApart : List (View L K R) → Type 0
  AreApart views = (i j : ℕ) (v w : View L K R) → get_elem? views i ≡ some v → get_elem? views j ≡ some w → v.waits ≡ true → w.waits ≡ true → v.ticket ≡ w.ticket → i ≡ j

  -- they do so after one has changed, whose ticket is nobody else's
  pub apart_set : (views : List (View L K R)) (at : ℕ) (new : View L K R) → AreApart views
      → (new.waits ≡ true → (j : ℕ) (u : View L K R) → j ≢ at → get_elem? views j ≡ some u → u.waits ≡ true → new.ticket ≢ u.ticket)
      → AreApart (set views at new)
  apart_set views at new apart fresh i j v w vi wj vw ww same =
      ⊎_elim
      (λ (a : (i ≡ at) × (new ≡ v)). ⊎_elim
      (λ (b : (j ≡ at) × (new ≡ w)). a.0 ∙ sym b.0)
      (λ (b : (j ≢ at) × (get_elem? views j ≡ some w)). absurd (fresh (ap (λ (u : View L K R). u.waits) a.1 ∙ vw) j w b.0 b.1 ww (ap (λ (u : View L K R). u.ticket) a.1 ∙ same)))
      (at_set views at j new w wj))
      (λ (a : (i ≢ at) × (get_elem? views i ≡ some v)). ⊎_elim
      (λ (b : (j ≡ at) × (new ≡ w)). absurd (fresh (ap (λ (u : View L K R). u.waits) b.1 ∙ ww) i v a.0 a.1 vw (ap (λ (u : View L K R). u.ticket) b.1 ∙ sym same)))
      (λ (b : (j ≢ at) × (get_elem? views j ≡ some w)). apart i j v w a.1 b.1 vw ww same)
      (at_set views at j new w wj))
      (at_set views at i new v vi)
