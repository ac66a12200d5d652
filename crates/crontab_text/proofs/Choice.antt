-- Facts that hold or don't.
use Rattle.std.proofs.Common.{◌⊎◌, ℕ, ◌≤◌, List, [], ◌∷◌, inl, inr}
use Rattle.std.specs.List.{AllByRecursion}
use Rattle.cron_fields.proofs.Choice.{Decided, le_or_not}

pub decided_or : {P Q : Type 0} → Decided P → Decided Q → Decided (P ⊎ Q)
decided_or (inl p) q = inl (inl p)
decided_or (inr p) (inl q) = inl (inr q)
decided_or (inr p) (inr q) = inr (λ either. elim either [ inl h ↦ p h | inr h ↦ q h ])

pub decided_and : {P Q : Type 0} → Decided P → Decided Q → Decided (P × Q)
decided_and (inl p) (inl q) = inl (p, q)
decided_and (inl p) (inr q) = inr (λ both. q both.1)
decided_and (inr p) q = inr (λ both. p both.0)

pub decided_all : (P : ℕ → Type 0) → ((c : ℕ) → Decided (P c)) → (xs : List ℕ) → Decided (AllByRecursion P xs)
decided_all P each [] = inl tt
decided_all P each (x ∷ xs) = decided_and (each x) (decided_all P each xs)

pub decided_not : {P : Type 0} → Decided P → Decided (P → ⊥)
decided_not (inl p) = inr (λ none. none p)
decided_not (inr p) = inl p

pub in_range : (low high c : ℕ) → Decided ((low ≤ c) × (c ≤ high))
in_range low high c = decided_and (le_or_not low c) (le_or_not c high)
