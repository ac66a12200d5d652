-- The launch table of a list of entries.
use Rattle.std.proofs.Common.{◌≡◌, inl, inr, ◌↔◌, List, [], ◌∷◌, ◌++◌, refl, sym, ◌∙◌, subst}
use Rattle.paxos_base.specs.declared.entry.Entry.{Entry}
use Rattle.paxos_base.specs.declared.rows.JobRow.{JobRow}
use Rattle.due_set.specs.Table.{Table}
use Rattle.launch_machine.specs.Clerk.{Applies, AppliesAll, IsClerkOf, first_rows}

-- an entry that takes effect has one outcome, and so has one that takes none
pub Applies-same : (table : Table) (old : List JobRow) (entry : Entry) (a b : List JobRow) → Applies table old entry a → Applies table old entry b → a ≡ b
Applies-same table old entry a b (inl (takes, p)) (inl (again, q)) = p ∙ sym q
Applies-same table old entry a b (inl (takes, p)) (inr (not, q)) = absurd (not takes)
Applies-same table old entry a b (inr (not, p)) (inl (takes, q)) = absurd (not takes)
Applies-same table old entry a b (inr (not, p)) (inr (again, q)) = p ∙ sym q

pub AppliesAll-same : (table : Table) (old : List JobRow) (entries : List Entry) (a b : List JobRow) → AppliesAll table old entries a → AppliesAll table old entries b → a ≡ b
AppliesAll-same table old [] a b p q = p ∙ sym q
AppliesAll-same table old (entry ∷ entries) a b (middle, step, rest) (other, step_b, rest_b) =
    let same : other ≡ middle = Applies-same table old entry other middle step_b step in
    AppliesAll-same table middle entries a b rest (subst (λ (m : List JobRow). AppliesAll table m entries b) same rest_b)

-- one more entry is one more step
pub AppliesAll-push : (table : Table) (old : List JobRow) (entries : List Entry) (entry : Entry) (before new : List JobRow)
    → AppliesAll table old entries before → Applies table before entry new → AppliesAll table old (entries ++ entry ∷ []) new
AppliesAll-push table old [] entry before new e step = (new, subst (λ (m : List JobRow). Applies table m entry new) e step, refl)
AppliesAll-push table old (first ∷ entries) entry before new (middle, step, rest) last =
    (middle, step, AppliesAll-push table middle entries entry before new rest last)

pub AppliesAll-pop : (table : Table) (old : List JobRow) (entries : List Entry) (entry : Entry) (new : List JobRow)
    → AppliesAll table old (entries ++ entry ∷ []) new → (before : List JobRow) × AppliesAll table old entries before × Applies table before entry new
AppliesAll-pop table old [] entry new (middle, step, e) = (old, refl, subst (Applies table old entry) (sym e) step)
AppliesAll-pop table old (first ∷ entries) entry new (middle, step, rest) =
    let found = AppliesAll-pop table middle entries entry new rest in
    (found.0, (middle, step, found.1), found.2)

pub IsClerkOf-push : (table : Table) (entries : List Entry) (entry : Entry) (rows : List JobRow)
    → IsClerkOf table (entries ++ entry ∷ []) rows ↔ ((before : List JobRow) × IsClerkOf table entries before × Applies table before entry rows)
IsClerkOf-push table entries entry rows = (
  AppliesAll-pop table (first_rows table) entries entry rows,
  λ (before, known, step). AppliesAll-push table (first_rows table) entries entry before rows known step,
)
