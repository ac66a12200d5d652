-- A launch table asks for one thing at a clock reading.
use Rattle.std.proofs.Common.{◌≡◌, ◌↔◌, ℕ, Some, List, ℤ, refl, sym, ap, subst, ◌∙◌, inl, inr}
use Rattle.std.proofs.lemmas.Bool.{cases_order}
use Rattle.paxos_base.specs.declared.entry.Kind.{Kind}
use Rattle.paxos_base.specs.declared.entry.Kind.TheVariants as kind
use Rattle.paxos_base.specs.declared.rows.JobRow.{JobRow}
use Rattle.due_set.specs.Table.{Table}
use Rattle.launch_machine.specs.Answers.{IsCallKind, IsIntent}
use Rattle.launch_machine.specs.Clerk.{TakesStart, TakesTable, in_force}
use Rattle.launch_machine.specs.Intent.{IsFirstCall, IsFirstStart, MayCall}
use Rattle.launch_machine.specs.declared.machine.Intent.{Intent}
use Rattle.launch_machine.specs.declared.machine.Intent.TheVariants.{Call, Start, Adopt, Rest}
use Rattle.launch_machine.proofs.MachineLemmas.{TakesStart-same}

pub same_some : {X : Type 0} (a b : X) → Some a ≡ Some b → a ≡ b
same_some a b e = cc

-- ---- A call

same_call : (table : Table) (rows : List JobRow) (now : ℤ) (job : ℕ) (at since : ℤ) → MayCall table rows job at now → MayCall table rows job since now → at ≡ since
same_call table rows now job at since one other =
    let row : one.row ≡ other.row = same_some one.row other.row (sym one.is_row ∙ other.is_row) in
    same_some at since (sym one.cursor ∙ ap (λ (row : JobRow). row.cursor) row ∙ other.cursor)

first_call : (table : Table) (rows : List JobRow) (now : ℤ) (job another : ℕ) (at since : ℤ) → IsFirstCall table rows now job at → IsFirstCall table rows now another since
    → (job ≡ another) × (at ≡ since)
first_call table rows now job another at since one other = elim (cases_order job another) [
  | inl same ↦ (same, same_call table rows now another at since (subst (λ (number : ℕ). MayCall table rows number at now) same one.may) other.may)
  | inr apart ↦ elim apart [ inl before ↦ absurd (other.first job at before one.may) | inr after ↦ absurd (one.first another since after other.may) ]
]

one_kind : (P : Type 0) (a b : Kind) → (a ≡ kind.Launch) ↔ P → (b ≡ kind.Launch) ↔ P → a ≡ b
one_kind P kind.Launch kind.Launch one other = refl
one_kind P kind.Launch kind.Void one other = sym (other.1 (one.0 refl))
one_kind P kind.Void kind.Launch one other = one.1 (other.0 refl)
one_kind P kind.Void kind.Void one other = refl

same_kind : (table : Table) (rows : List JobRow) (now : ℤ) (job : ℕ) (at : ℤ) (a b : Kind) → MayCall table rows job at now
    → IsCallKind table (in_force table rows).version job at now a → IsCallKind table (in_force table rows).version job at now b → a ≡ b
same_kind table rows now job at a b may one other =
    one_kind _ a b (one may.spec may.zone may.is_in) (other may.spec may.zone may.is_in)

-- ---- A start

first_start : (table : Table) (rows : List JobRow) (now : ℤ) (job another : ℕ) (at since : ℤ) → IsFirstStart table rows now job at → IsFirstStart table rows now another since
    → (job ≡ another) × (at ≡ since)
first_start table rows now job another at since one other = elim (cases_order job another) [
  | inl same ↦ (same, TakesStart-same table rows another at since now (subst (λ (number : ℕ). TakesStart table rows number at now) same one.takes) other.takes)
  | inr apart ↦ elim apart [ inl before ↦ absurd (other.first job at before one.takes) | inr after ↦ absurd (one.first another since after other.takes) ]
]

-- ---- What is asked for

pub one_intent : (table : Table) (rows : List JobRow) (now : ℤ) (a b : Intent) → IsIntent table rows now a → IsIntent table rows now b → a ≡ b
one_intent table rows now (Call job at sort) (Call another since other) (call, kind_is) (again, other_is) =
    let same = first_call table rows now job another at since call again in
    let here : IsCallKind table (in_force table rows).version job at now other = rw (same.0, same.1) other_is in
    let kinds = same_kind table rows now job at sort other call.may kind_is here in
    rw (same.0, same.1, kinds) refl
one_intent table rows now (Call job at sort) (Start another since) call start = absurd (start.0 job at call.0.may)
one_intent table rows now (Call job at sort) (Adopt version) call adopt = absurd (adopt.0 job at call.0.may)
one_intent table rows now (Call job at sort) Rest call rest = absurd (rest.0 job at call.0.may)
one_intent table rows now (Start job at) (Call another since other) start call = absurd (start.0 another since call.0.may)
one_intent table rows now (Start job at) (Start another since) start again =
    let same = first_start table rows now job another at since start.1 again.1 in
    rw (same.0, same.1) refl
one_intent table rows now (Start job at) (Adopt version) start adopt = absurd (adopt.1.no_start job at start.1.takes)
one_intent table rows now (Start job at) Rest start rest = absurd (rest.1 job at start.1.takes)
one_intent table rows now (Adopt version) (Call another since other) adopt call = absurd (adopt.0 another since call.0.may)
one_intent table rows now (Adopt version) (Start another since) adopt start = absurd (adopt.1.no_start another since start.1.takes)
one_intent table rows now (Adopt version) (Adopt other) adopt again = ap Adopt (adopt.1.next ∙ sym again.1.next)
one_intent table rows now (Adopt version) Rest adopt rest = absurd (rest.2 version adopt.1)
one_intent table rows now Rest (Call another since other) rest call = absurd (rest.0 another since call.0.may)
one_intent table rows now Rest (Start another since) rest start = absurd (rest.1 another since start.1.takes)
one_intent table rows now Rest (Adopt version) rest adopt = absurd (rest.2 version adopt.1)
one_intent table rows now Rest Rest rest again = refl
