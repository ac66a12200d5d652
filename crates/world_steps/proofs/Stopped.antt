-- Replicas that are stopped.
use Rattle.std.proofs.Common.{◌≡◌, ℕ, zero, suc, ◌==◌, ◌<◌, ◌≤◌, nat_lt, true, false, List, length, refl, sym, ap, ◌∙◌, subst, inl, inr, arith}
use Rattle.std.specs.Prelude.{take}
use Rattle.std.proofs.lemmas.Bool.{cases_Bool, eqb-true, lt-ltb}
use Rattle.std.proofs.lemmas.List.{take_all}
use Rattle.due_set.specs.Table.{Table}
use Rattle.launch_machine.specs.Clerk.{first_rows}
use Rattle.paxos_base.specs.declared.rows.JobRow.{JobRow}
use Rattle.step_spec.specs.State.{started}
use Rattle.step_spec.proofs.Lists.{take_next}
use Rattle.history.specs.Book.{Row, Standing, after_row, first_standing, kept_at, standing_after, with_fact}
use Rattle.history.specs.Legal.{IsLegal, MayFollow}
use Rattle.history.specs.declared.turn.Turn.{Turn}
use Rattle.history.specs.declared.turn.Turn.TheVariants.{Did, Stopped, Restarted, Arrived}
use Rattle.history.proofs.Keeping.{stands_next}
use Rattle.world_law.specs.Book.{BookState, StandsBehind, standing_behind}
use Rattle.world_law.specs.Replicas.{StandsStopped}
use Rattle.due_set.proofs.SoundLemmas.{at_place as row_at}

-- each replica that is stopped has what it keeps, and nothing else
abbrev HaveKept : ℕ → Standing → Type 0
HaveKept members standing = (who : ℕ) → who < members → standing.runs who ≡ false → standing.replicas who ≡ started who (standing.replicas who).kept

fact_here : {A : Type 0} (doer : ℕ) (fact : A) (facts : ℕ → A) (who : ℕ) → (who == doer) ≡ true → with_fact doer fact facts who ≡ fact
fact_here doer fact facts who here = rw here refl

fact_there : {A : Type 0} (doer : ℕ) (fact : A) (facts : ℕ → A) (who : ℕ) → (who == doer) ≡ false → with_fact doer fact facts who ≡ facts who
fact_there doer fact facts who there = rw there refl

first_kept : (members : ℕ) (rows : List JobRow) → HaveKept members (first_standing members rows)
first_kept members rows who member stopped = absurd (let runs : nat_lt who members ≡ true = lt-ltb who members member in let both : true ≡ false = sym runs ∙ stopped in cc)

turn_kept : (members : ℕ) (table : Table) (s : Standing) (turn : Turn) (row : Row) → HaveKept members s → MayFollow members table s turn row
    → HaveKept members (after_row members s turn row.event row.letters)
unfolding after_row
turn_kept members table s (Did doer cause made) row kept may who member stopped = elim (cases_Bool (who == doer)) [
  | inl here ↦ absurd (let both : true ≡ false = sym may.0.runs ∙ ap s.runs (sym (eqb-true who doer here)) ∙ stopped in cc)
  | inr there ↦ rw there (kept who member stopped)
]
turn_kept members table s (Stopped doer cause keeps) row kept may who member stopped = elim (cases_Bool (who == doer)) [
  | inl here ↦ rw here (ap (λ q. started q (kept_at members s doer row.event keeps)) (sym (eqb-true who doer here)))
  | inr there ↦ rw there (kept who member (sym (fact_there doer false s.runs who there) ∙ stopped))
]
turn_kept members table s (Restarted doer) row kept may who member stopped = elim (cases_Bool (who == doer)) [
  | inl here ↦ absurd (let both : true ≡ false = sym (fact_here doer true s.runs who here) ∙ stopped in cc)
  | inr there ↦ kept who member (sym (fact_there doer true s.runs who there) ∙ stopped)
]
turn_kept members table s (Arrived number) row kept may who member stopped = kept who member stopped

front_kept : (members : ℕ) (table : Table) (book : List Row) (k : ℕ) → IsLegal members table book → k ≤ length book
    → HaveKept members (standing_after members (first_rows table) (take k book))
front_kept members table book zero legal within = first_kept members (first_rows table)
front_kept members table book (suc k) legal within =
    let row = row_at book k (omega (arith, within)) in
    rw (take_next book k row.0 row.1)
    (subst (λ s. HaveKept members s) (sym (stands_next members (first_rows table) (take k book) row.0))
    (turn_kept members table (standing_after members (first_rows table) (take k book)) row.0.turn row.0
    (front_kept members table book k legal (omega (arith, within))) (legal k row.0 row.1)))

book_kept : (members : ℕ) (table : Table) (book : List Row) → IsLegal members table book → HaveKept members (standing_after members (first_rows table) book)
book_kept members table book legal = rw⁻¹ (take_all (length book) book (omega arith)) (front_kept members table book (length book) legal (omega arith))

pub stands_stopped : (table : Table) (rows : List Row) (book : BookState) (who : ℕ) → StandsBehind table rows book → who < book.members
    → (standing_behind table rows book).runs who ≡ false → StandsStopped table rows book who ((standing_behind table rows book).replicas who).kept
stands_stopped table rows book who behind member stopped = record {
  member = member;
  stopped = stopped;
  state = book_kept book.members table rows behind.legal who member stopped;
}
