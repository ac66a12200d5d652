-- What a summary counts.
use Rattle.std.proofs.Common.{◌≡◌, ◌+◌, ℕ, List, [], ◌∷◌, None, length, arith, refl, sym, ap, ◌∙◌, cond}
use Rattle.std.proofs.lemmas.List.Sums.{sum_by-cons}
use Rattle.due_set.specs.Table.{Table}
use Rattle.paxos_base.specs.declared.entry.Kind.{Kind}
use Rattle.paxos_base.specs.declared.entry.Kind.TheVariants.{Launch, Void}
use Rattle.cluster_sched.specs.declared.row.SchedRow.{SchedRow}
use Rattle.history.specs.Book.{Standing}
use Rattle.world_law.specs.Book.{BookState, IsLegalBook}
use Rattle.world_law.proofs.Called.{held_at_rest}
use Rattle.world_law.proofs.Settled.{turns_settle}
use Rattle.report_text.specs.Report.{is_same_kind}
use Rattle.journal_text.specs.Summary.{IsBookSummary, summary_text, total_of}

abbrev one_if : Kind → SchedRow → ℕ
one_if kind row = cond (is_same_kind row.kind kind) 1 0

-- a row is of one kind and not of the other
one_kind : (kind : Kind) → cond (is_same_kind kind Launch) 1 0 + cond (is_same_kind kind Void) 1 0 ≡ 1
one_kind Launch = refl
one_kind Void = refl

-- each row is counted once
pub counts_all : (rows : List SchedRow) → total_of rows Launch + total_of rows Void ≡ length rows
counts_all [] = refl
counts_all (row ∷ rows) =
    let launched = sum_by-cons (one_if Launch) row rows in
    let voided = sum_by-cons (one_if Void) row rows in
    let one = one_kind row.kind in
    let rest = counts_all rows in
    omega arith

pub book_summary : (table : Table) (seed : ℕ) (book : BookState) → IsLegalBook table book → book.pending ≡ None
    → IsBookSummary table seed book (summary_text table seed book.ledger.held)
book_summary table seed book legal rest = record {
  rows = legal.0;
  behind = legal.1;
  text_is = ap (summary_text table seed) (held_at_rest table legal.0 book rest legal.1);
}

pub of_ledger : (table : Table) (seed : ℕ) (book : BookState) (text : List ℕ) → book.pending ≡ None → IsBookSummary table seed book text
    → text ≡ summary_text table seed book.ledger.held
of_ledger table seed book text rest is = is.text_is ∙ ap (summary_text table seed) (sym (held_at_rest table is.rows book rest is.behind))

pub one_summary : (table : Table) (seed : ℕ) (book : BookState) (a b : List ℕ) → IsBookSummary table seed book a → IsBookSummary table seed book b → a ≡ b
one_summary table seed book a b one other =
    let same = turns_settle book.members table one.rows other.rows one.behind.legal other.behind.legal (sym one.behind.turns ∙ other.behind.turns) in
    one.text_is ∙ ap (λ (standing : Standing). summary_text table seed standing.held) same.stands ∙ sym other.text_is
