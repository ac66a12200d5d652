-- What a book's report lists.
use Rattle.std.proofs.Common.{◌≡◌, ℕ, ◌≤◌, List, None, All, sym, subst, ◌∙◌}
use Rattle.std.proofs.lemmas.List.Elements.{All-weaker}
use Rattle.due_set.specs.Table.{IsSound, Table}
use Rattle.cluster_sched.specs.Held.{AreNamedOnce}
use Rattle.cluster_sched.specs.Names.{IsNameIn}
use Rattle.cluster_sched.specs.declared.row.SchedRow.{SchedRow}
use Rattle.paxos_base.specs.declared.entry.Entry.{Entry}
use Rattle.launch_machine.specs.Clerk.{in_force}
use Rattle.launch_safety.specs.Fits.{Fits, IsBacked}
use Rattle.history.specs.Book.{Row}
use Rattle.history.specs.Legal.{IsLegal}
use Rattle.history.proofs.Agreement.{book_log}
use Rattle.launch_safety.specs.Fitting.{held_in}
use Rattle.launch_safety.proofs.Whole.{whole}
use Rattle.history.proofs.Launched.{start_near}
use Rattle.world_law.specs.Book.{BookState, StandsBehind}
use Rattle.world_law.proofs.Called.{held_at_rest}
use Rattle.world_law.proofs.Settled.{turns_settle}
use Rattle.report_text.specs.Book.{IsBookReport}
use Rattle.report_text.specs.Report.{IsReport}
use Rattle.report_text.proofs.OneOrder.{one_text}

-- a row whose start takes effect is of a launch of the table
name_of_backed : (table : Table) (log : List Entry) (row : SchedRow) → IsSound table → IsBacked table log row → IsNameIn table row.name
name_of_backed table log row sound backed =
    let takes = backed.start.takes in
    record {
      job = takes.known;
      inside = start_near table (in_force table backed.start.rows) row.name.job takes.row row.name.at backed.start.now sound takes.may;
    }

module _ (table : Table) (members : ℕ) (rows : List Row) (few : members ≤ 7) (legal : IsLegal members table rows) where
  -- what is held fits the log
  fits : (log : List Entry) × Fits table log (held_in members table rows)
  fits = let (log, is_log) = book_log members table rows few legal in (log, whole members table rows few legal log is_log)

  pub once : AreNamedOnce (held_in members table rows)
  once = fits.1.once

pub named : (table : Table) (members : ℕ) (rows : List Row) → members ≤ 7 → IsSound table → IsLegal members table rows
    → All (λ (row : SchedRow). IsNameIn table row.name) (held_in members table rows)
named table members rows few sound legal =
    let found = fits table members rows few legal in
    All-weaker (IsBacked table found.0) (λ (row : SchedRow). IsNameIn table row.name) (λ row. name_of_backed table found.0 row sound)
    (held_in members table rows) found.1.backed

-- the rows that the ledger holds are launches of the table
pub named_at_rest : (table : Table) (rows : List Row) (book : BookState) → book.members ≤ 7 → IsSound table → StandsBehind table rows book → book.pending ≡ None
    → All (λ (row : SchedRow). IsNameIn table row.name) book.ledger.held
named_at_rest table rows book few sound behind rest =
    subst (All (λ (row : SchedRow). IsNameIn table row.name)) (sym (held_at_rest table rows book rest behind)) (named table book.members rows few sound behind.legal)

-- the report of what the ledger holds is the book's
pub book_report : (table : Table) (rows : List Row) (book : BookState) (text : List ℕ) → StandsBehind table rows book → book.pending ≡ None
    → IsReport table book.members book.ledger.held text → IsBookReport table book text
book_report table rows book text behind rest report = record {
  rows = rows;
  behind = behind;
  report = subst (λ held. IsReport table book.members held text) (held_at_rest table rows book rest behind) report;
}

pub of_rows : (table : Table) (book : BookState) (rows : List Row) (text : List ℕ) → StandsBehind table rows book → IsBookReport table book text
    → IsReport table book.members (held_in book.members table rows) text
of_rows table book rows text behind is =
    let same = turns_settle book.members table is.rows rows is.behind.legal behind.legal (sym is.behind.turns ∙ behind.turns) in
    subst (λ standing. IsReport table book.members standing.held text) same.stands is.report

pub of_ledger : (table : Table) (book : BookState) (text : List ℕ) → book.pending ≡ None → IsBookReport table book text
    → IsReport table book.members book.ledger.held text
of_ledger table book text rest is =
    subst (λ held. IsReport table book.members held text) (sym (held_at_rest table is.rows book rest is.behind)) is.report

pub one_report : (table : Table) (book : BookState) (a b : List ℕ) → book.members ≤ 7 → IsBookReport table book a → IsBookReport table book b → a ≡ b
one_report table book a b few first second =
    one_text table book.members (held_in book.members table first.rows) a b first.report (of_rows table book first.rows b first.behind second)
    (once table book.members first.rows few first.behind.legal)
