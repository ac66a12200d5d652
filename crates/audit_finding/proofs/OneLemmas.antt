-- An input has one finding.
use Rattle.std.proofs.Common.{◌≡◌, inl, inr, ℕ, ◌<◌, ◌≤◌, ◌^◌, List, length, refl, ap, sym, subst, ◌∙◌, arith}
use Rattle.crontab_text.specs.Lines.{lines_of}
use Rattle.zone_minutes.specs.Window.{IsWithinLimits}
use Rattle.due_set.specs.Table.{Table}
use Rattle.history.specs.Legal.{IsLegal}
use Rattle.launch_safety.specs.Fitting.{held_in}
use Rattle.run_text.specs.Run.{Run}
use Rattle.run_text.specs.declared.refusal.Refusal.{Refusal}
use Rattle.run_text.proofs.SoundLemmas.{sound_run}
use Rattle.job_table.proofs.FieldLemmas.{table_window}
use Rattle.run_input.specs.Input.{IsRunWithTable}
use Rattle.run_input.proofs.VerdictLemmas.{one_refused_run_file, one_taken, taken_or_refused}
use Rattle.world_law.specs.Book.{BookState, StandsBehind}
use Rattle.world_law.proofs.Settled.{stand_instead}
use Rattle.report_text.specs.Book.{IsBookReport}
use Rattle.report_text.specs.Report.{IsReport}
use Rattle.report_text.proofs.BookLemmas.{one_report}
use Rattle.audit_text.specs.Difference.{IsFirstDifference}
use Rattle.audit_text.specs.Readable.{IsReadText}
use Rattle.audit_text.proofs.SplitLemmas.{one_split}
use Rattle.audit_text.proofs.TextLemmas.{one_text, text_is_short}
use Rattle.run_audit.specs.Audit.{IsJournalOf}
use Rattle.run_audit.specs.declared.verdict.Why.{Why}
use Rattle.run_audit.proofs.OneLemmas.{one_list, one_reason}
use Rattle.run_audit.proofs.VerdictLemmas.{not_both, one_line}
use Rattle.audit_finding.specs.Finding.{AreAlike, HasFaultyJournal, HasOtherReport, IsFaultOf, IsFindingOf, IsFoundOf, IsRefusedPart, IsRefusedToAudit}
use Rattle.audit_finding.specs.declared.finding.Fault.{Fault}
use Rattle.audit_finding.specs.declared.finding.Fault.TheVariants.{Journal, Report}
use Rattle.audit_finding.specs.declared.finding.Finding.{Finding}
use Rattle.audit_finding.specs.declared.finding.Finding.TheVariants.{Passes, Fails}
use Rattle.audit_finding.proofs.CountLemmas.{parts_within}
use Rattle.audit_finding.proofs.DifferenceLemmas.{no_difference, one_difference}

-- ---- what is found of one report and one journal

module _ (run : Run) (table : Table) (report journal : List ℕ) (few : run.members ≤ 7) (limits : IsWithinLimits table.window)
    (short : length journal < 2 ^ 32) where
  -- the books of a journal have the same turns
  same_turns : (book other : BookState) → IsJournalOf run table journal book → IsJournalOf run table journal other → book.turns ≡ other.turns
  same_turns book other a b =
      a.behind.turns ∙ one_list run.members table run.commands few limits journal a.rows b.rows short a.journal b.journal ∙ sym b.behind.turns

  -- and one report
  same_report : (book other : BookState) (one two : List ℕ) → IsJournalOf run table journal book → IsJournalOf run table journal other
      → IsBookReport table book one → IsBookReport table other two → one ≡ two
  same_report book other one two a b first second =
      let members : other.members ≡ book.members = b.members ∙ sym a.members in
      let behind : StandsBehind table second.rows book =
      stand_instead table a.rows second.rows book a.behind (subst (λ n. IsLegal n table second.rows) members second.behind.legal)
      (same_turns book other a b ∙ second.behind.turns) in
      one_report table book one two (subst (λ n. n ≤ 7) (sym a.members) few) first (record {
        rows = second.rows;
        behind = behind;
        report = subst (λ n. IsReport table n (held_in n table second.rows) two) members second.report;
      })

  passes_and_faulty : (book : BookState) (line : ℕ) (fault : Fault) → IsFoundOf run table report journal (Passes book)
      → IsFaultOf run table report journal line fault → ⊥
  passes_and_faulty book line (Journal why) a b = not_both run.members table run.commands journal a.0.rows b.number why a.0.journal b.at_fault
  passes_and_faulty book line Report a b =
      let same = same_report book b.book a.1.expected b.expected a.0 b.of_run a.1.of_book b.of_book in
      no_difference (lines_of report) (lines_of b.expected) line (a.1.same ∙ ap lines_of same) b.first

  journal_and_report : (line other : ℕ) (why : Why) → HasFaultyJournal run table report journal line why
      → HasOtherReport run table report journal other → ⊥
  journal_and_report line other why a b = not_both run.members table run.commands journal b.of_run.rows a.number why b.of_run.journal a.at_fault

  same_fault : (line other : ℕ) (fault another : Fault) → IsFaultOf run table report journal line fault
      → IsFaultOf run table report journal other another
      → (line ≡ other) × (fault ≡ another)
  same_fault line other (Journal why) (Journal whether) a b =
      let number = one_line run.members table run.commands journal a.number b.number why whether a.at_fault b.at_fault in
      let reason = one_reason run.members table run.commands few limits journal a.number b.number why whether short a.at_fault b.at_fault in
      (omega (arith, number, a.line_is, b.line_is), ap Journal reason)
  same_fault line other (Journal why) Report a b = absurd (journal_and_report line other why a b)
  same_fault line other Report (Journal why) a b = absurd (journal_and_report other line why b a)
  same_fault line other Report Report a b =
      let same = same_report a.book b.book a.expected b.expected a.of_run b.of_run a.of_book b.of_book in
      let first = subst (λ (l : List ℕ). IsFirstDifference (lines_of report) (lines_of l) line) same a.first in
      (one_difference (lines_of report) (lines_of b.expected) line other first b.first, refl)

  one_found : (a b : Finding) → IsFoundOf run table report journal a → IsFoundOf run table report journal b → AreAlike a b
  one_found (Passes book) (Passes other) x y = same_turns book other x.0 y.0
  one_found (Passes book) (Fails line fault) x y = absurd (passes_and_faulty book line fault x y)
  one_found (Fails line fault) (Passes book) x y = absurd (passes_and_faulty book line fault y x)
  one_found (Fails line fault) (Fails other another) x y = same_fault line other fault another x y

-- ---- inputs

-- an input of at most 67,108,864 bytes has one finding
pub one_finding : (input : List ℕ) (a b : Finding) → length input ≤ 67_108_864 → IsFindingOf input a → IsFindingOf input b → AreAlike a b
one_finding input a b most x y =
    let parts = one_split input x.run_part x.report_part x.journal_part y.run_part y.report_part y.journal_part x.parts y.parts in
    let taken = one_taken x.run_part x.run y.run x.table y.table x.taken
    (subst (λ (l : List ℕ). IsRunWithTable l y.run y.table) (sym parts.0) y.taken) in
    let report : x.report ≡ y.report =
    one_text x.report_part x.report y.report x.report_read (subst (λ (l : List ℕ). IsReadText l y.report) (sym parts.1) y.report_read) in
    let journal : x.journal ≡ y.journal =
    one_text x.journal_part x.journal y.journal x.journal_read (subst (λ (l : List ℕ). IsReadText l y.journal) (sym parts.2) y.journal_read) in
    let sound = sound_run x.run_part x.run x.taken.says in
    let limits : IsWithinLimits x.table.window = subst IsWithinLimits (sym (table_window x.run x.table x.taken.table_is)) sound.limits in
    let within = (parts_within input x.run_part x.report_part x.journal_part 67_108_864 x.parts most).1 in
    let short = text_is_short x.journal_part x.journal x.journal_read in
    one_found x.run x.table x.report x.journal sound.replicas.few limits (omega (arith, within, short)) a b x.found
    (subst (λ (r : Run). IsFoundOf r x.table x.report x.journal b) (sym taken.0)
    (subst (λ (t : Table). IsFoundOf y.run t x.report x.journal b) (sym taken.1)
    (subst (λ (l : List ℕ). IsFoundOf y.run y.table l x.journal b) (sym report)
    (subst (λ (l : List ℕ). IsFoundOf y.run y.table y.report l b) (sym journal) y.found))))

-- an input that is refused has no finding
pub found_or_refused : (input : List ℕ) (finding : Finding) (refusal : Refusal) → IsFindingOf input finding → IsRefusedToAudit input refusal → ⊥
found_or_refused input finding refusal found refused =
    let parts = one_split input found.run_part found.report_part found.journal_part refused.run_part refused.report_part refused.journal_part
    found.parts refused.parts in
    elim refused.why [
      | inl large ↦ (let short = found.taken.short in omega (arith, short, ap length parts.0, large.0))
      | inr small ↦
          taken_or_refused refused.run_part found.run found.table refusal
          (subst (λ (l : List ℕ). IsRunWithTable l found.run found.table) parts.0 found.taken) small.1
    ]

one_refused_part : (bytes : List ℕ) (a b : Refusal) → IsRefusedPart bytes a → IsRefusedPart bytes b → a ≡ b
one_refused_part bytes a b (inl (large, is)) (inl (also, other)) = is ∙ sym other
one_refused_part bytes a b (inl (large, is)) (inr (short, why)) = absurd (omega arith)
one_refused_part bytes a b (inr (short, why)) (inl (large, is)) = absurd (omega arith)
one_refused_part bytes a b (inr (short, why)) (inr (also, other)) = one_refused_run_file bytes a b why other

-- an input is refused for one thing
pub one_refusal : (input : List ℕ) (a b : Refusal) → IsRefusedToAudit input a → IsRefusedToAudit input b → a ≡ b
one_refusal input a b first second =
    let parts = one_split input first.run_part first.report_part first.journal_part second.run_part second.report_part second.journal_part
    first.parts second.parts in
    one_refused_part first.run_part a b first.why (subst (λ (l : List ℕ). IsRefusedPart l b) (sym parts.0) second.why)
