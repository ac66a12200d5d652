-- What the exit status of a program says that was asked for an audit.
use Rattle.std.proofs.Common.{◌≡◌, ◌≢◌, ◌⊎◌, inl, inr, ℕ, ◌≤◌, List, Some, sym, ◌∙◌, subst, arith}
use Rattle.cron_io.specs.Faults.{Rose}
use Rattle.cron_io.specs.Views.{SourceView, SinkView}
use Rattle.cron_io.specs.Writing.{HasGained, HasGainedPrefix}
use Rattle.world_law.specs.Book.{BookState}
use Rattle.run_text.specs.declared.refusal.Refusal.{Refusal}
use Rattle.audit_finding.specs.declared.finding.Fault.{Fault}
use Rattle.audit_finding.specs.declared.finding.Finding.{Finding}
use Rattle.audit_finding.specs.declared.finding.Finding.TheVariants.{Passes, Fails}
use Rattle.cron_serve.specs.Audit.{HasRunToAudit, IsAudited, IsFoundOfInput, IsRefusedAuditInput, IsRefusedByAudit, audit_line, audit_status}
use Rattle.cron_serve.specs.Program.{EndsProgram}
use Rattle.cron_serve.specs.Serve.{IsNoted, refusal_note, status_note}
use Rattle.program_options.specs.declared.words.Request.TheVariants.{Audit}
use Rattle.cron_serve.proofs.StatusLemmas.{at_refusal, note_of_status, refused_by}

module _ (source source' : SourceView) (sink sink' notes notes' : SinkView) (status : ℕ)
    (ends : EndsProgram Audit source source' sink sink' notes notes' status) where
  -- the status of the end
  at : (other : ℕ) → status ≡ other → ends.end.status ≡ other
  at other is = sym ends.status_is ∙ is

  pub passes : status ≡ 0 → (book : BookState) × IsFoundOfInput source source' (Passes book) × HasGained sink sink' (audit_line (Passes book))
  passes zero = let told = ends.ends.passes (at 0 zero) in (ends.end.book, told.found, told.gained)

  pub fails : status ≡ 6
      → (line : ℕ) × (fault : Fault) × IsFoundOfInput source source' (Fails line fault) × HasGained sink sink' (audit_line (Fails line fault))
  fails six = let (line, fault, told) = ends.ends.fails (at 6 six) in (line, fault, told.found, told.gained)

  pub refused : status ≡ 2 → (sink' ≡ sink) × (refusal : Refusal) × IsRefusedByAudit source source' refusal × IsNoted notes notes' (refusal_note refusal)
  refused two =
      let is = at 2 two in
      let (why, refused, note) = refused_by (IsRefusedByAudit source source') notes notes' ends.end.status ends.end.refusal (ends.ends.refused is) ends.note in
      ((ends.ends.nothing (omega (arith, is)) (omega (arith, is))).unwritten, why, refused, note)

  pub read_fault : status ≡ 3 → (sink' ≡ sink) × Rose source.faults source'.faults
  read_fault three =
      let is = at 3 three in
      ((ends.ends.nothing (omega (arith, is)) (omega (arith, is))).unwritten, ends.ends.read_fault is)

  pub write_fault : status ≡ 4
      → (finding : Finding) × IsFoundOfInput source source' finding × HasGainedPrefix sink sink' (audit_line finding) × Rose sink.faults sink'.faults
  write_fault four =
      let is = at 4 four in
      let (finding, told) = ends.ends.front is in
      (finding, told.found, told.front, ends.ends.write_fault is)

  pub memory : status ≡ 5 → sink' ≡ sink
  memory five = (ends.ends.memory (at 5 five)).unwritten

  pub no_other : status ≤ 6
  no_other = subst (λ (s : ℕ). s ≤ 6) (sym ends.status_is) ends.ends.statuses

  pub noted : status ≢ 2 → IsNoted notes notes' (status_note status)
  noted other =
      subst (λ (s : ℕ). IsNoted notes notes' (status_note s)) (sym ends.status_is)
      (note_of_status notes notes' ends.end.status ends.end.refusal ends.ends.refusal (λ two. other (ends.status_is ∙ two)) ends.note)

  pub found_decided : (bytes : List ℕ) (finding : Finding) → source.left ≡ Some bytes → IsAudited bytes finding
      → ¬ Rose source.faults source'.faults → ¬ Rose sink.faults sink'.faults
      → ((status ≡ audit_status finding) × HasGained sink sink' (audit_line finding)) ⊎ (status ≡ 5)
  found_decided bytes finding told audited read written = elim (ends.complete.found bytes finding told audited read written) [
    | inl line ↦ inl (ends.status_is ∙ line.0, line.1)
    | inr five ↦ inr (ends.status_is ∙ five)
  ]

  pub judged_decided : (bytes : List ℕ) → source.left ≡ Some bytes → HasRunToAudit bytes → ¬ Rose source.faults source'.faults
      → ¬ Rose sink.faults sink'.faults → (status ≡ 0) ⊎ (status ≡ 6) ⊎ (status ≡ 5)
  judged_decided bytes told has read written = elim (ends.complete.judged bytes told has read written) [
    | inl zero ↦ inl (ends.status_is ∙ zero)
    | inr (inl six) ↦ inr (inl (ends.status_is ∙ six))
    | inr (inr five) ↦ inr (inr (ends.status_is ∙ five))
  ]

  pub refusal_decided : (bytes : List ℕ) → source.left ≡ Some bytes → ((finding : Finding) → IsAudited bytes finding → ⊥) → ¬ Rose source.faults source'.faults
      → (status ≡ 2) ⊎ (status ≡ 5)
  refusal_decided bytes told none read = elim (ends.complete.others bytes told none read) [
    | inl why ↦ inl (ends.status_is ∙ at_refusal (IsRefusedAuditInput bytes) ends.end.status ends.end.refusal ends.ends.refusal why)
    | inr five ↦ inr (ends.status_is ∙ five)
  ]
