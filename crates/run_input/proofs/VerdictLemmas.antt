-- Bytes have one verdict: they are taken in one way, or refused for one thing.
use Rattle.std.proofs.Common.{◌≡◌, inl, inr, ℕ, List, subst}
use Rattle.crontab_text.specs.Lines.{lines_of}
use Rattle.due_set.specs.Table.{Table}
use Rattle.run_text.specs.declared.table.Tables.TheVariants.{Judged, Counted}
use Rattle.run_text.specs.Reading.{IsRunText, IsRefusedText}
use Rattle.run_text.specs.Run.{Run}
use Rattle.run_text.specs.declared.refusal.Refusal.{Refusal}
use Rattle.run_text.proofs.UniqueLemmas as reading
use Rattle.job_table.specs.Table.{IsTableOf, IsRefusedRun}
use Rattle.run_input.specs.Input.{IsRunWithTable, IsTakenFrame, IsRefusedRunFile, IsRefusedAsRun, IsRefusedAsFrame}
use Rattle.run_input.proofs.TextLemmas.{never_both, one_fault}
use Rattle.job_table.proofs.UniqueLemmas.{one_table, one_refused_run, not_refused_run}

-- a text is that of one run
pub same_run : (bytes : List ℕ) (a b : Run) → IsRunText bytes a → IsRunText bytes b → a ≡ b
same_run bytes a b first second = reading.one_run_by Judged (lines_of bytes) a b first second

no_reading : (bytes : List ℕ) (run : Run) (refusal : Refusal) → IsRunText bytes run → IsRefusedText bytes refusal → ⊥
no_reading bytes run refusal says refused = reading.never_both_by Judged (lines_of bytes) run refusal says refused

-- an input is taken in one way
pub one_taken : (bytes : List ℕ) (run other : Run) (table table' : Table) → IsRunWithTable bytes run table → IsRunWithTable bytes other table' → (run ≡ other) × (table ≡ table')
one_taken bytes run other table table' first second =
    let same = same_run bytes run other first.says second.says in
    (same, one_table other table table' (subst (λ (r : Run). IsTableOf r table) same first.table_is) second.table_is)

one_run_file : (bytes : List ℕ) (a b : Refusal) → IsRefusedRunFile bytes a → IsRefusedRunFile bytes b → a ≡ b
one_run_file bytes a b first second = elim first.why [
  | inl text ↦ elim second.why [
    | inl other ↦ reading.one_refusal_by Judged (lines_of bytes) a b text other
    | inr (run, says, refused) ↦ absurd (no_reading bytes run a says text)
  ]
  | inr (run, says, refused) ↦ elim second.why [
    | inl other ↦ absurd (no_reading bytes run b says other)
    | inr (run', says', refused') ↦
        one_refused_run run' a b (subst (λ (r : Run). IsRefusedRun r a) (same_run bytes run run' says says') refused) refused'
  ]
]

pub one_refused_run_file : (bytes : List ℕ) (a b : Refusal) → IsRefusedAsRun bytes a → IsRefusedAsRun bytes b → a ≡ b
one_refused_run_file bytes a b (inl first) (inl second) = one_fault bytes a b first second
one_refused_run_file bytes a b (inl first) (inr second) = absurd (never_both bytes a second.texts first)
one_refused_run_file bytes a b (inr first) (inl second) = absurd (never_both bytes b first.texts second)
one_refused_run_file bytes a b (inr first) (inr second) = one_run_file bytes a b first second

pub one_refused_frame : (bytes : List ℕ) (a b : Refusal) → IsRefusedAsFrame bytes a → IsRefusedAsFrame bytes b → a ≡ b
one_refused_frame bytes a b (inl first) (inl second) = one_fault bytes a b first second
one_refused_frame bytes a b (inl first) (inr second) = absurd (never_both bytes a second.texts first)
one_refused_frame bytes a b (inr first) (inl second) = absurd (never_both bytes b first.texts second)
one_refused_frame bytes a b (inr first) (inr second) = reading.one_refusal_by Counted (lines_of bytes) a b first.why second.why

not_refused_file : (bytes : List ℕ) (run : Run) (table : Table) (refusal : Refusal) → IsRunWithTable bytes run table → IsRefusedRunFile bytes refusal → ⊥
not_refused_file bytes run table refusal taken refused = elim refused.why [
  | inl text ↦ no_reading bytes run refusal taken.says text
  | inr (other, says, why) ↦
      not_refused_run run table refusal taken.table_is (subst (λ (r : Run). IsRefusedRun r refusal) (same_run bytes other run says taken.says) why)
]

-- a run that is taken isn't refused
pub taken_or_refused : (bytes : List ℕ) (run : Run) (table : Table) (refusal : Refusal) → IsRunWithTable bytes run table → IsRefusedAsRun bytes refusal → ⊥
taken_or_refused bytes run table refusal taken (inl fault) = never_both bytes refusal taken.texts fault
taken_or_refused bytes run table refusal taken (inr refused) = not_refused_file bytes run table refusal taken refused

-- a frame that is taken isn't refused
pub frame_or_refused : (bytes : List ℕ) (run : Run) (refusal : Refusal) → IsTakenFrame bytes run → IsRefusedAsFrame bytes refusal → ⊥
frame_or_refused bytes run refusal taken (inl fault) = never_both bytes refusal taken.texts fault
frame_or_refused bytes run refusal taken (inr refused) = reading.never_both_by Counted (lines_of bytes) run refusal taken.says refused.why

-- an input is taken as one frame
pub one_frame : (bytes : List ℕ) (run other : Run) → IsTakenFrame bytes run → IsTakenFrame bytes other → run ≡ other
one_frame bytes run other first second = reading.one_run_by Counted (lines_of bytes) run other first.says second.says
