-- What an audit says of its input, and how the program ends that was asked for one. Source: docs/RUN_FILE.md.
use Rattle.std.specs.Prelude.{◌≡◌, ◌⊎◌, ◌↔◌, ℕ, ◌<◌, ◌≤◌, List, [], ◌∷◌, ◌++◌, length, None, Some, IsSome, IsSomeAnd, codes, decimal}
use Rattle.cron_io.specs.Faults.{Rose}
use Rattle.cron_io.specs.Reading.{HasReadOn, HasTakenCount, IsReadToEnd}
use Rattle.cron_io.specs.Views.{SourceView, SinkView}
use Rattle.cron_io.specs.Writing.{HasGained, HasGainedPrefix, HasTakenAll}
use Rattle.cron_fields.specs.declared.cause.Cause.TheVariants.{TooLarge}
use Rattle.disk_model.specs.declared.mem_disk.MemDisk.{MemDisk}
use Rattle.due_set.specs.Table.{Table}
use Rattle.replica_node.specs.declared.node.Node.{Node}
use Rattle.world_law.specs.Book.{BookState}
use Rattle.run_text.specs.Run.{Run}
use Rattle.run_text.specs.declared.refusal.Refusal.{Refusal}
use Rattle.run_input.specs.Input.{IsRunWithTable}
use Rattle.job_table.specs.Table.{whole_run}
use Rattle.audit_text.specs.Parts.{IsOfParts}
use Rattle.audit_finding.specs.Finding.{IsFindingOf, IsRefusedToAudit, fault_number}
use Rattle.audit_finding.specs.declared.finding.Fault.{Fault}
use Rattle.audit_finding.specs.declared.finding.Finding.{Finding}
use Rattle.audit_finding.specs.declared.finding.Finding.TheVariants.{Passes, Fails}
use Rattle.cron_serve.specs.Serve.{LeavesNoRun}
use Rattle.cron_serve.specs.Written.{LeavesNothing}
use Rattle.cron_serve.specs.declared.run_end.RunEnd.{RunEnd}

-- ---- what is said of bytes

-- audit yes, or audit no L W: the number of the line at fault, and that of the fault
abbrev pub audit_line : Finding → List ℕ
audit_line (Passes book) = codes "audit yes" ++ 10 ∷ []
audit_line (Fails line fault) = codes "audit no " ++ decimal line ++ codes " " ++ decimal (fault_number fault) ++ 10 ∷ []

-- the status that it ends with
abbrev pub audit_status : Finding → ℕ
audit_status (Passes book) = 0
audit_status (Fails line fault) = 6

-- the bytes aren't too many for an audit, and this is what it finds of them
pub record IsAudited (bytes : List ℕ) (finding : Finding) : Type 0 where
  pub short : length bytes ≤ 67_108_864
  pub found : IsFindingOf bytes finding

-- the bytes aren't too many for an audit, and the run in them is taken
pub record HasRunToAudit (bytes : List ℕ) : Type 0 where
  pub short : length bytes ≤ 67_108_864
  pub run_part : List ℕ
  pub report_part : List ℕ
  pub journal_part : List ℕ
  pub parts : IsOfParts bytes run_part report_part journal_part
  pub run : Run
  pub table : Table
  pub taken : IsRunWithTable run_part run table

-- the bytes are refused by an audit: they are more than 67,108,864, or else their run is refused
abbrev pub IsRefusedAuditInput : List ℕ → Refusal → Type 0
IsRefusedAuditInput bytes refusal =
    ((67_108_864 < length bytes) × (refusal ≡ whole_run TooLarge)) ⊎ ((length bytes ≤ 67_108_864) × IsRefusedToAudit bytes refusal)

-- ---- what is said of an input

-- more than 67,108,864 bytes came
pub record IsTooLargeToAudit (old new : SourceView) (refusal : Refusal) : Type 0 where
  pub taken : HasTakenCount old new 67_108_865
  pub is : refusal ≡ whole_run TooLarge

-- the input was read to its end, isn't too large, and its run is refused
pub record IsReadAndRefusedToAudit (old new : SourceView) (refusal : Refusal) : Type 0 where
  pub bytes : List ℕ
  pub read : IsReadToEnd old new bytes
  pub short : length bytes ≤ 67_108_864
  pub refused : IsRefusedToAudit bytes refusal

-- why the input was refused that was to be audited
abbrev pub IsRefusedByAudit : (old new : SourceView) → Refusal → Type 0
IsRefusedByAudit old new refusal = IsTooLargeToAudit old new refusal ⊎ IsReadAndRefusedToAudit old new refusal

-- the input was read to its end, and this is what an audit finds of it
pub record IsFoundOfInput (old new : SourceView) (finding : Finding) : Type 0 where
  pub bytes : List ℕ
  pub read : IsReadToEnd old new bytes
  pub audited : IsAudited bytes finding

-- ---- how the program ends

-- the book that is left is the one that passed, and none where it failed; there is no node
abbrev pub LeavesBookOf : Finding → BookState → List (Node MemDisk) → Type 0
LeavesBookOf (Passes passed) book nodes = (book ≡ passed) × (nodes ≡ [])
LeavesBookOf (Fails line fault) book nodes = LeavesNoRun book nodes

-- this is found of the input, its line was written, and the book that goes with it is left
pub record TellsFinding (source source' : SourceView) (sink sink' : SinkView) (book : BookState) (nodes : List (Node MemDisk))
    (finding : Finding) : Type 0 where
  pub found : IsFoundOfInput source source' finding
  pub gained : HasGained sink sink' (audit_line finding)
  pub left : LeavesBookOf finding book nodes
  -- where the sink tells its room, the line fitted it
  pub fits : (room : ℕ) → sink.room ≡ Some room → HasTakenAll room sink sink' (audit_line finding)

-- this is found of the input, a front of its line was written, and the book that goes with it is left
pub record TellsSome (source source' : SourceView) (sink sink' : SinkView) (book : BookState) (nodes : List (Node MemDisk))
    (finding : Finding) : Type 0 where
  pub found : IsFoundOfInput source source' finding
  pub front : HasGainedPrefix sink sink' (audit_line finding)
  pub left : LeavesBookOf finding book nodes
  -- where the sink tells its room, the line is longer
  pub exceeds : (room : ℕ) → sink.room ≡ Some room → room < length (audit_line finding)

-- The end of the program that found this: its line was written, at the status that goes with it, or a front of the line, at status 4.
-- Private functions alone cite it.
pub record EndsTelling (sink sink' : SinkView) (finding : Finding) (end : RunEnd) : Type 0 where
  pub statuses : (end.status ≡ audit_status finding) ⊎ (end.status ≡ 4)
  pub whole : end.status ≡ audit_status finding → HasGained sink sink' (audit_line finding)
  pub front : HasGainedPrefix sink sink' (audit_line finding)
  pub later : sink.faults ≤ sink'.faults
  pub fault : end.status ≡ 4 → Rose sink.faults sink'.faults
  pub taken : end.status ≡ audit_status finding → (room : ℕ) → sink.room ≡ Some room → HasTakenAll room sink sink' (audit_line finding)
  pub beyond : end.status ≡ 4 → (room : ℕ) → sink.room ≡ Some room → room < length (audit_line finding)
  pub no_refusal : end.refusal ≡ None
  pub left : LeavesBookOf finding end.book end.nodes.items

-- **How the program ended that was asked for an audit**, by what is seen of the source and the sink before and after it
pub record EndsAudit (source source' : SourceView) (sink sink' : SinkView) (end : RunEnd) : Type 0 where
  -- Status 0: the input was read to its end, and what stands behind its run is the report and the journal of that run; the sink
  -- gained `audit yes`, and the book is the one whose journal it is.
  pub passes : end.status ≡ 0 → TellsFinding source source' sink sink' end.book end.nodes.items (Passes end.book)
  -- Status 6: the input was read to its end, and the report or the journal is at fault; the sink gained `audit no L W`.
  pub fails : end.status ≡ 6 → (line : ℕ) × (fault : Fault) × TellsFinding source source' sink sink' end.book end.nodes.items (Fails line fault)
  -- Status 2: the input is too large, or was read to its end and its run is refused, for this.
  pub refused : end.status ≡ 2 → IsSomeAnd end.refusal (IsRefusedByAudit source source')
  pub refusal : IsSome end.refusal ↔ (end.status ≡ 2)
  -- Status 3 and 4: a read or a write failed. At 4 a front of the line was written, and the book is what it is without the fault.
  pub read_fault : end.status ≡ 3 → Rose source.faults source'.faults
  pub write_fault : end.status ≡ 4 → Rose sink.faults sink'.faults
  pub front : end.status ≡ 4 → (finding : Finding) × TellsSome source source' sink sink' end.book end.nodes.items finding
  -- Status 5: memory ran out, before the line.
  pub memory : end.status ≡ 5 → LeavesNothing sink sink' end.book end.nodes.items
  pub statuses : end.status ≤ 6
  -- In the other cases nothing is written either, and no run is left.
  pub nothing : 1 ≤ end.status → end.status ≤ 3 → LeavesNothing sink sink' end.book end.nodes.items
  -- There is no node, whatever the status.
  pub no_node : end.nodes.items ≡ []
  -- At each end what is left of the source is a back part of what was, and no count of faults falls.
  pub read_on : HasReadOn source source'
  pub later : sink.faults ≤ sink'.faults

-- ---- what it has to end with

-- Where the source told its bytes, the end is decided by them, unless a read or a write failed or memory ran out.
pub record CompletesAudit (source source' : SourceView) (sink sink' : SinkView) (end : RunEnd) : Type 0 where
  -- an input of which something is found ends with its line
  pub found : (bytes : List ℕ) (finding : Finding) → source.left ≡ Some bytes → IsAudited bytes finding
      → ¬ Rose source.faults source'.faults → ¬ Rose sink.faults sink'.faults
      → ((end.status ≡ audit_status finding) × HasGained sink sink' (audit_line finding)) ⊎ (end.status ≡ 5)
  -- and so does one with a run that is taken: something is found of it
  pub judged : (bytes : List ℕ) → source.left ≡ Some bytes → HasRunToAudit bytes → ¬ Rose source.faults source'.faults
      → ¬ Rose sink.faults sink'.faults → (end.status ≡ 0) ⊎ (end.status ≡ 6) ⊎ (end.status ≡ 5)
  -- an input that is refused ends with its refusal
  pub refused : (bytes : List ℕ) (refusal : Refusal) → source.left ≡ Some bytes → IsRefusedAuditInput bytes refusal
      → ¬ Rose source.faults source'.faults → (end.refusal ≡ Some refusal) ⊎ (end.status ≡ 5)
  -- and each other input is refused
  pub others : (bytes : List ℕ) → source.left ≡ Some bytes → ((finding : Finding) → IsAudited bytes finding → ⊥)
      → ¬ Rose source.faults source'.faults → IsSomeAnd end.refusal (IsRefusedAuditInput bytes) ⊎ (end.status ≡ 5)
