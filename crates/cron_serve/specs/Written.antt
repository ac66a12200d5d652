-- What the writing of a text did, by the status that it led to. Private functions alone cite it.
use Rattle.std.specs.Prelude.{◌≡◌, ◌⊎◌, ℕ, ◌<◌, ◌≤◌, List, length, None, Some, Result, Ok, Err}
use Rattle.cron_io.specs.Faults.{Rose}
use Rattle.cron_io.specs.Views.{SinkView}
use Rattle.cron_io.specs.Writing.{HasGained, HasGainedPrefix, HasTakenAll}
use Rattle.disk_model.specs.declared.mem_disk.MemDisk.{MemDisk}
use Rattle.replica_node.specs.declared.node.Node.{Node}
use Rattle.world_law.specs.Book.{BookState}
use Rattle.due_list.specs.declared.fault.ListFault.{ListFault}
use Rattle.due_list.specs.declared.fault.ListFault.TheVariants.{WriteFault, OutOfMemory}
use Rattle.report_text.specs.declared.fault.ReportFault.{ReportFault}
use Rattle.report_text.specs.declared.fault.ReportFault.TheVariants as report
use Rattle.cron_serve.specs.Serve.{IsTextOf, LeavesNoRun}
use Rattle.cron_serve.specs.declared.run_end.RunEnd.{RunEnd}
use Rattle.program_options.specs.declared.words.Output.{Output}

-- At status 0 the sink gained the text, and otherwise a front of it; status 4 comes only where a write failed. Where the sink told
-- its room, all of the text found room at status 0, and it is longer at status 4.
pub record WritesAtStatus (old new : SinkView) (status : ℕ) (text : List ℕ) : Type 0 where
  pub whole : status ≡ 0 → HasGained old new text
  pub front : HasGainedPrefix old new text
  pub later : old.faults ≤ new.faults
  pub fault : status ≡ 4 → Rose old.faults new.faults
  pub taken : status ≡ 0 → (room : ℕ) → old.room ≡ Some room → HasTakenAll room old new text
  pub beyond : status ≡ 4 → (room : ℕ) → old.room ≡ Some room → room < length text

-- the status of the end of a listing
abbrev pub status_of_listing : Result (Unit {0}) ListFault → ℕ
status_of_listing (Ok done) = 0
status_of_listing (Err WriteFault) = 4
status_of_listing (Err OutOfMemory) = 5

-- the status of the end of a run's text
abbrev pub status_of_writing : Result (Unit {0}) ReportFault → ℕ
status_of_writing (Ok done) = 0
status_of_writing (Err report.WriteFault) = 4
status_of_writing (Err report.OutOfMemory) = 5

-- the text of the bytes was written, as this status tells, and this book and these nodes are left
pub record WritesTextOf (output : Output) (bytes : List ℕ) (sink sink' : SinkView) (status : ℕ) (book : BookState) (nodes : List (Node MemDisk)) : Type 0 where
  pub text : List ℕ
  pub is : IsTextOf output bytes book nodes text
  pub written : WritesAtStatus sink sink' status text

-- nothing was written, and no run is left
pub record LeavesNothing (sink sink' : SinkView) (book : BookState) (nodes : List (Node MemDisk)) : Type 0 where
  pub unwritten : sink' ≡ sink
  pub no_run : LeavesNoRun book nodes

-- The end of the program that wrote this text of a run, at status 0, or a front of it, at 4 and 5: it leaves this book and these nodes, and
-- refuses nothing.
pub record EndsRunText (sink sink' : SinkView) (book : BookState) (nodes : List (Node MemDisk)) (end : RunEnd) (text : List ℕ) : Type 0 where
  pub written : WritesAtStatus sink sink' end.status text
  pub same_book : end.book ≡ book
  pub same_nodes : end.nodes.items ≡ nodes
  pub no_refusal : end.refusal ≡ None
  pub statuses : (end.status ≡ 0) ⊎ (end.status ≡ 4) ⊎ (end.status ≡ 5)

-- The end of the program that wrote the text of the bytes: it is told at status 0 and 4, and at 5 where memory ran out within the text.
-- Where it ran out before, nothing was written.
pub record EndsWriting (output : Output) (bytes : List ℕ) (sink sink' : SinkView) (end : RunEnd) : Type 0 where
  pub statuses : (end.status ≡ 0) ⊎ (end.status ≡ 4) ⊎ (end.status ≡ 5)
  pub no_refusal : end.refusal ≡ None
  pub later : sink.faults ≤ sink'.faults
  pub told : (end.status ≡ 0) ⊎ (end.status ≡ 4) → WritesTextOf output bytes sink sink' end.status end.book end.nodes.items
  pub memory : end.status ≡ 5
      → LeavesNothing sink sink' end.book end.nodes.items ⊎ WritesTextOf output bytes sink sink' end.status end.book end.nodes.items
