-- How the program ends, and what it leaves. Source: docs/RUN_FILE.md.
use Rattle.std.specs.Prelude.{◌≡◌, ◌⊎◌, ℕ, ◌≤◌, ◌==◌, Bool, true, false, if◌then◌else◌, List, [], ◌∷◌, ◌++◌, length, Option, None, Some, codes, decimal}
use Rattle.cron_io.specs.Faults.{Rose}
use Rattle.cron_io.specs.Reading.{IsReadToEnd, HasTakenCount}
use Rattle.cron_io.specs.Views.{SourceView, SinkView}
use Rattle.cron_io.specs.Writing.{HasGained, HasGainedPrefix}
use Rattle.due_set.specs.Table.{IsSound, Table}
use Rattle.due_list.specs.CheckText.{IsCheckText}
use Rattle.due_list.specs.DueText.{IsDueText}
use Rattle.disk_model.specs.declared.mem_disk.MemDisk.{MemDisk}
use Rattle.replica_node.specs.declared.node.Node.{Node}
use Rattle.history.specs.Book.{Row}
use Rattle.world_law.specs.Book.{BookState, StandsBehind}
use Rattle.report_text.specs.Book.{IsBookReport}
use Rattle.journal_text.specs.Starts.{IsBookJournal}
use Rattle.journal_text.specs.Summary.{IsBookSummary}
use Rattle.generated_run.specs.Made.{made_text}
use Rattle.run_outcome.specs.Whole.{IsWholeRun}
use Rattle.script_play.specs.Play.{AreMemNodesOf}
use Rattle.run_text.specs.Run.{Run}
use Rattle.run_text.specs.declared.refusal.Refusal.{Refusal}
use Rattle.job_table.specs.Table.{whole_run}
use Rattle.run_input.specs.Input.{IsRunWithTable, IsTakenFrame}
use Rattle.cron_serve.specs.Input.{IsOfInput, IsRefusedBytes}
use Rattle.cron_serve.specs.Watch.{IsBookWatch}
use Rattle.program_options.specs.declared.words.Output.{Output}
use Rattle.program_options.specs.declared.words.Output.TheVariants.{Report, DueList, Check, Summary}
use Rattle.cron_fields.specs.declared.cause.Cause.TheVariants.{TooLarge}

-- more than 1,048,576 bytes came
pub record IsTooLarge (old new : SourceView) (refusal : Refusal) : Type 0 where
  pub taken : HasTakenCount old new 1_048_577
  pub is : refusal ≡ whole_run TooLarge

-- the input was read to its end, isn't too large, and is refused for what it says
pub record IsReadAndRefused (output : Output) (old new : SourceView) (refusal : Refusal) : Type 0 where
  pub bytes : List ℕ
  pub read : IsReadToEnd old new bytes
  pub short : length bytes ≤ 1_048_576
  pub refused : IsRefusedBytes output bytes refusal

-- why the input was refused, of which this was to be written
abbrev pub IsRefused : Output → (old new : SourceView) → Refusal → Type 0
IsRefused output old new refusal = IsOfInput output × (IsTooLarge old new refusal ⊎ IsReadAndRefused output old new refusal)

-- **The bytes are a run that is taken**, of these jobs, and this book and these nodes are what it leaves: behind the book stand the turns of a
-- whole run of its script, and each node keeps what its replica keeps.
pub record IsRunOf (bytes : List ℕ) (table : Table) (book : BookState) (nodes : List (Node MemDisk)) : Type 0 where
  pub run : Run
  pub taken : IsRunWithTable bytes run table
  pub sound : IsSound table
  pub members : book.members ≡ run.members
  pub rest : book.pending ≡ None
  pub rows : List Row
  pub behind : StandsBehind table rows book
  pub whole : IsWholeRun run.members table run.commands rows
  pub kept : AreMemNodesOf table rows book nodes

-- a text stands there where it is asked for, and none where not
abbrev pub StandsIfAsked : Bool → (List ℕ → Type 0) → List ℕ → Type 0
StandsIfAsked true is text = is text
StandsIfAsked false is text = text ≡ []

-- **The bytes are such a run, and these are its texts**, one after another: the report of its book, and then, where they are asked for, what
-- was seen of the board after each command `free`, and the journal of the turns that obey its script.
pub record IsReportOf (watch journal : Bool) (bytes : List ℕ) (book : BookState) (nodes : List (Node MemDisk)) (text : List ℕ) : Type 0 where
  pub table : Table
  pub run : IsRunOf bytes table book nodes
  pub first : List ℕ
  pub second : List ℕ
  pub third : List ℕ
  pub parts : text ≡ first ++ (second ++ third)
  pub report : IsBookReport table book first
  pub watched : StandsIfAsked watch (IsBookWatch table run.run.commands book) second
  pub told : StandsIfAsked journal (IsBookJournal table run.run.commands book) third

-- the bytes are such a run, and this is the summary of its book, with the seed
pub record IsSummaryOf (seed : ℕ) (bytes : List ℕ) (book : BookState) (nodes : List (Node MemDisk)) (text : List ℕ) : Type 0 where
  pub table : Table
  pub run : IsRunOf bytes table book nodes
  pub summary : IsBookSummary table seed book text

-- the bytes are a run that is taken, and these are the due instants of its jobs
pub record IsDueListOf (bytes text : List ℕ) : Type 0 where
  pub run : Run
  pub table : Table
  pub taken : IsRunWithTable bytes run table
  pub list : IsDueText table text

-- the bytes are the text of a run, and this is the check of its tables
pub record IsCheckOf (bytes text : List ℕ) : Type 0 where
  pub run : Run
  pub frame : IsTakenFrame bytes run
  pub check : IsCheckText run text

-- there is no run: the book has no turn, whatever the jobs, no call is pending in it, and there is no node
pub record LeavesNoRun (book : BookState) (nodes : List (Node MemDisk)) : Type 0 where
  pub no_turn : (table : Table) → StandsBehind table [] book
  pub no_call : book.pending ≡ None
  pub no_node : nodes ≡ []

-- This is to be written of the bytes, and this book and these nodes are left: no run is played for a due list and for a check.
abbrev pub IsTextOf : Output → List ℕ → BookState → List (Node MemDisk) → (text : List ℕ) → Type 0
IsTextOf (Report watch journal) bytes book nodes text = IsReportOf watch journal bytes book nodes text
IsTextOf DueList bytes book nodes text = LeavesNoRun book nodes × IsDueListOf bytes text
IsTextOf Check bytes book nodes text = LeavesNoRun book nodes × IsCheckOf bytes text
IsTextOf (Summary seed) bytes book nodes text = IsSummaryOf seed bytes book nodes text

-- Where the bytes come from of which this is to be written: the input, which was read to its end; but for a summary
-- they are the text that its seed makes, and nothing was read.
abbrev pub IsGiven : Output → (old new : SourceView) → List ℕ → Type 0
IsGiven (Summary seed) old new bytes = (bytes ≡ made_text seed) × (new ≡ old)
IsGiven output old new bytes = IsReadToEnd old new bytes

-- this is to be written of the bytes that were given
pub record IsTextOfInput (output : Output) (old new : SourceView) (book : BookState) (nodes : List (Node MemDisk)) (text : List ℕ) : Type 0 where
  pub bytes : List ℕ
  pub given : IsGiven output old new bytes
  pub is : IsTextOf output bytes book nodes text

-- the text that was asked for was written, of the input or of the run that was made
abbrev pub WritesText : Output → (source source' : SourceView) (sink sink' : SinkView) → BookState → List (Node MemDisk) → Type 0
WritesText output source source' sink sink' book nodes =
    (text : List ℕ) × IsTextOfInput output source source' book nodes text × HasGained sink sink' text

-- a front of the text that was asked for was written
abbrev pub WritesSome : Output → (source source' : SourceView) (sink sink' : SinkView) → BookState → List (Node MemDisk) → Type 0
WritesSome output source source' sink sink' book nodes =
    (text : List ℕ) × IsTextOfInput output source source' book nodes text × HasGainedPrefix sink sink' text

-- the note of a refusal
abbrev pub refusal_note : Refusal → List ℕ
refusal_note refusal =
    codes "cron_cluster: line " ++ decimal refusal.line ++ codes ": cause " ++ decimal refusal.cause ++ codes " at "
    ++ decimal refusal.place ++ 10 ∷ []

-- the note of a faulty command line
abbrev pub usage_note : List ℕ
usage_note = codes "cron_cluster: usage: cron_cluster [--journal] [--lanes N] [--make SEED] [--list] [--check] [--watch] [--audit]" ++ 10 ∷ []

-- the note of a status
abbrev pub status_note : ℕ → List ℕ
status_note status =
    if status == 1 then usage_note
    else (if status == 3 then codes "cron_cluster: read fault" ++ 10 ∷ []
    else (if status == 4 then codes "cron_cluster: write fault" ++ 10 ∷ []
    else (if status == 5 then codes "cron_cluster: out of memory" ++ 10 ∷ [] else [])))

-- the note that goes with an end: that of the refusal, or else that of the status
abbrev pub note_text : ℕ → Option Refusal → List ℕ
note_text status None = status_note status
note_text status (Some refusal) = refusal_note refusal

-- the notes gained this text, or a front of it where their count of faults rose; that count didn't fall
pub record IsNoted (old new : SinkView) (text : List ℕ) : Type 0 where
  pub gained : HasGained old new text ⊎ (HasGainedPrefix old new text × Rose old.faults new.faults)
  pub later : old.faults ≤ new.faults
