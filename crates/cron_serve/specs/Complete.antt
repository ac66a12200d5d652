-- When the program has to end with its text, and when it has to refuse its input. Source: docs/RUN_FILE.md.
use Rattle.std.specs.Prelude.{◌≡◌, ◌⊎◌, ℕ, ◌<◌, List, length, Some, IsSomeAnd}
use Rattle.cron_io.specs.Faults.{Rose}
use Rattle.cron_io.specs.Views.{SourceView, SinkView}
use Rattle.cron_io.specs.Writing.{HasGained, HasGainedPrefix, HasTakenAll}
use Rattle.disk_model.specs.declared.mem_disk.MemDisk.{MemDisk}
use Rattle.replica_node.specs.declared.node.Node.{Node}
use Rattle.world_law.specs.Book.{BookState}
use Rattle.run_text.specs.declared.refusal.Refusal.{Refusal}
use Rattle.cron_serve.specs.Input.{IsOfInput, IsRefusedInput, Suits}
use Rattle.cron_serve.specs.Serve.{IsTextOfInput}
use Rattle.cron_serve.specs.declared.run_end.RunEnd.{RunEnd}
use Rattle.program_options.specs.declared.words.Output.{Output}

-- Where the source told its bytes, the end is decided by them, unless a read or a write failed or memory ran out.
pub record Completes (output : Output) (source source' : SourceView) (sink sink' : SinkView) (end : RunEnd) : Type 0 where
  -- an input of which this can be written ends with its text
  pub taken : (bytes : List ℕ) → source.left ≡ Some bytes → Suits output bytes
      → ¬ Rose source.faults source'.faults → ¬ Rose sink.faults sink'.faults → (end.status ≡ 0) ⊎ (end.status ≡ 5)
  -- an input that is refused ends with its refusal
  pub refused : (bytes : List ℕ) (refusal : Refusal) → source.left ≡ Some bytes → IsRefusedInput output bytes refusal
      → ¬ Rose source.faults source'.faults → (end.refusal ≡ Some refusal) ⊎ (end.status ≡ 5)
  -- and each input of which it can't is refused
  pub others : (bytes : List ℕ) → source.left ≡ Some bytes → (Suits output bytes → ⊥) → ¬ Rose source.faults source'.faults
      → IsSomeAnd end.refusal (IsRefusedInput output bytes) ⊎ (end.status ≡ 5)
  -- and what is of no input ends with its text, whatever the source has
  pub made : (IsOfInput output → ⊥) → ¬ Rose sink.faults sink'.faults → (end.status ≡ 0) ⊎ (end.status ≡ 5)

-- the source told these bytes, no read and no write failed, and the end is the one that they decide
pub record EndsUndisturbed (output : Output) (source source' : SourceView) (sink sink' : SinkView) (end : RunEnd) (bytes : List ℕ) : Type 0 where
  pub completes : Completes output source source' sink sink' end
  pub told : source.left ≡ Some bytes
  pub read : ¬ Rose source.faults source'.faults
  pub written : ¬ Rose sink.faults sink'.faults

-- the text that was asked for was written, and found room in the sink
pub record HasRoomForText (output : Output) (source source' : SourceView) (sink sink' : SinkView) (book : BookState) (nodes : List (Node MemDisk))
    (room : ℕ) : Type 0 where
  pub text : List ℕ
  pub of_input : IsTextOfInput output source source' book nodes text
  pub gained : HasGained sink sink' text
  pub taken : HasTakenAll room sink sink' text

-- the text that was asked for is longer than the sink's room, and a front of it was written
pub record LacksRoomForText (output : Output) (source source' : SourceView) (sink sink' : SinkView) (book : BookState) (nodes : List (Node MemDisk))
    (room : ℕ) : Type 0 where
  pub text : List ℕ
  pub of_input : IsTextOfInput output source source' book nodes text
  pub front : HasGainedPrefix sink sink' text
  pub beyond : room < length text
