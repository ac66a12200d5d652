-- The length of a run's report, beside the room that a sink has. Private functions alone cite it.
use Rattle.std.specs.Prelude.{ℕ, ◌<◌, ◌≤◌, false, List, length}
use Rattle.disk_model.specs.declared.mem_disk.MemDisk.{MemDisk}
use Rattle.replica_node.specs.declared.node.Node.{Node}
use Rattle.world_law.specs.Book.{BookState}
use Rattle.cron_serve.specs.Serve.{IsReportOf}

-- the text is a report of the run, of some book and the nodes that go with it
pub record IsReportOfRun (bytes text : List ℕ) : Type 0 where
  pub book : BookState
  pub nodes : List (Node MemDisk)
  pub is : IsReportOf false false bytes book nodes text

-- a report of the run has no more bytes than so many
abbrev pub FitsRoom : List ℕ → ℕ → Type 0
FitsRoom bytes room = (text : List ℕ) → IsReportOfRun bytes text → length text ≤ room

-- a report of the run has more bytes than so many
abbrev pub IsBeyondRoom : List ℕ → ℕ → Type 0
IsBeyondRoom bytes room = (text : List ℕ) → IsReportOfRun bytes text → room < length text
