-- A run that a world has played.
use Rattle.std.proofs.Common.{◌≡◌, ℕ, List, ◌++◌, length, None, Some, ℤ, pos, ◌-ℤ◌, ◌<ℤ◌, ◌≤ℤ◌, refl, sym, ◌∙◌, subst, arith, to_z, of_z}
use Rattle.std.specs.Int.{w64}
use Rattle.std.specs.List.{slice_get}
use Rattle.std.proofs.lemmas.Int.{ints, to_z-of_z}
use Rattle.zone_minutes.specs.Window.{IsInWindow, IsWithinLimits}
use Rattle.zone_minutes.specs.declared.minute.Window.{Window}
use Rattle.launch_machine.specs.Clerk.{table_size}
use Rattle.disk_model.specs.declared.mem_disk.MemDisk.{MemDisk}
use Rattle.due_set.specs.Table.{Table}
use Rattle.paxos_base.specs.declared.durable.Durable.{Durable}
use Rattle.replica_node.proofs.RestLemmas.{stands_at_rest}
use Rattle.replica_node.specs.Node.{disk_of}
use Rattle.replica_node.specs.declared.node.Node.{Node}
use Rattle.replica_store.specs.Files.{FilesStand}
use Rattle.script_text.specs.declared.command.Command.{Command}
use Rattle.history.specs.Book.{Row}
use Rattle.history.specs.Legal.{IsLegal}
use Rattle.script_semantics.specs.Script.{Obeys}
use Rattle.script_semantics.specs.Settling.{Walks}
use Rattle.script_semantics.specs.Situation.{Situation}
use Rattle.world_law.specs.Book.{IsLegalBook, StandsBehind, standing_behind}
use Rattle.disk_model.specs.Images.{Image}
use Rattle.disk_model.specs.MemDisk.{left_by, seen_of, view_of}
use Rattle.world_rounds.proofs.Limits.{within_bounds}
use Rattle.world_rounds.specs.Bounds.{IsBookBounded}
use Rattle.world_rounds.specs.World.{book_of}
use Rattle.world_rounds.specs.declared.world.World.{World}
use Rattle.script_play.specs.Play.{AreMemNodesOf, HasPlayed, HasRun, IsMemWorldAt}

-- the window's last minute, as it is computed
abbrev pub shown : Window → ℤ
shown window = to_z w64 (of_z w64 (to_z w64 (of_z w64 window.until.0) -ℤ pos 1))

pub last_minute : (window : Window) → IsWithinLimits window → shown window ≡ window.until.0 -ℤ pos 1
last_minute window limits =
    let late : window.until.0 ≤ℤ pos 120_968_640 = limits.until in
    let since : pos 525_600 ≤ℤ window.from.0 = limits.since in
    let ordered : window.from.0 <ℤ window.until.0 = limits.ordered in
    let until : to_z w64 (of_z w64 window.until.0) ≡ window.until.0 = to_z-of_z w64 window.until.0 (omega (arith, ints)) in
    rw until (to_z-of_z w64 (window.until.0 -ℤ pos 1) (omega (arith, ints)))

pub last_inside : (window : Window) → IsWithinLimits window → IsInWindow window (shown window)
last_inside window limits =
    let ordered : window.from.0 <ℤ window.until.0 = limits.ordered in
    subst (IsInWindow window) (sym (last_minute window limits)) (record { since = omega (arith, ints); before = omega (arith, ints) })

-- the world walks to the window's last minute
pub walked : (table : Table) (members : ℕ) (script : List Command) (starts : List ℕ) (old new : World MemDisk) (more : List Row) (after : Situation) → (played : HasPlayed table members script starts old)
    → Walks members table (table.window.until.0 -ℤ pos 1) played.situation more after → IsMemWorldAt table (played.rows ++ more) new after
    → (book_of new).members ≡ (book_of old).members → IsBookBounded (book_of new) → HasRun table members script new
walked table members script starts old new more after played walks here same bounded = record {
  rows = played.rows ++ more;
  situation = after;
  obeys = record {
    after = after;
    obeys = record { front = played.rows; middle = played.situation; back = more; parts = refl; one = played.parts.parts; two = walks };
  };
  ends = refl;
  limits = within_bounds view_of table (played.rows ++ more) new after here bounded;
  is = here;
  count = same ∙ played.count;
}

-- behind its book stand the turns of the script, and then those of the walk
pub walked_rows : (table : Table) (members : ℕ) (script : List Command) (starts : List ℕ) (old new : World MemDisk) (more : List Row) (after : Situation) → (played : HasPlayed table members script starts old)
    → (walks : Walks members table (table.window.until.0 -ℤ pos 1) played.situation more after) (here : IsMemWorldAt table (played.rows ++ more) new after)
    → (same : (book_of new).members ≡ (book_of old).members) (bounded : IsBookBounded (book_of new))
    → (walked table members script starts old new more after played walks here same bounded).rows ≡ played.rows ++ more
unfolding walked
walked_rows table members script starts old new more after played walks here same bounded = refl

module _ (table : Table) (members : ℕ) (script : List Command) (world : World MemDisk) (run : HasRun table members script world) (nodes : List (Node MemDisk)) (are : AreMemNodesOf table run.rows (book_of world) nodes) where
  pub files_stand : (who : ℕ) (node : Node MemDisk) → slice_get nodes who ≡ Some node
      → FilesStand (table_size table) ((standing_behind table run.rows (book_of world)).replicas who).kept (seen_of (disk_of node))
  files_stand who node found = (are.each who node found).stand

  pub stops_stand : (who : ℕ) (node : Node MemDisk) (image : Image) → slice_get nodes who ≡ Some node → left_by (disk_of node) image
      → FilesStand (table_size table) ((standing_behind table run.rows (book_of world)).replicas who).kept image
  stops_stand who node image found left =
      let is = are.each who node found in
      subst (λ (kept : Durable). FilesStand (table_size table) kept image) is.kept (stands_at_rest view_of table node is.at_rest tt image left)

  pub count_nodes : length nodes ≡ members
  count_nodes = are.count ∙ run.count

module _ (table : Table) (members : ℕ) (script : List Command) (world : World MemDisk) (run : HasRun table members script world) where
  behind : StandsBehind table run.rows (book_of world)
  behind = run.is.ahead.at.behind

  pub legal_book : IsLegalBook table (book_of world)
  legal_book = (run.rows, behind)

  pub at_rest : (book_of world).pending ≡ None
  at_rest = run.is.ahead.at.rest

  pub obeying : (rows : List Row) × StandsBehind table rows (book_of world) × IsLegal members table rows × Obeys members table script rows
  obeying = (run.rows, behind, subst (λ n. IsLegal n table run.rows) run.count behind.legal, run.obeys)
