-- The nodes that a run leaves, and their launch tables.
use Rattle.std.proofs.Common.{◌≡◌, ℕ, ◌<◌, List, Some, true, length, take, sym, ap, ◌∙◌, subst}
use Rattle.std.specs.Prelude.{slice_get}
use Rattle.std.proofs.Math.Seq.{take-length}
use Rattle.std.proofs.lemmas.Option.{slice_get_within}
use Rattle.disk_model.specs.Images.{Image}
use Rattle.disk_model.specs.MemDisk.{left_by, seen_of, view_of}
use Rattle.disk_model.specs.declared.mem_disk.MemDisk.{MemDisk}
use Rattle.paxos_base.specs.declared.durable.Durable.{Durable}
use Rattle.paxos_base.specs.declared.entry.Entry.{Entry}
use Rattle.paxos_base.specs.declared.rows.JobRow.{JobRow}
use Rattle.due_set.specs.Table.{Table}
use Rattle.launch_machine.specs.Clerk.{IsClerkOf, first_rows, table_size}
use Rattle.step_spec.specs.State.{State, prefix_of}
use Rattle.step_spec.specs.Step.{IsLaunchTable}
use Rattle.agreement.specs.Log.{FollowsLog}
use Rattle.history.specs.Agrees.{Agrees}
use Rattle.history.specs.Book.{Standing, standing_after}
use Rattle.replica_node.specs.Node.{disk_of, replica_of}
use Rattle.agreement.specs.Transition.{identity_of}
use Rattle.replica_node.specs.declared.node.Node.{Node}
use Rattle.replica_node.proofs.RestLemmas.{stands_at_rest}
use Rattle.replica_store.specs.Files.{FilesStand}
use Rattle.world_law.specs.Book.{BookState, standing_behind}
use Rattle.cron_serve.specs.Serve.{IsRunOf}

module _ (bytes : List ℕ) (table : Table) (book : BookState) (nodes : List (Node MemDisk)) (run : IsRunOf bytes table book nodes) where
  pub count_nodes : length nodes ≡ run.run.members
  count_nodes = run.kept.count ∙ run.members

  pub is_of_number : (who : ℕ) (node : Node MemDisk) → slice_get nodes who ≡ Some node → (replica_of node).identity ≡ identity_of run.run.members who
  is_of_number who node found = (run.kept.each who node found).identity ∙ ap (λ members. identity_of members who) run.members

  pub files_stand : (who : ℕ) (node : Node MemDisk) → slice_get nodes who ≡ Some node
      → FilesStand (table_size table) (replica_of node).state.kept (seen_of (disk_of node))
  files_stand who node found =
      let is = run.kept.each who node found in
      subst (λ (kept : Durable). FilesStand (table_size table) kept (seen_of (disk_of node))) (sym is.kept) is.stand

  pub stops_stand : (who : ℕ) (node : Node MemDisk) (image : Image) → slice_get nodes who ≡ Some node → left_by (disk_of node) image
      → FilesStand (table_size table) (replica_of node).state.kept image
  stops_stand who node image found left =
      stands_at_rest view_of table node (run.kept.each who node found).at_rest tt image left

  pub keeps : (who : ℕ) (node : Node MemDisk) → slice_get nodes who ≡ Some node
      → (replica_of node).state.kept ≡ ((standing_behind table run.rows book).replicas who).kept
  keeps who node found = (run.kept.each who node found).kept

  -- ---- launch tables

  -- what stands behind the run's rows
  abbrev stands : Standing
  stands = standing_after run.run.members (first_rows table) run.rows

  agrees : Agrees run.run.members table run.rows
  agrees = subst (Agrees run.run.members table) (take-length run.rows) (run.whole.agree (length run.rows))

  clerk_of : (who : ℕ) → who < run.run.members → stands.runs who ≡ true
      → (launch : List JobRow) × IsLaunchTable table (stands.replicas who) launch × IsClerkOf table run.whole.log launch
  clerk_of who member runs =
      let (launch, is) = agrees.has_table run.sound who runs in
      let follows : FollowsLog table run.whole.log (stands.replicas who) = agrees.follow run.whole.log run.whole.is_log who runs in
      let whole : take (prefix_of (stands.replicas who)) run.whole.log ≡ run.whole.log =
      ap (λ n. take n run.whole.log) (run.whole.learned who member) ∙ take-length run.whole.log in
      (launch, is, subst (λ (entries : List Entry). IsClerkOf table entries launch) whole (follows.table_is launch is))

  same_standing : standing_behind table run.rows book ≡ stands
  same_standing = ap (λ members. standing_after members (first_rows table) run.rows) run.members

  pub follows_clerk : (who : ℕ) (node : Node MemDisk) → slice_get nodes who ≡ Some node → (standing_behind table run.rows book).runs who ≡ true
      → (launch : List JobRow) × IsLaunchTable table (replica_of node).state launch × IsClerkOf table run.whole.log launch
  follows_clerk who node found runs =
      let member : who < run.run.members = subst (λ n. who < n) count_nodes (slice_get_within nodes who node found) in
      let here : stands.runs who ≡ true = subst (λ (s : Standing). s.runs who ≡ true) same_standing runs in
      let (launch, is, clerk) = clerk_of who member here in
      let state : (replica_of node).state ≡ stands.replicas who =
      (run.kept.each who node found).state runs ∙ ap (λ (s : Standing). s.replicas who) same_standing in
      (launch, subst (λ (s : State). IsLaunchTable table s launch) (sym state) is, clerk)
