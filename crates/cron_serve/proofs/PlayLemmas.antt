-- From a world that has played a run to what the run leaves.
use Rattle.std.proofs.Common.{ℕ, ◌+◌, ◌<◌, ◌≤◌, List, length, All, sym, subst, arith}
use Rattle.disk_model.specs.declared.mem_disk.MemDisk.{MemDisk}
use Rattle.crontab_text.specs.Lines.{lines_of}
use Rattle.due_set.specs.Table.{Table}
use Rattle.replica_node.specs.declared.node.Node.{Node}
use Rattle.history.specs.Legal.{IsLegal}
use Rattle.settling.specs.Rounds.{IsWithinBounds}
use Rattle.script_semantics.specs.Situation.{Situation}
use Rattle.run_text.specs.Run.{Run}
use Rattle.run_text.specs.Sound.{IsSoundRun}
use Rattle.run_text.proofs.SoundLemmas.{sound_run}
use Rattle.world_rounds.specs.World.{book_of}
use Rattle.world_rounds.specs.declared.world.World.{World}
use Rattle.run_outcome.proofs.WholeLemmas.{script_whole}
use Rattle.script_play.specs.Play.{AreMemNodesOf, HasRun, IsPlayable}
use Rattle.script_play.proofs.Taken.{script_taken}
use Rattle.job_table.proofs.FieldLemmas.{table_window}
use Rattle.run_input.specs.Input.{IsRunWithTable}
use Rattle.cron_serve.specs.Serve.{IsRunOf}

module _ (bytes : List ℕ) (run : Run) (table : Table) (taken : IsRunWithTable bytes run table) where
  sound : IsSoundRun (1 + length (lines_of bytes)) run
  sound = sound_run bytes run taken.says

  -- a world of so many replicas plays it
  pub some_members : 0 < run.members
  some_members = let some = sound.replicas.some in omega arith

  pub few_members : run.members ≤ 7
  few_members = sound.replicas.few

  pub playable : All (IsPlayable table.window run.members) run.commands
  playable =
      subst (λ window. All (IsPlayable window run.members) run.commands) (sym (table_window run table taken.table_is)) (script_taken _ run sound)

  -- what the world leaves is the run's
  pub left_by_world : (world : World MemDisk) (nodes : List (Node MemDisk)) → (has : HasRun table run.members run.commands world)
      → AreMemNodesOf table has.rows (book_of world) nodes → IsRunOf bytes table (book_of world) nodes
  left_by_world world nodes has kept =
      let at = has.is.ahead.at in
      let legal = subst (λ n. IsLegal n table has.rows) has.count at.behind.legal in
      let limits : IsWithinBounds has.rows has.obeys.after.standing.posted =
      subst (λ (s : Situation). IsWithinBounds has.rows s.standing.posted) (sym has.ends) has.limits in
      let whole = script_whole run.members table run.commands has.rows has.obeys sound.replicas.some few_members at.sound legal limits in
      record {
        run = run;
        taken = taken;
        sound = at.sound;
        members = has.count;
        rest = at.rest;
        rows = has.rows;
        behind = at.behind;
        whole = whole.0;
        kept = kept;
      }
