-- What a run that is read, and its table, bring to an audit.
use Rattle.std.proofs.Common.{ℕ, zero, suc, ◌+◌, ◌<◌, ◌≤◌, List, [], ◌∷◌, length, get_or, subst, sym, arith}
use Rattle.std.specs.List.{All, AllByRecursion}
use Rattle.due_set.specs.Table.{Table}
use Rattle.run_text.specs.Reading.{IsReadRun}
use Rattle.run_text.specs.Run.{run_of}
use Rattle.run_text.specs.Sound.{IsSoundRun}
use Rattle.run_text.specs.declared.run.RunFile.{RunFile}
use Rattle.run_text.proofs.SoundLemmas.{sound_run}
use Rattle.crontab_text.specs.Lines.{lines_of}
use Rattle.job_table.specs.Table.{IsTableOf}
use Rattle.job_table.proofs.FieldLemmas.{table_window}
use Rattle.job_table.proofs.NameLemmas.{words_of_run}
use Rattle.job_table.specs.Names.{HaveWordNames}
use Rattle.script_text.specs.Command.{IsInRange}
use Rattle.zone_minutes.specs.declared.minute.Window.{Window}

-- what holds of each element, one after another, holds at each place
each_at : {X : Type 0} (holds : X → Type 0) (xs : List X) → AllByRecursion holds xs → (place : ℕ) (none : X) → place < length xs → holds (get_or xs place none)
each_at holds [] all place none below = absurd (omega (arith, below))
each_at holds (x ∷ xs) all zero none below = all.0
each_at holds (x ∷ xs) all (suc place) none below = each_at holds xs all.1 place none (omega (arith, below))

-- what an audit needs of its run and of the table
pub record IsFitToAudit (run : RunFile) (table : Table) : Type 0 where
  pub some : 0 < run.members
  pub few : run.members ≤ 7
  pub names : HaveWordNames table.jobs
  pub range : All (λ command. IsInRange run.members table.window command) (run_of run).commands

pub fit_to_audit : (run : RunFile) (table : Table) → IsReadRun run → IsTableOf (run_of run) table → IsFitToAudit run table
fit_to_audit run table read is =
    let sound : IsSoundRun (1 + length (lines_of read.text)) (run_of run) = sound_run read.text (run_of run) read.says in
    record {
      some = omega (arith, sound.replicas.some);
      few = sound.replicas.few;
      names = words_of_run read.text (run_of run) table read.says is;
      range = subst (λ (w : Window). All (λ command. IsInRange run.members w command) (run_of run).commands) (sym (table_window (run_of run) table is))
          (each_at (IsInRange run.members (run_of run).window) (run_of run).commands sound.script.in_range);
    }
