use Rattle.std.proofs.Common.{List, All, sym, subst, arith}
use Rattle.script_text.specs.declared.command.Command.{Command}
use Rattle.run_text.specs.Run.{run_of}
use Rattle.run_text.proofs.SoundLemmas.{sound_run}
use Rattle.job_table.proofs.FieldLemmas.{table_window}
use Rattle.script_play.specs.Play.{IsPlayable}
use Rattle.script_play.proofs.Taken.{script_taken}
use Rattle.play_tests.proofs.worlds.seen_of.Goals as goal

pub build_table-requires : goal.build_table-requires
build_table-requires g c = record {
  text = c.in_ok-short.field-0.now;
  short = c.in_ok-short.ensures;
  says = c.in-Ok.ensures.read;
  parts = c.in-Ok.ensures.parts;
  digits = c.in-Ok.ensures.digits;
}

pub play_run_watched-requires-clause-some : goal.play_run_watched-requires-clause-some
play_run_watched-requires-clause-some g c = λ lives borrowed.
    let sound = sound_run c.in_ok-short.field-0.now (run_of c.in-Ok.run') c.in-Ok.ensures.read in omega (arith, sound.replicas.some)

pub play_run_watched-requires-clause-few : goal.play_run_watched-requires-clause-few
play_run_watched-requires-clause-few g c = λ lives borrowed. (sound_run c.in_ok-short.field-0.now (run_of c.in-Ok.run') c.in-Ok.ensures.read).replicas.few

pub play_run_watched-requires-clause-taken : goal.play_run_watched-requires-clause-taken
play_run_watched-requires-clause-taken g c = λ lives borrowed.
    let sound = sound_run c.in_ok-short.field-0.now (run_of c.in-Ok.run') c.in-Ok.ensures.read in
    let window = table_window (run_of c.in-Ok.run') c.in-Ok-build_table.table c.in-Ok-build_table.ensures.table in
    subst (λ w. All (IsPlayable w c.in-Ok.run'.members) c.as_slice-commands.result.now) (sym window)
    (subst (λ (l : List Command). All (IsPlayable c.in-Ok.run'.window c.in-Ok.run'.members) l) (sym c.as_slice-commands.ensures.value) (script_taken _ (run_of c.in-Ok.run') sound))
