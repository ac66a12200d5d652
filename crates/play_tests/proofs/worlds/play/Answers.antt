use Rattle.std.proofs.Common.{List, All, length, sym, ap, ◌∙◌, subst, arith}
use Rattle.script_text.specs.declared.command.Command.{Command}
use Rattle.run_text.specs.Run.{run_of}
use Rattle.run_text.proofs.SoundLemmas.{sound_run}
use Rattle.job_table.proofs.FieldLemmas.{table_window}
use Rattle.script_semantics.specs.Starts.{AreStarts}
use Rattle.journal_text.proofs.StartLemmas.{book_starts}
use Rattle.world_law.specs.Book.{BookState, IsLegalBook}
use Rattle.script_play.specs.Play.{IsPlayable}
use Rattle.script_play.proofs.Taken.{script_taken}
use Rattle.script_play.proofs.Runs.{at_rest, legal_book}
use Rattle.play_tests.proofs.worlds.play.Goals as goal

pub build_table-requires : goal.build_table-requires
build_table-requires g c = record {
  text = c.in_ok-short.field-0.now;
  short = c.in_ok-short.ensures;
  says = c.in-Ok.ensures.read;
  parts = c.in-Ok.ensures.parts;
  digits = c.in-Ok.ensures.digits;
}

pub play_run-requires-clause-some : goal.play_run-requires-clause-some
play_run-requires-clause-some g c = λ lives borrowed.
    let sound = sound_run c.in_ok-short.field-0.now (run_of c.in-Ok.run') c.in-Ok.ensures.read in omega (arith, sound.replicas.some)

pub play_run-requires-clause-few : goal.play_run-requires-clause-few
play_run-requires-clause-few g c = λ lives borrowed. (sound_run c.in_ok-short.field-0.now (run_of c.in-Ok.run') c.in-Ok.ensures.read).replicas.few

pub play_run-requires-clause-taken : goal.play_run-requires-clause-taken
play_run-requires-clause-taken g c = λ lives borrowed.
    let sound = sound_run c.in_ok-short.field-0.now (run_of c.in-Ok.run') c.in-Ok.ensures.read in
    let window = table_window (run_of c.in-Ok.run') c.in-Ok-build_table.table c.in-Ok-build_table.ensures.table in
    subst (λ w. All (IsPlayable w c.in-Ok.run'.members) c.as_slice-commands.result.now) (sym window)
    (subst (λ (l : List Command). All (IsPlayable c.in-Ok.run'.window c.in-Ok.run'.members) l) (sym c.as_slice-commands.ensures.value) (script_taken _ (run_of c.in-Ok.run') sound))

pub returns-clause-few : goal.returns-clause-few
returns-clause-few g c = (sound_run c.in_ok-short.field-0.now (run_of c.in-Ok.run') c.in-Ok.ensures.read).replicas.few

pub returns-clause-members : goal.returns-clause-members
returns-clause-members g c = ap (λ (b : BookState). b.members) c.into_book-book.ensures.book ∙ c.in-Ok-play_run.ensures.run.count

pub returns-clause-legal : goal.returns-clause-legal
returns-clause-legal g c =
    subst (IsLegalBook c.in-Ok-build_table.table) (sym c.into_book-book.ensures.book) (legal_book _ _ _ _ c.in-Ok-play_run.ensures.run)

pub returns-clause-rest : goal.returns-clause-rest
returns-clause-rest g c =
    ap (λ (b : BookState). b.pending) c.into_book-book.ensures.book ∙ at_rest _ _ _ _ c.in-Ok-play_run.ensures.run

pub returns-clause-sound : goal.returns-clause-sound
returns-clause-sound g c = c.in-Ok-play_run.ensures.run.is.ahead.at.sound

pub returns-clause-starts : goal.returns-clause-starts
returns-clause-starts g c =
    let has = c.in-Ok-play_run.ensures.starts in
    subst (λ (b : BookState). AreStarts (length b.turns) c.in-Ok-play_run.starts.items) (sym c.into_book-book.ensures.book)
    (book_starts _ _ _ has.rows _ has.behind has.begin).0
