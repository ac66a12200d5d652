use Rattle.std.proofs.Common.{◌≡◌, ◌∙◌, List, All, ap, sym, subst}
use Rattle.run_text.specs.Run.{Run, run_of}
use Rattle.script_text.specs.declared.command.Command.{Command}
use Rattle.world_law.specs.Book.{BookState}
use Rattle.world_rounds.specs.World.{book_of}
use Rattle.script_play.specs.Play.{AreMemNodesOf, HasRun, HasStarts, IsPlayable}
use Rattle.cron_serve.specs.Played.{HasWatched}
use Rattle.cron_serve.specs.Serve.{IsRunOf}
use Rattle.cron_serve.proofs.PlayLemmas.{few_members, left_by_world, playable, some_members}
use Rattle.cron_serve.proofs.ServeLemmas.{may_start}
use Rattle.run_input.proofs.VerdictLemmas.{one_taken}
use Rattle.cron_serve.proofs.answer.play.Goals as goal

pub play_watched-requires-clause-some : goal.play_watched-requires-clause-some
play_watched-requires-clause-some g c = λ lives borrowed. some_members c.args.bytes.now (run_of c.in_ok-run.run') c.in_ok-run.table c.in_ok-run.ensures.taken

pub play_watched-requires-clause-few : goal.play_watched-requires-clause-few
play_watched-requires-clause-few g c = λ lives borrowed. few_members c.args.bytes.now (run_of c.in_ok-run.run') c.in_ok-run.table c.in_ok-run.ensures.taken

pub play_watched-requires-clause-taken : goal.play_watched-requires-clause-taken
play_watched-requires-clause-taken g c = λ lives borrowed.
    subst (λ (l : List Command). All (IsPlayable c.in_ok-run.table.window c.in_ok-run.run'.members) l) (sym c.as_slice-commands.ensures.value)
    (playable c.args.bytes.now (run_of c.in_ok-run.run') c.in_ok-run.table c.in_ok-run.ensures.taken)

pub returns-clause-run : goal.returns-clause-run
returns-clause-run g c =
    let run = run_of c.in_ok-run.run' in
    let table = c.in_ok-run.table in
    let world = c.in_ok-world.world in
    let nodes = c.into_book-book.result.1.items in
    let has : HasRun table run.members run.commands world =
    subst (λ (l : List Command). HasRun table run.members l world) c.as_slice-commands.ensures.value c.in_ok-world.ensures.run in
    let kept : AreMemNodesOf table has.rows (book_of world) nodes = c.into_book-book.ensures.nodes table has.rows has.situation has.is in
    subst (λ (b : BookState). IsRunOf c.args.bytes.now table b nodes) (sym c.into_book-book.ensures.book)
    (left_by_world c.args.bytes.now run table c.in_ok-run.ensures.taken world nodes has kept)

pub returns-clause-starts : goal.returns-clause-starts
returns-clause-starts g c = λ left.
    let run = run_of c.in_ok-run.run' in
    let table = c.in_ok-run.table in
    let starts = c.in_ok-world.starts.items in
    let same : run ≡ left.run = (one_taken c.args.bytes.now run left.run table table c.in_ok-run.ensures.taken left.taken).0 in
    let has : HasStarts table run.commands (book_of c.in_ok-world.world) starts =
    subst (λ (l : List Command). HasStarts table l (book_of c.in_ok-world.world) starts) c.as_slice-commands.ensures.value c.in_ok-world.ensures.starts in
    subst (λ (r : Run). HasStarts table r.commands c.into_book-book.result.0 starts) same
    (subst (λ (b : BookState). HasStarts table run.commands b starts) (sym c.into_book-book.ensures.book) has)

pub returns-clause-seen : goal.returns-clause-seen
returns-clause-seen g c = λ left.
    let run = run_of c.in_ok-run.run' in
    let table = c.in_ok-run.table in
    let starts = c.in_ok-world.starts.items in
    let seen = c.in_ok-world.seen.items in
    let same : run ≡ left.run = (one_taken c.args.bytes.now run left.run table table c.in_ok-run.ensures.taken left.taken).0 in
    let has : HasWatched c.args.watch table run.commands (book_of c.in_ok-world.world) starts seen =
    subst (λ (l : List Command). HasWatched c.args.watch table l (book_of c.in_ok-world.world) starts seen) c.as_slice-commands.ensures.value c.in_ok-world.ensures.seen in
    subst (λ (r : Run). HasWatched c.args.watch table r.commands c.into_book-book.result.0 starts seen) same
    (subst (λ (b : BookState). HasWatched c.args.watch table run.commands b starts seen) (sym c.into_book-book.ensures.book) has)

pub returns-clause-played : goal.returns-clause-played
returns-clause-played g c =
    let run = returns-clause-run g c in
    let starts = may_start c.args.bytes.now _ _ _ c.in_ok-world.starts.items run (returns-clause-starts g c run) in
    record {
      members = ap (λ (b : BookState). b.members) c.into_book-book.ensures.book ∙ c.in_ok-world.ensures.run.count;
      few = few_members c.args.bytes.now (run_of c.in_ok-run.run') c.in_ok-run.table c.in_ok-run.ensures.taken;
      sound = c.in_ok-world.ensures.run.is.ahead.at.sound;
      legal = (run.rows, run.behind);
      rest = run.rest;
      starts = starts.0;
    }
