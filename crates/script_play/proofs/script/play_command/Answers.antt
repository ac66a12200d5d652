use Rattle.std.proofs.Common.{refl, sym, subst}
use Rattle.std.specs.Prelude.{IfOk}
use Rattle.script_play.specs.Watch.{GoesOnWatched}
use Rattle.script_play.proofs.Taken.{other_taken}
use Rattle.script_play.proofs.WatchedParts.{other_goes}
use Rattle.script_play.proofs.script.play_command.Goals as goal

pub command-requires-clause-taken : goal.command-requires-clause-taken
command-requires-clause-taken g c = λ lives borrowed. other_taken c.args.table.now.window c.args.world.book.members c.args.command.now c.in_default.not-Free c.requires.taken

pub returns-in-Free-clause-goes : goal.returns-in-Free-clause-goes
returns-in-Free-clause-goes g c =
    subst (λ command. IfOk c.play_free.result (λ new. GoesOnWatched g.D.Disk.view c.args.table.now command c.args.place c.args.world new c.args.watch.now c.play_free.new.watch)) (sym c.in-Free.is) c.play_free.ensures.goes

pub returns-in_ok-command-in_default : goal.returns-in_ok-command-in_default
returns-in_ok-command-in_default g c = record {
  goes = λ rows situation is.
      let to = c.in_ok-command-in_default.ensures.goes rows situation is in (
        to.0,
        to.1,
        to.2,
        to.3,
        other_goes g.D.Disk.view c.args.table.now c.args.world c.command.new.self rows to.0 situation to.1 is to.3 c.in_ok-command-in_default.ensures.members c.args.command.now c.args.place c.args.watch.now c.in_default.not-Free,
      );
  ready = c.requires.ready;
  stays = refl;
  members = c.in_ok-command-in_default.ensures.members;
}
