use Rattle.std.proofs.Common.{ap, subst, sym}
use Rattle.script_semantics.specs.Commands.{Plain, set_by, tasks_for}
use Rattle.script_semantics.specs.Parts.{Plays}
use Rattle.world_law.specs.Book.{BookState}
use Rattle.run_replay.specs.Tasks.{AreAsked}
use Rattle.run_audit.proofs.PartLemmas.{asked_played, asked_stops, names_member, plain_stops, played_plain, played_ready}
use Rattle.run_audit.proofs.PlayLemmas.{comes_err, comes_out}
use Rattle.run_audit.specs.Begins.{BeginsToPlay}
use Rattle.run_audit.proofs.parts.play_plain.Goals as goal

pub returns-in_err-tasks : goal.returns-in_err-tasks
returns-in_err-tasks c =
    let n = c.args.replay.now.book.members in
    let asked = tasks_for c.args.command.now in
    comes_out c.args.table.now (BeginsToPlay n asked) (Plain n asked (set_by c.args.command.now)) c.args.replay.now c.args.rest.now _ _ _ c.from_residual.ensures.1

pub returns-in_err-play_tasks : goal.returns-in_err-play_tasks
returns-in_err-play_tasks c =
    let n = c.args.replay.now.book.members in
    let asked = tasks_for c.args.command.now in
    let stop = c.in_err-play_tasks.field-0.0 in
    comes_err c.args.table.now (BeginsToPlay n asked) (Plain n asked (set_by c.args.command.now)) c.args.replay.now c.args.rest.now _ _ _ stop c.from_residual-in_err-play_tasks.ensures.1
    (plain_stops c.args.table.now asked (set_by c.args.command.now) n c.args.replay.now c.args.rest.now stop
    (asked_stops c.args.table.now asked n c.deref.result.now c.args.replay.now c.args.rest.now stop (subst (AreAsked asked c.args.replay.now) (sym c.deref.ensures.value) c.in_ok-tasks.ensures) c.in_err-play_tasks.ensures))

pub set_by-requires-clause-ready : goal.set_by-requires-clause-ready
set_by-requires-clause-ready c =
    let n = c.args.replay.now.book.members in
    let asked = tasks_for c.args.command.now in (
      c.args.table.now,
      played_ready c.args.table.now (Plays n asked) c.args.replay.now c.play_tasks.new.replay c.args.rest.now c.play_tasks.new.rest
          (asked_played c.args.table.now asked n c.deref.result.now c.args.replay.now c.args.rest.now c.play_tasks.new.replay c.play_tasks.new.rest (subst (AreAsked asked c.args.replay.now) (sym c.deref.ensures.value) c.in_ok-tasks.ensures) c.in_ok-play_tasks.ensures) c.requires.ready,
    )

pub set_by-requires-clause-named : goal.set_by-requires-clause-named
set_by-requires-clause-named c =
    names_member c.args.replay.now.book.members c.args.table.now.window c.args.command.now c.play_tasks.new.replay.book.members c.in_ok-play_tasks.ensures.members c.requires.range

pub returns-in_err-set_by : goal.returns-in_err-set_by
returns-in_err-set_by c =
    let n = c.args.replay.now.book.members in
    let asked = tasks_for c.args.command.now in
    comes_out c.args.table.now (BeginsToPlay n asked) (Plain n asked (set_by c.args.command.now)) c.args.replay.now c.args.rest.now _ _ _ c.from_residual-in_err-set_by.ensures.1

pub returns : goal.returns
returns c =
    let n = c.args.replay.now.book.members in
    let asked = tasks_for c.args.command.now in
    played_plain c.args.table.now asked (set_by c.args.command.now) n c.args.replay.now c.play_tasks.new.replay c.set_by.new.self c.args.rest.now c.play_tasks.new.rest
    (asked_played c.args.table.now asked n c.deref.result.now c.args.replay.now c.args.rest.now c.play_tasks.new.replay c.play_tasks.new.rest (subst (AreAsked asked c.args.replay.now) (sym c.deref.ensures.value) c.in_ok-tasks.ensures) c.in_ok-play_tasks.ensures)
    c.in_ok-set_by.ensures.sets (ap (λ (book : BookState). book.members) c.set_by.ensures.book)
