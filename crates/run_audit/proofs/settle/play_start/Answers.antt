use Rattle.std.proofs.Common.{ap}
use Rattle.script_semantics.specs.Settling.{cleared, restart_tasks}
use Rattle.world_law.specs.Book.{BookState}
use Rattle.run_audit.proofs.PartLemmas.{plain_stops, played_plain}
use Rattle.run_audit.proofs.PlayLemmas.{comes_err}
use Rattle.run_audit.specs.Begins.{BeginsToPlay}
use Rattle.script_semantics.specs.Commands.{Plain}
use Rattle.run_audit.proofs.settle.play_start.Goals as goal

pub returns : goal.returns
returns c =
    let n = c.args.replay.now.book.members in
    played_plain c.args.table.now (restart_tasks n) cleared n c.args.replay.now c.play_restarts.new.replay c.clear.new.self c.args.rest.now c.play_restarts.new.rest c.in_ok-play_restarts.ensures c.clear.ensures.sets
    (ap (λ (book : BookState). book.members) c.clear.ensures.book)

pub returns-in_err-play_restarts : goal.returns-in_err-play_restarts
returns-in_err-play_restarts c =
    let n = c.args.replay.now.book.members in
    let stop = c.in_err-play_restarts.field-0.0 in
    comes_err c.args.table.now (BeginsToPlay n (restart_tasks n)) (Plain n (restart_tasks n) cleared) c.args.replay.now c.args.rest.now _ _ _ stop c.from_residual.ensures.1
    (plain_stops c.args.table.now (restart_tasks n) cleared n c.args.replay.now c.args.rest.now stop c.in_err-play_restarts.ensures)
