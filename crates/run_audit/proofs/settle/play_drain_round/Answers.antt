use Rattle.script_semantics.specs.Parts.{Plays}
use Rattle.script_semantics.specs.Round.{round_tasks}
use Rattle.run_replay.specs.Tasks.{standing_tasks}
use Rattle.run_audit.proofs.LoopLemmas.{first_stops, then_comes}
use Rattle.run_audit.proofs.PartLemmas.{played_ready}
use Rattle.run_audit.specs.Begins.{BeginsDrainRound, BeginsToPlay}
use Rattle.run_audit.proofs.PlayLemmas.{comes_err}
use Rattle.script_semantics.specs.Settling.{IsDrainRound}
use Rattle.run_audit.proofs.settle.play_drain_round.Goals as goal

pub play_round-requires-clause-ready : goal.play_round-requires-clause-ready
play_round-requires-clause-ready c =
    played_ready c.args.table.now (Plays c.args.replay.now.book.members (standing_tasks c.args.who)) c.args.replay.now c.play_standing.new.replay c.args.rest.now c.play_standing.new.rest c.in_ok-play_standing.ensures
    c.requires.ready

pub play_round-requires-clause-few : goal.play_round-requires-clause-few
play_round-requires-clause-few c = c.in_ok-play_standing.ensures.few

pub returns-in_err-play_standing : goal.returns-in_err-play_standing
returns-in_err-play_standing c =
    let n = c.args.replay.now.book.members in
    let asked = round_tasks n c.args.table.now.window c.args.at.0 in
    comes_err c.args.table.now (BeginsDrainRound n c.args.table.now c.args.who c.args.at.0) (IsDrainRound n c.args.table.now c.args.who c.args.at.0) c.args.replay.now c.args.rest.now _ _ _
    c.in_err-play_standing.field-0.0 c.from_residual.ensures.1
    (first_stops c.args.table.now (standing_tasks c.args.who) (BeginsToPlay n asked) (Plays n asked) c.args.replay.now c.args.rest.now c.in_err-play_standing.field-0.0 c.in_err-play_standing.ensures)

pub returns : goal.returns
returns c =
    let window = c.args.table.now.window in
    let at = c.args.at.0 in
    then_comes c.args.table.now (standing_tasks c.args.who) (λ n. BeginsToPlay n (round_tasks n window at)) (λ n. Plays n (round_tasks n window at)) c.args.replay.now c.play_standing.new.replay c.play_round.new.replay
    c.args.rest.now c.play_standing.new.rest c.play_round.new.rest c.play_round.result c.in_ok-play_standing.ensures c.play_round.ensures
