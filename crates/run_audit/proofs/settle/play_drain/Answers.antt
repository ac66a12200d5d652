use Rattle.std.proofs.Common.{arith}
use Rattle.script_semantics.specs.Settling.{Drains}
use Rattle.run_audit.proofs.LoopLemmas.{busy_now, quiet_now, quiet_played, quiet_there, round_on, round_stops}
use Rattle.run_audit.proofs.PartLemmas.{leads_after, leads_end, leads_here}
use Rattle.run_audit.specs.Begins.{BeginsDrain}
use Rattle.run_audit.proofs.PlayLemmas.{comes_err}
use Rattle.run_audit.proofs.settle.play_drain.Goals as goal

pub rounds-init : goal.rounds-init
rounds-init c =
    let n = c.args.replay.now.book.members in
    leads_here c.args.table.now (BeginsDrain n c.args.table.now c.args.who c.args.at.0) (Drains n c.args.table.now c.args.who c.args.at.0) c.args.replay.now c.args.rest.now c.requires.few

pub is_quiet-requires-clause-ready : goal.is_quiet-requires-clause-ready
is_quiet-requires-clause-ready c = c.rounds.invariant.ready c.requires.ready

pub is_quiet-requires-clause-member : goal.is_quiet-requires-clause-member
is_quiet-requires-clause-member c =
    let same = c.rounds.invariant.members in
    omega (arith, c.requires.member, same)

pub play_drain_round-requires-clause-ready : goal.play_drain_round-requires-clause-ready
play_drain_round-requires-clause-ready c = c.rounds.invariant.ready c.requires.ready

pub play_drain_round-requires-clause-few : goal.play_drain_round-requires-clause-few
play_drain_round-requires-clause-few c = c.rounds.invariant.few

pub play_drain_round-requires-clause-member : goal.play_drain_round-requires-clause-member
play_drain_round-requires-clause-member c =
    let same = c.rounds.invariant.members in
    omega (arith, c.requires.member, same)

pub rounds-preserved : goal.rounds-preserved
rounds-preserved c =
    let n = c.args.replay.now.book.members in
    let table = c.args.table.now in
    let who = c.args.who in
    let at = c.args.at.0 in
    let same = c.rounds.invariant.members in
    leads_after table (BeginsDrain n table who at) (BeginsDrain n table who at) (BeginsDrain n table who at) (Drains n table who at) (Drains n table who at) (Drains n table who at) c.args.replay.now c.rounds.replay
    c.play_drain_round.new.replay c.args.rest.now c.rounds.rest c.play_drain_round.new.rest c.rounds.invariant
    (round_on table who at n c.rounds.replay same c.play_drain_round.new.replay c.rounds.rest c.play_drain_round.new.rest
    (busy_now table who at n c.rounds.replay same c.is_quiet.result c.is_quiet.ensures c.if-is_quiet.false) c.in_ok-play_drain_round.ensures)

pub returns-then-is_quiet-clause-comes : goal.returns-then-is_quiet-clause-comes
returns-then-is_quiet-clause-comes c =
    let n = c.args.replay.now.book.members in
    let table = c.args.table.now in
    let who = c.args.who in
    let at = c.args.at.0 in
    let same = c.rounds.invariant.members in
    leads_end table (BeginsDrain n table who at) (BeginsDrain n table who at) (Drains n table who at) (Drains n table who at) c.args.replay.now c.rounds.replay c.rounds.replay c.args.rest.now c.rounds.rest c.rounds.rest
    c.rounds.invariant
    (quiet_played table who at n c.rounds.replay same c.rounds.rest c.rounds.invariant.few (quiet_now table who at n c.rounds.replay same c.is_quiet.result c.is_quiet.ensures c.if-is_quiet.true))

pub returns-then-is_quiet-clause-runs : goal.returns-then-is_quiet-clause-runs
returns-then-is_quiet-clause-runs c =
    let n = c.args.replay.now.book.members in
    let table = c.args.table.now in
    let same = c.rounds.invariant.members in
    quiet_there table c.args.who c.args.at.0 n c.rounds.replay same (c.rounds.invariant.ready c.requires.ready)
    (quiet_now table c.args.who c.args.at.0 n c.rounds.replay same c.is_quiet.result c.is_quiet.ensures c.if-is_quiet.true)

pub returns-in_err-play_drain_round-clause-comes : goal.returns-in_err-play_drain_round-clause-comes
returns-in_err-play_drain_round-clause-comes c =
    let n = c.args.replay.now.book.members in
    let table = c.args.table.now in
    let who = c.args.who in
    let at = c.args.at.0 in
    let same = c.rounds.invariant.members in
    let stop = c.in_err-play_drain_round.field-0.0 in
    comes_err table (BeginsDrain n table who at) (Drains n table who at) c.args.replay.now c.args.rest.now _ _ _ stop c.from_residual.ensures.1
    (c.rounds.invariant.stops stop
    (round_stops table who at n c.rounds.replay same c.rounds.rest stop (busy_now table who at n c.rounds.replay same c.is_quiet.result c.is_quiet.ensures c.if-is_quiet.false) c.in_err-play_drain_round.ensures))
