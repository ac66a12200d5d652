use Rattle.std.proofs.Common.{◌<◌, Ok, subst}
use Rattle.std.specs.Prelude.{ℕ}
use Rattle.script_semantics.specs.Commands.{Plain}
use Rattle.script_semantics.specs.Settling.{Settles, cleared, restart_tasks}
use Rattle.run_audit.proofs.LoopLemmas.{led_before, settling_comes, settling_stops, start_stops}
use Rattle.run_audit.proofs.PartLemmas.{played_ready}
use Rattle.run_audit.proofs.PlayLemmas.{comes_err}
use Rattle.run_audit.specs.Begins.{BeginsSettling}
use Rattle.run_audit.proofs.settle.play_settling.Goals as goal

pub coordinator-who-requires : goal.coordinator-who-requires
coordinator-who-requires c =
    let n = c.args.replay.now.book.members in
    record { ready = played_ready c.args.table.now (Plain n (restart_tasks n) cleared) c.args.replay.now c.play_start.new.replay c.args.rest.now c.play_start.new.rest c.in_ok-play_start.ensures c.requires.ready }

pub play_lead-requires-clause-ready : goal.play_lead-requires-clause-ready
play_lead-requires-clause-ready c =
    let n = c.args.replay.now.book.members in
    played_ready c.args.table.now (Plain n (restart_tasks n) cleared) c.args.replay.now c.play_start.new.replay c.args.rest.now c.play_start.new.rest c.in_ok-play_start.ensures c.requires.ready

pub play_lead-requires-clause-few : goal.play_lead-requires-clause-few
play_lead-requires-clause-few c = c.in_ok-play_start.ensures.few

pub returns-in_err-play_start-clause-comes : goal.returns-in_err-play_start-clause-comes
returns-in_err-play_start-clause-comes c =
    let n = c.args.replay.now.book.members in
    let stop = c.in_err-play_start.field-0.0 in
    comes_err c.args.table.now (BeginsSettling n c.args.table.now c.args.at.0) (Settles n c.args.table.now c.args.at.0) c.args.replay.now c.args.rest.now _ _ _ stop c.from_residual.ensures.1
    (start_stops c.args.table.now c.args.at.0 c.args.replay.now c.args.rest.now stop c.in_err-play_start.ensures)

pub returns-in_err-play_lead-clause-comes : goal.returns-in_err-play_lead-clause-comes
returns-in_err-play_lead-clause-comes c =
    let n = c.args.replay.now.book.members in
    let stop = c.in_err-play_lead.field-0.0 in
    comes_err c.args.table.now (BeginsSettling n c.args.table.now c.args.at.0) (Settles n c.args.table.now c.args.at.0) c.args.replay.now c.args.rest.now _ _ _ stop c.from_residual-in_err-play_lead.ensures.1
    (settling_stops c.args.table.now c.args.at.0 c.coordinator-who.result c.args.replay.now c.play_start.new.replay c.args.rest.now c.play_start.new.rest c.in_ok-play_start.ensures c.coordinator-who.ensures.is stop
    c.in_err-play_lead.ensures.comes)

pub returns-clause-comes : goal.returns-clause-comes
returns-clause-comes c =
    settling_comes c.args.table.now c.args.at.0 c.coordinator-who.result c.args.replay.now c.play_start.new.replay c.args.rest.now c.play_start.new.rest c.in_ok-play_start.ensures c.coordinator-who.ensures.is
    c.play_lead.new.replay c.play_lead.new.rest (Ok c.coordinator-who.result) c.in_ok-play_lead.ensures.comes

pub returns-clause-leads : goal.returns-clause-leads
returns-clause-leads c =
    led_before c.args.table.now c.args.at.0 c.coordinator-who.result c.args.replay.now c.play_start.new.replay c.args.rest.now c.play_start.new.rest c.in_ok-play_start.ensures c.coordinator-who.ensures.is

pub returns-clause-member : goal.returns-clause-member
returns-clause-member c = subst (λ (n : ℕ). c.coordinator-who.result < n) c.in_ok-play_start.ensures.members c.coordinator-who.ensures.member

pub returns-clause-runs : goal.returns-clause-runs
returns-clause-runs c = c.in_ok-play_lead.ensures.runs
