use Rattle.std.proofs.Common.{◌<◌, sym, subst}
use Rattle.std.specs.Prelude.{◌≤ℤ◌, ℕ}
use Rattle.script_semantics.specs.Settling.{Settles, Walks}
use Rattle.run_audit.proofs.LoopLemmas.{earlier_inside, walk_comes, walk_stops}
use Rattle.run_audit.proofs.PartLemmas.{played_ready}
use Rattle.run_audit.proofs.PlayLemmas.{comes_err}
use Rattle.run_audit.specs.Begins.{BeginsWalk}
use Rattle.run_audit.proofs.settle.play_walk.Goals as goal

pub play_settling-requires-clause-inside : goal.play_settling-requires-clause-inside
play_settling-requires-clause-inside c =
    let is = c.requires.ready.is in
    earlier_inside c.args.table.now.window c.earlier_minute-at.result.0 c.args.replay.now.latest.0 c.args.to.0 c.earlier_minute-at.ensures
    (subst (λ latest. c.args.table.now.window.from.0 ≤ℤ latest) (sym is.latest) is.since) c.requires.inside

pub play_minutes-requires-clause-ready : goal.play_minutes-requires-clause-ready
play_minutes-requires-clause-ready c =
    played_ready c.args.table.now (Settles c.args.replay.now.book.members c.args.table.now c.earlier_minute-at.result.0) c.args.replay.now c.play_settling.new.replay c.args.rest.now c.play_settling.new.rest
    c.in_ok-who.ensures.comes c.requires.ready

pub play_minutes-requires-clause-few : goal.play_minutes-requires-clause-few
play_minutes-requires-clause-few c = c.in_ok-who.ensures.comes.few

pub play_minutes-requires-clause-member : goal.play_minutes-requires-clause-member
play_minutes-requires-clause-member c = subst (λ (n : ℕ). c.in_ok-who.who < n) (sym c.in_ok-who.ensures.comes.members) c.in_ok-who.ensures.member

pub play_minutes-requires-clause-inside : goal.play_minutes-requires-clause-inside
play_minutes-requires-clause-inside c =
    let is = c.requires.ready.is in
    earlier_inside c.args.table.now.window c.earlier_minute-at.result.0 c.args.replay.now.latest.0 c.args.to.0 c.earlier_minute-at.ensures
    (subst (λ latest. c.args.table.now.window.from.0 ≤ℤ latest) (sym is.latest) is.since) c.requires.inside

pub returns-in_err-who : goal.returns-in_err-who
returns-in_err-who c =
    let n = c.args.replay.now.book.members in
    let stop = c.in_err-who.field-0.0 in
    comes_err c.args.table.now (BeginsWalk n c.args.table.now c.args.to.0) (Walks n c.args.table.now c.args.to.0) c.args.replay.now c.args.rest.now _ _ _ stop c.from_residual.ensures.1
    (walk_stops c.args.table.now c.earlier_minute-at.result.0 c.args.to.0 c.args.replay.now c.args.rest.now stop c.earlier_minute-at.ensures c.in_err-who.ensures.comes)

pub returns : goal.returns
returns c =
    walk_comes c.args.table.now c.earlier_minute-at.result.0 c.args.to.0 c.in_ok-who.who c.args.replay.now c.args.rest.now c.earlier_minute-at.ensures c.play_settling.new.replay c.play_minutes.new.replay
    c.play_settling.new.rest c.play_minutes.new.rest c.play_minutes.result c.in_ok-who.ensures.leads c.in_ok-who.ensures.comes c.play_minutes.ensures
