use Rattle.std.proofs.Common.{ℕ, ◌∙◌, ap, length, subst, sym}
use Rattle.script_semantics.specs.Free.{IsFreePart}
use Rattle.run_audit.proofs.FreelyLemmas.{freely_all, freely_next, freely_none, freely_ready, freely_stops}
use Rattle.run_audit.proofs.PlayLemmas.{comes_err, comes_out}
use Rattle.run_audit.specs.Begins.{BeginsFree}
use Rattle.run_audit.specs.Freely.{IsWaiting}
use Rattle.run_audit.proofs.free.play_free.Goals as goal

pub returns-in_err-list : goal.returns-in_err-list
returns-in_err-list c =
    let n = c.args.replay.now.book.members in
    let window = c.args.table.now.window in
    comes_out c.args.table.now (BeginsFree n window c.args.at.0 c.args.turns) (IsFreePart n window c.args.at.0 c.args.turns) c.args.replay.now c.args.rest.now _ _ _ c.from_residual.ensures.1

pub turns-init : goal.turns-init
turns-init c = freely_none c.args.table.now c.args.at.0 c.args.turns c.args.replay.now c.in_ok-list.list.items c.args.rest.now c.requires.few c.requires.ready c.in_ok-list.ensures

pub next_waiting-requires-clause-ready : goal.next_waiting-requires-clause-ready
next_waiting-requires-clause-ready c = (
  c.args.table.now,
  freely_ready c.args.table.now c.args.at.0 c.args.turns c.args.replay.now c.turns.replay c.turns.list.items c.args.rest.now c.turns.rest c.turns.invariant c.requires.ready,
)

pub next_waiting-requires-clause-count : goal.next_waiting-requires-clause-count
next_waiting-requires-clause-count c = ap length c.deref.ensures.value ∙ c.turns.invariant.count ∙ sym c.turns.invariant.members

pub play_free_turn-requires-clause-ready : goal.play_free_turn-requires-clause-ready
play_free_turn-requires-clause-ready c =
    freely_ready c.args.table.now c.args.at.0 c.args.turns c.args.replay.now c.turns.replay c.turns.list.items c.args.rest.now c.turns.rest c.turns.invariant c.requires.ready

pub play_free_turn-requires-clause-few : goal.play_free_turn-requires-clause-few
play_free_turn-requires-clause-few c = c.turns.invariant.few

pub play_free_turn-requires-clause-count : goal.play_free_turn-requires-clause-count
play_free_turn-requires-clause-count c = c.turns.invariant.count ∙ sym c.turns.invariant.members

pub turns-preserved : goal.turns-preserved
turns-preserved c =
    freely_next c.args.table.now c.args.at.0 c.args.turns c.args.replay.now c.turns.replay c.play_free_turn.new.replay c.turns.list.items c.play_free_turn.new.list.items c.args.rest.now c.turns.rest
    c.play_free_turn.new.rest c.turns.invariant c.in_ok-play_free_turn-in-Some.ensures.takes c.in_ok-play_free_turn-in-Some.ensures.members c.play_free_turn.ensures.few c.in_ok-play_free_turn-in-Some.ensures.count

pub returns-in_err-play_free_turn-in-Some : goal.returns-in_err-play_free_turn-in-Some
returns-in_err-play_free_turn-in-Some c =
    let n = c.args.replay.now.book.members in
    let window = c.args.table.now.window in
    let stop = c.in_err-play_free_turn-in-Some.field-0.0 in
    comes_err c.args.table.now (BeginsFree n window c.args.at.0 c.args.turns) (IsFreePart n window c.args.at.0 c.args.turns) c.args.replay.now c.args.rest.now _ _ _ stop
    c.from_residual-in_err-play_free_turn-in-Some.ensures.1
    (freely_stops c.args.table.now c.args.at.0 c.args.turns c.in-Some.field-0 c.args.replay.now c.turns.replay c.turns.list.items c.args.rest.now c.turns.rest stop c.turns.invariant c.in-Some.ensures.some.0
    (subst (λ list. IsWaiting c.args.turns c.turns.replay list c.in-Some.field-0) c.deref.ensures.value c.in-Some.ensures.some.1) c.in_err-play_free_turn-in-Some.ensures.stops)

pub returns-in-None : goal.returns-in-None
returns-in-None c =
    freely_all c.args.table.now c.args.at.0 c.args.turns c.args.replay.now c.turns.replay c.turns.list.items c.args.rest.now c.turns.rest c.turns.invariant
    (subst (λ list. (who : ℕ) → IsWaiting c.args.turns c.turns.replay list who → ⊥) c.deref.ensures.value c.in-None.ensures.none)
