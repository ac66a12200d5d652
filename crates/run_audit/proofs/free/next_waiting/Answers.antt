use Rattle.std.proofs.Common.{arith}
use Rattle.run_audit.proofs.ProgressLemmas.{none_waits, none_waits_next}
use Rattle.run_audit.proofs.free.next_waiting.Goals as goal

pub members-init : goal.members-init
members-init c = λ who below waiting. omega (arith, below)

pub is_waiting-requires-clause-seat : goal.is_waiting-requires-clause-seat
is_waiting-requires-clause-seat c =
    let count = c.args.replay.now.seats.ok.0 in
    omega (arith, count, c.members-test.true, c.members.auto.who-end, c.len-who-end.ensures)

pub is_waiting-requires-clause-listed : goal.is_waiting-requires-clause-listed
is_waiting-requires-clause-listed c =
    let count = c.args.replay.now.seats.ok.0 in
    let seats = c.requires.ready.1.is.seated.count in
    omega (arith, count, seats, c.requires.count, c.members-test.true, c.members.auto.who-end, c.len-who-end.ensures)

pub members-preserved : goal.members-preserved
members-preserved c = none_waits_next c.args.turns c.args.replay.now c.args.list.now c.members.who c.is_waiting.result c.members.invariant c.is_waiting.ensures c.if-is_waiting.false

pub returns-then-is_waiting-clause-some : goal.returns-then-is_waiting-clause-some
returns-then-is_waiting-clause-some c =
    let count = c.args.replay.now.seats.ok.0 in
    let seats = c.requires.ready.1.is.seated.count in
    (omega (arith, count, seats, c.members-test.true, c.members.auto.who-end, c.len-who-end.ensures), c.is_waiting.ensures.0 c.if-is_waiting.true)

pub returns-clause-none : goal.returns-clause-none
returns-clause-none c =
    none_waits c.args.turns c.args.replay.now c.args.list.now c.members.who
    (let count = c.args.replay.now.seats.ok.0 in omega (arith, count, c.members-test.false, c.members.auto.who-end, c.len-who-end.ensures)) c.members.invariant
