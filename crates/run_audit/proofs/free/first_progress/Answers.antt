use Rattle.std.proofs.Common.{arith, sym, subst}
use Rattle.run_audit.proofs.ProgressLemmas.{HasListed, listed_all, listed_next, listed_none}
use Rattle.run_audit.proofs.free.first_progress.Goals as goal

pub members-init : goal.members-init
members-init c = subst (HasListed c.args.replay.now 0) (sym c.new-list.ensures.items) (listed_none c.args.replay.now)

pub progress_now-requires-clause-seat : goal.progress_now-requires-clause-seat
progress_now-requires-clause-seat c =
    let count = c.args.replay.now.seats.ok.0 in
    omega (arith, count, c.members-test.true, c.members.auto.who-end, c.len-who-end.ensures)

pub progress_now-requires-clause-setting : goal.progress_now-requires-clause-setting
progress_now-requires-clause-setting c =
    let is = c.requires.ready.1.is in
    let seats = is.seated.count in
    let set = is.seated.set in
    let count = c.args.replay.now.seats.ok.0 in
    omega (arith, count, seats, set, c.members-test.true, c.members.auto.who-end, c.len-who-end.ensures)

pub members-preserved : goal.members-preserved
members-preserved c =
    listed_next c.args.replay.now c.members.who c.members.list.items c.push.new.self.items c.progress_now.result c.members.invariant c.in_ok-push.ensures.items c.progress_now.ensures

pub returns : goal.returns
returns c =
    listed_all c.args.replay.now c.members.who c.members.list.items c.members.invariant
    (let count = c.args.replay.now.seats.ok.0 in omega (arith, count, c.members-test.false, c.members.auto.who-end, c.len-who-end.ensures))
