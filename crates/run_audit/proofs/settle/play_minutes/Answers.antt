use Rattle.std.proofs.Common.{arith}
use Rattle.script_semantics.specs.Settling.{WalksOn}
use Rattle.run_audit.proofs.LoopLemmas.{minute_on, minute_stops, next_inside, next_nearer, walk_played}
use Rattle.run_audit.proofs.PartLemmas.{leads_after, leads_end, leads_here}
use Rattle.run_audit.specs.Begins.{BeginsWalkOn}
use Rattle.run_audit.proofs.PlayLemmas.{comes_err}
use Rattle.run_audit.proofs.settle.play_minutes.Goals as goal

pub minutes-init : goal.minutes-init
minutes-init c =
    let n = c.args.replay.now.book.members in
    record {
      leads =
          leads_here c.args.table.now (BeginsWalkOn n c.args.table.now c.args.who c.args.at.0 c.args.to.0) (WalksOn n c.args.table.now c.args.who c.args.at.0 c.args.to.0) c.args.replay.now c.args.rest.now c.requires.few;
      runs = c.requires.runs;
      inside = c.requires.inside;
    }

pub next_minute-requires-clause-ready : goal.next_minute-requires-clause-ready
next_minute-requires-clause-ready c = c.minutes.invariant.leads.ready c.requires.ready

pub next_minute-requires-clause-member : goal.next_minute-requires-clause-member
next_minute-requires-clause-member c =
    let same = c.minutes.invariant.leads.members in
    omega (arith, c.requires.member, same)

pub next_minute-requires-clause-runs : goal.next_minute-requires-clause-runs
next_minute-requires-clause-runs c = c.minutes.invariant.runs

pub next_minute-requires-clause-inside : goal.next_minute-requires-clause-inside
next_minute-requires-clause-inside c = c.minutes.invariant.inside

pub play_drain-requires-clause-ready : goal.play_drain-requires-clause-ready
play_drain-requires-clause-ready c = c.minutes.invariant.leads.ready c.requires.ready

pub play_drain-requires-clause-few : goal.play_drain-requires-clause-few
play_drain-requires-clause-few c = c.minutes.invariant.leads.few

pub play_drain-requires-clause-member : goal.play_drain-requires-clause-member
play_drain-requires-clause-member c =
    let same = c.minutes.invariant.leads.members in
    omega (arith, c.requires.member, same)

pub play_drain-requires-clause-inside : goal.play_drain-requires-clause-inside
play_drain-requires-clause-inside c =
    let here = c.minutes.invariant.leads.ready c.requires.ready in
    next_inside c.args.table.now.window c.args.table.now (here.situation.standing.replicas c.args.who) c.minutes.above.0 c.args.to.0 c.in-Some.minute.0 c.minutes.invariant.inside c.requires.within
    (c.in-Some.ensures.found here.rows here.situation here.is)

pub minutes-smaller : goal.minutes-smaller
minutes-smaller c =
    let here = c.minutes.invariant.leads.ready c.requires.ready in
    next_nearer c.args.table.now.window c.args.table.now (here.situation.standing.replicas c.args.who) c.minutes.above.0 c.args.to.0 c.in-Some.minute.0 c.requires.within
    (c.in-Some.ensures.found here.rows here.situation here.is)

pub minutes-preserved : goal.minutes-preserved
minutes-preserved c =
    let n = c.args.replay.now.book.members in
    let table = c.args.table.now in
    let who = c.args.who in
    let at = c.args.at.0 in
    let to = c.args.to.0 in
    let above = c.minutes.above.0 in
    let minute = c.in-Some.minute.0 in
    let here = c.minutes.invariant.leads.ready c.requires.ready in
    record {
      leads =
          leads_after table (BeginsWalkOn n table who at to) (BeginsWalkOn n table who above to) (BeginsWalkOn n table who minute to) (WalksOn n table who at to) (WalksOn n table who above to)
          (WalksOn n table who minute to) c.args.replay.now c.minutes.replay c.play_drain.new.replay c.args.rest.now c.minutes.rest c.play_drain.new.rest c.minutes.invariant.leads
          (minute_on table who above to n c.minutes.replay c.minutes.invariant.leads.members minute c.in-Some.ensures.found c.play_drain.new.replay c.minutes.rest c.play_drain.new.rest
          c.in_ok-play_drain.ensures.comes);
      runs = c.in_ok-play_drain.ensures.runs;
      inside =
          next_inside table.window table (here.situation.standing.replicas who) above to minute c.minutes.invariant.inside c.requires.within (c.in-Some.ensures.found here.rows here.situation here.is);
    }

pub returns-in_err-play_drain : goal.returns-in_err-play_drain
returns-in_err-play_drain c =
    let n = c.args.replay.now.book.members in
    let table = c.args.table.now in
    let who = c.args.who in
    let to = c.args.to.0 in
    let stop = c.in_err-play_drain.field-0.0 in
    comes_err table (BeginsWalkOn n table who c.args.at.0 to) (WalksOn n table who c.args.at.0 to) c.args.replay.now c.args.rest.now _ _ _ stop c.from_residual.ensures.1
    (c.minutes.invariant.leads.stops stop
    (minute_stops table who c.minutes.above.0 to n c.minutes.replay c.minutes.invariant.leads.members c.in-Some.minute.0 c.in-Some.ensures.found c.minutes.rest stop c.in_err-play_drain.ensures.comes))

pub returns : goal.returns
returns c =
    let n = c.args.replay.now.book.members in
    let table = c.args.table.now in
    let who = c.args.who in
    let at = c.args.at.0 in
    let to = c.args.to.0 in
    let above = c.minutes.above.0 in
    leads_end table (BeginsWalkOn n table who at to) (BeginsWalkOn n table who above to) (WalksOn n table who at to) (WalksOn n table who above to) c.args.replay.now c.minutes.replay c.minutes.replay c.args.rest.now
    c.minutes.rest c.minutes.rest c.minutes.invariant.leads
    (walk_played table who above to n c.minutes.replay c.minutes.invariant.leads.members c.minutes.rest c.minutes.invariant.leads.few c.in_default.ensures.none)
