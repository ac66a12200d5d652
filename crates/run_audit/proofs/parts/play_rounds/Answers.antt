use Rattle.std.proofs.Common.{◌≡◌, ◌+◌, ◌-◌, suc, subst, arith}
use Rattle.script_semantics.specs.Arms.{AreRoundsByArms}
use Rattle.run_audit.proofs.LoopLemmas.{round_more, rounds_end, rounds_stop}
use Rattle.run_audit.proofs.PartLemmas.{LeadsOn, leads_after, leads_end, leads_here}
use Rattle.run_audit.proofs.PlayLemmas.{comes_err}
use Rattle.run_audit.specs.Begins.{BeginsRounds}
use Rattle.run_audit.proofs.parts.play_rounds.Goals as goal

pub rounds-init : goal.rounds-init
rounds-init c =
    let n = c.args.replay.now.book.members in
    let table = c.args.table.now in
    let window = table.window in
    let at = c.args.at.0 in
    let all = c.args.rounds in
    let same : all ≡ all - 0 = omega arith in
    subst (λ left. LeadsOn table (BeginsRounds n window at all) (AreRoundsByArms n window at all) (BeginsRounds n window at left) (AreRoundsByArms n window at left) c.args.replay.now c.args.replay.now c.args.rest.now c.args.rest.now)
    same (leads_here table (BeginsRounds n window at all) (AreRoundsByArms n window at all) c.args.replay.now c.args.rest.now c.requires.few)

pub play_round_by_arms-requires-clause-ready : goal.play_round_by_arms-requires-clause-ready
play_round_by_arms-requires-clause-ready c = c.rounds.invariant.ready c.requires.ready

pub play_round_by_arms-requires-clause-few : goal.play_round_by_arms-requires-clause-few
play_round_by_arms-requires-clause-few c = c.rounds.invariant.few

pub rounds-preserved : goal.rounds-preserved
rounds-preserved c =
    let n = c.args.replay.now.book.members in
    let table = c.args.table.now in
    let window = table.window in
    let at = c.args.at.0 in
    let all = c.args.rounds in
    let left = c.args.rounds - c.rounds._round in
    let more = c.args.rounds - (c.rounds._round + 1) in
    let one : left ≡ suc more = omega (arith, c.rounds-test.true) in
    leads_after table (BeginsRounds n window at all) (BeginsRounds n window at left) (BeginsRounds n window at more) (AreRoundsByArms n window at all) (AreRoundsByArms n window at left)
    (AreRoundsByArms n window at more) c.args.replay.now c.rounds.replay c.play_round_by_arms.new.replay c.args.rest.now c.rounds.rest c.play_round_by_arms.new.rest c.rounds.invariant
    (round_more table at n left more c.rounds.replay c.play_round_by_arms.new.replay c.rounds.rest c.play_round_by_arms.new.rest one c.rounds.invariant.members c.in_ok-play_round_by_arms.ensures)

pub returns-in_err-play_round_by_arms : goal.returns-in_err-play_round_by_arms
returns-in_err-play_round_by_arms c =
    let n = c.args.replay.now.book.members in
    let table = c.args.table.now in
    let window = table.window in
    let at = c.args.at.0 in
    let left = c.args.rounds - c.rounds._round in
    let more = c.args.rounds - (c.rounds._round + 1) in
    let one : left ≡ suc more = omega (arith, c.rounds-test.true) in
    let stop = c.in_err-play_round_by_arms.field-0.0 in
    comes_err table (BeginsRounds n window at c.args.rounds) (AreRoundsByArms n window at c.args.rounds) c.args.replay.now c.args.rest.now _ _ _ stop c.from_residual.ensures.1
    (c.rounds.invariant.stops stop (rounds_stop table at n left more c.rounds.replay c.rounds.rest stop one c.rounds.invariant.members c.in_err-play_round_by_arms.ensures))

pub returns : goal.returns
returns c =
    let n = c.args.replay.now.book.members in
    let table = c.args.table.now in
    let window = table.window in
    let at = c.args.at.0 in
    let all = c.args.rounds in
    let left = c.args.rounds - c.rounds._round in
    let none : left ≡ 0 = omega (arith, c.rounds-test.false) in
    leads_end table (BeginsRounds n window at all) (BeginsRounds n window at left) (AreRoundsByArms n window at all) (AreRoundsByArms n window at left) c.args.replay.now c.rounds.replay c.rounds.replay
    c.args.rest.now c.rounds.rest c.rounds.rest c.rounds.invariant (rounds_end table at n left c.rounds.replay c.rounds.rest none c.rounds.invariant.few)
