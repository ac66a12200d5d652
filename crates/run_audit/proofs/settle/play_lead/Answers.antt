use Rattle.std.proofs.Common.{◌∷◌, [], arith}
use Rattle.history.specs.declared.turn.Cause.TheVariants.{Campaign}
use Rattle.script_semantics.specs.Parts.{Plays, Then}
use Rattle.script_semantics.specs.Settling.{Drains}
use Rattle.script_semantics.specs.Situation.{Do}
use Rattle.run_audit.proofs.LoopLemmas.{first_stops, then_comes}
use Rattle.run_audit.proofs.PartLemmas.{played_ready}
use Rattle.run_audit.specs.Begins.{BeginsDrain, BeginsThen, BeginsToPlay}
use Rattle.run_audit.proofs.PlayLemmas.{comes_err}
use Rattle.run_audit.proofs.settle.play_lead.Goals as goal

pub play_drain-requires-clause-ready : goal.play_drain-requires-clause-ready
play_drain-requires-clause-ready c =
    played_ready c.args.table.now (Plays c.args.replay.now.book.members (λ here. Do c.args.who Campaign ∷ [])) c.args.replay.now c.play_campaign.new.replay c.args.rest.now c.play_campaign.new.rest
    c.in_ok-play_campaign.ensures c.requires.ready

pub play_drain-requires-clause-few : goal.play_drain-requires-clause-few
play_drain-requires-clause-few c = c.in_ok-play_campaign.ensures.few

pub play_drain-requires-clause-member : goal.play_drain-requires-clause-member
play_drain-requires-clause-member c =
    let same = c.in_ok-play_campaign.ensures.members in
    omega (arith, c.requires.member, same)

pub returns-in_err-play_campaign-clause-comes : goal.returns-in_err-play_campaign-clause-comes
returns-in_err-play_campaign-clause-comes c =
    let n = c.args.replay.now.book.members in
    let table = c.args.table.now in
    let who = c.args.who in
    let at = c.args.at.0 in
    let stop = c.in_err-play_campaign.field-0.0 in
    comes_err table (BeginsThen (BeginsToPlay n (λ here. Do who Campaign ∷ [])) (Plays n (λ here. Do who Campaign ∷ [])) (BeginsDrain n table who at))
    (Then (Plays n (λ here. Do who Campaign ∷ [])) (Drains n table who at)) c.args.replay.now c.args.rest.now _ _ _ stop c.from_residual.ensures.1
    (first_stops table (λ here. Do who Campaign ∷ []) (BeginsDrain n table who at) (Drains n table who at) c.args.replay.now c.args.rest.now stop c.in_err-play_campaign.ensures)

pub returns-clause-comes : goal.returns-clause-comes
returns-clause-comes c =
    let table = c.args.table.now in
    let who = c.args.who in
    let at = c.args.at.0 in
    then_comes table (λ here. Do who Campaign ∷ []) (λ n. BeginsDrain n table who at) (λ n. Drains n table who at) c.args.replay.now c.play_campaign.new.replay c.play_drain.new.replay c.args.rest.now
    c.play_campaign.new.rest c.play_drain.new.rest c.play_drain.result c.in_ok-play_campaign.ensures c.play_drain.ensures.comes

pub returns-clause-runs : goal.returns-clause-runs
returns-clause-runs c = c.play_drain.ensures.runs
