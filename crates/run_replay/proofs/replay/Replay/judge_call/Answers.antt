use Rattle.std.proofs.Common.{◌≡◌, true, false, refl, sym, ap, ◌∙◌, subst}
use Rattle.journal_text.specs.Line.{told_fate}
use Rattle.history.specs.declared.turn.Cause.TheVariants.{Tick}
use Rattle.run_replay.proofs.CallLemmas.{answer_is, behind, call_may, calls_none, judged_call, may_tick, names, rests}
use Rattle.run_replay.specs.Judged.{HasMadeStep, MayHaveStepped}
use Rattle.run_replay.proofs.replay.Replay.judge_call.Goals as goal

pub returns-in-None : goal.returns-in-None
returns-in-None c = λ rows situation is row told.
    let none =
    subst (λ found. MayHaveStepped c.args.table.now c.args.who (Tick c.args.now) c.args.self.now c.take_step.new.self found) c.in-None.is c.in_ok-out.ensures rows situation is in
    let (made, same, may) = call_may c.args.table.now rows c.args.self.now c.args.who c.args.now _ row told in
    none row.event may.0

pub returns-in-None-call : goal.returns-in-None-call
returns-in-None-call c = λ rows situation is row told.
    let stepped : HasMadeStep c.args.table.now rows c.args.who (Tick c.args.now) c.args.self.now c.take_step.new.self c.in-Some.out =
    subst (λ found. MayHaveStepped c.args.table.now c.args.who (Tick c.args.now) c.args.self.now c.take_step.new.self found) c.in-Some.is c.in_ok-out.ensures rows situation is in
    calls_none c.args.table.now rows c.args.self.now c.take_step.new.self situation c.args.who c.args.now c.in-Some.out is stepped _ row c.in-None-call.is told

pub call-requires-clause-rest : goal.call-requires-clause-rest
call-requires-clause-rest c =
    let rows = c.requires.ready.rows in
    let situation = c.requires.ready.situation in
    let is = c.requires.ready.is in
    let stepped : HasMadeStep c.args.table.now rows c.args.who (Tick c.args.now) c.args.self.now c.take_step.new.self c.in-Some.out =
    subst (λ found. MayHaveStepped c.args.table.now c.args.who (Tick c.args.now) c.args.self.now c.take_step.new.self found) c.in-Some.is c.in_ok-out.ensures rows situation is in
    rests c.args.table.now rows c.args.self.now c.take_step.new.self situation c.args.who c.args.now c.in-Some.out is stepped

pub call-requires-clause-asks : goal.call-requires-clause-asks
call-requires-clause-asks c =
    let rows = c.requires.ready.rows in
    let situation = c.requires.ready.situation in
    let is = c.requires.ready.is in
    let stepped : HasMadeStep c.args.table.now rows c.args.who (Tick c.args.now) c.args.self.now c.take_step.new.self c.in-Some.out =
    subst (λ found. MayHaveStepped c.args.table.now c.args.who (Tick c.args.now) c.args.self.now c.take_step.new.self found) c.in-Some.is c.in_ok-out.ensures rows situation is in
    may_tick c.args.table.now rows c.args.self.now c.take_step.new.self situation c.args.who c.args.now c.in-Some.out is stepped c.in-Some-call.row c.in-Some-call.is

pub is_answer_told-requires-clause-named : goal.is_answer_told-requires-clause-named
is_answer_told-requires-clause-named c =
    let rows = c.requires.ready.rows in
    let situation = c.requires.ready.situation in
    let is = c.requires.ready.is in
    let stepped : HasMadeStep c.args.table.now rows c.args.who (Tick c.args.now) c.args.self.now c.take_step.new.self c.in-Some.out =
    subst (λ found. MayHaveStepped c.args.table.now c.args.who (Tick c.args.now) c.args.self.now c.take_step.new.self found) c.in-Some.is c.in_ok-out.ensures rows situation is in
    let stands = behind c.args.table.now rows c.args.self.now c.take_step.new.self situation c.args.who c.args.now c.in-Some.out is stepped in
    names c.args.table.now rows c.args.self.now c.take_step.new.self situation c.args.who c.args.now c.in-Some.out is stepped c.in-Some-call.row c.in-Some-call.is c.in_ok-made.made
    (c.in_ok-made.ensures.answer rows stands)

pub returns-then-not-is_answer_told : goal.returns-then-not-is_answer_told
returns-then-not-is_answer_told c = λ rows situation is row told.
    let stepped : HasMadeStep c.args.table.now rows c.args.who (Tick c.args.now) c.args.self.now c.take_step.new.self c.in-Some.out =
    subst (λ found. MayHaveStepped c.args.table.now c.args.who (Tick c.args.now) c.args.self.now c.take_step.new.self found) c.in-Some.is c.in_ok-out.ensures rows situation is in
    let stands = behind c.args.table.now rows c.args.self.now c.take_step.new.self situation c.args.who c.args.now c.in-Some.out is stepped in
    let answer =
    answer_is c.args.table.now rows c.args.self.now c.take_step.new.self situation c.args.who c.args.now c.in-Some.out is stepped c.in-Some-call.row c.in-Some-call.is c.in_ok-made.made
    (c.in_ok-made.ensures.answer rows stands) _ row (ap told_fate c.in_ok-made.ensures.row.1 ∙ c.fate_told.ensures) told in
    let holds : c.is_answer_told.result ≡ true = c.is_answer_told.ensures.1 answer in
    let both : true ≡ false = sym holds ∙ c.if-not-is_answer_told.true in
    cc

pub returns : goal.returns
returns c = λ rows situation is.
    let stepped : HasMadeStep c.args.table.now rows c.args.who (Tick c.args.now) c.args.self.now c.take_step.new.self c.in-Some.out =
    subst (λ found. MayHaveStepped c.args.table.now c.args.who (Tick c.args.now) c.args.self.now c.take_step.new.self found) c.in-Some.is c.in_ok-out.ensures rows situation is in
    let stands = behind c.args.table.now rows c.args.self.now c.take_step.new.self situation c.args.who c.args.now c.in-Some.out is stepped in
    judged_call c.args.table.now rows c.args.self.now c.take_step.new.self situation c.args.who c.args.now c.in-Some.out is stepped c.in-Some-call.row c.in-Some-call.is c.in_ok-made.made
    (c.in_ok-made.ensures.answer rows stands) _ _ (ap told_fate c.in_ok-made.ensures.row.1 ∙ c.fate_told.ensures) (c.is_answer_told.ensures.0 c.if-not-is_answer_told.false)
    c.in_ok-made.ensures.makes (c.in_ok-made.ensures.stands rows stands) (c.in_ok-made.ensures.room _ stepped.room) refl refl refl refl
