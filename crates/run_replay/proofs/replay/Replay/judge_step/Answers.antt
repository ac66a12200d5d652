use Rattle.std.proofs.Common.{sym, ◌∙◌, subst}
use Rattle.run_replay.proofs.JudgeLemmas.{judged_step, step_none}
use Rattle.run_replay.proofs.QuietLemmas.{no_some}
use Rattle.run_replay.specs.Judged.{MayHaveStepped}
use Rattle.run_replay.proofs.replay.Replay.judge_step.Goals as goal

pub returns-else-is_some : goal.returns-else-is_some
returns-else-is_some c = λ rows situation is.
    let stepped =
    subst (λ found. MayHaveStepped c.args.table.now c.args.who c.args.cause c.args.self.now c.take_step.new.self found) c.in-Some.is c.in_ok-out.ensures rows situation is in
    judged_step c.args.table.now rows c.args.self.now _ situation c.args.who c.args.cause c.in-Some.out is stepped (no_some c.in-Some.out.call (sym c.is_some.ensures ∙ c.if-is_some.false))

pub returns-then-is_some : goal.returns-then-is_some
returns-then-is_some c = λ rows situation is.
    let stepped =
    subst (λ found. MayHaveStepped c.args.table.now c.args.who c.args.cause c.args.self.now c.take_step.new.self found) c.in-Some.is c.in_ok-out.ensures rows situation is in
    step_none c.args.table.now rows c.args.self.now _ situation c.args.who c.args.cause c.in-Some.out is stepped (sym c.is_some.ensures ∙ c.if-is_some.true)
