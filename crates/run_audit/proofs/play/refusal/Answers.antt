use Rattle.std.proofs.Common.{subst}
use Rattle.run_audit.proofs.ComingLemmas.{out_of_place}
use Rattle.run_audit.specs.Coming.{Comes}
use Rattle.run_audit.proofs.play.refusal.Goals as goal

pub returns : goal.returns
returns c = λ text rest reads rows situation is.
    out_of_place c.args.table.now rows c.args.replay.now c.judge_next.new.replay text rest c.in-Turn.field-0
    (subst (Comes c.args.table.now c.args.replay.now c.judge_next.new.replay text rest) c.in-Turn.is (c.in_ok-why.ensures text rest reads) rows situation is)

pub returns-in-Refused : goal.returns-in-Refused
returns-in-Refused c = λ text rest reads rows situation is.
    (subst (Comes c.args.table.now c.args.replay.now c.judge_next.new.replay text rest) c.in-Refused.is (c.in_ok-why.ensures text rest reads) rows situation is).reason
