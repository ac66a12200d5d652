use Rattle.std.proofs.Common.{arith}
use Rattle.run_input.proofs.TextLemmas.{passed_more, first_at_fault}
use Rattle.run_input.proofs.text.line_at_fault.Goals as goal
use Rattle.run_text.proofs.VariantLemmas.{at_none}

pub overflow_add-number : goal.overflow_add-number
overflow_add-number c =
    let shorter = c.in-Some.ensures.shorter in
    let room = c.lines.invariant.room in
    let short = c.requires.short in
    omega arith

pub lines-preserved : goal.lines-preserved
lines-preserved c =
    let shorter = c.in-Some.ensures.shorter in
    let room = c.lines.invariant.room in
    record {
      passed = passed_more c.args.bytes.now c.lines.rest.now c.in-Some.after.now c.lines.number c.lines.invariant.passed c.in-Some.ensures.passes;
      room = omega arith;
    }

pub returns : goal.returns
returns c =
    first_at_fault c.args.bytes.now c.lines.rest.now c.lines.number c.lines.invariant.passed
    (at_none c.behind_text.result c.in_default.is c.behind_text.ensures.none) c.requires.at_fault
