use Rattle.std.proofs.Common.{length, ap, arith}
use Rattle.audit_finding.proofs.CountLemmas.{parts_within}
use Rattle.audit_finding.proofs.judge.judge_input.Goals as goal

pub judge_texts-requires-clause-report : goal.judge_texts-requires-clause-report
judge_texts-requires-clause-report c =
    let parts = c.split_input-parts.result in
    let within = parts_within c.args.input.now parts.run.now parts.report.now parts.journal.now 67_108_864 c.split_input-parts.ensures
    c.requires.short in
    let short = c.in_ok-report.ensures.short in
    omega (arith, within.0, short, ap length c.deref.ensures)

pub judge_texts-requires-clause-journal : goal.judge_texts-requires-clause-journal
judge_texts-requires-clause-journal c =
    let parts = c.split_input-parts.result in
    let within = parts_within c.args.input.now parts.run.now parts.report.now parts.journal.now 67_108_864 c.split_input-parts.ensures
    c.requires.short in
    let short = c.in_ok-journal.ensures.short in
    omega (arith, within.1, short, ap length c.deref-2.ensures)
