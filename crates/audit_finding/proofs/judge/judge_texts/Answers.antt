use Rattle.std.proofs.Common.{◌≤◌, length, subst, sym, arith}
use Rattle.run_text.specs.Run.{run_of}
use Rattle.run_audit.specs.Audit.{IsVerdict}
use Rattle.run_audit.specs.Verdict.{IsAtFault}
use Rattle.audit_finding.proofs.CountLemmas.{fault_within, lines_within}
use Rattle.audit_finding.proofs.judge.judge_texts.Goals as goal

pub overflow_add-result : goal.overflow_add-result
overflow_add-result c =
    let run = run_of c.args.run.now in
    let verdict : IsAtFault run.members c.args.table.now run.commands c.args.journal.now c.in-No.line c.in-No.why =
    subst (λ v. IsVerdict run c.args.table.now c.args.journal.now v) c.in-No.is c.in_ok-book.ensures in
    let number = fault_within run c.args.table.now c.args.journal.now c.in-No.line c.in-No.why verdict in
    let lines = lines_within c.as_bytes.result.now 67_108_864 (subst (λ l. length l ≤ 67_108_864) (sym c.as_bytes.ensures.value) c.requires.report) in
    let count = c.lines_in.ensures in
    omega (arith, number, lines, count, c.requires.journal)
