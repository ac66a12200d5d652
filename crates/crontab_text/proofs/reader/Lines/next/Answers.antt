use Rattle.std.proofs.Common.{arith}
use Rattle.std.proofs.lemmas.Result.{IfErr-at_err}
use Rattle.crontab_text.specs.LineBreak.{IsLineBreak}
use Rattle.crontab_text.proofs.EntryLemmas.{break_within}
use Rattle.crontab_text.proofs.ReaderLemmas.{IsLeft, behind_line, reads_line}
use Rattle.crontab_text.proofs.reader.Lines.next.Goals as goal

pub numbered-requires-clause-within : goal.numbered-requires-clause-within
numbered-requires-clause-within c = λ fault is.
    break_within c.self.inside.style c.in_ok-line.line.now fault.cause fault.left
    (IfErr-at_err (λ e. IsLineBreak c.self.inside.style c.in_ok-line.line.now e.cause e.left) is c.read_line.ensures.fault)

pub invariant_of-self : goal.invariant_of-self
invariant_of-self c =
    let is : IsLeft c.self.inside.text.now c.self.inside.rest.now = record { within = omega (arith, c.self.invariant.1); back = c.self.invariant.2 } in
    let next = behind_line _ _ c.in_ok-line.line.now c.in_ok-line.rest.now is c.in_ok-line.ensures.line in
    (c.self.invariant.0, omega (arith, c.self.invariant.1, next.1), next.0.back)

pub returns-clause-line : goal.returns-clause-line
returns-clause-line c =
    let is : IsLeft c.self.inside.text.now c.self.inside.rest.now = record { within = omega (arith, c.self.invariant.1); back = c.self.invariant.2 } in
    rw (← c.self.view_is)
    (reads_line c.self.inside.text.now c.self.inside.owner.now c.self.inside.rest.now c.in_ok-line.line.now c.in_ok-line.rest.now c.self.inside.style c.self.inside.passed c.read_line.result c.numbered.result
    is c.in_ok-line.ensures.line c.read_line.ensures.read c.read_line.ensures.fault c.numbered.ensures.read c.numbered.ensures.fault)
