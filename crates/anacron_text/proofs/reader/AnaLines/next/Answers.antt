use Rattle.std.proofs.Common.{arith}
use Rattle.std.proofs.lemmas.Result.{IfErr-at_err}
use Rattle.crontab_text.proofs.ReaderLemmas.{IsLeft}
use Rattle.anacron_text.specs.Answers.{IsAnacronLineBreak}
use Rattle.anacron_text.proofs.AnswerLemmas.{line_break_within}
use Rattle.anacron_text.proofs.ReaderLemmas.{behind_line, reads_line}
use Rattle.anacron_text.proofs.reader.AnaLines.next.Goals as goal

pub numbered-requires-clause-within : goal.numbered-requires-clause-within
numbered-requires-clause-within c = λ fault is.
    line_break_within c.in_ok-line.line.now fault.cause fault.left
    (IfErr-at_err (λ e. IsAnacronLineBreak c.in_ok-line.line.now e.cause e.left) is c.read_line.ensures.fault)

pub invariant_of-self : goal.invariant_of-self
invariant_of-self c =
    let is : IsLeft c.self.inside.text.now c.self.inside.rest.now = record { within = omega (arith, c.self.invariant.1); back = c.self.invariant.2 } in
    let next = behind_line _ _ c.in_ok-line.line.now c.in_ok-line.rest.now is c.in_ok-line.ensures.line in
    (c.self.invariant.0, omega (arith, c.self.invariant.1, c.in_ok-line.ensures.count), next.0.back, c.read_line.ensures.kept)

pub returns-clause-line : goal.returns-clause-line
returns-clause-line c =
    let is : IsLeft c.self.inside.text.now c.self.inside.rest.now = record { within = omega (arith, c.self.invariant.1); back = c.self.invariant.2 } in
    rw (← c.self.view_is)
    (reads_line c.self.inside.text.now c.self.inside.rest.now c.in_ok-line.line.now c.in_ok-line.rest.now c.self.inside.settings c.read_line.new.settings c.self.inside.passed c.count_lines.result c.read_line.result c.numbered.result
    is c.in_ok-line.ensures.line c.count_lines.ensures c.read_line.ensures.read c.read_line.ensures.sets c.read_line.ensures.fault c.read_line.ensures.unchanged c.numbered.ensures.read c.numbered.ensures.fault)
