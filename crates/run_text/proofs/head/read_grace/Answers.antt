use Rattle.std.proofs.Common.{refl, ◌∙◌}
use Rattle.run_text.specs.Follow.{Times, Sections}
use Rattle.run_text.specs.Run.{run_with}
use Rattle.run_text.proofs.StepLemmas.{one_line_at, missing_line}
use Rattle.run_text.proofs.head.read_grace.Goals as goal

pub returns-in_default-clause-refused : goal.returns-in_default-clause-refused
returns-in_default-clause-refused c = λ tables members window.
    missing_line tables _ (Times members window) c.args.reader.now.rest.now c.of_line.result c.in_default.ensures.missing c.of_line.ensures.cause
    (c.of_line.ensures.line ∙ c.in_default.ensures.number) c.of_line.ensures.place

pub returns-in-Some-grace_of-clause-read : goal.returns-in-Some-grace_of-clause-read
returns-in-Some-grace_of-clause-read c = λ tables members window.
    one_line_at c.args.reader.now c.next_line.new.self (Times members window) (Sections (run_with members window c.in-Some-grace_of.grace))
    c.in-Some.line.now c.in-Some.ensures.number c.in-Some.ensures.line (c.in-Some-grace_of.grace, c.in-Some-grace_of.ensures.read, refl)
