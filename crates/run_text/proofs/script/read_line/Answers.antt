use Rattle.std.proofs.Common.{◌∙◌}
use Rattle.run_text.specs.Follow.{Script}
use Rattle.run_text.proofs.StepLemmas.{missing_line}
use Rattle.run_text.proofs.script.read_line.Goals as goal

pub returns-in_default-clause-refused : goal.returns-in_default-clause-refused
returns-in_default-clause-refused c = λ tables run has.
    missing_line tables _ (Script run) c.args.reader.now.rest.now c.of_line.result c.in_default.ensures.missing c.of_line.ensures.cause
    (c.of_line.ensures.line ∙ c.in_default.ensures.number) c.of_line.ensures.place
