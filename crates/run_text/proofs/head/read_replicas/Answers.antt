use Rattle.std.proofs.Common.{◌∙◌}
use Rattle.run_text.specs.Follow.{Version}
use Rattle.run_text.proofs.StepLemmas.{missing_line}
use Rattle.run_text.proofs.head.read_replicas.Goals as goal

pub returns-in_default-clause-refused : goal.returns-in_default-clause-refused
returns-in_default-clause-refused c = λ tables.
    missing_line tables _ Version c.args.reader.now.rest.now c.of_line.result c.in_default.ensures.missing c.of_line.ensures.cause
    (c.of_line.ensures.line ∙ c.in_default.ensures.number) c.of_line.ensures.place
