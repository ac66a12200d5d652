use Rattle.std.proofs.Common.{refl}
use Rattle.run_text.specs.Follow.{Nothing}
use Rattle.run_text.proofs.StepLemmas.{missing_line}
use Rattle.run_text.proofs.head.read_version.Goals as goal

pub returns-in_default-clause-refused : goal.returns-in_default-clause-refused
returns-in_default-clause-refused c = λ tables.
    missing_line tables _ Nothing c.args.text.now c.of_line.result (c.in_default.ensures.none.0 refl) c.of_line.ensures.cause c.of_line.ensures.line c.of_line.ensures.place
