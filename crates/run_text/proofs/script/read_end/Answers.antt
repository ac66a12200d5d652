use Rattle.run_text.proofs.StepLemmas.{ends}
use Rattle.run_text.proofs.script.read_end.Goals as goal

pub returns-in-None-clause-read : goal.returns-in-None-clause-read
returns-in-None-clause-read c = λ tables run. ends tables _ c.args.reader.now.rest.now run c.in-None.ensures.missing
