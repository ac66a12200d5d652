use Rattle.run_audit.proofs.LineLemmas.{line_of, no_line}
use Rattle.run_audit.proofs.lines.cut_line.Goals as goal

pub returns-clause-cut : goal.returns-clause-cut
returns-clause-cut c = line_of c.args.text.now c.split_once.result c.split_once.ensures.cases

pub returns-clause-none : goal.returns-clause-none
returns-clause-none c = no_line c.args.text.now c.split_once.result c.split_once.ensures.cases
