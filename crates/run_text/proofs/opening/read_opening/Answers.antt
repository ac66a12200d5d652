use Rattle.std.proofs.Common.{sym, subst}
use Rattle.run_text.specs.Follow.{RefusesBeforeScript}
use Rattle.run_text.proofs.opening.read_opening.Goals as goal

pub returns-in-None-clause-refused : goal.returns-in-None-clause-refused
returns-in-None-clause-refused c = λ behind run no_zone no_version no_script.
    subst (RefusesBeforeScript behind run c.args.line.now) (sym c.of_line.ensures.cause)
    (c.cause_of.ensures behind run (λ kind label zone count opens. c.in-None.ensures.none kind label zone count opens.is) no_zone no_version no_script)
