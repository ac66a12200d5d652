use Rattle.std.proofs.Common.{arith}
use Rattle.run_text.proofs.ScriptLemmas.{says_past}
use Rattle.run_text.proofs.script.command_of.Goals as goal
use Rattle.crontab_text.proofs.VariantLemmas.{if_none}

pub returns-in_err-left-clause-none : goal.returns-in_err-left-clause-none
returns-in_err-left-clause-none c =
    if_none _ (says_past c.args.head c.args.line.now c.in_ok-command.command c.args.left.now (omega arith) c.in_ok-command.ensures.read c.in_err-left.ensures.none)
