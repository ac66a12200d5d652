use Rattle.std.proofs.Common.{◌-◌, length, arith}
use Rattle.script_text.specs.Script.{rounds_in, free_turns_in}
use Rattle.script_text.proofs.laws.a_script_within_its_limits_leaves_some.Goals as goal

pub returns-clause-left : goal.returns-clause-left
returns-clause-left c = λ script within. (
  record { commands = 1_000 - length script; rounds = 100_000 - rounds_in script; free_turns = 100_000 - free_turns_in script },
  record {
    commands = omega (arith, within.commands);
    rounds = omega (arith, within.rounds);
    free_turns = omega (arith, within.free_turns);
  },
)
