use Rattle.journal_text.proofs.PlaceLemmas.{command_part, told_part, walk_part}
use Rattle.journal_text.proofs.laws.a_part_has_its_commands_turns.Goals as goal

pub returns-clause-commands : goal.returns-clause-commands
returns-clause-commands c = command_part

pub returns-clause-walk : goal.returns-clause-walk
returns-clause-walk c = walk_part

pub returns-clause-told : goal.returns-clause-told
returns-clause-told c = told_part
