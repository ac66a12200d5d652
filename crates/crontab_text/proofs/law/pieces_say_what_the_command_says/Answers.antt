use Rattle.crontab_text.proofs.PieceLemmas.{pieces_say}
use Rattle.crontab_text.proofs.law.pieces_say_what_the_command_says.Goals as goal

pub returns : goal.returns
returns c = pieces_say
