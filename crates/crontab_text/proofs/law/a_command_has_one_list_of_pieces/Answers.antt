use Rattle.crontab_text.proofs.PieceLemmas.{some_pieces, same_pieces}
use Rattle.crontab_text.proofs.law.a_command_has_one_list_of_pieces.Goals as goal

pub returns : goal.returns
returns c = record { some = some_pieces; one = same_pieces }
