use Rattle.script_text.proofs.UniqueLemmas.{one_command}
use Rattle.script_text.proofs.laws.a_line_says_one_command.Goals as goal

pub returns : goal.returns
returns c = λ line m n v w a b small few p q. one_command line m n v w small few a b p q
