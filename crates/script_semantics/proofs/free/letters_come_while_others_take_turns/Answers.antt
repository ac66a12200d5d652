use Rattle.script_semantics.proofs.FreeMailLemmas.{others_pass}
use Rattle.script_semantics.proofs.free.letters_come_while_others_take_turns.Goals as goal

pub returns : goal.returns
returns c = λ members who situation rows others. (others_pass members who situation rows others).mail
