use Rattle.script_semantics.proofs.LetterLemmas.{addressee, all_sent, sent}
use Rattle.script_semantics.proofs.commands.letters_join_the_mail_of_their_addressee.Goals as goal

pub returns-clause-sent : goal.returns-clause-sent
returns-clause-sent c = sent

pub returns-clause-addressee : goal.returns-clause-addressee
returns-clause-addressee c = addressee

pub returns-clause-all : goal.returns-clause-all
returns-clause-all c = all_sent
