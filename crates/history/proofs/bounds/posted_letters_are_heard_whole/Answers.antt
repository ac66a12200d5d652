use Rattle.history.proofs.Heard.{letters_small, letters_whole}
use Rattle.history.proofs.bounds.posted_letters_are_heard_whole.Goals as goal

pub returns-clause-within : goal.returns-clause-within
returns-clause-within c = letters_small

pub returns-clause-whole : goal.returns-clause-whole
returns-clause-whole c = letters_whole
