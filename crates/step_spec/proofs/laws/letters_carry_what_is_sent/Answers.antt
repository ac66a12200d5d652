use Rattle.step_spec.proofs.OutLemmas.{letters_are, letters_reach, letters_sent}
use Rattle.step_spec.proofs.laws.letters_carry_what_is_sent.Goals as goal

pub returns-clause-each : goal.returns-clause-each
returns-clause-each c = letters_reach

pub returns-clause-none_else : goal.returns-clause-none_else
returns-clause-none_else c = letters_sent

pub returns-clause-whole : goal.returns-clause-whole
returns-clause-whole c = letters_are
