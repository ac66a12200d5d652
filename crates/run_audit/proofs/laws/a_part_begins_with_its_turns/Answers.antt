use Rattle.run_audit.proofs.BeginLemmas.{part_begins, walk_begins}
use Rattle.run_audit.proofs.FrontLemmas.{part_fronts, walk_fronts}
use Rattle.run_audit.proofs.laws.a_part_begins_with_its_turns.Goals as goal

pub returns-clause-whole : goal.returns-clause-whole
returns-clause-whole c = part_begins

pub returns-clause-front : goal.returns-clause-front
returns-clause-front c = part_fronts

pub returns-clause-whole_walk : goal.returns-clause-whole_walk
returns-clause-whole_walk c = walk_begins

pub returns-clause-front_walk : goal.returns-clause-front_walk
returns-clause-front_walk c = walk_fronts
