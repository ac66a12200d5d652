use Rattle.std.proofs.Common.{◌∙◌}
use Rattle.rounds_tests.proofs.parts.put_together.Goals as goal

pub from_parts-requires-clause-parts : goal.from_parts-requires-clause-parts
from_parts-requires-clause-parts c =
    let world = c.requires.1 in
    (c.requires.0, record { rows = world.rows; situation = world.situation; are = c.take_parts.ensures.parts c.requires.0 world.rows world.situation world.is })

pub returns-clause-world : goal.returns-clause-world
returns-clause-world c table world = record {
  rows = world.rows;
  situation = world.situation;
  is = c.from_parts.ensures.world table world.rows world.situation (c.take_parts.ensures.parts table world.rows world.situation world.is);
}

pub returns-clause-book : goal.returns-clause-book
returns-clause-book c = c.from_parts.ensures.book ∙ c.take_parts.ensures.book
