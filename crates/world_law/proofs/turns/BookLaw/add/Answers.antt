use Rattle.world_law.proofs.Rows.{row_is_next, row_joins}
use Rattle.world_law.proofs.turns.BookLaw.add.Goals as goal

pub commit-requires-clause-next : goal.commit-requires-clause-next
commit-requires-clause-next c = row_is_next c.args.key.now c.args.row c.args.self.now c.requires.follows

pub returns-clause-rows : goal.returns-clause-rows
returns-clause-rows c = λ before has may. row_joins c.args.key.now before c.args.row c.args.self.now _ c.commit.ensures.stands has may
