use Rattle.std.proofs.Common.{◌++◌, ◌∷◌, []}
use Rattle.world_law.proofs.Behind.{turn_is_added}
use Rattle.world_law.proofs.book.Book.commit.Goals as goal

pub returns-clause-stands : goal.returns-clause-stands
returns-clause-stands c = turn_is_added c.args.table.now c.args.turn c.args.out c.args.self.now _ c.requires.call c.add.ensures

pub returns-clause-legal : goal.returns-clause-legal
returns-clause-legal c =
    let next = c.requires.next in
    (next.rows ++ next.row ∷ [], turn_is_added c.args.table.now c.args.turn c.args.out c.args.self.now _ c.requires.call c.add.ensures next.rows next.row next.behind next.is next.may)
