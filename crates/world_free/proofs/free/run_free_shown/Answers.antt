use Rattle.std.proofs.Common.{Some, Option, subst}
use Rattle.status_board.specs.Writing.{Writing}
use Rattle.world_free.specs.Board.{OnBoard, ShowsPart}
use Rattle.world_free.proofs.Handed.{of_ok}
use Rattle.world_free.proofs.free.run_free_shown.Goals as goal

pub returns-in-Ok-Some-clause-goes : goal.returns-in-Ok-Some-clause-goes
returns-in-Ok-Some-clause-goes g c =
    let goes = of_ok c.run_part-ended.result c.in-Ok-Some.new _ c.in-Ok-Some.is-0 c.run_part-ended.ensures.goes in
    λ rows situation are.
    let to = goes rows situation are in (
      to.0,
      to.1,
      to.2,
      to.3,
      subst (λ (board : Option Writing). OnBoard (ShowsPart c.args.parts.book.members 0 c.args.table.now situation rows to.0) (Some c.args.writer) board) c.in-Ok-Some.is-1 to.4,
    )
