use Rattle.std.proofs.Common.{◌≡◌, Option, is_some}
use Rattle.script_semantics.specs.Situation.{Situation}
use Rattle.status_board.specs.Writing.{Writing}
use Rattle.world_free.specs.Board.{HasShown, MayShowOn, OnBoard}
use Rattle.world_free.specs.Jobs.{IsJobAt}
use Rattle.world_free.specs.Plan.{plan_of}
use Rattle.world_free.proofs.job.FreeJob.run.Given as goal

abbrev pub invariant-turns : goal.invariant-turns
invariant-turns g l =
    ((situation : Situation) → IsJobAt g.D.Disk.view (plan_of l.table l.book situation l.setting) l.book l.who 0 l.fn.self
    → IsJobAt g.D.Disk.view (plan_of l.table l.book situation l.setting) l.book l.who l.turn l.self)
    × MayShowOn l.table l.board
    × ((situation : Situation) (first : Option Writing) → IsJobAt g.D.Disk.view (plan_of l.table l.book situation l.setting) l.book l.who 0 l.fn.self
    → OnBoard (HasShown (plan_of l.table l.book situation l.setting) l.book l.who l.fn.self.seat) first l.fn.board
    → OnBoard (HasShown (plan_of l.table l.book situation l.setting) l.book l.who l.self.seat) first l.board)
    × (is_some l.board ≡ is_some l.fn.board)
