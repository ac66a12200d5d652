use Rattle.std.proofs.Common.{sym, subst}
use Rattle.replica_core.specs.Replica.{ReplicaState}
use Rattle.replica_core.specs.Step.{IsOfTable}
use Rattle.world_free.specs.Board.{OnBoard, ShowsReplica}
use Rattle.world_free.specs.Plan.{plan_of}
use Rattle.world_free.proofs.JobLemmas.{on_ok}
use Rattle.world_free.proofs.Showing.{shows_turn_on, table_there}
use Rattle.world_free.proofs.job.FreeJob.take_and_show.Goals as goal

pub show_on-requires-clause-of_table : goal.show_on-requires-clause-of_table
show_on-requires-clause-of_table g c =
    let may = c.requires.may in
    subst (λ (r : ReplicaState). IsOfTable c.args.table.now r) (sym c.replica.ensures)
    (table_there g.D.Disk.view (plan_of c.args.table.now c.args.book.now may.0 c.args.setting.now) c.args.book.now c.args.who c.args.turn c.args.self.now c.take_turn.new.self
    may.1 c.in_ok-take_turn.ensures.one (c.in_ok-take_turn.ensures.goes may.0 may.1))

pub returns-clause-goes : goal.returns-clause-goes
returns-clause-goes g c = on_ok c.show_on.result _ _ (λ shows. c.in_ok-take_turn.ensures.goes) c.show_on.ensures.shows

pub returns-clause-shows : goal.returns-clause-shows
returns-clause-shows g c =
    on_ok c.show_on.result _ _
    (λ shows situation first runner shown.
    let plan = plan_of c.args.table.now c.args.book.now situation c.args.setting.now in
    let job = c.in_ok-take_turn.ensures.goes situation runner in
    let one = c.in_ok-take_turn.ensures.one in
    shows_turn_on g.D.Disk.view plan c.args.book.now c.args.who c.args.turn c.args.self.now c.take_turn.new.self runner one job first c.args.board.now c.show_on.new.board shown
    (table_there g.D.Disk.view plan c.args.book.now c.args.who c.args.turn c.args.self.now c.take_turn.new.self runner one job)
    (subst (λ (r : ReplicaState). OnBoard (ShowsReplica r) c.args.board.now c.show_on.new.board) c.replica.ensures shows))
    c.show_on.ensures.shows
