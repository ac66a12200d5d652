use Rattle.std.proofs.Common.{◌≡◌, ◌++◌, ℕ, sym, subst, ap, ◌∙◌}
use Rattle.script_semantics.specs.Free.{IsFreePart}
use Rattle.status_board.specs.Writing.{Writing}
use Rattle.world_free.specs.Board.{MayShow, ShowsPart}
use Rattle.world_law.specs.Book.{BookState}
use Rattle.script_play.proofs.WatchedParts.{shown_goes}
use Rattle.script_play.proofs.script.play_shown.Goals as goal

pub run_free_shown-requires-clause-parts : goal.run_free_shown-requires-clause-parts
run_free_shown-requires-clause-parts g c = λ lives borrowed.
    let world = c.requires.world in
    record { rows = world.rows; situation = world.situation; are = c.take_parts-parts.ensures.parts c.args.table.now world.rows world.situation world.is }

pub see-requires-clause-board : goal.see-requires-clause-board
see-requires-clause-board g c =
    let world = c.requires.world in
    let to = c.in_ok-parts.ensures.goes world.rows world.situation (c.take_parts-parts.ensures.parts c.args.table.now world.rows world.situation world.is) in
    c.requires.ready.board ∙ sym to.4.board

pub from_parts-requires-clause-parts : goal.from_parts-requires-clause-parts
from_parts-requires-clause-parts g c =
    let world = c.requires.world in
    let to = c.in_ok-parts.ensures.goes world.rows world.situation (c.take_parts-parts.ensures.parts c.args.table.now world.rows world.situation world.is) in
    (c.args.table.now, record { rows = world.rows ++ to.0; situation = to.1; are = to.3 })

pub returns-clause-goes : goal.returns-clause-goes
returns-clause-goes g c = λ rows situation is.
    let to = c.in_ok-parts.ensures.goes rows situation (c.take_parts-parts.ensures.parts c.args.table.now rows situation is) in
    let same : c.take_parts-parts.result.book.members ≡ c.args.world.book.members = ap (λ (b : BookState). b.members) c.take_parts-parts.ensures.book in
    let here = c.from_parts.ensures.world c.args.table.now (rows ++ to.0) to.1 to.3 in (
      to.0,
      to.1,
      subst (λ (n : ℕ). IsFreePart n c.args.table.now.window c.args.at.0 c.args.turns situation to.0 to.1) same to.2,
      here,
      shown_goes g.D.Disk.view c.args.table.now c.args.world c.from_parts.result rows to.0 situation to.1 is here
          (ap (λ (b : BookState). b.members) c.from_parts.ensures.book ∙ c.in_ok-parts.ensures.members ∙ same) c.args.at c.args.turns c.args.place c.args.watch c.in_ok-watch.watch c.in_ok-parts.writer
          (subst (λ (n : ℕ). ShowsPart n 0 c.args.table.now situation rows to.0 c.args.watch.writer c.in_ok-parts.writer) same to.4) c.in_ok-watch.ensures.writer c.in_ok-watch.ensures.seen,
    )

pub returns-clause-ready : goal.returns-clause-ready
returns-clause-ready g c = record {
  may = subst (MayShow c.args.table.now) (sym c.in_ok-watch.ensures.writer) c.in_ok-parts.ensures.may_show;
  board = c.in_ok-watch.ensures.board ∙ ap (λ (w : Writing). w.board) (sym c.in_ok-watch.ensures.writer);
  total = c.in_ok-watch.ensures.total;
}
