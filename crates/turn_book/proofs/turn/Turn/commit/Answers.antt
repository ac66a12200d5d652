use Rattle.std.proofs.Common.{ℕ, [], ◌∷◌, ◌++◌, Option, subst, sym, ◌∙◌}
use Rattle.atomic_table.specs.Table.{Me}
use Rattle.turn_book.specs.declared.view.View.{View}
use Rattle.turn_book.specs.Rested.{MayHandOn}
use Rattle.turn_book.proofs.turn.Turn.commit.Goals as goal

pub count_row-requires-clause-may : goal.count_row-requires-clause-may
count_row-requires-clause-may g c =
    let turn = c.args.self in
    let opening = turn.book.now.table.shared.key in
    record {
      opening = opening;
      opened = turn.opened;
      turn = turn.turn;
      seat = c.requires.seat;
      follows = subst (λ (key : g.row.L-Key.Denot). g.L.Law.follows key (g.L.Law.number opening.state.value) turn.inner.me.0.seen c.args.row) c.requires.key c.requires.follows;
    }

pub add-requires-clause-follows : goal.add-requires-clause-follows
add-requires-clause-follows g c =
    let turn = c.args.self in
    record {
      before = turn.inner.me.0.seen;
      are = c.requires.rows;
      may = subst (λ (number : ℕ). g.L.Law.follows c.args.key.now number turn.inner.me.0.seen c.args.row) (sym c.requires.number) c.requires.follows;
    }

pub hand_on-requires-clause-may : goal.hand_on-requires-clause-may
hand_on-requires-clause-may g c =
    let turn = c.args.self in
    let opening = turn.book.now.table.shared.key in
    let new = c.add.new.self in
    let seen = turn.inner.me.0.seen in
    let may = subst (λ (number : ℕ). g.L.Law.follows c.args.key.now number seen c.args.row) (sym c.requires.number) c.requires.follows in
    let rows = c.add.ensures.rows seen c.requires.rows may in
    subst (λ (me : Me (Option g.row.L.Denot) (View g.row.L.Denot g.row.L-Key.Denot g.row.L-Row.Denot)). MayHandOn g.L.Law me.0 new) (sym c.count_row.ensures.view)
    (record {
      opening = opening;
      opened = turn.opened;
      turn = turn.turn;
      rests =
          record {
            rows = subst (λ (key : g.row.L-Key.Denot). g.L.Law.has_rows key new (seen ++ c.args.row ∷ [])) c.requires.key rows;
            number = c.add.ensures.number ∙ c.requires.number;
            rest = c.add.ensures.rest;
          };
    })
