use Rattle.std.proofs.Common.{◌≡◌, ℕ, ◌+◌, ◌<◌, List, [], ◌∷◌, Option, length, vec_len, ap, sym, ◌∙◌, subst, arith}
use Rattle.atomic_table.specs.Table.{Me}
use Rattle.turn_book.specs.Turns.{AreNewSeats}
use Rattle.turn_book.specs.Views.{newcomer, with_seat}
use Rattle.turn_book.specs.declared.book.TurnSeat.{TurnSeat}
use Rattle.turn_book.specs.declared.view.View.{View}
use Rattle.turn_book.proofs.SeatListLemmas.{made_seat, new_seats_snoc}
use Rattle.turn_book.proofs.book.TurnBook.make_others.Goals as goal

pub others-preserved : goal.others-preserved
others-preserved g c =
    let L : Type 0 = g.row.L.Denot in
    let V : Type 0 = View g.row.L.Denot g.row.L-Key.Denot g.row.L-Row.Denot in
    let book = c.args.self.now in
    let kept = c.others.invariant in
    let split = c.split_off.ensures in
    let seat = c.split_off.result in
    let pushed = c.push_reserved.ensures in
    let made : ℕ = c.others._made in
    let long : vec_len c.others.others ≡ length c.others.others.items = c.others.others.ok.0 in
    let some_made : 0 < made = (let from = c.others.auto._made in omega arith) in
    let count : 1 + length c.others.others.items ≡ made = (let same = kept.count in omega arith) in
    let new = made_seat book made seat (split.made ∙ kept.table) (split.new ∙ ap (λ (m : Me (Option L) V). newcomer m.0 ∷ []) kept.view) some_made in
    record {
      table = split.table ∙ kept.table;
      view = split.view ∙ ap (λ (m : Me (Option L) V). (with_seat m.0, m.1)) kept.view;
      new =
          subst (λ (seats : List (TurnSeat g.row.L.Denot g.row.L-Key.Denot g.row.L-Row.Denot g.row.L-Room.Denot)). AreNewSeats book 1 seats) (sym pushed.items)
          (new_seats_snoc book 1 made c.others.others.items seat count kept.new new);
      count = (let more = pushed.len in let same = kept.count in omega arith);
      room = (let more = pushed.capacity in let room = kept.room in omega arith);
    }
