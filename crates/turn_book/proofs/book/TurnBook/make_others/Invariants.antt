use Rattle.std.proofs.Common.{◌≡◌, ◌+◌, ◌≤◌, [], vec_len, vec_capacity}
use Rattle.turn_book.specs.Turns.{AreNewSeats, opening_of}
use Rattle.turn_book.specs.Views.{counting, first_view}
use Rattle.turn_book.proofs.book.TurnBook.make_others.Given as goal

abbrev pub invariant-others : goal.invariant-others
invariant-others g l = record {
  table : l.first.table_id ≡ l.self.table.shared.table_id;
  view : l.first.me ≡ (counting l._made (first_view (opening_of l.self)), []);
  new : AreNewSeats l.self 1 l.others.items;
  count : vec_len l.others + 1 ≡ l._made;
  room : l.fn.count ≤ vec_capacity l.others;
}
