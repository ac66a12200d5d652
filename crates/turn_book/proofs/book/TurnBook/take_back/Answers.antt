use Rattle.std.proofs.Common.{rules, ◌∙◌, map, ap}
use Rattle.turn_book.specs.Turns.{first_or_spent, past_by, view_of}
use Rattle.turn_book.proofs.EndLemmas.{takes_in}
use Rattle.turn_book.proofs.SeatListLemmas.{seat_there}
use Rattle.turn_book.proofs.book.TurnBook.take_back.Goals as goal

pub into_seat-requires : goal.into_seat-requires
into_seat-requires g c =
    let seat = c.in-Some.seat in
    let kept = c.others.invariant in
    (view_of seat, (seat_there c.args.self.now c.args.others.items c.others.others.items c.pop.new.self.items kept.0 seat c.requires.others kept.1 c.in-Some.ensures.items).views)

pub join_seat-requires : goal.join_seat-requires
join_seat-requires g c =
    let book = c.args.self.now in
    let seat = c.in-Some.seat in
    let kept = c.others.invariant in
    let is = seat_there book c.args.others.items c.others.others.items c.pop.new.self.items kept.0 seat c.requires.others kept.1 c.in-Some.ensures.items in
    let other = c.into_seat.result in
    let first = c.others.first in (
      kept.2 ∙ c.requires.own,
      c.into_seat.ensures.0 ∙ is.table,
      c.into_seat.ensures.3,
      search rules,
      takes_in g.L.Law book.table.shared.key first.id first.me c.args.first.now.me (map past_by kept.0) other.id (view_of seat) other.me.0 kept.4 c.requires.rests c.requires.first (ap first_or_spent c.into_seat.ensures.2) is.rests,
    )
