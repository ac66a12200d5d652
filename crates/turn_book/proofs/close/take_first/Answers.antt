use Rattle.turn_book.proofs.SeatListLemmas.{first_out}
use Rattle.turn_book.proofs.close.take_first.Goals as goal

pub returns : goal.returns
returns g c = first_out c.args.seats.now.items c.remove.result c.remove.new.self.items c.requires c.remove.ensures.value c.remove.ensures.items
