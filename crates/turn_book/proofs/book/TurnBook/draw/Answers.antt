use Rattle.std.proofs.Common.{rules}
use Rattle.turn_book.proofs.LineLemmas.{draws}
use Rattle.turn_book.proofs.book.TurnBook.draw.Goals as goal

pub fetch_add-requires : goal.fetch_add-requires
fetch_add-requires g c =
    let inner = c.args.inner.now in
    (search rules, search rules, draws g.L.Law c.args.self.now.table.shared.key c.args.self.now.table.shared.table_id.slots inner.id inner.me c.requires.rests)
