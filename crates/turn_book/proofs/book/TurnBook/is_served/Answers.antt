use Rattle.std.proofs.Common.{rules}
use Rattle.turn_book.proofs.LineLemmas.{looks_at}
use Rattle.turn_book.proofs.book.TurnBook.is_served.Goals as goal

pub load-requires : goal.load-requires
load-requires g c =
    let inner = c.args.inner.now in
    let shared = c.args.self.now.table.shared in
    (search rules, search rules, looks_at g.L.Law shared.key shared.table_id.slots inner.id inner.me c.requires.queued)
