use Rattle.std.proofs.Common.{rules}
use Rattle.turn_book.proofs.HandLemmas.{commits_as}
use Rattle.turn_book.proofs.book.TurnBook.count.Goals as goal

pub fetch_add-requires : goal.fetch_add-requires
fetch_add-requires g c =
    let inner = c.args.inner.now in
    let shared = c.args.self.now.table.shared in
    (search rules, search rules, commits_as g.L.Law shared.key shared.table_id.slots inner.id inner.me g.C.Chosen.added c.args.row.now c.requires.added c.requires.may)
