use Rattle.std.proofs.Common.{rules}
use Rattle.turn_book.proofs.HandLemmas.{hands_on_at}
use Rattle.turn_book.proofs.book.TurnBook.hand_on.Goals as goal

pub fetch_add-requires : goal.fetch_add-requires
fetch_add-requires g c =
    let shared = c.args.self.now.table.shared in
    let inner = c.put_state.new.inner in
    (search rules, search rules, hands_on_at g.L.Law shared.key shared.table_id.slots inner.id inner.me c.args.inner.me.0 c.args.state c.put_state.ensures.view c.requires.may)
