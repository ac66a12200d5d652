use Rattle.std.proofs.Common.{rules, Some, ap, sym, ◌∙◌, ◌∷◌}
use Rattle.atomic_table.specs.Table.{rest}
use Rattle.turn_book.proofs.book.TurnBook.take_state.Goals as goal

pub exchange-requires : goal.exchange-requires
exchange-requires g c =
    let there = c.requires.there in
    (search rules, (Some there.0, there.1 ∙ ap (λ l. (0, Some there.0) ∷ rest l) (sym there.1)))
