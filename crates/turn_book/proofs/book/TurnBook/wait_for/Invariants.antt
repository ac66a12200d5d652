use Rattle.std.proofs.Common.{◌≡◌}
use Rattle.turn_book.proofs.book.TurnBook.wait_for.Given as goal

abbrev pub invariant-looks : goal.invariant-looks
invariant-looks g l =
    (goal.iterator-looks g).can_next l.iterator' × (goal.iterator-looks g).is_finite l.iterator'
    × (l.inner.table_id ≡ l.fn.inner.table_id) × (l.inner.id ≡ l.fn.inner.id) × (l.inner.me ≡ l.fn.inner.me)
