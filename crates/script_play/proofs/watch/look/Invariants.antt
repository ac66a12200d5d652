use Rattle.std.proofs.Common.{◌≡◌}
use Rattle.script_play.proofs.watch.look.Given as goal

abbrev pub invariant-looks : goal.invariant-looks
invariant-looks g l =
    (goal.iterator-looks g).can_next l.iterator' × (goal.iterator-looks g).is_finite l.iterator' × (l.reader.board ≡ l.fn.writer.board) × (l.reader.total ≡ l.fn.reader.total)
