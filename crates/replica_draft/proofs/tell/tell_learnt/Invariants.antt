use Rattle.std.specs.Prelude.{◌≡◌, ◌+◌, take}
use Rattle.step_spec.specs.Hear.{known_from, send_all}
use Rattle.replica_draft.specs.Draft.{HasSent, entries_in}
use Rattle.replica_draft.proofs.tell.tell_learnt.Given as goal

abbrev pub invariant-loop-row : goal.invariant-loop-row
invariant-loop-row l =
    (l.slot ≡ l.first + l.row-index) × HasSent l.fn.sends.items l.sends.items (send_all l.to (known_from l.first (take l.row-index (entries_in l.rows))))
