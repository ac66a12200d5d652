use Rattle.std.specs.Prelude.{◌≡◌, ◌+◌, take}
use Rattle.step_spec.specs.Hear.{known_from, send_all}
use Rattle.replica_draft.specs.Draft.{HasSent}
use Rattle.replica_draft.proofs.tell.tell_entries.Given as goal

abbrev pub invariant-loop-entry : goal.invariant-loop-entry
invariant-loop-entry l =
    (l.slot ≡ l.first + l.entry-index) × HasSent l.fn.sends.items l.sends.items (send_all l.to (known_from l.first (take l.entry-index l.entries)))
