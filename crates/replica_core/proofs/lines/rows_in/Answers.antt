use Rattle.std.proofs.Common.{◌≡◌, ◌++◌, Global, Vec, sym, ap, ◌∙◌}
use Rattle.std.proofs.lemmas.List.{append-nil}
use Rattle.step_spec.specs.Heard.{row_in}
use Rattle.replica_core.proofs.SnapLemmas.{counted-next, no-row}
use Rattle.replica_core.proofs.lines.rows_in.Goals as goal
use Rattle.replica_core.proofs.lines.rows_in.Goals.{in-SnapRow+in_ok-push, in_default-packet}

pub loop-preserved : goal.loop-preserved
loop-preserved c =
    let found : c.match-packet.items.items ≡ c.loop.items.items ++ row_in c.in-Some.packet = elim c.match-packet.branch [
      | in-SnapRow+in_ok-push w ↦ rw w.in-SnapRow.is (ap (λ (items : Vec _ Global). items.items) w.items-is ∙ w.in_ok-push.ensures.items)
      | in_default-packet w ↦ rw (w.items-is, no-row c.in-Some.packet w.in_default-packet.not-SnapRow) (sym (append-nil c.loop.items.items))
    ] in
    rw found (counted-next row_in c.loop.items.items c.in-Some.packet c.next.new.self c.args.count c.loop.counter _ c.loop-test.true (rw c.in-Some.ensures.steps at c.loop.invariant))
