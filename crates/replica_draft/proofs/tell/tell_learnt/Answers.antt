use Rattle.std.proofs.Common.{arith, ap, map, ◌∙◌, get_or}
use Rattle.std.proofs.lemmas.List.{get_or-map, length-map, map-append, take_all}
use Rattle.paxos_base.specs.declared.entry.Entry.TheVariants.{Noop}
use Rattle.step_spec.specs.declared.out.LearntRow.{LearntRow}
use Rattle.replica_draft.specs.Draft.{entries_in, said_in}
use Rattle.replica_draft.proofs.DraftLemmas.{says-next}
use Rattle.replica_draft.proofs.tell.tell_learnt.Goals as goal

pub loop-row-preserved : goal.loop-row-preserved
loop-row-preserved c =
    let at = c.loop-row.invariant.0 in
    let rows = c.args.rows.now in
    let many = length-map rows (λ (row : LearntRow). row.entry) in
    let none : LearntRow = record { slot = 0; entry = Noop } in (
      omega (arith, at),
      says-next c.args.sends.now.items c.loop-row.sends.items c.push.new.self.items c.args.to c.args.first c.loop-row.row-index (entries_in rows) Noop (get_or rows c.loop-row.row-index none).entry (rw many c.loop-row-test.true)
          (get_or-map (λ (row : LearntRow). row.entry) rows c.loop-row.row-index none Noop c.loop-row-test.true)
          c.loop-row.invariant.1 (rw (← at) (ap (map said_in) c.in_ok-push.ensures.ok ∙ map-append said_in c.loop-row.sends.items _)),
    )

pub returns : goal.returns
returns c =
    let rows = c.args.rows.now in
    let many = length-map rows (λ (row : LearntRow). row.entry) in
    rw (take_all c.loop-row.row-index (entries_in rows) (rw many c.loop-row-test.false)) at c.loop-row.invariant.1
