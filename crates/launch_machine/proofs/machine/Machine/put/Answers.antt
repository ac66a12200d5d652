use Rattle.std.proofs.Common.{◌≡◌, ◌∙◌, List, ap, sym, subst}
use Rattle.std.specs.Prelude.{slice_set}
use Rattle.std.proofs.lemmas.List.Elements.{All-set}
use Rattle.paxos_base.specs.Rows.{OpenHasCursor}
use Rattle.paxos_base.specs.declared.rows.JobRow.{JobRow}
use Rattle.launch_machine.specs.Clerk.{in_force}
use Rattle.launch_machine.specs.declared.force.InForce.{InForce}
use Rattle.launch_machine.specs.Machine.{AreBeside, AreCalls, AreNextStarts, IsCallBeside, IsStartBeside, Launches, StandsFor}
use Rattle.launch_machine.proofs.MachineLemmas.{beside_set, force_put, rows_put}
use Rattle.launch_machine.proofs.machine.Machine.put.Goals as goal

pub invariant_of-self : goal.invariant_of-self
invariant_of-self c = All-set OpenHasCursor c.self.inside.rows.items c.args.job c.args.row c.requires.cursor c.self.invariant

pub returns-clause-stands : goal.returns-clause-stands
returns-clause-stands c =
    let table = c.args.table.now in
    let old : Launches = record { rows = c.self.inside.rows.items; starts = c.self.inside.starts; calls = c.self.inside.calls } in
    let stands : StandsFor table old = subst (StandsFor table) (sym c.self.view_is) c.requires.stands in
    let rows : List JobRow = slice_set old.rows c.args.job c.args.row in
    let force : InForce = in_force table old.rows in
    let same : in_force table rows ≡ force = force_put table old.rows c.args.job c.args.row c.requires.job in
    let start : IsStartBeside table force c.args.job c.args.row c.start_beside.result =
    subst (λ (f : InForce). IsStartBeside table f c.args.job c.args.row c.start_beside.result) (c.in_force-force.ensures.force ∙ ap (in_force table) c.deref.ensures.value) c.start_beside.ensures in
    record {
      rows = rows_put table old.rows c.args.job c.args.row stands.rows c.requires.job c.requires.number;
      starts = subst (AreNextStarts table rows) (sym c.set.ensures)
          (subst (λ (f : InForce). AreBeside (IsStartBeside table f) rows (slice_set old.starts c.args.job c.start_beside.result)) (sym same)
          (beside_set (IsStartBeside table force) old.rows old.starts c.args.job c.args.row c.start_beside.result stands.starts start));
      calls = subst (AreCalls table rows) (sym c.set-2.ensures)
          (subst (λ (f : InForce). AreBeside (IsCallBeside table f) rows (slice_set old.calls c.args.job c.call_beside.result)) (sym same)
          (beside_set (IsCallBeside table force) old.rows old.calls c.args.job c.args.row c.call_beside.result stands.calls (c.call_beside.ensures force)));
    }
