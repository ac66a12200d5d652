use Rattle.std.proofs.Common.{◌+◌, ◌≡◌, List, length, FitsSigned, to_z, of_z, w64, sym, ap, subst, ◌∙◌}
use Rattle.std.proofs.lemmas.Int.{to_z-of_z}
use Rattle.std.specs.Prelude.{slice_set}
use Rattle.paxos_base.specs.declared.entry.Entry.TheVariants.{Start}
use Rattle.paxos_base.specs.declared.rows.JobRow.{JobRow}
use Rattle.launch_machine.specs.Clerk.{Applies, TakesStart, opened_row}
use Rattle.launch_machine.specs.Machine.{Launches, StandsFor}
use Rattle.launch_machine.proofs.MachineLemmas.{row_opened, start_applies}
use Rattle.launch_machine.proofs.machine.Machine.start.Goals as goal

pub put-requires-clause-number : goal.put-requires-clause-number
put-requires-clause-number c =
    let at_fits : FitsSigned w64 c.args.at = c.ranges.at in
    let now_fits : FitsSigned w64 c.args.now = c.ranges.now in
    let old : Launches = record { rows = c.self.inside.rows.items; starts = c.self.inside.starts; calls = c.self.inside.calls } in
    let stands : StandsFor c.args.table.now old = subst (StandsFor c.args.table.now) (sym c.self.view_is) c.requires.stands in
    let told = c.takes_start.ensures.0 c.if-takes_start.true in
    let takes : TakesStart c.args.table.now old.rows c.args.job c.args.at c.args.now =
    simp to_z-of_z at (subst (λ (r : List JobRow). TakesStart c.args.table.now r c.args.job (to_z w64 (of_z w64 c.args.at)) (to_z w64 (of_z w64 c.args.now))) c.deref.ensures.value told) in
    let opened : c.opened-row.result ≡ opened_row c.args.at c.args.now c.index.result.now = simp to_z-of_z at c.opened-row.ensures in
    row_opened old.rows (length c.args.table.now.jobs + 1) c.args.job c.args.at c.args.now takes.row c.index.result.now c.index.result.now c.opened-row.result stands.rows.numbered takes.is_row c.index.ensures opened

pub returns-then-takes_start-clause-applies : goal.returns-then-takes_start-clause-applies
returns-then-takes_start-clause-applies c =
    let rows_are : c.self.inside.rows.items ≡ c.args.self.now.rows = ap (λ (m : Launches). m.rows) c.self.view_is in
    let at_fits : FitsSigned w64 c.args.at = c.ranges.at in
    let now_fits : FitsSigned w64 c.args.now = c.ranges.now in
    let old : Launches = record { rows = c.self.inside.rows.items; starts = c.self.inside.starts; calls = c.self.inside.calls } in
    let told = c.takes_start.ensures.0 c.if-takes_start.true in
    let takes : TakesStart c.args.table.now old.rows c.args.job c.args.at c.args.now =
    simp to_z-of_z at (subst (λ (r : List JobRow). TakesStart c.args.table.now r c.args.job (to_z w64 (of_z w64 c.args.at)) (to_z w64 (of_z w64 c.args.now))) c.deref.ensures.value told) in
    let opened : c.opened-row.result ≡ opened_row c.args.at c.args.now c.index.result.now = simp to_z-of_z at c.opened-row.ensures in
    subst (λ (m : Launches). Applies c.args.table.now m.rows (Start c.args.job c.args.at c.args.now) c.put.new.self.rows) c.self.view_is
    (start_applies c.args.table.now old.rows c.put.new.self.rows c.args.job c.args.at c.args.now c.index.result.now c.index.result.now c.opened-row.result takes c.index.ensures opened
    (c.put.ensures.rows ∙ ap (λ (r : List JobRow). slice_set r c.args.job c.opened-row.result) (sym rows_are)))
