use Rattle.std.proofs.Common.{◌≡◌, ◌∙◌, Some, List, length, FitsSigned, w64, ap, sym, subst}
use Rattle.std.specs.Prelude.{slice_set}
use Rattle.std.proofs.lemmas.Int.{to_z-of_z}
use Rattle.paxos_base.specs.declared.rows.JobRow.{JobRow}
use Rattle.launch_machine.specs.Clerk.{TakesTable, adopted_row, with_row}
use Rattle.launch_machine.specs.Machine.{AreBeside, IsStartBeside, Launches, StandsFor}
use Rattle.launch_machine.proofs.VersionRows.{adopted_machine, own_none, own_put}
use Rattle.launch_machine.proofs.machine.Machine.put_version.Goals as goal

pub set_starts-requires-clause-own : goal.set_starts-requires-clause-own
set_starts-requires-clause-own c =
    let old : Launches = record { rows = c.self.inside.rows.items; starts = c.self.inside.starts; calls = c.self.inside.calls } in
    let stands : StandsFor c.args.table.now old = subst (StandsFor c.args.table.now) (sym c.self.view_is) c.requires.stands in
    own_none c.args.table.now old.rows old.starts stands.rows stands.starts

pub returns-clause-stands : goal.returns-clause-stands
returns-clause-stands c =
    let table = c.args.table.now in
    let now_fits : FitsSigned w64 c.args.now = c.ranges.now in
    let rows : List JobRow = c.self.inside.rows.items in
    let rows_are : rows ≡ c.args.self.now.rows = ap (λ (m : Launches). m.rows) c.self.view_is in
    let old : Launches = record { rows = rows; starts = c.self.inside.starts; calls = c.self.inside.calls } in
    let stands : StandsFor table old = subst (StandsFor table) (sym c.self.view_is) c.requires.stands in
    let takes : TakesTable table rows c.args.version c.args.now = subst (λ (r : List JobRow). TakesTable table r c.args.version c.args.now) (sym rows_are) c.requires.takes in
    let adopted : c.adopted.result ≡ adopted_row c.args.version c.args.now c.index.result.now = simp to_z-of_z at c.adopted.ensures in
    let after : slice_set rows c.jobs-own.result c.adopted.result ≡ with_row (adopted_row c.args.version c.args.now) rows (length table.jobs) =
    own_put table rows c.jobs-own.result c.args.version c.args.now c.index.result.now c.index.result.now c.adopted.result stands.rows c.jobs-own.ensures.count c.index.ensures adopted in
    let beside : AreBeside (IsStartBeside table (record { version = c.args.version; since = Some c.args.now })) c.deref.result.now c.set_starts.new.starts = simp to_z-of_z at c.set_starts.ensures in
    let known = subst (λ (r : List JobRow). AreBeside (IsStartBeside table (record { version = c.args.version; since = Some c.args.now })) r c.set_starts.new.starts) (c.deref.ensures.value ∙ after) beside in
    subst (λ (r : List JobRow). StandsFor table (record { rows = r; starts = c.set_starts.new.starts; calls = c.self.inside.calls })) (sym after)
    (adopted_machine table rows c.self.inside.starts c.set_starts.new.starts c.self.inside.calls c.args.version c.args.now stands takes known)
