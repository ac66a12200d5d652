use Rattle.std.proofs.Common.{◌≡◌, ◌∙◌, Some, ap, sym}
use Rattle.std.specs.Prelude.{slice_get, unwrap_or}
use Rattle.cluster_sched.specs.declared.row.SchedRow.{SchedRow}
use Rattle.cluster_sched.proofs.ArrivalLemmas.{Arrives-told}
use Rattle.cluster_sched.proofs.LedgerLemmas.{row_eq}
use Rattle.cluster_sched.proofs.ledger.Ledger.arrive.Goals as goal

pub returns-clause-arrives : goal.returns-clause-arrives
returns-clause-arrives c =
    let row = c.in-Some.row in
    let called : slice_get c.args.self.now.late c.args.late ≡ Some row = sym c.late_row.ensures ∙ c.in-Some.is in
    let told : c.eq.result ≡ row_eq (unwrap_or c.find-found.result row) row = c.eq.ensures ∙ ap (λ (first : SchedRow). row_eq first row) c.unwrap_or.ensures in
    rw called (Arrives-told c.args.self.now c.hold.new.self row c.find-found.result c.eq.result c.in_ok-hold.ensures.ok told)
