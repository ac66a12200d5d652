use Rattle.std.proofs.Common.{◌≡◌, ◌∙◌, ap}
use Rattle.std.specs.Map.{values_of}
use Rattle.cluster_sched.proofs.LedgerLemmas.{IsLookedUp-lookup}
use Rattle.cluster_sched.proofs.ledger.Ledger.find.Goals as goal

pub returns : goal.returns
returns c =
    let rows : values_of c.self.inside.rows.entries ≡ c.args.self.now.held = ap (λ v. v.held) c.self.view_is in
    let found = c.copied.ensures ∙ c.get.ensures.value in
    rw (found, ← rows) (IsLookedUp-lookup c.self.inside.rows.entries c.args.name c.self.invariant.0)
