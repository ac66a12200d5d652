use Rattle.std.proofs.Common.{◌≡◌, arith, ◌+ℤ◌, FitsSigned, w16, w64, to_z, of_z, ◌∙◌}
use Rattle.std.proofs.lemmas.Int.{to_z-of_z}
use Rattle.jiff_core.proofs.SignedLemmas.{signed_arith}
use Rattle.zone_minutes.proofs.RunLemmas.{IsLocal-run}
use Rattle.zone_minutes.proofs.zone.ZoneRuns.local.Goals as goal

pub returns-clause-local : goal.returns-clause-local
returns-clause-local c =
    let t = c.args.t.0 in
    let run = c.run_at.result in
    let limits = c.run_at.ensures.limits in
    let is_run = c.run_at.ensures.run in
    let small = run.ahead_in in
    let fits : FitsSigned w16 run.ahead = omega (arith, signed_arith) in
    let ahead : c.from.result ≡ run.ahead = c.from.ensures ∙ to_z-of_z w16 run.ahead fits in
    let sum : to_z w64 (of_z w64 (to_z w64 (of_z w64 t) +ℤ to_z w64 (of_z w64 c.from.result))) ≡ t +ℤ run.ahead = omega (arith, signed_arith) in
    rw sum (IsLocal-run c.args.self.now t run c.run_at.ensures.read is_run)
