use Rattle.std.proofs.Common.{rules, of_calls, ◌≡◌, length, ap, arith}
use Rattle.std.proofs.lemmas.Fn.{always_returns_same}
use Rattle.jiff_core.proofs.SignedLemmas.{signed_arith}
use Rattle.zone_minutes.specs.Zone.{Zone, kept_source}
use Rattle.zone_minutes.proofs.RunLemmas.{has_ended, IsPlaceOf-found, IsRunAt-place}
use Rattle.zone_minutes.proofs.zone.ZoneRuns.run_at.Goals as goal

pub index-requires : goal.index-requires
index-requires c =
    let window = c.self.inside.window in
    let from : window.from.0 ≡ c.args.self.now.from = ap (λ (zone : Zone). zone.from) c.self.view_is in
    let until : window.until.0 ≡ c.args.self.now.until = ap (λ (zone : Zone). zone.until) c.self.view_is in
    let place = IsPlaceOf-found (kept_source c.self.inside.source) window c.self.inside.runs.items c.as_slice.result.now c.partition_point-at.result c.args.t.0 c.self.invariant.1 c.as_slice.ensures.value
    (omega (arith, signed_arith, from)) (omega (arith, signed_arith, until)) c.partition_point-at.ensures.bound
    (c.partition_point-at.ensures.partitioned (has_ended c.args.t.0) (always_returns_same _ _ _ (λ a r f k. search (rules, of_calls)))) in
    omega (arith, place.below, c.as_slice.ensures.len, ap length c.as_slice.ensures.value)

pub returns-clause-run : goal.returns-clause-run
returns-clause-run c =
    let source = kept_source c.self.inside.source in
    let window = c.self.inside.window in
    let from : window.from.0 ≡ c.args.self.now.from = ap (λ (zone : Zone). zone.from) c.self.view_is in
    let until : window.until.0 ≡ c.args.self.now.until = ap (λ (zone : Zone). zone.until) c.self.view_is in
    let place = IsPlaceOf-found source window c.self.inside.runs.items c.as_slice.result.now c.partition_point-at.result c.args.t.0 c.self.invariant.1 c.as_slice.ensures.value
    (omega (arith, signed_arith, from)) (omega (arith, signed_arith, until)) c.partition_point-at.ensures.bound
    (c.partition_point-at.ensures.partitioned (has_ended c.args.t.0) (always_returns_same _ _ _ (λ a r f k. search (rules, of_calls)))) in
    rw (← c.self.view_is) (IsRunAt-place source window c.self.inside.runs.items c.partition_point-at.result c.args.t.0 c.index.result.now c.self.invariant.1 place c.index.ensures)
