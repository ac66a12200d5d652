use Rattle.std.proofs.Common.{◌≡◌, ◌≢◌, pos, FitsSigned, w16, to_z, of_z, sym, ap, ◌∙◌, arith}
use Rattle.std.proofs.lemmas.Int.{to_z-of_z, of_z-to_z}
use Rattle.jiff.specs.Words.{plain_zone}
use Rattle.jiff_core.proofs.SignedLemmas.{signed_arith}
use Rattle.zone_minutes.proofs.RunLemmas.{IsListed-first, IsListed-same, IsListed-change, IsListed-end}
use Rattle.zone_minutes.proofs.listing.list_runs.Goals as goal

pub steady-init : goal.steady-init
steady-init c =
    let ahead = c.ahead_at-ahead.result in
    let fits : FitsSigned w16 ahead = omega (arith, signed_arith, c.ahead_at-ahead.ensures.range) in
    rw (to_z-of_z w16 ahead fits, c.new-runs.ensures.items) (
      c.steady_end-minute.ensures.inside,
      IsListed-first (plain_zone c.args.zone.now) (pos c.args.from) (pos c.args.until) (pos c.steady_end-minute.result) ahead
          c.ahead_at-ahead.ensures.range c.ahead_at-ahead.ensures.local (omega (arith, signed_arith, c.steady_end-minute.ensures.later)) c.steady_end-minute.ensures.steady,
    )

pub steady-preserved-in_ok-push : goal.steady-preserved-in_ok-push
steady-preserved-in_ok-push c =
    let next = c.ahead_at-next.result in
    let ahead = to_z w16 c.steady.ahead-bits in
    let fits : FitsSigned w16 next = omega (arith, signed_arith, c.ahead_at-next.ensures.range) in
    let other : next ≢ ahead = λ e. c.if-next-ahead.true (ap (of_z w16) e ∙ of_z-to_z w16 c.steady.ahead-bits (omega arith)) in
    rw (to_z-of_z w16 next fits, c.in_ok-push.ensures.items) (
      c.steady_end-end.ensures.inside,
      IsListed-change (plain_zone c.args.zone.now) (pos c.args.from) (pos c.args.until) (pos c.steady.start) (pos c.steady.minute) (pos c.steady_end-end.result) ahead next
          c.steady.runs.items c.make_run.result c.steady.invariant.1 c.make_run.ensures.from c.make_run.ensures.until c.make_run.ensures.ahead
          c.ahead_at-next.ensures.local c.ahead_at-next.ensures.range other (omega (arith, signed_arith, c.steady_end-end.ensures.later)) c.steady_end-end.ensures.steady,
    )

pub steady-preserved : goal.steady-preserved
steady-preserved c =
    let next = c.ahead_at-next.result in
    let ahead = to_z w16 c.steady.ahead-bits in
    let fits : FitsSigned w16 next = omega (arith, signed_arith, c.ahead_at-next.ensures.range) in
    let same : next ≡ ahead = sym (to_z-of_z w16 next fits) ∙ ap (to_z w16) c.if-next-ahead.false in (
      c.steady_end-end.ensures.inside,
      IsListed-same (plain_zone c.args.zone.now) (pos c.args.from) (pos c.args.until) (pos c.steady.start) (pos c.steady.minute) (pos c.steady_end-end.result) ahead
          c.steady.runs.items c.steady.invariant.1 (rw (← same) c.ahead_at-next.ensures.local) (omega (arith, signed_arith, c.steady_end-end.ensures.later)) c.steady_end-end.ensures.steady,
    )

pub returns : goal.returns
returns c =
    let ends : c.steady.minute ≡ c.args.until = omega (arith, c.steady.invariant.0, c.steady-test.false) in
    let listed = rw ends at c.steady.invariant.1 in
    rw c.in_ok-push-2.ensures.items
    (IsListed-end (plain_zone c.args.zone.now) (pos c.args.from) (pos c.args.until) (pos c.steady.start) (to_z w16 c.steady.ahead-bits) c.steady.runs.items c.make_run-2.result listed
    c.make_run-2.ensures.from c.make_run-2.ensures.until c.make_run-2.ensures.ahead)
