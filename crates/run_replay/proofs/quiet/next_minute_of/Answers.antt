use Rattle.std.proofs.Common.{◌≡◌, ◌<◌, pos, ◌+ℤ◌, ◌≤ℤ◌, true, false, sym, ◌∙◌, subst, arith, to_z, of_z, w64}
use Rattle.std.specs.Prelude.{FitsSigned}
use Rattle.std.proofs.lemmas.Int.{ints, to_z-of_z}
use Rattle.script_semantics.specs.Settling.{AsksNothing, IsNextMinute}
use Rattle.run_replay.proofs.MinuteLemmas.{next_found}
use Rattle.run_replay.proofs.quiet.next_minute_of.Goals as goal

pub returns-then-not-asks_nothing-clause-found : goal.returns-then-not-asks_nothing-clause-found
returns-then-not-asks_nothing-clause-found c =
    let limits = c.requires.limits in
    let end : pos c.number_after-end.result ≡ c.args.to.0 +ℤ pos 1 = c.number_after-end.ensures in
    let below : c.minutes.minute < c.number_after-end.result = c.minutes-test.true in
    let within : pos c.minutes.minute ≤ℤ c.args.to.0 = omega (arith, ints, end, below) in
    let fits : FitsSigned w64 c.from.result = omega (arith, ints, c.from.ensures, within, c.requires.within.before, limits.until) in
    let value : to_z w64 (of_z w64 c.from.result) ≡ pos c.minutes.minute = to_z-of_z w64 c.from.result fits ∙ c.from.ensures in
    let low : pos 0 ≤ℤ c.args.above.0 = omega (arith, ints, limits.since, c.requires.inside.since) in
    subst (λ minute. IsNextMinute c.args.table.now c.args.replica.now.state c.args.above.0 c.args.to.0 minute) (sym value)
    (next_found c.args.table.now c.args.above.0 c.args.to.0 c.number_after-first.result c.minutes.minute c.args.replica.now.state c.number_after-first.ensures low c.minutes.invariant c.minutes.auto.minute within
    (λ asks.
    let rests : c.asks_nothing.result ≡ true = c.asks_nothing.ensures.1 (subst (λ at. AsksNothing c.args.table.now at c.args.replica.now.state) (sym value) asks) in
    let busy : c.asks_nothing.result ≡ false = c.if-not-asks_nothing.true in
    cc))
