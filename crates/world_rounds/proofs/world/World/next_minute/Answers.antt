use Rattle.std.proofs.Common.{◌≡◌, ◌<◌, pos, ◌+ℤ◌, ◌≤ℤ◌, true, false, sym, ◌∙◌, subst, arith, to_z, of_z, w64}
use Rattle.std.specs.Prelude.{FitsSigned}
use Rattle.std.proofs.lemmas.Int.{ints, to_z-of_z}
use Rattle.script_semantics.specs.Settling.{AsksNothing, IsNextMinute}
use Rattle.world_rounds.specs.Quiet.{AnswersFor}
use Rattle.world_rounds.proofs.WalkLemmas.{minute_found, rests_on}
use Rattle.world_rounds.proofs.world.World.next_minute.Goals as goal

pub returns-then-not-asks_nothing-clause-found : goal.returns-then-not-asks_nothing-clause-found
returns-then-not-asks_nothing-clause-found g c =
    let limits = c.requires.world.is.ahead.at.sound.limits in
    let end : pos c.number_behind-end.result ≡ c.args.to.0 +ℤ pos 1 = c.number_behind-end.ensures in
    let below : c.minutes.number < c.number_behind-end.result = c.minutes-test.true in
    let within : pos c.minutes.number ≤ℤ c.args.to.0 = omega (arith, ints, end, below) in
    let fits : FitsSigned w64 c.from.result = omega (arith, ints, c.from.ensures, within, c.requires.within.before, limits.until) in
    let value : to_z w64 (of_z w64 c.from.result) ≡ pos c.minutes.number = to_z-of_z w64 c.from.result fits ∙ c.from.ensures in
    let tells : AnswersFor g.D.Disk.view c.args.table.now (λ situation. AsksNothing c.args.table.now (pos c.minutes.number) (situation.standing.replicas c.args.who)) c.args.self.now false =
    subst (λ answer. AnswersFor g.D.Disk.view c.args.table.now (λ situation. AsksNothing c.args.table.now (pos c.minutes.number) (situation.standing.replicas c.args.who)) c.args.self.now answer) c.if-not-asks_nothing.true
    (subst (λ at. AnswersFor g.D.Disk.view c.args.table.now (λ situation. AsksNothing c.args.table.now at (situation.standing.replicas c.args.who)) c.args.self.now c.asks_nothing.result) value c.asks_nothing.ensures) in
    let low : pos 0 ≤ℤ c.args.above.0 = omega (arith, ints, limits.since, c.requires.inside.since) in
    λ situation here.
    subst (λ minute. IsNextMinute c.args.table.now (situation.standing.replicas c.args.who) c.args.above.0 c.args.to.0 minute) (sym value)
    (minute_found g.D.Disk.view c.args.table.now c.args.self.now c.args.who c.args.above.0 c.args.to.0 c.number_behind-first.result c.minutes.number c.number_behind-first.ensures low c.minutes.invariant.1 c.minutes.invariant.0 within
    tells situation here)

pub minutes-preserved : goal.minutes-preserved
minutes-preserved g c =
    let limits = c.requires.world.is.ahead.at.sound.limits in
    let end : pos c.number_behind-end.result ≡ c.args.to.0 +ℤ pos 1 = c.number_behind-end.ensures in
    let below : c.minutes.number < c.number_behind-end.result = c.minutes-test.true in
    let within : pos c.minutes.number ≤ℤ c.args.to.0 = omega (arith, ints, end, below) in
    let fits : FitsSigned w64 c.from.result = omega (arith, ints, c.from.ensures, within, c.requires.within.before, limits.until) in
    let value : to_z w64 (of_z w64 c.from.result) ≡ pos c.minutes.number = to_z-of_z w64 c.from.result fits ∙ c.from.ensures in
    let tells : AnswersFor g.D.Disk.view c.args.table.now (λ situation. AsksNothing c.args.table.now (pos c.minutes.number) (situation.standing.replicas c.args.who)) c.args.self.now true =
    subst (λ answer. AnswersFor g.D.Disk.view c.args.table.now (λ situation. AsksNothing c.args.table.now (pos c.minutes.number) (situation.standing.replicas c.args.who)) c.args.self.now answer) c.if-not-asks_nothing.false
    (subst (λ at. AnswersFor g.D.Disk.view c.args.table.now (λ situation. AsksNothing c.args.table.now at (situation.standing.replicas c.args.who)) c.args.self.now c.asks_nothing.result) value c.asks_nothing.ensures) in
    let later : c.minutes.number < c.next_to_look_at-number.result = c.next_to_look_at-number.ensures.later in
    let from = c.minutes.invariant.0 in (
      omega (arith, from, later),
      rests_on g.D.Disk.view c.args.table.now c.args.self.now c.args.who c.number_behind-first.result c.minutes.number c.next_to_look_at-number.result c.minutes.invariant.1 tells c.next_to_look_at-number.ensures.none,
    )
