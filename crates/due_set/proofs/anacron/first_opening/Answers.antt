use Rattle.std.proofs.Common.{◌≡◌, ◌+◌, ℤ, pos, ◌+ℤ◌, FitsSigned, to_z, of_z, w64, arith}
use Rattle.std.proofs.lemmas.Int.{ints, to_z-of_z}
use Rattle.due_set.specs.Day.{IsShownFrom, OpensAfter, OpensAtNoneOf}
use Rattle.due_set.proofs.DayLemmas.{OpensAtNone-date, OpensAtNone-joined, OpensFirst-after}
use Rattle.due_set.proofs.anacron.first_opening.Goals as goal

pub returns-in-Some-clause-found : goal.returns-in-Some-clause-found
returns-in-Some-clause-found c =
    let shown : ℤ = c.local_of-shown.result in
    let fits : FitsSigned w64 shown = omega (arith, ints, c.local_of-shown.ensures.low, c.local_of-shown.ensures.high) in
    let shows : IsShownFrom c.args.zone.now.source (pos c.loop-minute.minute) c.minutes_of_date-count.result shown =
    c.minutes_of_date-count.ensures.shown shown c.local_of-shown.ensures.local in
    let first : OpensAfter c.args.opening.now shown c.in-Some.steps = simp to_z-of_z at c.in-Some.ensures.found in
    let at : ℤ = to_z w64 (of_z w64 c.from.result) in
    let at_is : at ≡ pos c.loop-minute.minute +ℤ pos c.in-Some.steps = omega (arith, ints) in
    OpensFirst-after c.args.opening.now c.args.zone.now.source c.args.window.from.0 (pos c.loop-minute.minute) at c.minutes_of_date-count.result c.in-Some.steps shown
    c.loop-minute.invariant.none shows c.in-Some.ensures.before at_is first

pub loop-minute-preserved : goal.loop-minute-preserved
loop-minute-preserved c =
    let shown : ℤ = c.local_of-shown.result in
    let count = c.minutes_of_date-count.result in
    let fits : FitsSigned w64 shown = omega (arith, ints, c.local_of-shown.ensures.low, c.local_of-shown.ensures.high) in
    let shows : IsShownFrom c.args.zone.now.source (pos c.loop-minute.minute) count shown =
    c.minutes_of_date-count.ensures.shown shown c.local_of-shown.ensures.local in
    let none : OpensAtNoneOf c.args.opening.now shown count = simp to_z-of_z at c.in_default.ensures.none in
    let sum : pos (c.loop-minute.minute + count) ≡ pos c.loop-minute.minute +ℤ pos count = omega (arith, ints) in
    record {
      since = omega (arith, ints, c.loop-minute.invariant.since);
      none = OpensAtNone-joined c.args.opening.now c.args.zone.now.source c.args.window.from.0 (pos c.loop-minute.minute) (pos (c.loop-minute.minute + count)) c.loop-minute.invariant.none
          (OpensAtNone-date c.args.opening.now c.args.zone.now.source (pos c.loop-minute.minute) (pos (c.loop-minute.minute + count)) count shown shows sum none);
    }
