use Rattle.std.proofs.Common.{◌≡◌, ℕ, ◌+◌, ℤ, pos, ◌+ℤ◌, ◌≤ℤ◌, to_z, of_z, unsigned_abs, w64, arith}
use Rattle.std.proofs.lemmas.Int.{ints}
use Rattle.due_set.proofs.CountLemmas.{CountsTo-all, CountsTo-next, CountsTo-start, left_falls}
use Rattle.due_set.proofs.scan.count_due.Goals as goal

pub loop-at-init : goal.loop-at-init
loop-at-init c =
    let window = c.args.window in
    let limits = c.requires.limits in
    let minute = c.first_minute-minute in
    let upto : pos minute.result ≤ℤ window.from.0 = (minute.ensures.first window.from.0 (record { since = omega (arith, ints); before = limits.ordered })).0 tt in
    let minute_is : pos minute.result ≡ window.from.0 = omega (arith, ints, minute.ensures.since, upto) in
    CountsTo-start c.args.fields.now c.args.zone.now.source window.from.0 window.until.0 minute.result minute_is limits.ordered

pub loop-at-smaller : goal.loop-at-smaller
loop-at-smaller c =
    let at : ℤ = c.in-Some.at.0 in
    let next : ℕ = unsigned_abs (to_z w64 (of_z w64 at)) + 1 in
    let since : pos c.loop-at.minute ≤ℤ at = c.in-Some.ensures.found.since in
    let limits = c.requires.limits in
    let next_is : pos next ≡ at +ℤ pos 1 = omega (arith, ints, since, c.in-Some.ensures.before, limits.until) in
    left_falls c.args.window.until.0 at c.loop-at.minute next since c.in-Some.ensures.before next_is

pub loop-at-preserved : goal.loop-at-preserved
loop-at-preserved c =
    let at : ℤ = c.in-Some.at.0 in
    let next : ℕ = unsigned_abs (to_z w64 (of_z w64 at)) + 1 in
    let since : pos c.loop-at.minute ≤ℤ at = c.in-Some.ensures.found.since in
    let limits = c.requires.limits in
    let next_is : pos next ≡ at +ℤ pos 1 = omega (arith, ints, since, c.in-Some.ensures.before, limits.until) in
    CountsTo-next c.args.fields.now c.args.zone.now.source c.args.window.from.0 c.args.window.until.0 at c.loop-at.minute c.loop-at.count next
    c.loop-at.invariant c.in-Some.ensures.found c.in-Some.ensures.before next_is

pub returns : goal.returns
returns c =
    CountsTo-all c.args.fields.now c.args.zone.now.source c.args.window.from.0 c.args.window.until.0 c.loop-at.minute c.loop-at.count c.loop-at.invariant c.in_default.ensures.none
