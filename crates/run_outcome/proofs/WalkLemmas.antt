-- Walks end quietly, at the last minute that was drained and at the instant to which they go.
use Rattle.std.proofs.Common.{◌≡◌, ℕ, zero, suc, ◌≤◌, List, ◌++◌, ℤ, ◌≤ℤ◌, sym, inl, subst, arith}
use Rattle.std.specs.Int.{int_min}
use Rattle.std.proofs.lemmas.Int.{ints, clamps, by_lt_z}
use Rattle.zone_minutes.specs.Window.{IsInWindow}
use Rattle.due_set.specs.Table.{Table}
use Rattle.history.specs.Book.{Row}
use Rattle.script_semantics.specs.Settling.{AsksNothing, AsksNothingUntil, Walks, WalksIn, coordinator}
use Rattle.script_semantics.specs.Situation.{Situation}
use Rattle.run_outcome.proofs.PartLemmas.{drains_come, settles_come}
use Rattle.run_outcome.proofs.SpanLemmas.{Spans, back_of, came, front_of}
use Rattle.run_outcome.proofs.QuietDrainLemmas.{IsLed, drained_leads, settled_leads}

-- the last minute that was drained
pub record EndsLed (members : ℕ) (table : Table) (who : ℕ) (above to : ℤ) (after : Situation) : Type 0 where
  pub minute : ℤ
  pub since : above ≤ℤ minute
  pub within : minute ≤ℤ to
  pub led : IsLed members table who minute after
  pub rests : AsksNothingUntil table minute to (after.standing.replicas who)

-- it is quiet at an instant up to which it asks for nothing
pub led_until : (members : ℕ) (table : Table) (who : ℕ) (above to : ℤ) (after : Situation) → EndsLed members table who above to after → IsLed members table who to after
led_until members table who above to after ends =
    let low = ends.within in
    let quiet = ends.led.quiet in
    let asks : AsksNothing table to (after.standing.replicas who) =
    by_lt_z ends.minute to
    (λ before. ends.rests to before (omega (arith, ints)))
    (λ not_before. let same : ends.minute ≡ to = omega (arith, ints, low, not_before) in subst (λ t. AsksNothing table t (after.standing.replicas who)) same quiet.rests) in
    record {
      leads = ends.led.leads;
      faultless = ends.led.faultless;
      quiet = record { free = quiet.free; answered = quiet.answered; rests = asks; caught_up = quiet.caught_up };
    }

walked_in : (minutes members : ℕ) (table : Table) (who : ℕ) (above to : ℤ) (book rows : List Row) (situation after : Situation) → IsInWindow table.window to → table.window.from.0 ≤ℤ above → above ≤ℤ to
    → IsLed members table who above situation → Spans members table book rows situation after → WalksIn minutes members table who above to situation rows after → EndsLed members table who above to after
walked_in zero members table who above to book rows situation after inside from low led spans walks = record {
  minute = above;
  since = omega (arith, ints);
  within = low;
  led = subst (IsLed members table who above) (sym walks.stays.is) led;
  rests = subst (λ (here : Situation). AsksNothingUntil table above to (here.standing.replicas who)) (sym walks.stays.is) walks.is_quiet;
}
walked_in (suc more) members table who above to book rows situation after inside from low led spans (minute, next, walks) =
    let later = next.later in
    let high = next.within in
    let before = inside.before in
    let within : IsInWindow table.window minute = record { since = omega (arith, ints, from, later); before = omega (arith, ints, high, before) } in
    let middle = came members table book walks.front situation walks.middle spans.begins (drains_come members table who minute situation walks.front walks.middle walks.one) in
    let drained = drained_leads 0 members table who minute book walks.front situation walks.middle within (inl led.leads) led.faultless
    (front_of members table book walks.front walks.back rows situation walks.middle after walks.parts middle spans) walks.one in
    let ends = walked_in more members table who minute to (book ++ walks.front) walks.back walks.middle after inside (within.since) high drained
    (back_of members table book walks.front walks.back rows situation walks.middle after walks.parts middle spans) walks.two in
    let since = ends.since in
    record { minute = ends.minute; since = omega (arith, ints, later, since); within = ends.within; led = ends.led; rests = ends.rests }

pub walked_leads : (members : ℕ) (table : Table) (to : ℤ) (book rows : List Row) (situation after : Situation) → 1 ≤ members → IsInWindow table.window to → table.window.from.0 ≤ℤ situation.latest
    → Spans members table book rows situation after → Walks members table to situation rows after → EndsLed members table (coordinator members situation) (int_min situation.latest to) to after
walked_leads members table to book rows situation after some inside from spans walks =
    let at = int_min situation.latest to in
    let since = inside.since in
    let before = inside.before in
    let within : IsInWindow table.window at = record { since = omega (arith, ints, clamps, from, since); before = omega (arith, ints, clamps, before) } in
    let middle = came members table book walks.front situation walks.middle spans.begins (settles_come members table at situation walks.front walks.middle walks.one) in
    let led = settled_leads members table at book walks.front situation walks.middle some within
    (front_of members table book walks.front walks.back rows situation walks.middle after walks.parts middle spans) walks.one in
    walked_in walks.two.0 members table (coordinator members situation) at to (book ++ walks.front) walks.back walks.middle after inside within.since (omega (arith, ints, clamps)) led
    (back_of members table book walks.front walks.back rows situation walks.middle after walks.parts middle spans) walks.two.1
