-- Where drains and walks end.
use Rattle.std.proofs.Common.{◌≡◌, ℕ, zero, suc, List, [], ℤ, ◌≤ℤ◌, sym, subst, arith}
use Rattle.std.specs.Int.{int_min}
use Rattle.std.proofs.lemmas.Int.{ints, clamps}
use Rattle.due_set.specs.Table.{Table}
use Rattle.history.specs.Book.{Row}
use Rattle.script_semantics.specs.Settling.{AsksNothingUntil, Drains, DrainsIn, IsQuiet, Settles, Walks, WalksIn, coordinator}
use Rattle.script_semantics.specs.Situation.{Situation}
use Rattle.script_semantics.proofs.StartLemmas.{same_coordinator}

pub drained_in : (rounds members : ℕ) (table : Table) (who : ℕ) (at : ℤ) (situation : Situation) (rows : List Row) (after : Situation)
    → DrainsIn rounds members table who at situation rows after → IsQuiet members table who at after
drained_in zero members table who at situation rows after drains = subst (IsQuiet members table who at) (sym drains.stays.is) drains.is_quiet
drained_in (suc more) members table who at situation rows after drains =
    let parts = drains.goes_on in
    drained_in more members table who at parts.middle parts.back after parts.two

pub drained : (members : ℕ) (table : Table) (who : ℕ) (at : ℤ) (situation : Situation) (rows : List Row) (after : Situation)
    → Drains members table who at situation rows after → IsQuiet members table who at after
drained members table who at situation rows after (rounds, drains) = drained_in rounds members table who at situation rows after drains

no_round_in : (rounds members : ℕ) (table : Table) (who : ℕ) (at : ℤ) (situation after : Situation) (rows : List Row)
    → IsQuiet members table who at situation → DrainsIn rounds members table who at situation rows after → (rows ≡ []) × (after ≡ situation)
no_round_in zero members table who at situation after rows quiet drains = (drains.stays.none, drains.stays.is)
no_round_in (suc more) members table who at situation after rows quiet drains = absurd (drains.not_yet quiet)

pub no_round : (members : ℕ) (table : Table) (who : ℕ) (at : ℤ) (situation after : Situation) (rows : List Row)
    → IsQuiet members table who at situation → Drains members table who at situation rows after → (rows ≡ []) × (after ≡ situation)
no_round members table who at situation after rows quiet (rounds, drains) = no_round_in rounds members table who at situation after rows quiet drains

pub settled : (members : ℕ) (table : Table) (at : ℤ) (situation after : Situation) (rows : List Row)
    → Settles members table at situation rows after → (who : ℕ) × IsQuiet members table who at after
settled members table at situation after rows settles =
    let led = settles.two in
    let who = coordinator members settles.middle in
    (who, drained members table who at led.middle led.back after led.two)

-- the minute at which a walk ends
record Ends (members : ℕ) (table : Table) (who : ℕ) (to : ℤ) (after : Situation) : Type 0 where
  minute : ℤ
  within : minute ≤ℤ to
  quiet : IsQuiet members table who minute after
  rests : AsksNothingUntil table minute to (after.standing.replicas who)

ended : (minutes members : ℕ) (table : Table) (who : ℕ) (above to : ℤ) (situation : Situation) (rows : List Row) (after : Situation)
    → IsQuiet members table who above situation → above ≤ℤ to
    → WalksIn minutes members table who above to situation rows after → Ends members table who to after
ended zero members table who above to situation rows after quiet within walks =
    record {
      minute = above;
      within = within;
      quiet = subst (IsQuiet members table who above) (sym walks.stays.is) quiet;
      rests = subst (λ here. AsksNothingUntil table above to (here.standing.replicas who)) (sym walks.stays.is) walks.is_quiet;
    }
ended (suc more) members table who above to situation rows after quiet within (minute, next, parts) =
    ended more members table who minute to parts.middle parts.back after
    (drained members table who minute situation parts.front parts.middle parts.one) next.within parts.two

at_most : (latest to : ℤ) → int_min latest to ≤ℤ to
at_most latest to = omega (arith, ints, clamps)

pub walked : (members : ℕ) (table : Table) (to : ℤ) (situation after : Situation) (rows : List Row)
    → Walks members table to situation rows after
    → (who : ℕ) × (minute : ℤ) × (minute ≤ℤ to) × IsQuiet members table who minute after
    × AsksNothingUntil table minute to (after.standing.replicas who)
walked members table to situation after rows walks =
    let at = int_min situation.latest to in
    let start = walks.one in
    let led = start.two in
    let quiet = subst (λ who. IsQuiet members table who at walks.middle) (same_coordinator members situation start.front start.middle start.one)
    (drained members table (coordinator members start.middle) at led.middle led.back walks.middle led.two) in
    let ends = ended walks.two.0 members table (coordinator members situation) at to walks.middle walks.back after quiet (at_most situation.latest to) walks.two.1 in
    (coordinator members situation, ends.minute, ends.within, ends.quiet, ends.rests)
