-- Turns that lead from a part into another: what is whole or stops behind them is whole or stops in the first part. It is what a loop that
-- plays a part keeps.
use Rattle.std.proofs.Common.{ℕ, zero, suc, ℤ, List, [], ◌∷◌, ◌++◌, append_assoc, inl, inr, refl, sym, subst}
use Rattle.due_set.specs.Table.{Table}
use Rattle.history.specs.Book.{Row}
use Rattle.script_semantics.specs.Parts.{Then}
use Rattle.script_semantics.specs.Settling.{AsksNothingUntil, Drains, IsDrainRound, IsNextMinute, IsQuiet, WalksOn}
use Rattle.script_semantics.specs.Situation.{Situation}
use Rattle.journal_text.proofs.Determined.{EndAlike, drain_round_alike, drains_alike, same_minute}
use Rattle.run_audit.specs.Begins.{BeginsDrain, BeginsDrainRound, BeginsThen, BeginsWalkIn, BeginsWalkOn}
use Rattle.run_audit.proofs.BeginLemmas.{BeginsAsWhole, drain_begins, drain_round_begins}
use Rattle.run_audit.proofs.EndLemmas.{EndsThere, drain_ends, drain_round_ends}
use Rattle.run_audit.proofs.StopLemmas.{stops_second}
use Rattle.run_audit.specs.Played.{StopsIn}

-- the turns lead from the one part, in a situation, into the other
pub record Leads (members : ℕ) (begins : Situation → List Row → Type 0) (whole : Situation → List Row → Situation → Type 0) (situation : Situation)
    (done : List Row) (next : Situation → List Row → Type 0) (second : Situation → List Row → Situation → Type 0) (middle : Situation) : Type 1 where
  pub ends : (rest : List Row) (after : Situation) → second middle rest after → whole situation (done ++ rest) after
  pub stops : (Next : Row → Type 0) (rest : List Row) → StopsIn members next second Next middle rest → StopsIn members begins whole Next situation (done ++ rest)

-- no turn leads from a part into itself
pub leads_nowhere : (members : ℕ) (begins : Situation → List Row → Type 0) (whole : Situation → List Row → Situation → Type 0) (situation : Situation)
    → Leads members begins whole situation [] begins whole situation
leads_nowhere members begins whole situation = record { ends = λ rest after is. is; stops = λ Next rest is. is }

-- a whole part leads into the part behind it
pub leads_then : (members : ℕ) (begins : Situation → List Row → Type 0) (whole : Situation → List Row → Situation → Type 0)
    (next : Situation → List Row → Type 0) (second : Situation → List Row → Situation → Type 0) → BeginsAsWhole begins whole → EndsThere members begins whole
    → EndAlike members whole whole → (situation : Situation) (done : List Row) (middle : Situation) → whole situation done middle
    → Leads members (BeginsThen begins whole next) (Then whole second) situation done next second middle
leads_then members begins whole next second as_whole ends alike situation done middle is = record {
  ends = λ rest after two. record { front = done; middle = middle; back = rest; parts = refl; one = is; two = two };
  stops = λ Next rest stops. stops_second members begins whole next second Next as_whole ends alike situation done middle rest is stops;
}

-- one after another
pub leads_on : (members : ℕ) (first second third : Situation → List Row → Type 0) (one two three : Situation → List Row → Situation → Type 0)
    (situation : Situation) (done : List Row) (middle : Situation) (more : List Row) (last : Situation)
    → Leads members first one situation done second two middle → Leads members second two middle more third three last
    → Leads members first one situation (done ++ more) third three last
leads_on members first second third one two three situation done middle more last a b = record {
  ends = λ rest after is. subst (λ (l : List Row). one situation l after) (sym (append_assoc done more rest)) (a.ends (more ++ rest) after (b.ends rest after is));
  stops = λ Next rest is.
      subst (λ (l : List Row). StopsIn members first one Next situation l) (sym (append_assoc done more rest)) (a.stops Next (more ++ rest) (b.stops Next rest is));
}

module _ (members : ℕ) (table : Table) where
  -- ---- draining

  module _ (who : ℕ) (at : ℤ) where
    abbrev round_begins : Situation → List Row → Type 0
    round_begins = BeginsDrainRound members table who at

    abbrev round : Situation → List Row → Situation → Type 0
    round = IsDrainRound members table who at

    abbrev begins : Situation → List Row → Type 0
    begins = BeginsDrain members table who at

    abbrev whole : Situation → List Row → Situation → Type 0
    whole = Drains members table who at

    -- a round more, and what begins behind it
    begins_with : (situation : Situation) (rows : List Row) → (IsQuiet members table who at situation → ⊥) → BeginsThen round_begins round begins situation rows
        → begins situation rows
    begins_with situation rows busy (inl begun) = (1, (busy, inl begun))
    begins_with situation rows busy (inr into) = (
      suc into.two.0,
      (busy, inr (record { done = into.done; middle = into.middle; back = into.back; parts = into.parts; one = into.one; two = into.two.1 })),
    )

    -- of a drain with a turn, that turn is in its first round, or behind it
    into_round : (situation : Situation) (others : List Row) (row : Row) → begins situation (others ++ row ∷ [])
        → BeginsThen round_begins round begins situation (others ++ row ∷ [])
    into_round situation [] row (zero, none) = absurd cc
    into_round situation (other ∷ others) row (zero, none) = absurd cc
    into_round situation others row (suc more, (busy, inl begun)) = inl begun
    into_round situation others row (suc more, (busy, inr into)) =
        inr (record { done = into.done; middle = into.middle; back = into.back; parts = into.parts; one = into.one; two = (more, into.two) })

    -- a whole drain that isn't quiet at first has a round
    has_round : (situation : Situation) (rows : List Row) (after : Situation) → (IsQuiet members table who at situation → ⊥) → whole situation rows after
        → Then round whole situation rows after
    has_round situation rows after busy (zero, is) = absurd (busy is.is_quiet)
    has_round situation rows after busy (suc more, is) =
        let goes = is.goes_on in
        record { front = goes.front; middle = goes.middle; back = goes.back; parts = goes.parts; one = goes.one; two = (more, goes.two) }

    with_round : (situation : Situation) (rows : List Row) (after : Situation) → (IsQuiet members table who at situation → ⊥) → Then round whole situation rows after
        → whole situation rows after
    with_round situation rows after busy is = (
      suc is.two.0,
      record {
        not_yet = busy;
        goes_on = record { front = is.front; middle = is.middle; back = is.back; parts = is.parts; one = is.one; two = is.two.1 };
      },
    )

    -- where it isn't quiet, what stops within a round or behind it stops within the drain
    pub stops_in_round : (situation : Situation) (rows : List Row) (Next : Row → Type 0) → (IsQuiet members table who at situation → ⊥)
        → StopsIn members (BeginsThen round_begins round begins) (Then round whole) Next situation rows → StopsIn members begins whole Next situation rows
    stops_in_round situation rows Next busy stops = record {
      begun = begins_with situation rows busy stops.begun;
      not_whole = λ front more after is twins. stops.not_whole front more after (has_round situation front after busy is) twins;
      stuck = λ others row twins is begun. stops.stuck others row twins is (into_round situation others row begun);
    }

    -- **A round leads from a drain into it again.**
    pub round_leads : (situation : Situation) (done : List Row) (middle : Situation) → (IsQuiet members table who at situation → ⊥) → round situation done middle
        → Leads members begins whole situation done begins whole middle
    round_leads situation done middle busy is =
        let then = leads_then members round_begins round begins whole (drain_round_begins members table who at) (drain_round_ends members table who at)
        (drain_round_alike members table who at) situation done middle is in
        record {
          ends = λ rest after two. with_round situation (done ++ rest) after busy (then.ends rest after two);
          stops = λ Next rest stops. stops_in_round situation (done ++ rest) Next busy (then.stops Next rest stops);
        }

    -- where it is quiet the drain is whole
    pub quiet_ends : (situation : Situation) → IsQuiet members table who at situation → whole situation [] situation
    quiet_ends situation quiet = (zero, record { is_quiet = quiet; stays = record { none = refl; is = refl } })

  -- ---- walking

  module _ (who : ℕ) (to : ℤ) where
    abbrev walk_begins : ℤ → Situation → List Row → Type 0
    walk_begins above = BeginsWalkOn members table who above to

    abbrev walk : ℤ → Situation → List Row → Situation → Type 0
    walk above = WalksOn members table who above to

    abbrev minute_begins : ℤ → Situation → List Row → Type 0
    minute_begins minute = BeginsThen (BeginsDrain members table who minute) (Drains members table who minute) (walk_begins minute)

    abbrev minute_walk : ℤ → Situation → List Row → Situation → Type 0
    minute_walk minute = Then (Drains members table who minute) (walk minute)

    abbrev IsNext : Situation → (above minute : ℤ) → Type 0
    IsNext situation above minute = IsNextMinute table (situation.standing.replicas who) above to minute

    begins_at : (above minute : ℤ) (situation : Situation) (rows : List Row) → IsNext situation above minute → minute_begins minute situation rows
        → walk_begins above situation rows
    begins_at above minute situation rows next (inl drain) = (1, (minute, next, inl drain))
    begins_at above minute situation rows next (inr into) = (
      suc into.two.0,
      (
        minute,
        next,
        inr (record { done = into.done; middle = into.middle; back = into.back; parts = into.parts; one = into.one; two = into.two.1 }),
      ),
    )

    into_minute : (above minute : ℤ) (situation : Situation) (others : List Row) (row : Row) → IsNext situation above minute
        → walk_begins above situation (others ++ row ∷ []) → minute_begins minute situation (others ++ row ∷ [])
    into_minute above minute situation [] row next (zero, none) = absurd cc
    into_minute above minute situation (other ∷ others) row next (zero, none) = absurd cc
    into_minute above minute situation others row next (suc more, (now, first, begun)) =
        let same = same_minute table (situation.standing.replicas who) above to now minute first next in
        subst (λ (m : ℤ). minute_begins m situation (others ++ row ∷ [])) same (opened now begun)
      where
        opened : (now : ℤ) → BeginsThen (BeginsDrain members table who now) (Drains members table who now) (BeginsWalkIn more members table who now to) situation (others ++ row ∷ [])
            → minute_begins now situation (others ++ row ∷ [])
        opened now (inl drain) = inl drain
        opened now (inr into) =
            inr (record { done = into.done; middle = into.middle; back = into.back; parts = into.parts; one = into.one; two = (more, into.two) })

    has_minute : (above minute : ℤ) (situation : Situation) (rows : List Row) (after : Situation) → IsNext situation above minute → walk above situation rows after
        → minute_walk minute situation rows after
    has_minute above minute situation rows after next (zero, is) = absurd (next.asks (is.is_quiet minute next.later next.within))
    has_minute above minute situation rows after next (suc more, (now, first, goes)) =
        let same = same_minute table (situation.standing.replicas who) above to now minute first next in
        subst (λ (m : ℤ). minute_walk m situation rows after) same
        (record { front = goes.front; middle = goes.middle; back = goes.back; parts = goes.parts; one = goes.one; two = (more, goes.two) })

    with_minute : (above minute : ℤ) (situation : Situation) (rows : List Row) (after : Situation) → IsNext situation above minute
        → minute_walk minute situation rows after → walk above situation rows after
    with_minute above minute situation rows after next is = (
      suc is.two.0,
      (minute, next, record { front = is.front; middle = is.middle; back = is.back; parts = is.parts; one = is.one; two = is.two.1 }),
    )

    -- what stops within the drain of the next minute or behind it stops within the walk
    pub stops_in_minute : (above minute : ℤ) (situation : Situation) (rows : List Row) (Next : Row → Type 0) → IsNext situation above minute
        → StopsIn members (minute_begins minute) (minute_walk minute) Next situation rows → StopsIn members (walk_begins above) (walk above) Next situation rows
    stops_in_minute above minute situation rows Next next stops = record {
      begun = begins_at above minute situation rows next stops.begun;
      not_whole = λ front more after is twins. stops.not_whole front more after (has_minute above minute situation front after next is) twins;
      stuck = λ others row twins is begun. stops.stuck others row twins is (into_minute above minute situation others row next begun);
    }

    -- **The drain of the next minute leads from a walk into that which goes on from there.**
    pub minute_leads : (above minute : ℤ) (situation : Situation) (done : List Row) (middle : Situation) → IsNext situation above minute
        → Drains members table who minute situation done middle
        → Leads members (walk_begins above) (walk above) situation done (walk_begins minute) (walk minute) middle
    minute_leads above minute situation done middle next is =
        let then = leads_then members (BeginsDrain members table who minute) (Drains members table who minute) (walk_begins minute) (walk minute)
        (drain_begins members table who minute) (drain_ends members table who minute) (drains_alike members table who minute) situation done middle is in
        record {
          ends = λ rest after two. with_minute above minute situation (done ++ rest) after next (then.ends rest after two);
          stops = λ Next rest stops. stops_in_minute above minute situation (done ++ rest) Next next (then.stops Next rest stops);
        }

    -- where no later minute asks for anything the walk is whole
    pub walk_ends_there : (above : ℤ) (situation : Situation) → AsksNothingUntil table above to (situation.standing.replicas who) → walk above situation [] situation
    walk_ends_there above situation none = (zero, record { is_quiet = none; stays = record { none = refl; is = refl } })
