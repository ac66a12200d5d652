-- Instants at which a zone's clock shows one date, and the first of them at which a job may open.
use Rattle.std.proofs.Common.{◌≡◌, ℕ, ◌+◌, ◌-◌, ◌<◌, ◌≤◌, ℤ, pos, ◌+ℤ◌, ◌≤ℤ◌, sym, ap, ◌∙◌, subst, arith}
use Rattle.std.proofs.lemmas.Int.{ints, by_lt_z}
use Rattle.zone_minutes.specs.Civil.{day_number, minute_of_day}
use Rattle.zone_minutes.specs.Run.{IsRunAt}
use Rattle.zone_minutes.specs.Zone.{Source, Zone, IsLocal, local_of}
use Rattle.zone_minutes.specs.declared.run.Run.{Run}
use Rattle.due_set.specs.Day.{IsShownFrom, Opens, OpensAfter, OpensAtNone, OpensAtNoneOf, OpensFirst, OpensOn}
use Rattle.due_set.specs.Matching.{rest_of_day}
use Rattle.due_set.specs.declared.anacron.Opening.{Opening}
use Rattle.due_set.proofs.DueLemmas.{IsLocal-is}
use Rattle.due_set.proofs.MatchingLemmas.{later_in_day, minute_of_day-below}
use Rattle.due_set.proofs.SteadyLemmas.{gap_of}

-- ---- one date

-- the minutes of a run up to the end of the day
pub IsShownFrom-run : (zone : Zone) (from : ℤ) (run : Run) (count : ℕ) (shown told : ℤ) → IsRunAt zone from run → IsLocal zone.source from shown
    → told ≡ from +ℤ run.ahead → (from +ℤ pos count) ≤ℤ run.until.0 → count ≤ rest_of_day told → IsShownFrom zone.source from count shown
IsShownFrom-run zone from run count shown told at local told_is within short = record {
  on = λ z read steps lt.
      let run_is = at.is z read in
      let here : local_of z from ≡ from +ℤ run.ahead = run_is.local from at.since at.before in
      let shown_is : shown ≡ local_of z from = IsLocal-is zone.source z from shown read local in
      let since : run.from.0 ≤ℤ from = at.since in
      let there : local_of z (from +ℤ pos steps) ≡ (from +ℤ pos steps) +ℤ run.ahead = run_is.local (from +ℤ pos steps) (omega (arith, ints)) (omega (arith, ints)) in
      omega (arith, ints);
  of_day =
      let run_is = at.is local.zone local.read in
      let here : local_of local.zone from ≡ from +ℤ run.ahead = run_is.local from at.since at.before in
      let same : told ≡ shown = told_is ∙ sym here ∙ sym local.is in
      let short_at : count ≤ rest_of_day shown = subst (λ (t : ℤ). count ≤ rest_of_day t) same short in
      let below = minute_of_day-below shown in
      omega arith;
}

-- ---- the civil minutes of one date

-- a job that may not open on the date
pub OpensAtNoneOf-date : (opening : Opening) (shown : ℤ) (count : ℕ) → minute_of_day shown + count ≤ 1440 → (OpensOn opening (day_number shown) → ⊥)
    → OpensAtNoneOf opening shown count
OpensAtNoneOf-date opening shown count of_day none steps lt opens =
    let on = later_in_day shown steps (omega arith) in
    none (subst (OpensOn opening) on.day opens.on)

-- a job that may not open any more on the day, or so soon
pub OpensAtNoneOf-late : (opening : Opening) (shown : ℤ) (count time : ℕ) → minute_of_day shown + count ≤ 1440 → opening.last_minute ≤ time
    → ((t : ℕ) → minute_of_day shown ≤ t → opening.first_minute ≤ t → time ≤ t) → OpensAtNoneOf opening shown count
OpensAtNoneOf-late opening shown count time of_day late least steps lt opens =
    let on = later_in_day shown steps (omega arith) in
    let time_is : minute_of_day (shown +ℤ pos steps) ≡ minute_of_day shown + steps = on.time in
    let since : opening.first_minute ≤ minute_of_day (shown +ℤ pos steps) = opens.since in
    let before : minute_of_day (shown +ℤ pos steps) < opening.last_minute = opens.before in
    let from : time ≤ minute_of_day (shown +ℤ pos steps) = least (minute_of_day (shown +ℤ pos steps)) (omega arith) since in
    absurd (omega arith)

pub OpensAtNoneOf-soon : (opening : Opening) (shown : ℤ) (count time : ℕ) → minute_of_day shown + count ≤ 1440 → count ≤ time - minute_of_day shown
    → ((t : ℕ) → minute_of_day shown ≤ t → opening.first_minute ≤ t → time ≤ t) → OpensAtNoneOf opening shown count
OpensAtNoneOf-soon opening shown count time of_day far least steps lt opens =
    let on = later_in_day shown steps (omega arith) in
    let time_is : minute_of_day (shown +ℤ pos steps) ≡ minute_of_day shown + steps = on.time in
    let since : opening.first_minute ≤ minute_of_day (shown +ℤ pos steps) = opens.since in
    let from : time ≤ minute_of_day (shown +ℤ pos steps) = least (minute_of_day (shown +ℤ pos steps)) (omega arith) since in
    absurd (omega arith)

-- the first minute of the date, from one on
pub OpensAfter-time : (opening : Opening) (shown : ℤ) (time : ℕ) → OpensOn opening (day_number shown) → minute_of_day shown ≤ time → opening.first_minute ≤ time
    → time < opening.last_minute → time < 1440 → ((t : ℕ) → minute_of_day shown ≤ t → opening.first_minute ≤ t → time ≤ t)
    → OpensAfter opening shown (time - minute_of_day shown)
OpensAfter-time opening shown time on_date from since before of_day least =
    let steps : ℕ = time - minute_of_day shown in
    let on = later_in_day shown steps (omega arith) in
    let time_is : minute_of_day (shown +ℤ pos steps) ≡ time = on.time ∙ omega arith in
    record {
      opens = record {
        since = subst (λ (t : ℕ). opening.first_minute ≤ t) (sym time_is) since;
        before = subst (λ (t : ℕ). t < opening.last_minute) (sym time_is) before;
        on = subst (OpensOn opening) (sym on.day) on_date;
      };
      none_before = OpensAtNoneOf-soon opening shown steps time (omega arith) (omega arith) least;
    }

-- ---- from civil minutes to instants

pub OpensAtNone-date : (opening : Opening) (source : Source) (from until : ℤ) (count : ℕ) (shown : ℤ) → IsShownFrom source from count shown
    → until ≡ from +ℤ pos count → OpensAtNoneOf opening shown count → OpensAtNone opening source from until
OpensAtNone-date opening source from until count shown shows until_is none z instant read since lt opens =
    let found = gap_of from instant since in
    let below = within found.0 found.1 in
    none found.0 below (subst (Opens opening) (ap (local_of z) found.1 ∙ shows.on z read found.0 below) opens)
  where
    within : (k : ℕ) → instant ≡ from +ℤ pos k → k < count
    within k e = omega (arith, ints)

pub OpensAtNone-joined : (opening : Opening) (source : Source) (from mid until : ℤ) → OpensAtNone opening source from mid → OpensAtNone opening source mid until
    → OpensAtNone opening source from until
OpensAtNone-joined opening source from mid until before after z instant read since lt opens =
    by_lt_z instant mid (λ sooner. before z instant read since sooner opens) (λ later. after z instant read later lt opens)

pub OpensFirst-after : (opening : Opening) (source : Source) (from mid instant : ℤ) (count steps : ℕ) (shown : ℤ) → OpensAtNone opening source from mid
    → IsShownFrom source mid count shown → steps < count → instant ≡ mid +ℤ pos steps → OpensAfter opening shown steps → OpensFirst opening source from instant
OpensFirst-after opening source from mid instant count steps shown before shows lt instant_is first = record {
  opens = λ z read. subst (Opens opening) (sym (ap (local_of z) instant_is ∙ shows.on z read steps lt)) first.opens;
  none_before = OpensAtNone-joined opening source from mid instant before
      (OpensAtNone-date opening source mid instant steps shown (record { on = λ z read k below. shows.on z read k (omega arith); of_day = let day = shows.of_day in omega arith })
      instant_is first.none_before);
}
