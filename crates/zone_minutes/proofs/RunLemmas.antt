-- Runs of instants: how a list of them grows, and which of them an instant lies in.
use Rattle.std.proofs.Common.{◌≡◌, ◌≢◌, ◌⊎◌, ℕ, zero, suc, ◌<◌, ◌≤◌, Bool, true, false, int_le, List, [], ◌∷◌, ◌++◌, length, get_or, ℤ, pos, ◌+ℤ◌, ◌-ℤ◌, ◌*ℤ◌, ◌≤ℤ◌, ◌<ℤ◌, refl, sym, ap, ◌∙◌, subst, inl, inr, arith}
use Rattle.std.specs.Prelude.{All}
use Rattle.std.specs.Int.{int_div_euclid}
use Rattle.std.proofs.lemmas.Int.{by_lt_z, ints}
use Rattle.std.proofs.lemmas.List.Elements.{All-cons, All-nil, All-push}
use Rattle.jiff.specs.Types.{TimeZone}
use Rattle.jiff.specs.Words.{offset_at}
use Rattle.jiff_core.proofs.SignedLemmas.{signed_arith}
use borrow.Author.Differences.{le-true, le-false}
use Rattle.std.specs.List.Sorted.{IsPartitionedBy, IsPartitionPoint}
use Rattle.zone_minutes.specs.Run.{AreJoined, AreRuns, AreRunsOver, IsChange, IsRun, IsRunAt, first_known}
use Rattle.zone_minutes.specs.Steady.{IsSteady}
use Rattle.zone_minutes.specs.Zone.{Source, Zone, FixedOffset, IsLocal, IsMinutesAhead, IsOffsetMinutes, IsReadable, IsReadAs, local_of, minute_nanos, zone_over}
use Rattle.zone_minutes.specs.declared.minute.Window.{Window}
use Rattle.zone_minutes.proofs.ZoneLemmas.{IsReadable-fixed, local_of-fixed, local_of-same}
use Rattle.zone_minutes.specs.declared.run.Run.{Run}

whole_minutes_ahead : (t offset : ℤ) → int_div_euclid (t *ℤ pos 60 +ℤ offset) (pos 60) ≡ t +ℤ int_div_euclid offset (pos 60)
whole_minutes_ahead t offset = omega (arith, signed_arith)

-- the local time is ahead by the whole minutes of the offset, rounded down
pub local_of-ahead : (zone : TimeZone) (t offset : ℤ) → offset ≡ offset_at zone (minute_nanos t) → local_of zone t ≡ t +ℤ int_div_euclid offset (pos 60)
unfolding local_of
local_of-ahead zone t offset is = rw (← is) (whole_minutes_ahead t offset)

le_holds : (a b : ℤ) → a ≤ℤ b → int_le a b ≡ true
le_holds a b le = grind (arith, ints)

-- a run after others
pub AreJoined-push : (start mid : ℤ) (runs : List Run) (run : Run) → AreJoined start mid runs → run.from.0 ≡ mid → mid <ℤ run.until.0
    → AreJoined start run.until.0 (runs ++ run ∷ [])
AreJoined-push start mid [] run joined from some = (from ∙ sym joined, subst (λ (t : ℤ). t <ℤ run.until.0) (sym joined) some, refl)
AreJoined-push start mid (first ∷ runs) run joined from some =
    (joined.0, joined.1, AreJoined-push first.until.0 mid runs run joined.2 from some)

-- the runs of the instants before the last change, and what is known of the instants since then
pub record IsListed (zone : TimeZone) (start end : ℤ) (since now : ℤ) (ahead : ℤ) (runs : List Run) : Type 0 where
  pub joined : AreJoined start since runs
  pub each : All (IsRun zone start end) runs
  pub local : (instant : ℤ) → since ≤ℤ instant → instant <ℤ now → local_of zone instant ≡ instant +ℤ ahead
  pub first : (since ≡ start) ⊎ IsChange zone since
  pub some : since <ℤ now
  pub small : IsMinutesAhead ahead

-- over steady instants the clocks are as far ahead as at the first of them
pub local_of-steady : (zone : TimeZone) (from until ahead : ℤ) → IsSteady zone from until → local_of zone from ≡ from +ℤ ahead
    → (t : ℤ) → from ≤ℤ t → t <ℤ until → local_of zone t ≡ t +ℤ ahead
unfolding local_of
local_of-steady zone from until ahead steady local t at before =
    let offset = offset_at zone (minute_nanos from) in
    let first = whole_minutes_ahead from offset in
    rw (steady t at before) (let then_ahead = whole_minutes_ahead t offset in omega (arith, signed_arith))

-- the first instants begin a run
pub IsListed-first : (zone : TimeZone) (start end now ahead : ℤ) → IsMinutesAhead ahead → local_of zone start ≡ start +ℤ ahead → start <ℤ now → IsSteady zone start now
    → IsListed zone start end start now ahead []
IsListed-first zone start end now ahead small local some steady =
    record {
      joined = refl;
      each = λ k d lt. absurd (omega arith);
      local = local_of-steady zone start now ahead steady local;
      first = inl refl;
      some = some;
      small = small;
    }

-- instants at which the clocks are as far ahead go on with the run
pub IsListed-same : (zone : TimeZone) (start end since now later ahead : ℤ) (runs : List Run) → IsListed zone start end since now ahead runs
    → local_of zone now ≡ now +ℤ ahead → now <ℤ later → IsSteady zone now later → IsListed zone start end since later ahead runs
IsListed-same zone start end since now later ahead runs listed local more steady =
    record {
      joined = listed.joined;
      each = listed.each;
      local = λ t from before. by_lt_z t now (λ lt. listed.local t from lt) (λ le. local_of-steady zone now later ahead steady local t le before);
      first = listed.first;
      some = omega (arith, signed_arith, listed.some);
      small = listed.small;
    }

-- the clocks are put forward or back where they are not as far ahead as at the instant before
IsChange-ahead : (zone : TimeZone) (now before after : ℤ) → local_of zone (now -ℤ pos 1) ≡ now -ℤ pos 1 +ℤ before → local_of zone now ≡ now +ℤ after
    → after ≢ before → IsChange zone now
IsChange-ahead zone now before after local_before local_now other same = other (omega (arith, signed_arith))

-- the run that a change ends, as one of the list
IsRun-ended : (zone : TimeZone) (start end since now ahead : ℤ) (runs : List Run) (run : Run) → IsListed zone start end since now ahead runs
    → run.from.0 ≡ since → run.until.0 ≡ now → run.ahead ≡ ahead → (run.until.0 ≡ end) ⊎ IsChange zone run.until.0 → IsRun zone start end run
IsRun-ended zone start end since now ahead runs run listed from until same last =
    record {
      local = λ t at before. listed.local t (subst (λ (u : ℤ). u ≤ℤ t) from at) (subst (λ (u : ℤ). t <ℤ u) until before)
          ∙ ap (λ (u : ℤ). t +ℤ u) (sym same);
      first = subst (λ (u : ℤ). (u ≡ start) ⊎ IsChange zone u) (sym from) listed.first;
      last = last;
    }

-- instants at which they are not end the run and begin another
pub IsListed-change : (zone : TimeZone) (start end since now later ahead next : ℤ) (runs : List Run) (run : Run) → IsListed zone start end since now ahead runs
    → run.from.0 ≡ since → run.until.0 ≡ now → run.ahead ≡ ahead → local_of zone now ≡ now +ℤ next → IsMinutesAhead next → next ≢ ahead
    → now <ℤ later → IsSteady zone now later → IsListed zone start end now later next (runs ++ run ∷ [])
IsListed-change zone start end since now later ahead next runs run listed from until same local small other more steady =
    let before : local_of zone (now -ℤ pos 1) ≡ now -ℤ pos 1 +ℤ ahead =
    listed.local (now -ℤ pos 1) (omega (arith, signed_arith, listed.some)) (omega (arith, signed_arith)) in
    let change : IsChange zone now = IsChange-ahead zone now ahead next before local other in
    let ended = IsRun-ended zone start end since now ahead runs run listed from until same (inr (subst (IsChange zone) (sym until) change)) in
    record {
      joined = subst (λ (u : ℤ). AreJoined start u (runs ++ run ∷ [])) until
          (AreJoined-push start since runs run listed.joined from (subst (λ (u : ℤ). since <ℤ u) (sym until) listed.some));
      each = All-push (IsRun zone start end) runs run listed.each ended;
      local = local_of-steady zone now later next steady local;
      first = inr change;
      some = more;
      small = small;
    }

-- the last run ends the list
pub IsListed-end : (zone : TimeZone) (start end since ahead : ℤ) (runs : List Run) (run : Run) → IsListed zone start end since end ahead runs
    → run.from.0 ≡ since → run.until.0 ≡ end → run.ahead ≡ ahead → AreRuns zone start end (runs ++ run ∷ [])
IsListed-end zone start end since ahead runs run listed from until same =
    record {
      joined = subst (λ (u : ℤ). AreJoined start u (runs ++ run ∷ [])) until
          (AreJoined-push start since runs run listed.joined from (subst (λ (u : ℤ). since <ℤ u) (sym until) listed.some));
      each = All-push (IsRun zone start end) runs run listed.each (IsRun-ended zone start end since end ahead runs run listed from until same (inl until));
    }

-- the place of the run that an instant lies in
pub record IsPlaceOf (t : ℤ) (runs : List Run) (place : ℕ) : Type 0 where
  pub below : place < length runs
  pub since : (none : Run) → (get_or runs place none).from.0 ≤ℤ t
  pub before : (none : Run) → t <ℤ (get_or runs place none).until.0

-- a run has ended by the instant
abbrev pub has_ended : ℤ → Run → Bool
has_ended t run = int_le run.until.0 t

-- it is the first place whose run has not ended
IsPlaceOf-first : (t start end : ℤ) (runs : List Run) (place : ℕ) → AreJoined start end runs → start ≤ℤ t → t <ℤ end → place ≤ length runs
    → ((k : ℕ) (none : Run) → k < place → has_ended t (get_or runs k none) ≡ true)
    → ((none : Run) → place < length runs → has_ended t (get_or runs place none) ≡ false) → IsPlaceOf t runs place
IsPlaceOf-first t start end [] place joined since before le ended goes_on = absurd (omega (arith, signed_arith))
IsPlaceOf-first t start end (run ∷ runs) zero joined since before le ended goes_on =
    let not_ended = le-false run.until.0 t (goes_on run (omega arith)) in
    record {
      below = omega arith;
      since = λ none. omega (arith, signed_arith, joined.0);
      before = λ none. omega (arith, signed_arith);
    }
IsPlaceOf-first t start end (run ∷ runs) (suc place) joined since before le ended goes_on =
    let by_then = le-true run.until.0 t (ended 0 run (omega arith)) in
    let rest = IsPlaceOf-first t run.until.0 end runs place joined.2 (omega (arith, signed_arith)) before (omega arith)
    (λ k none lt. ended (suc k) none (omega arith)) (λ none lt. goes_on none (omega arith)) in
    record { below = omega (arith, rest.below); since = rest.since; before = rest.before }

-- the place that a binary search for it finds
pub IsPlaceOf-point : (t start end : ℤ) (runs : List Run) (place : ℕ) → AreJoined start end runs → start ≤ℤ t → t <ℤ end → place ≤ length runs
    → IsPartitionPoint (λ run. has_ended t run ≡ true) (λ run. has_ended t run ≡ false) runs place → IsPlaceOf t runs place
IsPlaceOf-point t start end runs place joined since before le point =
    IsPlaceOf-first t start end runs place joined since before le (λ k none lt. point.0 k none (omega arith) lt) (λ none lt. point.1 place none (omega arith) lt)

-- each run ends after the runs began
start_below : (start end : ℤ) (runs : List Run) (i : ℕ) (none : Run) → AreJoined start end runs → i < length runs → start <ℤ (get_or runs i none).until.0
start_below start end [] i none joined lt = absurd (omega arith)
start_below start end (run ∷ runs) zero none joined lt = joined.1
start_below start end (run ∷ runs) (suc i) none joined lt =
    let rest = start_below run.until.0 end runs i none joined.2 (omega arith) in
    omega (arith, signed_arith, joined.1)

-- a later run ends later
until_rises : (start end : ℤ) (runs : List Run) (i j : ℕ) (none : Run) → AreJoined start end runs → i ≤ j → j < length runs
    → (get_or runs i none).until.0 ≤ℤ (get_or runs j none).until.0
until_rises start end [] i j none joined le lt = absurd (omega arith)
until_rises start end (run ∷ runs) zero zero none joined le lt = omega (arith, signed_arith)
until_rises start end (run ∷ runs) zero (suc j) none joined le lt =
    let rest = start_below run.until.0 end runs j none joined.2 (omega arith) in
    omega (arith, signed_arith)
until_rises start end (run ∷ runs) (suc i) zero none joined le lt = absurd (omega arith)
until_rises start end (run ∷ runs) (suc i) (suc j) none joined le lt = until_rises run.until.0 end runs i j none joined.2 (omega arith) (omega arith)

-- each run begins once the runs began
from_after : (start end : ℤ) (runs : List Run) (i : ℕ) (none : Run) → AreJoined start end runs → i < length runs → start ≤ℤ (get_or runs i none).from.0
from_after start end [] i none joined lt = absurd (omega arith)
from_after start end (run ∷ runs) zero none joined lt = omega (arith, signed_arith, joined.0)
from_after start end (run ∷ runs) (suc i) none joined lt =
    let rest = from_after run.until.0 end runs i none joined.2 (omega arith) in
    omega (arith, signed_arith, joined.1)

-- the runs end no sooner than they begin
end_after : (start end : ℤ) (runs : List Run) → AreJoined start end runs → start ≤ℤ end
end_after start end [] joined = omega (arith, signed_arith, joined)
end_after start end (run ∷ runs) joined = let rest = end_after run.until.0 end runs joined.2 in omega (arith, signed_arith, joined.1)

-- each run ends before the runs end
until_before : (start end : ℤ) (runs : List Run) (i : ℕ) (none : Run) → AreJoined start end runs → i < length runs → (get_or runs i none).until.0 ≤ℤ end
until_before start end [] i none joined lt = absurd (omega arith)
until_before start end (run ∷ runs) zero none joined lt = end_after run.until.0 end runs joined.2
until_before start end (run ∷ runs) (suc i) none joined lt = until_before run.until.0 end runs i none joined.2 (omega arith)

-- the runs that have ended are the first
pub IsPartitionedBy-ended : (t start end : ℤ) (runs : List Run) → AreJoined start end runs → IsPartitionedBy (has_ended t) runs
IsPartitionedBy-ended t start end runs joined i j none le lt ended =
    let rises = until_rises start end runs i j none joined le lt in
    let by_then = le-true (get_or runs j none).until.0 t ended in
    le_holds (get_or runs i none).until.0 t (omega (arith, signed_arith))

-- one run of a fixed offset
pub AreRunsOver-fixed : (minutes : ℤ) (window : Window) (from until : ℕ) (run : Run) → IsOffsetMinutes minutes → pos from ≡ first_known window → pos until ≡ window.until.0
    → from < until → run.from.0 ≡ pos from → run.until.0 ≡ pos until → run.ahead ≡ minutes → AreRunsOver (FixedOffset minutes) window (run ∷ [])
AreRunsOver-fixed minutes window from until run in_range first end some run_from run_until ahead =
    let readable = IsReadable-fixed minutes in_range in
    let start_is : run.from.0 ≡ first_known window = run_from ∙ first in
    let end_is : run.until.0 ≡ window.until.0 = run_until ∙ end in
    let one : IsRun readable.0 (first_known window) window.until.0 run = record {
      local = λ t since before. local_of-fixed minutes t readable.0 readable.1 ∙ ap (λ (u : ℤ). t +ℤ u) (sym ahead);
      first = inl start_is;
      last = inl end_is;
    } in
    record {
      zone = readable.0;
      read = readable.1;
      are_runs = record {
        joined = (start_is, omega (arith, signed_arith), end_is);
        each = All-cons (IsRun readable.0 (first_known window) window.until.0) run [] one (All-nil (IsRun readable.0 (first_known window) window.until.0));
      };
    }

-- the runs of a zone that the source is read as
pub AreRunsOver-listed : (source : Source) (zone : TimeZone) (window : Window) (from until : ℕ) (runs : List Run) → IsReadAs source zone
    → pos from ≡ first_known window → pos until ≡ window.until.0 → AreRuns zone (pos from) (pos until) runs → AreRunsOver source window runs
AreRunsOver-listed source zone window from until runs read first end are_runs =
    record {
      zone = zone;
      read = read;
      are_runs = subst (λ (u : ℤ). AreRuns zone (first_known window) u runs) end (subst (λ (u : ℤ). AreRuns zone u (pos until) runs) first are_runs);
    }

-- a run of one zone that the source is read as is a run of each
IsRun-same : (source : Source) (a b : TimeZone) (start end : ℤ) (run : Run) → IsReadAs source a → IsReadAs source b → IsRun a start end run → IsRun b start end run
IsRun-same source a b start end run in_a in_b is =
    record {
      local = λ t since before. sym (local_of-same source a b t in_a in_b) ∙ is.local t since before;
      first = either (run.from.0 ≡ start) (IsChange a run.from.0) (IsChange b run.from.0) (change run.from.0) is.first;
      last = either (run.until.0 ≡ end) (IsChange a run.until.0) (IsChange b run.until.0) (change run.until.0) is.last;
    }
  where
    either : (P Q R : Type 0) → (Q → R) → P ⊎ Q → P ⊎ R
    either P Q R f (inl p) = inl p
    either P Q R f (inr q) = inr (f q)

    change : (t : ℤ) → IsChange a t → IsChange b t
    change t changed same =
        changed (local_of-same source a b t in_a in_b ∙ same ∙ ap (λ (u : ℤ). u +ℤ pos 1) (sym (local_of-same source a b (t -ℤ pos 1) in_a in_b)))

-- the run at the place that was found
pub IsRunAt-place : (source : Source) (window : Window) (runs : List Run) (place : ℕ) (t : ℤ) (run : Run) → AreRunsOver source window runs
    → IsPlaceOf t runs place → run ≡ get_or runs place run → IsRunAt (zone_over source window) t run
IsRunAt-place source window runs place t run over is_place is_run =
    let start = first_known window in
    let joined = over.are_runs.joined in
    let is : IsRun over.zone start window.until.0 run = subst (IsRun over.zone start window.until.0) (sym is_run) (over.are_runs.each place run is_place.below) in
    record {
      since = subst (λ (r : Run). r.from.0 ≤ℤ t) (sym is_run) (is_place.since run);
      before = subst (λ (r : Run). t <ℤ r.until.0) (sym is_run) (is_place.before run);
      known = subst (λ (r : Run). start ≤ℤ r.from.0) (sym is_run) (from_after start window.until.0 runs place run joined is_place.below);
      inside = subst (λ (r : Run). r.until.0 ≤ℤ window.until.0) (sym is_run) (until_before start window.until.0 runs place run joined is_place.below);
      is = λ read in_read. IsRun-same source over.zone read start window.until.0 run over.read in_read is;
    }

-- the local time of an instant, by its run
pub IsLocal-run : (zone : Zone) (t : ℤ) (run : Run) → IsReadable zone.source → IsRunAt zone t run → IsLocal zone.source t (t +ℤ run.ahead)
IsLocal-run zone t run readable at =
    record { zone = readable.0; read = readable.1; is = sym ((at.is readable.0 readable.1).local t at.since at.before) }

-- the place that a binary search over the runs finds
pub IsPlaceOf-found : (source : Source) (window : Window) (runs slice : List Run) (place : ℕ) (t : ℤ) → AreRunsOver source window runs → slice ≡ runs
    → first_known window ≤ℤ t → t <ℤ window.until.0 → place ≤ length slice
    → (IsPartitionedBy (has_ended t) slice → IsPartitionPoint (λ run. has_ended t run ≡ true) (λ run. has_ended t run ≡ false) slice place) → IsPlaceOf t runs place
IsPlaceOf-found source window runs slice place t over same since before bound search_clause =
    let start = first_known window in
    let joined : AreJoined start window.until.0 slice = subst (AreJoined start window.until.0) (sym same) over.are_runs.joined in
    let found : IsPlaceOf t slice place = IsPlaceOf-point t start window.until.0 slice place joined since before bound
    (search_clause (IsPartitionedBy-ended t start window.until.0 slice joined)) in
    subst (λ (rs : List Run). IsPlaceOf t rs place) same found
