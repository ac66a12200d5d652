-- Stretches of instants in which a zone's clocks are steady, and what is due there.
use Rattle.std.proofs.Common.{◌≡◌, ℕ, ◌<◌, ℤ, pos, negsuc, ◌+ℤ◌, ◌-ℤ◌, ◌<ℤ◌, ◌≤ℤ◌, inl, inr, Bool, true, false, refl, sym, subst, arith}
use Rattle.std.specs.Prelude.{MatchBool}
use Rattle.std.proofs.lemmas.Int.{ints, by_lt_z}
use Rattle.jiff.specs.Types.{TimeZone}
use Rattle.cron_fields.specs.declared.field.Fields.{Fields}
use Rattle.cron_fields.specs.Match.{is_frequent}
use Rattle.zone_minutes.specs.Run.{IsRunAt}
use Rattle.zone_minutes.specs.Zone.{Source, Zone, IsLocal, IsReadAs, IsReadable, local_of}
use Rattle.zone_minutes.specs.declared.run.Run.{Run}
use Rattle.due_set.specs.Due.{IsDue, IsDueIn, IsDueOnce, IsFirstDue, IsFirstShown, IsNotDueIn, IsSkipped, Matches}
use Rattle.due_set.specs.Matching.{IsFirstMatch, MatchNoneOf}
use Rattle.due_set.specs.Steady.{AreSteady}
use Rattle.due_set.proofs.DueLemmas.{IsLocal-is}

-- the clocks go on by the minutes between two instants of a run
on_by : (zone : Zone) (at : ℤ) (run : Run) (z : TimeZone) (from t : ℤ) → IsRunAt zone at run → IsReadAs zone.source z
    → run.from.0 ≤ℤ from → from <ℤ run.until.0 → run.from.0 ≤ℤ t → t <ℤ run.until.0 → local_of z t ≡ local_of z from +ℤ (t -ℤ from)
on_by zone at run z from t is read since before back lt =
    let run_is = is.is z read in
    let from_is : local_of z from ≡ from +ℤ run.ahead = run_is.local from since before in
    let t_is : local_of z t ≡ t +ℤ run.ahead = run_is.local t back lt in
    omega (arith, ints)

pub AreSteady-run : (zone : Zone) (from until : ℤ) (run : Run) → IsRunAt zone from run → (run.from.0 +ℤ pos 179) ≤ℤ from → until ≤ℤ run.until.0 → AreSteady zone.source from until
AreSteady-run zone from until run is back le z read t since lt =
    on_by zone from run z from t is read is.since is.before (omega (arith, ints)) (omega (arith, ints))

-- where the clocks are steady they skip no minute
no_skip : (source : Source) (z : TimeZone) (from until t minute : ℤ) → IsReadAs source z → AreSteady source from until → from ≤ℤ t → t <ℤ until → IsSkipped z t minute → ⊥
no_skip source z from until t minute read steady since lt skipped =
    let now : local_of z t ≡ local_of z from +ℤ (t -ℤ from) = steady z read t (omega (arith, ints)) lt in
    let before : local_of z (t -ℤ pos 1) ≡ local_of z from +ℤ (t -ℤ pos 1 -ℤ from) = steady z read (t -ℤ pos 1) (omega (arith, ints)) (omega (arith, ints)) in
    let after : (local_of z from +ℤ (t -ℤ pos 1 -ℤ from)) <ℤ minute = subst (λ (u : ℤ). u <ℤ minute) before skipped.after in
    let sooner : minute <ℤ (local_of z from +ℤ (t -ℤ from)) = subst (λ (u : ℤ). minute <ℤ u) now skipped.before in
    absurd (omega (arith, ints))

-- and show each local time for the first time
first_shown : (source : Source) (z : TimeZone) (from until t : ℤ) → IsReadAs source z → AreSteady source from until → from ≤ℤ t → t <ℤ until → IsFirstShown z t
first_shown source z from until t read steady since lt earlier back before same =
    let now : local_of z t ≡ local_of z from +ℤ (t -ℤ from) = steady z read t (omega (arith, ints)) lt in
    let then : local_of z earlier ≡ local_of z from +ℤ (earlier -ℤ from) = steady z read earlier (omega (arith, ints)) (omega (arith, ints)) in
    absurd (omega (arith, ints))

-- so an entry is due there only where it matches the local time
pub due_matches : (fields : Fields) (source : Source) (z : TimeZone) (from until t : ℤ) → IsReadAs source z → AreSteady source from until → from ≤ℤ t → t <ℤ until
    → IsDue fields z t → Matches fields (local_of z t)
due_matches fields source z from until t read steady since lt due = by_kind (is_frequent fields) due
  where
    by_kind : (frequent : Bool) → MatchBool frequent (Matches fields (local_of z t)) (IsDueOnce fields z t) → Matches fields (local_of z t)
    by_kind true m = m
    by_kind false (inl both) = both.0
    by_kind false (inr (minute, skipped, m)) = absurd (no_skip source z from until t minute read steady since lt skipped)

-- and is due where it matches
pub matches_due : (fields : Fields) (source : Source) (z : TimeZone) (from until t : ℤ) → IsReadAs source z → AreSteady source from until → from ≤ℤ t → t <ℤ until
    → Matches fields (local_of z t) → IsDue fields z t
matches_due fields source z from until t read steady since lt m = by_kind (is_frequent fields)
  where
    by_kind : (frequent : Bool) → MatchBool frequent (Matches fields (local_of z t)) (IsDueOnce fields z t)
    by_kind true = m
    by_kind false = inl (m, first_shown source z from until t read steady since lt)

-- where the clocks are steady an entry is due exactly where it matches
pub IsDueIn-matching : (fields : Fields) (source : Source) (from until t : ℤ) → AreSteady source from until → from ≤ℤ t → t <ℤ until
    → (readable : IsReadable source) → Matches fields (local_of readable.0 t) → IsDueIn fields source t
IsDueIn-matching fields source from until t steady since lt readable m =
    (readable.0, readable.1, matches_due fields source readable.0 from until t readable.1 steady since lt m)

pub IsDueIn-unmatching : (fields : Fields) (source : Source) (from until t : ℤ) → AreSteady source from until → from ≤ℤ t → t <ℤ until
    → ((z : TimeZone) → IsReadAs source z → Matches fields (local_of z t) → ⊥) → IsDueIn fields source t → ⊥
IsDueIn-unmatching fields source from until t steady since lt none (z, read, due) =
    none z read (due_matches fields source z from until t read steady since lt due)

pub gap_of : (from t : ℤ) → from ≤ℤ t → (k : ℕ) × (t ≡ from +ℤ pos k)
gap_of from t le = by_gap (t -ℤ from) refl
  where
    by_gap : (gap : ℤ) → gap ≡ t -ℤ from → (k : ℕ) × (t ≡ from +ℤ pos k)
    by_gap (pos k) e = (k, omega (arith, ints))
    by_gap (negsuc k) e = absurd (omega (arith, ints))

-- so many minutes after the first instant the clocks show the civil minute so many minutes after the one that they showed then
shown_later : (source : Source) (z : TimeZone) (first until shown t : ℤ) (steps : ℕ) → IsReadAs source z → AreSteady source first until → IsLocal source first shown
    → t ≡ first +ℤ pos steps → t <ℤ until → local_of z t ≡ shown +ℤ pos steps
shown_later source z first until shown t steps read steady local t_is lt =
    let shown_is : shown ≡ local_of z first = IsLocal-is source z first shown read local in
    let at_is : local_of z t ≡ local_of z first +ℤ (t -ℤ first) = steady z read t (omega (arith, ints)) lt in
    omega (arith, ints)

-- where the fields match none of the civil minutes no instant is due
pub IsNotDueIn-unmatching : (fields : Fields) (source : Source) (first until shown : ℤ) (count : ℕ) → AreSteady source first until → IsLocal source first shown
    → until ≡ first +ℤ pos count → MatchNoneOf fields shown count → IsNotDueIn fields source first until
IsNotDueIn-unmatching fields source first until shown count steady local until_is none t since lt =
    let found = gap_of first t since in
    IsDueIn-unmatching fields source first until t steady since lt
    (λ z read m. none found.0 (below found.0 found.1) (subst (Matches fields) (shown_later source z first until shown t found.0 read steady local found.1 lt) m))
  where
    below : (k : ℕ) → t ≡ first +ℤ pos k → k < count
    below k e = omega (arith, ints)

-- and the first one that is due is where the fields first match
pub IsFirstDue-matching : (fields : Fields) (source : Source) (first until shown t : ℤ) (steps : ℕ) → AreSteady source first until → IsLocal source first shown
    → t ≡ first +ℤ pos steps → t <ℤ until → IsFirstMatch fields shown steps → IsFirstDue fields source first t
IsFirstDue-matching fields source first until shown t steps steady local t_is lt match =
    let at_is = shown_later source local.zone first until shown t steps local.read steady local t_is lt in
    record {
      due = IsDueIn-matching fields source first until t steady (omega (arith, ints)) lt (local.zone, local.read) (subst (Matches fields) (sym at_is) match.matches);
      since = omega (arith, ints);
      none_before = IsNotDueIn-unmatching fields source first t shown steps
          (λ z read u back before. steady z read u back (omega (arith, ints))) local t_is match.none_before;
    }

-- no due instant in a stretch and none in the stretch after it
pub IsNotDueIn-joined : (fields : Fields) (source : Source) (from mid until : ℤ) → IsNotDueIn fields source from mid → IsNotDueIn fields source mid until
    → IsNotDueIn fields source from until
IsNotDueIn-joined fields source from mid until before after t since lt due =
    by_lt_z t mid (λ sooner. before t since sooner due) (λ later. after t later lt due)

-- the first due instant of a stretch, after one with none
pub IsFirstDue-after : (fields : Fields) (source : Source) (from mid at : ℤ) → from ≤ℤ mid → IsNotDueIn fields source from mid → IsFirstDue fields source mid at
    → IsFirstDue fields source from at
IsFirstDue-after fields source from mid at le before first =
    record {
      due = first.due;
      since = omega (arith, ints, first.since);
      none_before = IsNotDueIn-joined fields source from mid at before first.none_before;
    }
