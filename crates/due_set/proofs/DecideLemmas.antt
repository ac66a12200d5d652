-- Whether a job is due at an instant is decided, in a zone that is known.
use Rattle.std.proofs.Common.{◌≡◌, ℕ, zero, suc, ◌^◌, ◌<◌, ◌⊎◌, inl, inr, ◌||◌, Bool, true, false, ℤ, pos, negsuc, ◌+ℤ◌, ◌-ℤ◌, ◌<ℤ◌, ◌≤ℤ◌, refl, subst, arith}
use Rattle.std.specs.Prelude.{MatchBool}
use Rattle.std.specs.Int.Bits.{bit_and}
use Rattle.std.proofs.lemmas.Bool.{cases_eq, cases_lt}
use Rattle.std.proofs.lemmas.Int.{ints, by_lt_z}
use Rattle.jiff.specs.Types.{TimeZone}
use Rattle.cron_fields.specs.FieldSet.{Has}
use Rattle.cron_fields.specs.Match.{MatchesDate, MatchesDay, MatchesTime, is_frequent}
use Rattle.cron_fields.specs.declared.field.Fields.{Fields}
use Rattle.cron_fields.specs.declared.field.FieldSet.{FieldSet}
use Rattle.zone_minutes.specs.Civil.{civil_at, day_number, weekday_of}
use Rattle.zone_minutes.specs.Window.{IsInWindow}
use Rattle.zone_minutes.specs.Zone.{local_of}
use Rattle.zone_minutes.specs.declared.minute.Window.{Window}
use Rattle.due_set.specs.Due.{IsDue, IsDueOnce, IsFirstShown, IsSkipped, Matches}

-- it holds, or it doesn't
abbrev pub IsDecided : Type 0 → Type 0
IsDecided P = P ⊎ (P → ⊥)

pub decided_like : (P Q : Type 0) → (P → Q) → (Q → P) → IsDecided P → IsDecided Q
decided_like P Q to from (inl p) = inl (to p)
decided_like P Q to from (inr not) = inr (λ q. not (from q))

pub decided_not : (P : Type 0) → IsDecided P → IsDecided (P → ⊥)
decided_not P (inl p) = inr (λ not. not p)
decided_not P (inr not) = inl not

pub decided_both : (P Q : Type 0) → IsDecided P → IsDecided Q → IsDecided (P × Q)
decided_both P Q (inl p) (inl q) = inl (p, q)
decided_both P Q (inl p) (inr not) = inr (λ both. not both.1)
decided_both P Q (inr not) q = inr (λ both. not both.0)

pub decided_either : (P Q : Type 0) → IsDecided P → IsDecided Q → IsDecided (P ⊎ Q)
decided_either P Q (inl p) q = inl (inl p)
decided_either P Q (inr not) (inl q) = inl (inr q)
decided_either P Q (inr not) (inr none) = inr (neither not none)
  where
    neither : (P → ⊥) → (Q → ⊥) → P ⊎ Q → ⊥
    neither not none (inl p) = not p
    neither not none (inr q) = none q

decided_match : (b : Bool) (P Q : Type 0) → IsDecided P → IsDecided Q → IsDecided (MatchBool b P Q)
decided_match true P Q p q = p
decided_match false P Q p q = q

pub decided_lt : (a b : ℤ) → IsDecided (a <ℤ b)
decided_lt a b = by_lt_z a b (λ lt. inl lt) (λ le. inr (λ lt. absurd (omega (arith, ints))))

pub decided_le : (a b : ℤ) → IsDecided (a ≤ℤ b)
decided_le a b = by_lt_z b a (λ lt. inr (λ le. absurd (omega (arith, ints)))) (λ le. inl le)

pub decided_same : (a b : ℤ) → IsDecided (a ≡ b)
decided_same a b =
    by_lt_z a b (λ lt. inr (λ e. absurd (omega (arith, ints)))) (λ le. by_lt_z b a (λ lt. inr (λ e. absurd (omega (arith, ints)))) (λ ge. inl (omega (arith, ints))))

-- the least number below a bound of which it holds
pub record IsLeastBelow (P : ℕ → Type 0) (bound least : ℕ) : Type 0 where
  pub below : least < bound
  pub holds : P least
  pub first : (k : ℕ) → k < least → P k → ⊥

-- below a bound there is a least number of which it holds, or none
pub least_below : (P : ℕ → Type 0) → ((k : ℕ) → IsDecided (P k)) → (bound : ℕ)
    → ((least : ℕ) × IsLeastBelow P bound least) ⊎ ((k : ℕ) → k < bound → P k → ⊥)
least_below P each zero = inr (λ k lt p. absurd (omega arith))
least_below P each (suc bound) = elim (least_below P each bound) [
  | inl (least, found) ↦ inl (least, record { below = omega (arith, found.below); holds = found.holds; first = found.first })
  | inr none ↦ elim (each bound) [
    | inl p ↦ inl (bound, record { below = omega arith; holds = p; first = none })
    | inr not ↦ inr (λ k lt p. elim (cases_lt k bound) [
      | inl below ↦ none k below p
      | inr from ↦ let same : k ≡ bound = omega arith in not (subst P same p)
    ])
  ]
]

decided_some : (P : ℕ → Type 0) → ((k : ℕ) → IsDecided (P k)) → (bound : ℕ) → IsDecided ((k : ℕ) × (k < bound) × P k)
decided_some P each bound = elim (least_below P each bound) [
  | inl (least, found) ↦ inl (least, found.below, found.holds)
  | inr none ↦ inr (λ some. none some.0 some.1 some.2)
]

-- an instant before another is some minutes earlier
pub minutes_between : (a b : ℤ) → a <ℤ b → (k : ℕ) × (b ≡ a +ℤ pos (suc k))
minutes_between a b lt = by_gap (b -ℤ a) refl
  where
    by_gap : (gap : ℤ) → gap ≡ b -ℤ a → (k : ℕ) × (b ≡ a +ℤ pos (suc k))
    by_gap (pos zero) e = absurd (omega (arith, ints))
    by_gap (pos (suc k)) e = (k, omega (arith, ints))
    by_gap (negsuc k) e = absurd (omega (arith, ints))

decided_has : (set : FieldSet) (value : ℕ) → IsDecided (Has set value)
decided_has set value = decided_not (bit_and set.bits (2 ^ value) ≡ 0) (cases_eq (bit_and set.bits (2 ^ value)) 0)

decided_day : (fields : Fields) (month_day week_day : ℕ) → IsDecided (MatchesDay fields month_day week_day)
decided_day fields month_day week_day =
    let a : IsDecided (Has fields.month_day month_day) = decided_has fields.month_day month_day in
    let b : IsDecided (Has fields.week_day week_day) = decided_has fields.week_day week_day in
    decided_match (fields.month_day.star || fields.week_day.star) (Has fields.month_day month_day × Has fields.week_day week_day)
    (Has fields.month_day month_day ⊎ Has fields.week_day week_day)
    (decided_both (Has fields.month_day month_day) (Has fields.week_day week_day) a b)
    (decided_either (Has fields.month_day month_day) (Has fields.week_day week_day) a b)

decided_date : (fields : Fields) (month month_day week_day : ℕ) → IsDecided (MatchesDate fields month month_day week_day)
decided_date fields month month_day week_day =
    decided_like (Has fields.month month × MatchesDay fields month_day week_day) (MatchesDate fields month month_day week_day)
    (λ both. record { month_in = both.0; day_in = both.1 }) (λ m. (m.month_in, m.day_in))
    (decided_both (Has fields.month month) (MatchesDay fields month_day week_day) (decided_has fields.month month) (decided_day fields month_day week_day))

decided_time : (fields : Fields) (hour minute : ℕ) → IsDecided (MatchesTime fields hour minute)
decided_time fields hour minute =
    decided_like (Has fields.hour hour × Has fields.minute minute) (MatchesTime fields hour minute)
    (λ both. record { hour_in = both.0; minute_in = both.1 }) (λ m. (m.hour_in, m.minute_in))
    (decided_both (Has fields.hour hour) (Has fields.minute minute) (decided_has fields.hour hour) (decided_has fields.minute minute))

decided_matches : (fields : Fields) (minute : ℤ) → IsDecided (Matches fields minute)
decided_matches fields minute =
    decided_like
    (MatchesDate fields (civil_at minute).month (civil_at minute).day (weekday_of (day_number minute)) × MatchesTime fields (civil_at minute).hour (civil_at minute).minute)
    (Matches fields minute) (λ both. record { date = both.0; time = both.1 }) (λ m. (m.date, m.time))
    (decided_both (MatchesDate fields (civil_at minute).month (civil_at minute).day (weekday_of (day_number minute)))
    (MatchesTime fields (civil_at minute).hour (civil_at minute).minute)
    (decided_date fields (civil_at minute).month (civil_at minute).day (weekday_of (day_number minute)))
    (decided_time fields (civil_at minute).hour (civil_at minute).minute))

-- an instant some minutes before another showed its local time
abbrev ShownBefore : TimeZone → ℤ → Type 0
ShownBefore zone at = (k : ℕ) × (k < 179) × (local_of zone (at -ℤ pos (suc k)) ≡ local_of zone at)

decided_first : (zone : TimeZone) (at : ℤ) → IsDecided (IsFirstShown zone at)
decided_first zone at =
    decided_like (ShownBefore zone at → ⊥) (IsFirstShown zone at) (λ none earlier since before same. none (shown earlier since before same)) back
    (decided_not (ShownBefore zone at)
    (decided_some (λ k. local_of zone (at -ℤ pos (suc k)) ≡ local_of zone at)
    (λ k. decided_same (local_of zone (at -ℤ pos (suc k))) (local_of zone at)) 179))
  where
    shown : (earlier : ℤ) → (at -ℤ pos 180) <ℤ earlier → earlier <ℤ at → local_of zone earlier ≡ local_of zone at → ShownBefore zone at
    shown earlier since before same =
        let gap = minutes_between earlier at before in
        let at_is : at ≡ earlier +ℤ pos (suc gap.0) = gap.1 in
        let earlier_is : earlier ≡ at -ℤ pos (suc gap.0) = omega (arith, ints) in
        (gap.0, omega (arith, ints), subst (λ (t : ℤ). local_of zone t ≡ local_of zone at) earlier_is same)

    back : IsFirstShown zone at → ShownBefore zone at → ⊥
    back first (k, lt, same) = first (at -ℤ pos (suc k)) (omega (arith, ints)) (omega (arith, ints)) same

-- the zone's clock passed over a civil minute that the fields match
abbrev SkipsMatch : Fields → TimeZone → ℤ → Type 0
SkipsMatch fields zone at = (minute : ℤ) × IsSkipped zone at minute × Matches fields minute

decided_skipped : (zone : TimeZone) (at minute : ℤ) → IsDecided (IsSkipped zone at minute)
decided_skipped zone at minute =
    let before : ℤ = local_of zone (at -ℤ pos 1) in
    let shown : ℤ = local_of zone at in
    decided_like ((before <ℤ minute) × ((minute <ℤ shown) × ((shown -ℤ before -ℤ pos 1) <ℤ pos 180))) (IsSkipped zone at minute)
    (λ all. record { after = all.0; before = all.1.0; short = all.1.1 }) (λ s. (s.after, (s.before, s.short)))
    (decided_both (before <ℤ minute) ((minute <ℤ shown) × ((shown -ℤ before -ℤ pos 1) <ℤ pos 180)) (decided_lt before minute)
    (decided_both (minute <ℤ shown) ((shown -ℤ before -ℤ pos 1) <ℤ pos 180) (decided_lt minute shown) (decided_lt (shown -ℤ before -ℤ pos 1) (pos 180))))

-- a civil minute some minutes after the one that was shown was skipped, and the fields match it
abbrev SkipsMatchAt : Fields → TimeZone → ℤ → ℕ → Type 0
SkipsMatchAt fields zone at k =
    IsSkipped zone at (local_of zone (at -ℤ pos 1) +ℤ pos (suc k)) × Matches fields (local_of zone (at -ℤ pos 1) +ℤ pos (suc k))

decided_skips : (fields : Fields) (zone : TimeZone) (at : ℤ) → IsDecided (SkipsMatch fields zone at)
decided_skips fields zone at =
    decided_like ((k : ℕ) × (k < 180) × SkipsMatchAt fields zone at k) (SkipsMatch fields zone at)
    (λ found. (before +ℤ pos (suc found.0), found.2.0, found.2.1)) (λ found. step found.0 found.1 found.2)
    (decided_some (SkipsMatchAt fields zone at)
    (λ k. decided_both (IsSkipped zone at (before +ℤ pos (suc k))) (Matches fields (before +ℤ pos (suc k)))
    (decided_skipped zone at (before +ℤ pos (suc k))) (decided_matches fields (before +ℤ pos (suc k)))) 180)
  where
    before : ℤ
    before = local_of zone (at -ℤ pos 1)

    step : (minute : ℤ) → IsSkipped zone at minute → Matches fields minute → (k : ℕ) × (k < 180) × SkipsMatchAt fields zone at k
    step minute skipped matches =
        let gap = minutes_between (local_of zone (at -ℤ pos 1)) minute skipped.after in
        let minute_is : minute ≡ local_of zone (at -ℤ pos 1) +ℤ pos (suc gap.0) = gap.1 in
        let lt : minute <ℤ local_of zone at = skipped.before in
        let short : (local_of zone at -ℤ local_of zone (at -ℤ pos 1) -ℤ pos 1) <ℤ pos 180 = skipped.short in
        (gap.0, omega (arith, ints), (subst (IsSkipped zone at) minute_is skipped, subst (Matches fields) minute_is matches))

pub decided_due : (fields : Fields) (zone : TimeZone) (at : ℤ) → IsDecided (IsDue fields zone at)
decided_due fields zone at =
    let shown : IsDecided (Matches fields (local_of zone at)) = decided_matches fields (local_of zone at) in
    decided_match (is_frequent fields) (Matches fields (local_of zone at)) (IsDueOnce fields zone at) shown
    (decided_either (Matches fields (local_of zone at) × IsFirstShown zone at) (SkipsMatch fields zone at)
    (decided_both (Matches fields (local_of zone at)) (IsFirstShown zone at) shown (decided_first zone at)) (decided_skips fields zone at))

pub decided_inside : (window : Window) (at : ℤ) → IsDecided (IsInWindow window at)
decided_inside window at =
    decided_like ((window.from.0 ≤ℤ at) × (at <ℤ window.until.0)) (IsInWindow window at)
    (λ both. record { since = both.0; before = both.1 }) (λ inside. (inside.since, inside.before))
    (decided_both (window.from.0 ≤ℤ at) (at <ℤ window.until.0) (decided_le window.from.0 at) (decided_lt at window.until.0))
