-- What a look at one minute after the other has found.
use Rattle.std.proofs.Common.{◌≡◌, ◌≢◌, ℕ, ◌+◌, ◌<◌, ◌≤◌, ◌⊎◌, inl, inr, ◌↔◌, ℤ, pos, negsuc, ◌+ℤ◌, ◌-ℤ◌, ◌<ℤ◌, Bool, IsTrue, true, false, refl, sym, ap, ◌∙◌, subst, arith}
use Rattle.std.proofs.lemmas.Bool.{cases_lt}
use Rattle.std.proofs.lemmas.Int.{ints}
use Rattle.jiff.specs.Types.{TimeZone}
use Rattle.cron_fields.specs.declared.field.Fields.{Fields}
use Rattle.cron_fields.specs.Match.{MatchesDate, MatchesTime}
use Rattle.zone_minutes.specs.Civil.{civil_at, day_number, weekday_of}
use Rattle.zone_minutes.specs.Zone.{Source, IsLocal, IsReadAs, local_of}
use Rattle.zone_minutes.specs.declared.civil.Civil.{Civil}
use Rattle.zone_minutes.proofs.ZoneLemmas.{local_of-same}
use Rattle.due_set.specs.Due.{Matches, IsFirstShown, IsSkipped}

-- a test that failed, of what doesn't hold
pub false_iff : (P : Type 0) → (P → ⊥) → (IsTrue false ↔ P)
false_iff P none = (λ e. cc, λ p. absurd (none p))

-- a test that held, of what holds
pub true_iff : (P : Type 0) → P → (IsTrue true ↔ P)
true_iff P p = (λ e. p, λ q. refl)

-- a test of the time decides, once the date matches
pub Matches-of : (f : Fields) (minute : ℤ) (civil : Civil) (weekday : ℕ) (result : Bool) → civil ≡ civil_at minute
    → weekday ≡ weekday_of (day_number minute) → MatchesDate f civil.month civil.day weekday
    → (IsTrue result ↔ MatchesTime f civil.hour civil.minute) → (IsTrue result ↔ Matches f minute)
Matches-of f minute civil weekday result civil_is weekday_is date time =
    let date_at : MatchesDate f (civil_at minute).month (civil_at minute).day (weekday_of (day_number minute)) =
    subst (λ (d : ℕ). MatchesDate f (civil_at minute).month (civil_at minute).day d) weekday_is
    (subst (λ (at : Civil). MatchesDate f at.month at.day weekday) civil_is date) in (
      λ e. record { date = date_at; time = subst (λ (at : Civil). MatchesTime f at.hour at.minute) civil_is (time.0 e) },
      λ m. time.1 (subst (λ (at : Civil). MatchesTime f at.hour at.minute) (sym civil_is) m.time),
    )

-- the local time of the program is that of each zone that the source is read as
pub IsLocal-is : (source : Source) (z : TimeZone) (t local : ℤ) → IsReadAs source z → IsLocal source t local → local ≡ local_of z t
IsLocal-is source z t local read known = known.is ∙ local_of-same source known.zone z t known.read read

-- the clock showed another local time at each instant fewer than so many minutes before
abbrev pub DiffersBelow : Source → ℤ → ℕ → Type 0
DiffersBelow source at bound =
    (z : TimeZone) → IsReadAs source z → (k : ℕ) → 1 ≤ k → k < bound → local_of z (at -ℤ pos k) ≢ local_of z at

-- below one more, or the last
last_of : (k n : ℕ) → k < n + 1 → (k < n) ⊎ (k ≡ n)
last_of k n lt = elim (cases_lt k n) [ inl below ↦ inl below | inr from ↦ inr (omega arith) ]

pub DiffersBelow-next : (source : Source) (at shown before then : ℤ) (n : ℕ) → DiffersBelow source at n
    → then ≡ at -ℤ pos n → IsLocal source at shown → IsLocal source then before → before ≢ shown → DiffersBelow source at (n + 1)
DiffersBelow-next source at shown before then n known then_is local_at local_then other z read k from below same =
    elim (last_of k n below) [
      | inl earlier ↦ known z read k from earlier same
      | inr k_is ↦
          let shown_is : shown ≡ local_of z at = IsLocal-is source z at shown read local_at in
          let before_is : before ≡ local_of z then = IsLocal-is source z then before read local_then in
          let at_n : local_of z then ≡ local_of z (at -ℤ pos k) = ap (local_of z) (then_is ∙ ap (λ (i : ℕ). at -ℤ pos i) (sym k_is)) in
          other (before_is ∙ at_n ∙ same ∙ sym shown_is)
    ]

-- an instant between two that are 180 minutes apart
between : (at t : ℤ) → (at -ℤ pos 180) <ℤ t → t <ℤ at → (k : ℕ) × (t ≡ at -ℤ pos k) × (1 ≤ k) × (k < 180)
between at t since before = by_gap (at -ℤ t) refl
  where
    by_gap : (gap : ℤ) → gap ≡ at -ℤ t → (k : ℕ) × (t ≡ at -ℤ pos k) × (1 ≤ k) × (k < 180)
    by_gap (pos k) e = (k, omega (arith, ints), omega (arith, ints), omega (arith, ints))
    by_gap (negsuc k) e = absurd (omega (arith, ints))

pub IsFirstShown-all : (source : Source) (at : ℤ) (bound : ℕ) → 180 ≤ bound → DiffersBelow source at bound
    → (z : TimeZone) → IsReadAs source z → IsFirstShown z at
IsFirstShown-all source at bound le known z read earlier since before =
    let found = between at earlier since before in
    subst (λ (t : ℤ). local_of z t ≢ local_of z at) (sym found.1) (known z read found.0 found.2 (omega (arith, found.3)))

-- a local time that was shown before isn't shown for the first time
pub not_first_shown : (source : Source) (at shown before then : ℤ) (n : ℕ) → 1 ≤ n → n < 180
    → then ≡ at -ℤ pos n → IsLocal source at shown → IsLocal source then before → before ≡ shown
    → (z : TimeZone) → IsReadAs source z → IsFirstShown z at → ⊥
not_first_shown source at shown before then n from below then_is local_at local_then same z read first =
    let shown_is : shown ≡ local_of z at = IsLocal-is source z at shown read local_at in
    let before_is : before ≡ local_of z then = IsLocal-is source z then before read local_then in
    first then (omega (arith, ints)) (omega (arith, ints)) (sym before_is ∙ same ∙ shown_is)

-- no civil minute fewer than so many after one matches, of those before another
abbrev pub NoneMatchesBelow : Fields → ℤ → ℤ → ℕ → Type 0
NoneMatchesBelow fields before shown bound =
    (k : ℕ) → 1 ≤ k → k < bound → (before +ℤ pos k) <ℤ shown → Matches fields (before +ℤ pos k) → ⊥

pub NoneMatchesBelow-next : (fields : Fields) (before shown minute : ℤ) (n : ℕ) → NoneMatchesBelow fields before shown n
    → minute ≡ before +ℤ pos n → (minute <ℤ shown → Matches fields minute → ⊥) → NoneMatchesBelow fields before shown (n + 1)
NoneMatchesBelow-next fields before shown minute n known minute_is none k from below lt m =
    elim (last_of k n below) [
      | inl earlier ↦ known k from earlier lt m
      | inr k_is ↦
          let same : before +ℤ pos k ≡ minute = ap (λ (i : ℕ). before +ℤ pos i) k_is ∙ sym minute_is in
          none (subst (λ (t : ℤ). t <ℤ shown) same lt) (subst (Matches fields) same m)
    ]

-- a zone's clock skipped a civil minute that the fields match
abbrev pub SkipsMatch : Fields → TimeZone → ℤ → Type 0
SkipsMatch fields z at = (minute : ℤ) × IsSkipped z at minute × Matches fields minute

pub SkipsMatch-found : (fields : Fields) (source : Source) (at then before shown minute : ℤ) (n : ℕ)
    → then ≡ at -ℤ pos 1 → IsLocal source at shown → IsLocal source then before → minute ≡ before +ℤ pos n → 1 ≤ n
    → (shown -ℤ before -ℤ pos 1) <ℤ pos 180 → minute <ℤ shown → Matches fields minute
    → (z : TimeZone) → IsReadAs source z → SkipsMatch fields z at
SkipsMatch-found fields source at then before shown minute n then_is local_at local_then minute_is from short lt m z read =
    let shown_is : shown ≡ local_of z at = IsLocal-is source z at shown read local_at in
    let before_is : before ≡ local_of z (at -ℤ pos 1) = IsLocal-is source z then before read local_then ∙ ap (local_of z) then_is in
    let after : before <ℤ minute = omega (arith, ints) in (
      minute,
      record {
        after = subst (λ (t : ℤ). t <ℤ minute) before_is after;
        before = subst (λ (t : ℤ). minute <ℤ t) shown_is lt;
        short = subst (λ (t : ℤ). (local_of z at -ℤ t -ℤ pos 1) <ℤ pos 180) before_is
            (subst (λ (t : ℤ). (t -ℤ before -ℤ pos 1) <ℤ pos 180) shown_is short);
      },
      m,
    )

-- a change that passes over no minute or over 180 or more skips nothing
pub SkipsMatch-long : (fields : Fields) (source : Source) (at then before shown : ℤ)
    → then ≡ at -ℤ pos 1 → IsLocal source at shown → IsLocal source then before
    → (pos 1 <ℤ (shown -ℤ before) → (shown -ℤ before -ℤ pos 1) <ℤ pos 180 → ⊥) → (z : TimeZone) → IsReadAs source z → SkipsMatch fields z at → ⊥
SkipsMatch-long fields source at then before shown then_is local_at local_then long z read (minute, skipped, m) =
    let shown_is : shown ≡ local_of z at = IsLocal-is source z at shown read local_at in
    let before_is : before ≡ local_of z (at -ℤ pos 1) = IsLocal-is source z then before read local_then ∙ ap (local_of z) then_is in
    let after : before <ℤ minute = subst (λ (t : ℤ). t <ℤ minute) (sym before_is) skipped.after in
    let lt : minute <ℤ shown = subst (λ (t : ℤ). minute <ℤ t) (sym shown_is) skipped.before in
    long (omega (arith, ints)) (subst (λ (t : ℤ). (shown -ℤ t -ℤ pos 1) <ℤ pos 180) (sym before_is)
    (subst (λ (t : ℤ). (t -ℤ local_of z (at -ℤ pos 1) -ℤ pos 1) <ℤ pos 180) (sym shown_is) skipped.short))

-- a civil minute that was skipped is fewer than 180 after the one before
passed_by : (before shown minute : ℤ) → before <ℤ minute → minute <ℤ shown → (shown -ℤ before -ℤ pos 1) <ℤ pos 180
    → (k : ℕ) × (minute ≡ before +ℤ pos k) × (1 ≤ k) × (k < 180)
passed_by before shown minute after lt short = by_gap (minute -ℤ before) refl
  where
    by_gap : (gap : ℤ) → gap ≡ minute -ℤ before → (k : ℕ) × (minute ≡ before +ℤ pos k) × (1 ≤ k) × (k < 180)
    by_gap (pos k) e = (k, omega (arith, ints), omega (arith, ints), omega (arith, ints))
    by_gap (negsuc k) e = absurd (omega (arith, ints))

pub SkipsMatch-none : (fields : Fields) (source : Source) (at then before shown : ℤ) (bound : ℕ)
    → then ≡ at -ℤ pos 1 → IsLocal source at shown → IsLocal source then before
    → 180 ≤ bound → NoneMatchesBelow fields before shown bound → (z : TimeZone) → IsReadAs source z → SkipsMatch fields z at → ⊥
SkipsMatch-none fields source at then before shown bound then_is local_at local_then le none z read (minute, skipped, m) =
    let shown_is : shown ≡ local_of z at = IsLocal-is source z at shown read local_at in
    let before_is : before ≡ local_of z (at -ℤ pos 1) = IsLocal-is source z then before read local_then ∙ ap (local_of z) then_is in
    let after : before <ℤ minute = subst (λ (t : ℤ). t <ℤ minute) (sym before_is) skipped.after in
    let lt : minute <ℤ shown = subst (λ (t : ℤ). minute <ℤ t) (sym shown_is) skipped.before in
    let short : (shown -ℤ before -ℤ pos 1) <ℤ pos 180 =
    subst (λ (t : ℤ). (shown -ℤ t -ℤ pos 1) <ℤ pos 180) (sym before_is)
    (subst (λ (t : ℤ). (t -ℤ local_of z (at -ℤ pos 1) -ℤ pos 1) <ℤ pos 180) (sym shown_is) skipped.short) in
    let found = passed_by before shown minute after lt short in
    none found.0 found.2 (omega (arith, found.3)) (subst (λ (t : ℤ). t <ℤ shown) found.1 lt) (subst (Matches fields) found.1 m)
