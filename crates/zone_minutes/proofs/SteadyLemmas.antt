-- Before the next change that a zone tells, and on one day, its offset is one.
use Rattle.std.proofs.Common.{◌≡◌, ℕ, suc, ◌+◌, ◌-◌, ◌<◌, ◌≤◌, ◌*◌, ◌/◌, min, max, ◌==◌, Bool, true, false, cond, if◌then◌else◌, int_le, int_lt, length, vec_len, Option, Some, None, ℤ, pos, neg_ℤ, ◌+ℤ◌, ◌*ℤ◌, ◌≤ℤ◌, ◌<ℤ◌, refl, sym, ap, subst, ◌∙◌, inl, inr, arith}
use Rattle.std.specs.Prelude.{IfSome}
use Rattle.std.specs.Int.{int_div_euclid}
use Rattle.std.proofs.lemmas.Bool.Decides.{leb_tells, nat_tests}
use Rattle.std.proofs.lemmas.List.Sums.{prefix_len_passes, prefix_len-le-length}
use borrow.Author.Differences.{lt-true, lt-false, le-true, le-false}
use Rattle.jiff.specs.Types.{TimeZone, UTC, Unknown, Fixed, Posix, Tzif}
use Rattle.jiff.specs.Words.{offset_at, next_at}
use Rattle.jiff_core.proofs.SignedLemmas.{signed_arith}
use Rattle.jiff_core.specs.declared.Offset.{Offset}
use Rattle.jiff_core.specs.Timestamp.{nanos_of_seconds}
use Rattle.jiff_tz.specs.PosixRule.{in_window, utc_window, ordered, dst_at_by, match_some, next_by, transition_of}
use Rattle.jiff_tz.specs.PosixRule as Rule
use Rattle.jiff_tz.specs.Tzif.{count_at, floor_second, transition_at, type_after, no_transition}
use Rattle.jiff_tz.specs.Tzif as Table
use Rattle.jiff_tz.specs.declared.info.OffsetInfo.{OffsetInfo}
use Rattle.jiff_tz.specs.declared.tzif.transition.Transition.{Transition}
use Rattle.jiff_tz.specs.Year.{year_of_nanos, year_of_day}
use Rattle.jiff_tz.specs.declared.posix.Dst.{Dst}
use Rattle.jiff_tz.specs.declared.posix.TimeZone.{TimeZone as PosixZone}
use Rattle.jiff_tz.specs.declared.tzif.Tzif.{Tzif as TableZone}
use Rattle.jiff_tz.proofs.TzifLemmas.{le_yes, le_no}
use Rattle.jiff_tz.proofs.ZoneTheorems.{count_is}
use Rattle.zone_minutes.specs.Steady.{IsSteady}
use Rattle.zone_minutes.specs.Zone.{minute_nanos}

lt_yes : (a b : ℤ) → a <ℤ b → int_lt a b ≡ true
lt_yes a b lt = elim (int_lt a b) as (λ t. int_lt a b ≡ t → t ≡ true) [
  | true ↦ λ e. refl
  | false ↦ λ e. let over = lt-false a b e in absurd (omega (arith, signed_arith))
] refl

lt_no : (a b : ℤ) → b ≤ℤ a → int_lt a b ≡ false
lt_no a b le = elim (int_lt a b) as (λ t. int_lt a b ≡ t → t ≡ false) [
  | true ↦ λ e. let under = lt-true a b e in absurd (omega (arith, signed_arith))
  | false ↦ λ e. refl
] refl

-- two moments are on the same side of each end of a window
record AreBeside (w : ℤ × ℤ) (t n : ℤ) : Type 0 where
  start : int_le w.0 t ≡ int_le w.0 n
  end : int_le w.1 t ≡ int_le w.1 n

le_same : (a t n : ℤ) → t ≤ℤ n → (t <ℤ a → n <ℤ a) → int_le a t ≡ int_le a n
le_same a t n later before = elim (int_le a t) as (λ b. int_le a t ≡ b → b ≡ int_le a n) [
  | true ↦ λ e. let le = le-true a t e in sym (le_yes a n (omega (arith, signed_arith)))
  | false ↦ λ e. let lt = le-false a t e in sym (le_no a n (before (omega (arith, signed_arith))))
] refl

lt_same : (a t n : ℤ) → t ≤ℤ n → (t <ℤ a → n <ℤ a) → int_lt t a ≡ int_lt n a
lt_same a t n later before = elim (int_lt t a) as (λ b. int_lt t a ≡ b → b ≡ int_lt n a) [
  | true ↦ λ e. let lt = lt-true t a e in sym (lt_yes n a (before (omega (arith, signed_arith))))
  | false ↦ λ e. let le = lt-false t a e in sym (lt_no n a (omega (arith, signed_arith)))
] refl

-- a moment and a later one that passes neither end are both in a window, or neither is
in_window-same : (w : ℤ × ℤ) (t n : ℤ) → t ≤ℤ n → (t <ℤ w.0 → n <ℤ w.0) → (t <ℤ w.1 → n <ℤ w.1) → in_window w t ≡ in_window w n
in_window-same w t n later start end =
    rw (le_same w.0 t n later start, lt_same w.0 t n later start, le_same w.1 t n later end, lt_same w.1 t n later end) refl

-- the last instant of a timestamp, in nanoseconds
abbrev last_instant : ℤ
last_instant = pos 253_402_207_200_999_999_999

-- what is before a transition is before its moment
transition_before : (tz : PosixZone) (d : Dst) (w : ℤ × ℤ) (at t n : ℤ) → pos 0 ≤ℤ t → t <ℤ at → n ≤ℤ last_instant
    → IfSome (transition_of tz d w at) (λ x. n <ℤ x.0) → n <ℤ at
transition_before tz d w at t n since lt small before = elim (int_le at last_instant) as (λ b. int_le at last_instant ≡ b → n <ℤ at) [
  | true ↦ λ e.
      let low : int_le (neg_ℤ (pos 377_705_023_201_000_000_000)) at ≡ true = le_yes (neg_ℤ (pos 377_705_023_201_000_000_000)) at (omega (arith, signed_arith)) in
      let is : transition_of tz d w at ≡ Some (at, if in_window w at then Rule.dst_info d else Rule.std_info tz) = rw (low, e) refl in
      subst (λ o. IfSome o (λ x. n <ℤ x.0)) is before
  | false ↦ λ e. let over = le-false at last_instant e in omega (arith, signed_arith)
] refl

ordered_le : (w : ℤ × ℤ) → (ordered w).0 ≤ℤ (ordered w).1
ordered_le w = elim (int_le w.0 w.1) as (λ b. int_le w.0 w.1 ≡ b → (cond b w (w.1, w.0)).0 ≤ℤ (cond b w (w.1, w.0)).1) [
  | true ↦ λ e. let le = le-true w.0 w.1 e in omega (arith, signed_arith)
  | false ↦ λ e. let lt = le-false w.0 w.1 e in omega (arith, signed_arith)
] refl

-- the first transition after a moment, by the earlier and the later end of a window, and the first one of the year after
abbrev pub next_in : PosixZone → Dst → ℤ × ℤ → ℤ → ℤ → Option (ℤ × OffsetInfo) → ℤ → Option (ℤ × OffsetInfo)
next_in tz d w low high rest t =
    if int_lt t low then transition_of tz d w low else (if int_lt t high then transition_of tz d w high else rest)

-- what is before it passes neither end
passes_none : (tz : PosixZone) (d : Dst) (w : ℤ × ℤ) (low high : ℤ) (rest : Option (ℤ × OffsetInfo)) (t n : ℤ) → low ≤ℤ high → pos 0 ≤ℤ t → n ≤ℤ last_instant
    → IfSome (next_in tz d w low high rest t) (λ x. n <ℤ x.0) → (t <ℤ low → n <ℤ low) × (t <ℤ high → n <ℤ high)
passes_none tz d w low high rest t n ordered since small before = elim (int_lt t low) as (λ b. int_lt t low ≡ b → (t <ℤ low → n <ℤ low) × (t <ℤ high → n <ℤ high)) [
  | true ↦ λ e.
      let lt : t <ℤ low = let h = lt-true t low e in omega (arith, signed_arith) in
      let at : n <ℤ low = transition_before tz d w low t n since lt small
      (subst (λ b. IfSome (cond b (transition_of tz d w low) (cond (int_lt t high) (transition_of tz d w high) rest)) (λ x. n <ℤ x.0)) e before) in
      (λ _. at, λ _. omega (arith, signed_arith))
  | false ↦ λ e.
      let le : low ≤ℤ t = let h = lt-false t low e in omega (arith, signed_arith) in
      let after = subst (λ b. IfSome (cond b (transition_of tz d w low) (cond (int_lt t high) (transition_of tz d w high) rest)) (λ x. n <ℤ x.0)) e before in (
        λ lt. absurd (omega (arith, signed_arith)),
        λ lt. transition_before tz d w high t n since lt small
            (subst (λ b. IfSome (cond b (transition_of tz d w high) rest) (λ x. n <ℤ x.0)) (lt_yes t high lt) after),
      )
] refl

-- neither end of the window itself
passes_no_end : (w : ℤ × ℤ) (t n : ℤ) → (t <ℤ (ordered w).0 → n <ℤ (ordered w).0) × (t <ℤ (ordered w).1 → n <ℤ (ordered w).1)
    → (t <ℤ w.0 → n <ℤ w.0) × (t <ℤ w.1 → n <ℤ w.1)
passes_no_end w t n = elim (int_le w.0 w.1) as (λ b. (t <ℤ (cond b w (w.1, w.0)).0 → n <ℤ (cond b w (w.1, w.0)).0) × (t <ℤ (cond b w (w.1, w.0)).1 → n <ℤ (cond b w (w.1, w.0)).1)
    → (t <ℤ w.0 → n <ℤ w.0) × (t <ℤ w.1 → n <ℤ w.1)) [
      | true ↦ λ h. h
      | false ↦ λ h. (h.1, h.0)
    ]

-- in one year, up to the next transition, a rule's offset is one
by_dst : (tz : PosixZone) (dst : Option Dst) (t n : ℤ) → pos 0 ≤ℤ t → t ≤ℤ n → n ≤ℤ last_instant → year_of_nanos n ≡ year_of_nanos t
    → IfSome (match_some dst None (λ d. next_by tz d (year_of_nanos t) t)) (λ x. n <ℤ x.0)
    → dst_at_by tz.std_offset dst n ≡ dst_at_by tz.std_offset dst t
by_dst tz None t n since later small year before = refl
by_dst tz (Some d) t n since later small year before =
    let w = utc_window d (year_of_nanos t) tz.std_offset in
    let ends = passes_no_end w t n (passes_none tz d w (ordered w).0 (ordered w).1 (Rule.next_year tz d (year_of_nanos t)) t n (ordered_le w) since small before) in
    let same = in_window-same w t n later ends.0 ends.1 in
    rw year (ap (λ b. if b then Some d else None) (sym same))

rule_steady : (tz : PosixZone) (t n : ℤ) → pos 0 ≤ℤ t → t ≤ℤ n → n ≤ℤ last_instant → year_of_nanos n ≡ year_of_nanos t
    → IfSome (Rule.next_at tz t) (λ x. n <ℤ x.0) → Rule.offset_at tz n ≡ Rule.offset_at tz t
rule_steady tz t n since later small year before =
    ap (λ (o : Option Dst). match_some o tz.std_offset (λ d. d.offset)) (by_dst tz tz.dst t n since later small year before)

-- up to the next transition so many lie at or before each instant
count_steady : (z : TableZone) (t n : ℤ) → t ≤ℤ n
    → (count_at z (floor_second t) < length z.transitions.items → n <ℤ nanos_of_seconds (transition_at z (count_at z (floor_second t))).second)
    → count_at z (floor_second n) ≡ count_at z (floor_second t)
count_steady z t n later next =
    let k = count_at z (floor_second t) in
    let test : Transition → Bool = λ row. int_le row.second (floor_second t) in
    count_is z (floor_second n) k (prefix_len-le-length test z.transitions.items)
    (λ some.
    let passes = prefix_len_passes test z.transitions.items (k - 1) (no_transition z) (omega arith) in
    let le = le-true (transition_at z (k - 1)).second (floor_second t) passes in
    omega (arith, signed_arith))
    (λ more. let lt = next more in omega (arith, signed_arith))

table_steady : (z : TableZone) (t n : ℤ) → pos 0 ≤ℤ t → t ≤ℤ n → n ≤ℤ last_instant → year_of_nanos n ≡ year_of_nanos t
    → IfSome (Table.next_at z t) (λ x. n <ℤ x.0) → Table.offset_at z n ≡ Table.offset_at z t
table_steady z t n since later small year before =
    let k = count_at z (floor_second t) in
    let bound : k ≤ length z.transitions.items = prefix_len-le-length (λ (row : Transition). int_le row.second (floor_second t)) z.transitions.items in
    let len : vec_len z.transitions ≡ length z.transitions.items = z.transitions.ok.0 in
    elim (k == vec_len z.transitions) as (λ b. (k == vec_len z.transitions) ≡ b → Table.offset_at z n ≡ Table.offset_at z t) [
      | true ↦ λ e.
          let all : k ≡ vec_len z.transitions = grind (arith, nat_tests) in
          let same = count_steady z t n later (λ more. absurd (omega arith)) in
          let after : IfSome (match_some z.posix_tz None (λ tz. Rule.next_at tz t)) (λ x. n <ℤ x.0) =
          subst (λ b. IfSome (cond b (match_some z.posix_tz None (λ tz. Rule.next_at tz t)) (Some (Table.transition_view (transition_at z k)))) (λ x. n <ℤ x.0)) e before in
          rw (same, e) (by_rule z.posix_tz (type_after z k).offset after)
      | false ↦ λ e.
          let after : n <ℤ nanos_of_seconds (transition_at z k).second =
          subst (λ b. IfSome (cond b (match_some z.posix_tz None (λ tz. Rule.next_at tz t)) (Some (Table.transition_view (transition_at z k)))) (λ x. n <ℤ x.0)) e before in
          let same = count_steady z t n later (λ more. after) in
          rw (same, e) refl
    ] refl
  where
    by_rule : (rule : Option PosixZone) (o : Offset) → IfSome (match_some rule None (λ tz. Rule.next_at tz t)) (λ x. n <ℤ x.0)
        → match_some rule o (λ tz. Rule.offset_at tz n) ≡ match_some rule o (λ tz. Rule.offset_at tz t)
    by_rule None o h = refl
    by_rule (Some tz) o h = rule_steady tz t n since later small year h

offset_steady : (zone : TimeZone) (t n : ℤ) → pos 0 ≤ℤ t → t ≤ℤ n → n ≤ℤ last_instant → year_of_nanos n ≡ year_of_nanos t
    → IfSome (next_at zone t) (λ x. n <ℤ x.0) → offset_at zone n ≡ offset_at zone t
unfolding offset_at next_at
offset_steady UTC t n since later small year before = refl
offset_steady Unknown t n since later small year before = refl
offset_steady (Fixed offset) t n since later small year before = refl
offset_steady (Posix tz) t n since later small year before = ap (λ (o : Offset). o.seconds) (rule_steady tz t n since later small year before)
offset_steady (Tzif z) t n since later small year before = ap (λ (o : Offset). o.seconds) (table_steady z.now t n since later small year before)

-- the minutes of one day are of one year
year-same : (a b : ℤ) → int_div_euclid a (pos 1440) ≡ int_div_euclid b (pos 1440) → year_of_nanos (minute_nanos a) ≡ year_of_nanos (minute_nanos b)
year-same a b same = ap year_of_day (day a ∙ same ∙ sym (day b))
  where
    day : (m : ℤ) → int_div_euclid (minute_nanos m) (pos 86_400_000_000_000) ≡ int_div_euclid m (pos 1440)
    day m = omega (arith, signed_arith)

-- the minutes from one on that are on its day, and before the next change
pub IsSteady-day : (zone : TimeZone) (from until : ℤ) → pos 0 ≤ℤ from → until ≤ℤ pos 120_968_640 → until ≤ℤ ((int_div_euclid from (pos 1440) +ℤ pos 1) *ℤ pos 1440)
    → ((t : ℤ) → pos 0 ≤ℤ t → t <ℤ until → IfSome (next_at zone (minute_nanos from)) (λ change. minute_nanos t <ℤ change.0)) → IsSteady zone from until
IsSteady-day zone from until since small day before t at lt =
    let same : int_div_euclid t (pos 1440) ≡ int_div_euclid from (pos 1440) = omega (arith, signed_arith) in
    offset_steady zone (minute_nanos from) (minute_nanos t) (omega (arith, signed_arith)) (omega (arith, signed_arith)) (omega (arith, signed_arith))
    (year-same t from same) (before t (omega (arith, signed_arith)) lt)

-- one minute
pub IsSteady-one : (zone : TimeZone) (from : ℤ) → IsSteady zone from (from +ℤ pos 1)
IsSteady-one zone from t at lt = let same : t ≡ from = omega (arith, signed_arith) in ap (λ m. offset_at zone (minute_nanos m)) same

-- the end of steady instants: the next change, the next day or another end, but behind the first of them
pub IsSteady-end : (zone : TimeZone) (minute change day until result : ℕ) → until ≤ 120_968_640 → day ≡ (minute / 1440 + 1) * 1440 → result ≡ max (min (min change day) until) (minute + 1)
    → ((t : ℤ) → pos 0 ≤ℤ t → t <ℤ pos change → IfSome (next_at zone (minute_nanos (pos minute))) (λ x. minute_nanos t <ℤ x.0)) → IsSteady zone (pos minute) (pos result)
IsSteady-end zone minute change day until result small is_day is before = elim (leb_tells (suc minute) (min (min change day) until)) [
  | inl far ↦
      let le = far.1 in
      let same : result ≡ min (min change day) until = omega (arith, le) in
      IsSteady-day zone (pos minute) (pos result) (omega (arith, signed_arith)) (omega (arith, signed_arith)) (omega (arith, signed_arith))
      (λ t since lt. before t since (omega (arith, signed_arith)))
  | inr near ↦
      let lt = near.1 in
      let same : pos minute +ℤ pos 1 ≡ pos result = omega (arith, signed_arith, lt) in
      subst (IsSteady zone (pos minute)) same (IsSteady-one zone (pos minute))
]
