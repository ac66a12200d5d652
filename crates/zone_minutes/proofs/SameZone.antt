-- Two zones that `jiff` reads one source as give the same offset at each instant.
use Rattle.std.proofs.Common.{◌≡◌, ℕ, zero, suc, ◌+◌, ◌-◌, ◌==◌, Bool, true, false, if◌then◌else◌, cond, int_le, List, [], ◌∷◌, map, length, get_or, vec_len, Option, Some, None, option_map, ℤ, pos, refl, sym, ap, ◌∙◌}
use Rattle.std.specs.List.{prefix_len}
use Rattle.std.proofs.lemmas.List.{length-map}
use Rattle.jiff.specs.Types.{TimeZone, UTC, Unknown, Fixed, Posix, Tzif}
use Rattle.jiff.specs.Placed.{IsPosixZone}
use Rattle.jiff.specs.Words.{offset_at}
use Rattle.jiff_core.specs.declared.Offset.{Offset}
use Rattle.jiff_tz.specs.PosixRule.{rule_nanos, utc_window, in_window, dst_at_by, match_some}
use Rattle.jiff_tz.specs.PosixRule as Rule
use Rattle.jiff_tz.specs.PosixText.{DstText, TzText, dst_view, tz_view}
use Rattle.jiff_tz.specs.Tzif.{count_at, floor_second, no_transition, rule_after, transition_at, type_after, tzif_view}
use Rattle.jiff_tz.specs.Tzif as Table
use Rattle.jiff_tz.specs.TzifReader.{TzifText}
use Rattle.jiff_tz.specs.TzifText.{TransitionText, transition_text}
use Rattle.jiff_tz.specs.Year.{year_of_nanos}
use Rattle.jiff_tz.specs.declared.posix.DayTime.{DayTime}
use Rattle.jiff_tz.specs.declared.posix.Dst.{Dst}
use Rattle.jiff_tz.specs.declared.posix.TimeZone.{TimeZone as PosixZone}
use Rattle.jiff_tz.specs.declared.tzif.Tzif.{Tzif as TableZone}
use Rattle.jiff_tz.specs.declared.tzif.transition.Transition.{Transition}
use Rattle.zone_minutes.specs.Zone.{IsTableZone}

-- a rule's moment is its day and its time
rule_nanos-same : (y seconds : ℤ) (a b : DayTime) → a.date ≡ b.date → a.time ≡ b.time → rule_nanos y a seconds ≡ rule_nanos y b seconds
unfolding rule_nanos
rule_nanos-same y seconds a b date time = rw (date, time) refl

-- daylight saving time that says the same is in force from the same instant to the same
pub utc_window-same : (y : ℤ) (a b : Dst) (p q : Offset) → dst_view a ≡ dst_view b → p.seconds ≡ q.seconds → utc_window a y p ≡ utc_window b y q
unfolding utc_window
utc_window-same y a b p q same seconds =
    let ahead : a.offset.seconds ≡ b.offset.seconds = ap (λ (d : DstText). d.seconds) same in
    let start : rule_nanos y a.rule.start p.seconds ≡ rule_nanos y b.rule.start q.seconds =
    rule_nanos-same y p.seconds a.rule.start b.rule.start (ap (λ (d : DstText). d.start.0) same) (ap (λ (d : DstText). d.start.1) same)
    ∙ ap (rule_nanos y b.rule.start) seconds in
    let end : rule_nanos y a.rule.end a.offset.seconds ≡ rule_nanos y b.rule.end b.offset.seconds =
    rule_nanos-same y a.offset.seconds a.rule.end b.rule.end (ap (λ (d : DstText). d.finish.0) same) (ap (λ (d : DstText). d.finish.1) same)
    ∙ ap (rule_nanos y b.rule.end) ahead in
    rw (start, end, seconds) refl

in_force : (b : Bool) (d e : Dst) (p q : Offset) → d.offset.seconds ≡ e.offset.seconds → p.seconds ≡ q.seconds
    → (match_some (if b then Some d else None) p (λ x. x.offset)).seconds ≡ (match_some (if b then Some e else None) q (λ x. x.offset)).seconds
in_force true d e p q ahead seconds = ahead
in_force false d e p q ahead seconds = seconds

by_dst : (d e : Option Dst) (p q : Offset) (n : ℤ) → p.seconds ≡ q.seconds → option_map dst_view d ≡ option_map dst_view e
    → (match_some (dst_at_by p d n) p (λ x. x.offset)).seconds ≡ (match_some (dst_at_by q e n) q (λ x. x.offset)).seconds
by_dst None None p q n seconds same = seconds
by_dst None (Some e) p q n seconds same = absurd cc
by_dst (Some d) None p q n seconds same = absurd cc
by_dst (Some d) (Some e) p q n seconds same =
    let says : dst_view d ≡ dst_view e = cc in
    let window = utc_window-same (year_of_nanos n) d e p q says seconds in
    rw window (in_force (in_window (utc_window e (year_of_nanos n) q) n) d e p q (ap (λ (x : DstText). x.seconds) says) seconds)

-- rules that say the same have the same offset
pub rule_seconds-same : (a b : PosixZone) (n : ℤ) → tz_view a ≡ tz_view b → (Rule.offset_at a n).seconds ≡ (Rule.offset_at b n).seconds
rule_seconds-same a b n same =
    by_dst a.dst b.dst a.std_offset b.std_offset n (ap (λ (z : TzText). z.std_seconds) same) (ap (λ (z : TzText). z.dst) same)

prefix_len-text : (second : ℤ) (rows : List Transition) → prefix_len (λ t. int_le t.second second) rows ≡ prefix_len (λ t. int_le t.second second) (map transition_text rows)
prefix_len-text second [] = refl
prefix_len-text second (row ∷ rows) = ap (λ n. cond (int_le row.second second) (1 + n) 0) (prefix_len-text second rows)

get_or-text : (rows : List Transition) (i : ℕ) (d : Transition) → transition_text (get_or rows i d) ≡ get_or (map transition_text rows) i (transition_text d)
get_or-text [] i d = refl
get_or-text (row ∷ rows) zero d = refl
get_or-text (row ∷ rows) (suc i) d = get_or-text rows i d

-- tables that say the same have so many transitions by the same second
count_at-same : (a b : TableZone) (second : ℤ) → tzif_view a ≡ tzif_view b → count_at a second ≡ count_at b second
count_at-same a b second same =
    prefix_len-text second a.transitions.items
    ∙ ap (λ (z : TzifText). prefix_len (λ (t : TransitionText). int_le t.second second) z.transitions) same
    ∙ sym (prefix_len-text second b.transitions.items)

vec_len-same : (a b : TableZone) → tzif_view a ≡ tzif_view b → vec_len a.transitions ≡ vec_len b.transitions
vec_len-same a b same =
    a.transitions.ok.0
    ∙ sym (length-map a.transitions.items transition_text)
    ∙ ap (λ (z : TzifText). length z.transitions) same
    ∙ length-map b.transitions.items transition_text
    ∙ sym b.transitions.ok.0

row_seconds : (a b : TableZone) (i : ℕ) → tzif_view a ≡ tzif_view b → (transition_at a i).after.offset.seconds ≡ (transition_at b i).after.offset.seconds
row_seconds a b i same =
    let none : transition_text (no_transition a) ≡ transition_text (no_transition b) =
    ap (λ (z : TzifText). record { second = pos 0; before = z.first.seconds; after = z.first }) same in
    ap (λ (t : TransitionText). t.after.seconds)
    (get_or-text a.transitions.items i (no_transition a)
    ∙ ap (get_or (map transition_text a.transitions.items) i) none
    ∙ ap (λ (z : TzifText). get_or z.transitions i (transition_text (no_transition b))) same
    ∙ sym (get_or-text b.transitions.items i (no_transition b)))

type_seconds : (a b : TableZone) (count : ℕ) → tzif_view a ≡ tzif_view b → (type_after a count).offset.seconds ≡ (type_after b count).offset.seconds
type_seconds a b count same = by_place (count == 0)
  where
    by_place : (first : Bool) → (if first then a.first else (transition_at a (count - 1)).after).offset.seconds ≡ (if first then b.first else (transition_at b (count - 1)).after).offset.seconds
    by_place true = ap (λ (z : TzifText). z.first.seconds) same
    by_place false = row_seconds a b (count - 1) same

rule_after-same : (a b : TableZone) (count : ℕ) → tzif_view a ≡ tzif_view b → option_map tz_view (rule_after a count) ≡ option_map tz_view (rule_after b count)
rule_after-same a b count same = rw (vec_len-same a b same) (by_place (count == vec_len b.transitions))
  where
    by_place : (whole : Bool) → option_map tz_view (if whole then a.posix_tz else None) ≡ option_map tz_view (if whole then b.posix_tz else None)
    by_place true = ap (λ (z : TzifText). z.rule) same
    by_place false = refl

by_rule : (p q : Option PosixZone) (x y : Offset) (n : ℤ) → x.seconds ≡ y.seconds → option_map tz_view p ≡ option_map tz_view q
    → (match_some p x (λ tz. Rule.offset_at tz n)).seconds ≡ (match_some q y (λ tz. Rule.offset_at tz n)).seconds
by_rule None None x y n seconds same = seconds
by_rule None (Some q) x y n seconds same = absurd cc
by_rule (Some p) None x y n seconds same = absurd cc
by_rule (Some p) (Some q) x y n seconds same = let says : tz_view p ≡ tz_view q = cc in rule_seconds-same p q n says

-- tables that say the same have the same offset
pub table_seconds-same : (a b : TableZone) (n : ℤ) → tzif_view a ≡ tzif_view b → (Table.offset_at a n).seconds ≡ (Table.offset_at b n).seconds
table_seconds-same a b n same =
    rw (count_at-same a b (floor_second n) same)
    (by_rule (rule_after a (count_at b (floor_second n))) (rule_after b (count_at b (floor_second n)))
    (type_after a (count_at b (floor_second n))).offset (type_after b (count_at b (floor_second n))).offset n
    (type_seconds a b (count_at b (floor_second n)) same) (rule_after-same a b (count_at b (floor_second n)) same))

-- what one rule's text is read as has the same offsets
pub offset_at-rule : (text : List ℕ) (a b : TimeZone) (n : ℤ) → IsPosixZone text a → IsPosixZone text b → offset_at a n ≡ offset_at b n
unfolding offset_at
offset_at-rule text (Posix a) (Posix b) n in_a in_b = let says : tz_view a ≡ tz_view b = cc in rule_seconds-same a b n says
offset_at-rule text (Posix a) UTC n in_a in_b = absurd in_b
offset_at-rule text (Posix a) Unknown n in_a in_b = absurd in_b
offset_at-rule text (Posix a) (Fixed o) n in_a in_b = absurd in_b
offset_at-rule text (Posix a) (Tzif t) n in_a in_b = absurd in_b
offset_at-rule text UTC b n in_a in_b = absurd in_a
offset_at-rule text Unknown b n in_a in_b = absurd in_a
offset_at-rule text (Fixed o) b n in_a in_b = absurd in_a
offset_at-rule text (Tzif t) b n in_a in_b = absurd in_a

-- what one file's bytes are read as has the same offsets
pub offset_at-table : (bytes : List ℕ) (a b : TimeZone) (n : ℤ) → IsTableZone bytes a → IsTableZone bytes b → offset_at a n ≡ offset_at b n
unfolding offset_at
offset_at-table bytes (Tzif a) (Tzif b) n in_a in_b =
    let read_a = in_a.read in
    let read_b = in_b.read in
    let says : tzif_view a.now ≡ tzif_view b.now = cc in
    table_seconds-same a.now b.now n says
offset_at-table bytes (Tzif a) UTC n in_a in_b = absurd in_b
offset_at-table bytes (Tzif a) Unknown n in_a in_b = absurd in_b
offset_at-table bytes (Tzif a) (Fixed o) n in_a in_b = absurd in_b
offset_at-table bytes (Tzif a) (Posix p) n in_a in_b = absurd in_b
offset_at-table bytes UTC b n in_a in_b = absurd in_a
offset_at-table bytes Unknown b n in_a in_b = absurd in_a
offset_at-table bytes (Fixed o) b n in_a in_b = absurd in_a
offset_at-table bytes (Posix p) b n in_a in_b = absurd in_a
