-- No source is both read and refused.
use Rattle.std.proofs.Common.{◌≡◌, inl, inr, ℕ, ◌-◌, Bool, true, false, if◌then◌else◌, List, length, map, get_or, Option, Some, None, option_map, IfSome, ℤ, refl, sym, ap, ◌∙◌}
use Rattle.jiff.specs.Types.{TimeZone, UTC, Unknown, Fixed, Posix, Tzif}
use Rattle.jiff.specs.Placed.{IsPosixZone}
use Rattle.jiff_tz.specs.Abbreviation.{abbreviation_text}
use Rattle.jiff_tz.specs.PosixRule.{utc_window, in_window, dst_at_by, match_some, std_info, dst_info, info_at}
use Rattle.jiff_tz.specs.PosixText.{DstText, TzText, dst_view, tz_view}
use Rattle.jiff_tz.specs.Tzif.{tzif_view}
use Rattle.jiff_tz.specs.TzifAgree.{RowAgrees, FooterAgrees}
use Rattle.jiff_tz.specs.TzifReader.{TzifText}
use Rattle.jiff_tz.specs.TzifText.{TransitionText, transition_text, no_row}
use Rattle.jiff_tz.specs.Year.{year_of_nanos}
use Rattle.jiff_tz.specs.declared.info.OffsetInfo.{OffsetInfo}
use Rattle.jiff_tz.specs.declared.posix.Dst.{Dst}
use Rattle.jiff_tz.specs.declared.posix.TimeZone.{TimeZone as PosixZone}
use Rattle.jiff_tz.specs.declared.tzif.Tzif.{Tzif as Table}
use Rattle.zone_minutes.specs.Zone.{Source, FixedOffset, PosixRule, TzifFile, IsReadable, IsSourceRefused, IsTable, IsTableZone}
use Rattle.zone_minutes.proofs.SameZone.{utc_window-same}

-- the same offset, flag and abbreviation
record SaysSame (a b : OffsetInfo) : Type 0 where
  offset : a.offset.seconds ≡ b.offset.seconds
  flag : a.dst ≡ b.dst
  name : abbreviation_text a.abbreviation ≡ abbreviation_text b.abbreviation

info_in_force : (in_force : Bool) (d e : Dst) (p q : PosixZone) → dst_view d ≡ dst_view e → tz_view p ≡ tz_view q
    → SaysSame (match_some (if in_force then Some d else None) (std_info p) dst_info) (match_some (if in_force then Some e else None) (std_info q) dst_info)
info_in_force true d e p q summer same = record {
  offset = ap (λ (x : DstText). x.seconds) summer;
  flag = refl;
  name = ap (λ (x : DstText). x.name) summer;
}
info_in_force false d e p q summer same = record {
  offset = ap (λ (x : TzText). x.std_seconds) same;
  flag = refl;
  name = ap (λ (x : TzText). x.std_name) same;
}

info_by_dst : (d e : Option Dst) (p q : PosixZone) (n : ℤ) → option_map dst_view d ≡ option_map dst_view e → tz_view p ≡ tz_view q
    → SaysSame (match_some (dst_at_by p.std_offset d n) (std_info p) dst_info) (match_some (dst_at_by q.std_offset e n) (std_info q) dst_info)
info_by_dst None None p q n summer same = record {
  offset = ap (λ (x : TzText). x.std_seconds) same;
  flag = refl;
  name = ap (λ (x : TzText). x.std_name) same;
}
info_by_dst None (Some e) p q n summer same = absurd cc
info_by_dst (Some d) None p q n summer same = absurd cc
info_by_dst (Some d) (Some e) p q n summer same =
    let says : dst_view d ≡ dst_view e = cc in
    let window = utc_window-same (year_of_nanos n) d e p.std_offset q.std_offset says (ap (λ (x : TzText). x.std_seconds) same) in
    rw window (info_in_force (in_window (utc_window e (year_of_nanos n) q.std_offset) n) d e p q says same)

-- rules that say the same say the same of each instant
info_at-same : (a b : PosixZone) (n : ℤ) → tz_view a ≡ tz_view b → SaysSame (info_at a n) (info_at b n)
info_at-same a b n same = info_by_dst a.dst b.dst a b n (ap (λ (x : TzText). x.dst) same) same

RowAgrees-same : (a b : PosixZone) (row : TransitionText) → tz_view a ≡ tz_view b → RowAgrees a row → RowAgrees b row
RowAgrees-same a b row same (offset, flag, name) =
    let says = info_at-same a b _ same in
    (sym says.offset ∙ offset, sym says.flag ∙ flag, sym says.name ∙ name)

FooterAgrees-same : (rows : List TransitionText) (a b : PosixZone) → tz_view a ≡ tz_view b → FooterAgrees rows a → FooterAgrees rows b
FooterAgrees-same rows a b same agrees some = RowAgrees-same a b (get_or rows (length rows - 1) no_row) same (agrees some)

footer_stands : (rows : List TransitionText) (kept : Option PosixZone) (rule : PosixZone) → option_map tz_view kept ≡ Some (tz_view rule)
    → IfSome kept (λ tz. FooterAgrees rows tz) → FooterAgrees rows rule
footer_stands rows None rule is agrees = absurd cc
footer_stands rows (Some kept) rule is agrees =
    let says : tz_view kept ≡ tz_view rule = cc in
    FooterAgrees-same rows kept rule says agrees

table_not_refused : (bytes : List ℕ) (table : Table) → IsTable bytes table → IsSourceRefused (TzifFile bytes) → ⊥
table_not_refused bytes table is (inl (fault, refused)) =
    let read = is.read in
    absurd cc
table_not_refused bytes table is (inr bad) =
    let read = is.read in
    let other = bad.read in
    let same : tzif_view table ≡ bad.text = cc in
    let rule : option_map tz_view table.posix_tz ≡ Some (tz_view bad.rule) = ap (λ (x : TzifText). x.rule) same ∙ bad.is_rule in
    bad.disagrees
    (rw (← ap (λ (x : TzifText). x.transitions) same)
    (footer_stands (map transition_text table.transitions.items) table.posix_tz bad.rule rule is.agrees))

rule_not_refused : (text : List ℕ) (zone : TimeZone) → IsPosixZone text zone → IsSourceRefused (PosixRule text) → ⊥
rule_not_refused text (Posix rule) is refused = absurd cc
rule_not_refused text UTC is refused = absurd is
rule_not_refused text Unknown is refused = absurd is
rule_not_refused text (Fixed o) is refused = absurd is
rule_not_refused text (Tzif t) is refused = absurd is

file_not_refused : (bytes : List ℕ) (zone : TimeZone) → IsTableZone bytes zone → IsSourceRefused (TzifFile bytes) → ⊥
file_not_refused bytes (Tzif table) is refused = table_not_refused bytes table.now is refused
file_not_refused bytes UTC is refused = absurd is
file_not_refused bytes Unknown is refused = absurd is
file_not_refused bytes (Fixed o) is refused = absurd is
file_not_refused bytes (Posix p) is refused = absurd is

-- no source is both read and refused
pub not_refused : (source : Source) → IsReadable source → IsSourceRefused source → ⊥
not_refused (FixedOffset minutes) read refused = absurd refused
not_refused (PosixRule text) (zone, is) refused = rule_not_refused text zone is refused
not_refused (TzifFile bytes) (zone, is) refused = file_not_refused bytes zone is refused
