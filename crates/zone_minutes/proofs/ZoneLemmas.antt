-- Local time at a fixed offset, in UTC, and of one source; how far it may be from the instant.
use Rattle.std.proofs.Common.{◌≡◌, refl, sym, ◌∙◌, arith, ℤ, pos, ◌+ℤ◌, ◌*ℤ◌}
use Rattle.std.specs.Int.{int_div_euclid}
use Rattle.std.proofs.lemmas.Int.{ints}
use Rattle.jiff.specs.Words.{fixed_zone}
use Rattle.jiff.specs.Types.{TimeZone, UTC, Unknown, Fixed, Posix, Tzif}
use Rattle.jiff.proofs.ZoneFacts.{offset_at-fixed_zone, offset_at-UTC}
use Rattle.jiff_core.proofs.SignedLemmas.{signed_arith}
use Rattle.jiff_core.specs.Timestamp.{IsOffsetSeconds}
use Rattle.jiff_core.specs.declared.offset.Offset.{Offset}
use Rattle.jiff_tz.specs.PosixRule as Rule
use Rattle.jiff_tz.specs.Tzif as TableWords
use Rattle.jiff.specs.Words.{offset_at}
use Rattle.zone_minutes.specs.Zone.{Source, FixedOffset, PosixRule, TzifFile, local_of, minute_nanos, IsFixedZone, IsOffsetMinutes, IsReadable, IsReadAs}
use Rattle.zone_minutes.proofs.SameZone.{offset_at-rule, offset_at-table}

whole_minutes : (t minutes : ℤ) → int_div_euclid (t *ℤ pos 60 +ℤ minutes *ℤ pos 60) (pos 60) ≡ t +ℤ minutes
whole_minutes t minutes = omega (arith, signed_arith)

-- at a fixed offset the local time is the instant and the offset
pub local_of-fixed : (minutes t : ℤ) (zone : TimeZone) → IsFixedZone minutes zone → local_of zone t ≡ t +ℤ minutes
unfolding local_of
local_of-fixed minutes t zone fixed =
    rw (fixed.is, offset_at-fixed_zone fixed.offset (minute_nanos t), fixed.seconds) (whole_minutes t minutes)

-- in UTC it is the instant
pub local_of-UTC : (t : ℤ) → local_of UTC t ≡ t
unfolding local_of
local_of-UTC t = rw (offset_at-UTC (minute_nanos t)) (omega (arith, signed_arith))

-- zones with one offset at an instant have one local time then
local_of-offset : (a b : TimeZone) (t : ℤ) → offset_at a (minute_nanos t) ≡ offset_at b (minute_nanos t) → local_of a t ≡ local_of b t
unfolding local_of
local_of-offset a b t same = rw same refl

-- zones that a source may be read as have the same local time
pub local_of-same : (source : Source) (a b : TimeZone) (t : ℤ) → IsReadAs source a → IsReadAs source b → local_of a t ≡ local_of b t
local_of-same (FixedOffset minutes) a b t in_a in_b = local_of-fixed minutes t a in_a ∙ sym (local_of-fixed minutes t b in_b)
local_of-same (PosixRule text) a b t in_a in_b = local_of-offset a b t (offset_at-rule text a b (minute_nanos t) in_a in_b)
local_of-same (TzifFile bytes) a b t in_a in_b = local_of-offset a b t (offset_at-table bytes a b (minute_nanos t) in_a in_b)

-- `jiff` reads each offset of the range
pub IsReadable-fixed : (minutes : ℤ) → IsOffsetMinutes minutes → IsReadable (FixedOffset minutes)
IsReadable-fixed minutes h =
    let offset : Offset = record { seconds = minutes *ℤ pos 60; in_range = (omega (arith, signed_arith), omega (arith, signed_arith)) } in
    let read : IsFixedZone minutes (fixed_zone offset) = record { offset = offset; is = refl; seconds = refl } in
    (fixed_zone offset, read)

-- each offset of `jiff` is less than 26 hours
pub offset_small : (zone : TimeZone) (n : ℤ) → IsOffsetSeconds (offset_at zone n)
unfolding offset_at
offset_small UTC n = omega (arith, ints)
offset_small Unknown n = omega (arith, ints)
offset_small (Fixed offset) n = offset.in_range
offset_small (Posix tz) n = (Rule.offset_at tz n).in_range
offset_small (Tzif z) n = (TableWords.offset_at z.now n).in_range
