-- Local time: what `jiff` gives for a zone at an instant.
-- Source: POSIX for rules, RFC 8536 for files; rounding down to minutes is this project's.
use Rattle.std.specs.Prelude.{◌≡◌, ◌⊎◌, ℕ, ℤ, pos, negsuc, ◌+ℤ◌, ◌*ℤ◌, List, Ok, Err, IsNone, ⊤, codes, string_bytes}
use Rattle.std.specs.Int.{int_div_euclid}
use Rattle.jiff.specs.Types.{TimeZone, Tzif, TzifFault}
use Rattle.jiff.specs.Placed.{IsPosixZone}
use Rattle.jiff.specs.Words.{offset_at, fixed_zone, read_whole}
use Rattle.jiff_core.specs.Calendar.{IsBetween}
use Rattle.jiff_core.specs.declared.offset.Offset.{Offset}
use Rattle.jiff_tz.specs.Tzif.{tzif_view, RuleAgrees, HasBadRule}
use Rattle.jiff_tz.specs.TzifReader.{read_tzif}
use Rattle.jiff_tz.specs.declared.tzif.Tzif.{Tzif as Table}
use Rattle.zone_minutes.specs.declared.minute.Window.{Window}
use Rattle.zone_minutes.specs.declared.source.ZoneFault.{ZoneFault}
use Rattle.zone_minutes.specs.declared.source.ZoneFault.TheVariants.{BadZone, OutOfMemory}
use Rattle.zone_minutes.specs.declared.source.ZoneSource.{ZoneSource}
use Rattle.zone_minutes.specs.declared.source.ZoneSource.TheVariants.{Fixed as FixedSource, Posix as PosixSource, Tzif as TzifSource}
use Rattle.zone_minutes.specs.declared.source.KeptSource.{KeptSource}
use Rattle.zone_minutes.specs.declared.source.KeptSource.TheVariants.{Fixed as KeptFixed, Posix as KeptPosix, Tzif as KeptTzif}

-- where a zone's offsets come from, kept as plain data: an offset in minutes, a rule's text, or a file's bytes
pub data Source : Type 0 where
  FixedOffset : (minutes : ℤ) → Source
  PosixRule : (text : List ℕ) → Source
  TzifFile : (bytes : List ℕ) → Source

-- what a zone was built from, and for which instants
pub record Zone : Type 0 where
  pub source : Source
  pub from : ℤ
  pub until : ℤ

-- the source that a value of the program names
abbrev pub source_of : ZoneSource → Source
source_of (FixedSource minutes) = FixedOffset minutes
source_of (PosixSource text) = PosixRule text.now
source_of (TzifSource bytes) = TzifFile bytes.now

-- the source that a zone of the program keeps
abbrev pub kept_source : KeptSource → Source
kept_source (KeptFixed minutes) = FixedOffset minutes
kept_source (KeptPosix text) = PosixRule (string_bytes text)
kept_source (KeptTzif bytes) = TzifFile bytes.items

-- the source, over the window
abbrev pub zone_over : Source → Window → Zone
zone_over source window = record { source = source; from = window.from.0; until = window.until.0 }

-- an offset in minutes from -12:00 to +14:00
abbrev pub IsOffsetMinutes : ℤ → Type 0
IsOffsetMinutes minutes = IsBetween (negsuc 719) (pos 840) minutes

-- as many whole minutes as the offset of a zone of `jiff` has, which is less than 26 hours, rounded down
abbrev pub IsMinutesAhead : ℤ → Type 0
IsMinutesAhead minutes = IsBetween (negsuc 1559) (pos 1559) minutes

-- a fixed offset of the source is from -12:00 to +14:00
abbrev pub IsOffsetInRange : ZoneSource → Type 0
IsOffsetInRange (FixedSource minutes) = IsOffsetMinutes minutes
IsOffsetInRange (PosixSource text) = ⊤
IsOffsetInRange (TzifSource bytes) = ⊤

-- a zone of `jiff` with this offset in minutes at every instant
pub record IsFixedZone (minutes : ℤ) (zone : TimeZone) : Type 0 where
  pub offset : Offset
  pub is : zone ≡ fixed_zone offset
  pub seconds : offset.seconds ≡ minutes *ℤ pos 60

-- the table that `jiff` reads the file as
pub record IsTable (bytes : List ℕ) (table : Table) : Type 0 where
  pub read : read_tzif bytes ≡ Ok (tzif_view table)
  pub agrees : RuleAgrees table

-- the zone of that table
abbrev pub IsTableZone : List ℕ → TimeZone → Type 0
IsTableZone bytes (Tzif table) = IsTable bytes table.now
IsTableZone bytes zone = ⊥

-- what `jiff` makes of the source
abbrev pub IsReadAs : Source → TimeZone → Type 0
IsReadAs (FixedOffset minutes) zone = IsFixedZone minutes zone
IsReadAs (PosixRule text) zone = IsPosixZone text zone
IsReadAs (TzifFile bytes) zone = IsTableZone bytes zone

-- `jiff` reads the source as some zone
abbrev pub IsReadable : Source → Type 0
IsReadable source = (zone : TimeZone) × IsReadAs source zone

-- `jiff` refuses the source, and not for want of memory
abbrev pub IsSourceRefused : Source → Type 0
IsSourceRefused (FixedOffset minutes) = ⊥
IsSourceRefused (PosixRule text) = IsNone (read_whole text)
IsSourceRefused (TzifFile bytes) = ((fault : TzifFault) × (read_tzif bytes ≡ Err fault)) ⊎ HasBadRule (read_tzif bytes)

-- `jiff` doesn't get through the source as it reads it, before it wants memory
abbrev pub IsUnread : Source → Type 0
IsUnread (FixedOffset minutes) = ⊥
IsUnread (PosixRule text) = IsNone (read_whole text)
IsUnread (TzifFile bytes) = (fault : TzifFault) × (read_tzif bytes ≡ Err fault)

-- what a fault says
abbrev pub fault_text : ZoneFault → List ℕ
fault_text BadZone = codes "not a time zone"
fault_text OutOfMemory = codes "out of memory"

-- an instant as `jiff` counts, in nanoseconds since the epoch
abbrev pub minute_nanos : ℤ → ℤ
minute_nanos instant = instant *ℤ pos 60 *ℤ pos 1_000_000_000

-- local time: the instant's seconds and the offset in seconds that `jiff` gives then, in whole minutes, rounded down
unfoldable pub local_of : TimeZone → ℤ → ℤ
local_of zone instant =
    int_div_euclid (instant *ℤ pos 60 +ℤ offset_at zone (minute_nanos instant)) (pos 60)

-- the civil minute of an instant in the zone that the source is read as
pub record IsLocal (source : Source) (instant local : ℤ) : Type 0 where
  pub zone : TimeZone
  pub read : IsReadAs source zone
  pub is : local ≡ local_of zone instant
