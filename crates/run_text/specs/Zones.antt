-- The line of a run file that names a zone: zone NAME KIND TEXT.
-- Source: docs/RUN_FILE.md; POSIX for rules and RFC 8536 for files, as `jiff` and `hex` read them.
use Rattle.std.specs.Prelude.{◌≡◌, ◌≢◌, ℕ, ◌+◌, ◌*◌, ◌%◌, ◌<◌, ◌≤◌, ℤ, pos, neg_ℤ, List, ◌∷◌, ◌++◌, length, codes, Ok, map, true}
use Rattle.std.specs.List.{AllByRecursion}
use Rattle.hex.specs.Hex.{decode_of, is_hex_digit}
use Rattle.zone_minutes.specs.Stamp.{two_digits}
use Rattle.zone_minutes.specs.Zone.{Source, FixedOffset, PosixRule, TzifFile}
use Rattle.run_text.specs.Grammar.{IsZoneName, first_word}
use Rattle.run_text.specs.Run.{NamedZone}

-- the text is HH:MM, two digits each, the minutes below 60: so many minutes together
pub record IsClockText (text : List ℕ) (total : ℕ) : Type 0 where
  pub hours : ℕ
  pub minutes : ℕ
  pub is : text ≡ two_digits hours ++ 58 ∷ two_digits minutes
  pub two : hours < 100
  pub below : minutes < 60
  pub total_is : total ≡ hours * 60 + minutes

-- the text is an offset in minutes, in the form of ISO 8601: a sign, and hours and minutes
pub data IsOffsetText (text : List ℕ) (offset : ℤ) : Type 0 where
  -- as +05:30, ahead of UTC by 14 hours at most
  ahead : (clock : List ℕ) (minutes : ℕ) → text ≡ 43 ∷ clock → IsClockText clock minutes → minutes ≤ 840 → offset ≡ pos minutes → IsOffsetText text offset
  -- as -03:30, behind it by 12 hours at most
  behind : (clock : List ℕ) (minutes : ℕ) → text ≡ 45 ∷ clock → IsClockText clock minutes → minutes ≤ 720 → offset ≡ neg_ℤ (pos minutes)
      → IsOffsetText text offset

-- Where the offsets come from. Whether a rule or a file can be read is found only when a zone is built from it.
pub data IsSourceText (kind text : List ℕ) (source : Source) : Type 0 where
  -- one offset at every instant
  fixed : kind ≡ codes "fixed" → (offset : ℤ) → IsOffsetText text offset → source ≡ FixedOffset offset → IsSourceText kind text source
  -- a rule in the form of POSIX's TZ variable, which may also be empty here
  posix : kind ≡ codes "posix" → source ≡ PosixRule text → IsSourceText kind text source
  -- a TZif file (RFC 8536), of a byte at least, in hexadecimal (base 16 of RFC 4648, in any case)
  tzif : kind ≡ codes "tzif" → (bytes : List ℕ) → decode_of text ≡ Ok bytes → 0 < length bytes → source ≡ TzifFile bytes → IsSourceText kind text source

-- the text is an even number of hexadecimal digits in any case, and not empty
pub record IsHexText (text : List ℕ) : Type 0 where
  pub some : 0 < length text
  pub even : length text % 2 ≡ 0
  pub digits : AllByRecursion (λ c. is_hex_digit c ≡ true) text

-- zone NAME KIND TEXT
abbrev pub zone_line : (name kind text : List ℕ) → List ℕ
zone_line name kind text = codes "zone " ++ (name ++ (32 ∷ kind ++ (32 ∷ text)))

-- the line names the source of a zone's offsets
pub record IsZoneLine (line name : List ℕ) (source : Source) : Type 0 where
  pub kind : List ℕ
  pub text : List ℕ
  pub is : line ≡ zone_line name kind text
  pub is_name : IsZoneName name
  pub is_source : IsSourceText kind text source

-- the line's first word is that of a zone's line
abbrev pub HasZoneWord : List ℕ → Type 0
HasZoneWord line = first_word line ≡ codes "zone"

-- A zone may have this name below the lines that gave these: it is new, it isn't `UTC`, and fewer than 32 were given.
pub record IsFreeName (known : List (List ℕ)) (name : List ℕ) : Type 0 where
  pub no_utc : name ≢ codes "UTC"
  pub new : AllByRecursion (λ other. other ≢ name) known
  pub few : length known < 32

-- the line names a zone, below lines that gave these names
pub record AddsZone (known : List (List ℕ)) (line name : List ℕ) (source : Source) : Type 0 where
  pub is : IsZoneLine line name source
  pub free : IsFreeName known name

-- the line names no zone
abbrev pub AddsNone : (known : List (List ℕ)) → List ℕ → Type 0
AddsNone known line = (name : List ℕ) (source : Source) → AddsZone known line name source → ⊥

-- the names that the zones have
abbrev pub zone_names_of : List NamedZone → List (List ℕ)
zone_names_of zones = map (λ zone. zone.name) zones
