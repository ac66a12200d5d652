-- Where a reader stands in a run file, and what it comes to from there. Private functions alone cite it.
use Rattle.std.specs.Prelude.{◌≡◌, ◌⊎◌, ℕ, suc, ◌≤ℤ◌, ◌<ℤ◌, ◌+◌, ◌<◌, ◌≤◌, ◌^◌, List, [], ◌∷◌, ◌++◌, length, map, ⊤}
use Rattle.std.specs.Borrow.{Bor}
use Rattle.crontab_text.specs.Lines.{lines_of}
use Rattle.script_text.specs.Script.{IsLeftBy}
use Rattle.script_text.specs.declared.command.Command.{Command}
use Rattle.script_text.specs.declared.limits.Limits.{Limits}
use Rattle.run_text.specs.Follow.{Above, Nothing, Sections, Script, IsOfLine, inside}
use Rattle.run_text.specs.Reading.{ReadsFrom, RefusesFrom, HasDigits}
use Rattle.run_text.specs.Run.{NamedZone, Run, section_of, zone_of, opened, with_section, with_version, with_zone, with_parts, with_command}
use Rattle.run_text.specs.Versions.{last_from}
use Rattle.run_text.specs.Zones.{zone_names_of}
use Rattle.zone_minutes.specs.declared.minute.Minute.{Minute}
use Rattle.zone_minutes.specs.declared.minute.Window.{Window}
use Rattle.run_text.specs.declared.head.Head.{Head}
use Rattle.run_text.specs.declared.opening.Opening.{Opening}
use Rattle.run_text.specs.declared.part.Known.{Known}
use Rattle.run_text.specs.declared.part.Part.{Part}
use Rattle.run_text.specs.declared.part.Part.TheVariants.{Zone as ZonePart, Section as SectionPart, Version as VersionPart}
use Rattle.run_text.specs.declared.parts.Parts.{Parts}
use Rattle.run_text.specs.declared.reader.Reader.{Reader}
use Rattle.run_text.specs.declared.refusal.Refusal.{Refusal}
use Rattle.run_text.specs.declared.refusal.RunFault.{RunFault}
use Rattle.run_text.specs.declared.refusal.RunFault.TheVariants.{Refused, OutOfMemory}
use Rattle.run_text.specs.declared.run.Section.{Section as SectionText}
use Rattle.run_text.specs.declared.table.Tables.{Tables}
use Rattle.cron_fields.specs.Cause.{cause_number}
use Rattle.cron_fields.specs.declared.cause.Cause.TheVariants.{BadSection}

-- a place between the lines: the number of the next line, what stands above it, and what is left of the text
pub record Place : Type 0 where
  pub number : ℕ
  pub above : Above
  pub rest : List ℕ

-- the beginning of a text
abbrev pub start : List ℕ → Place
start text = record { number = 1; above = Nothing; rest = text }

-- where a reader stands, behind such lines
abbrev pub place_of : Reader → Above → Place
place_of reader above = record { number = reader.number + 1; above = above; rest = reader.rest.now }

-- the text is refused from that place on
abbrev pub RefusedFrom : Tables → Place → Refusal → Type 0
RefusedFrom tables place refusal = RefusesFrom tables place.number place.above (lines_of place.rest) refusal

-- what is read or refused from the later place on is so from the earlier one on
pub record CarriesBack (tables : Tables) (from to : Place) : Type 0 where
  pub reads : (run : Run) → ReadsFrom tables to.number to.above (lines_of to.rest) run → ReadsFrom tables from.number from.above (lines_of from.rest) run
  pub refuses : (refusal : Refusal) → RefusedFrom tables to refusal → RefusedFrom tables from refusal

-- the lines that are left can be counted
abbrev pub CanCountLines : Reader → Type 0
CanCountLines reader = reader.number + length reader.rest.now + 1 < 2 ^ 32

-- a fact of the refusal, where it is one
abbrev pub IfRefused : RunFault → (Refusal → Type 0) → Type 0
IfRefused (Refused refusal) P = P refusal
IfRefused OutOfMemory P = ⊤

-- what stands above the first line of a section, which a reader reads next
abbrev pub at_table : Reader → Opening → Run → Above
at_table reader opening run = inside run (opened reader.number opening.kind opening.label.now opening.zone.now) opening.count

-- So many lines that a text begins with: their text, and what is behind it.
pub record IsCut (text : List ℕ) (count : ℕ) (front rest : List ℕ) : Type 0 where
  pub parts : text ≡ front ++ rest
  pub lines : lines_of text ≡ lines_of front ++ lines_of rest
  pub count_is : length (lines_of front) ≡ count

-- the lines that are left are as many as the section is to have
abbrev pub IsComplete : Reader → Opening → Type 0
IsComplete reader opening = opening.count ≤ length (lines_of reader.rest.now)

-- the reader passed the lines of a section
pub record PassesTable (tables : Tables) (old new : Reader) (opening : Opening) (section : SectionText) : Type 0 where
  pub whole : IsComplete old opening
  pub leads : (run : Run) → CarriesBack tables (place_of old (at_table old opening run)) (place_of new (Sections (with_section run (section_of section))))

-- the reader found too few lines for a section, or a line that is none of a table
abbrev pub RefusesTable : Tables → Reader → Opening → Refusal → Type 0
RefusesTable tables reader opening refusal =
    ((length (lines_of reader.rest.now) < opening.count) × (refusal.cause ≡ cause_number BadSection) × IsOfLine reader.number refusal)
    ⊎ (IsComplete reader opening × ((run : Run) → RefusedFrom tables (place_of reader (at_table reader opening run)) refusal))

-- the texts of some names
abbrev pub texts_of_names : List (Bor (List ℕ)) → List (List ℕ)
texts_of_names names = map (λ name. name.now) names

-- these are the names of the zones
abbrev pub HasNames : List (Bor (List ℕ)) → List NamedZone → Type 0
HasNames names zones = zone_names_of zones ≡ texts_of_names names

-- what is known of the run so far
pub record IsKnown (known : Known) (run : Run) : Type 0 where
  pub names : HasNames known.names.items run.zones
  pub window : run.window ≡ known.window
  pub versions : suc (length run.versions) ≡ known.next
  pub last : last_from run.window.from.0 run.versions ≡ known.from.0

-- the version of that number comes next, from that instant on
pub record IsNextVersion (known : Known) (version : ℕ) (from : Minute) : Type 0 where
  pub number : version ≡ known.next
  pub in_order : known.from.0 ≤ℤ from.0
  pub inside : from.0 <ℤ known.window.until.0

-- the run with a part more
abbrev pub with_part : Run → Part → Run
with_part run (ZonePart zone) = with_zone run (zone_of zone)
with_part run (SectionPart section) = with_section run (section_of section)
with_part run (VersionPart line from) = with_version run line from

-- the reader passed a part, below lines of which this was known, and this is known then
pub record PassesPart (tables : Tables) (old new : Reader) (before after : Known) (part : Part) : Type 0 where
  pub leads : (run : Run) → IsKnown before run → CarriesBack tables (place_of old (Sections run)) (place_of new (Sections (with_part run part)))
  pub keeps : (run : Run) → IsKnown before run → IsKnown after (with_part run part)

-- the run has this window, and no zone, no section and no version so far
pub record HasNoPart (given : Window) (run : Run) : Type 0 where
  pub window : run.window ≡ given
  pub zones : run.zones ≡ []
  pub sections : run.sections ≡ []
  pub versions : run.versions ≡ []

-- the digits of a zone stand for some bytes, and the text of a section isn't longer than that
abbrev pub FitsInFile : ℕ → Part → Type 0
FitsInFile size (ZonePart zone) = HasDigits zone
FitsInFile size (SectionPart section) = length section.text.now ≤ size
FitsInFile size (VersionPart line from) = ⊤

-- the parts with this one more
abbrev pub AddsPart : Parts → Parts → Part → Type 0
AddsPart old new (ZonePart zone) =
    (new.zones.items ≡ old.zones.items ++ zone ∷ []) × (new.sections.items ≡ old.sections.items) × (new.versions.items ≡ old.versions.items)
AddsPart old new (SectionPart section) =
    (new.zones.items ≡ old.zones.items) × (new.sections.items ≡ old.sections.items ++ section ∷ []) × (new.versions.items ≡ old.versions.items)
AddsPart old new (VersionPart line from) =
    (new.zones.items ≡ old.zones.items) × (new.sections.items ≡ old.sections.items)
    × (new.versions.items ≡ old.versions.items ++ record { line = line; from = from; first_section = length old.sections.items } ∷ [])

-- the run with all these parts
abbrev pub with_all : Run → Parts → Run
with_all run parts = with_parts run (map zone_of parts.zones.items) (map section_of parts.sections.items) parts.versions.items

-- the run has this head, and no command so far
pub record BeginsScript (head : Head) (run : Run) : Type 0 where
  pub members : run.members ≡ head.members
  pub window : run.window ≡ head.window
  pub none : run.commands ≡ []

-- the run has this head, and its commands leave so much of the limits of a script
pub record HasScript (head : Head) (run : Run) (left : Limits) : Type 0 where
  pub members : run.members ≡ head.members
  pub window : run.window ≡ head.window
  pub left_is : IsLeftBy run.commands left

-- the reader passed a command, before and behind which so much is left of the limits
pub record PassesCommand (head : Head) (old new : Reader) (before after : Limits) (command : Command) : Type 0 where
  pub leads : (tables : Tables) (run : Run) → HasScript head run before
      → CarriesBack tables (place_of old (Script run)) (place_of new (Script (with_command run command)))
  pub left_is : (run : Run) → HasScript head run before → HasScript head (with_command run command) after
