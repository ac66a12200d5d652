-- A run: how many replicas there are, a window of time, the zones under their names, the tables of jobs with their versions, and
-- a script.
-- Source: docs/RUN_FILE.md; hexadecimal digits by `hex`.
use Rattle.std.specs.Prelude.{ℕ, List, ◌++◌, ◌∷◌, [], length, map, Result, Ok, Err}
use Rattle.hex.specs.Hex.{decode_of}
use Rattle.hex.specs.declared.error.FromHexError.{FromHexError}
use Rattle.zone_minutes.specs.Zone.{Source, FixedOffset, PosixRule, TzifFile}
use Rattle.zone_minutes.specs.declared.minute.Minute.{Minute}
use Rattle.zone_minutes.specs.declared.minute.Window.{Window}
use Rattle.crontab_text.specs.Lines.{lines_of}
use Rattle.script_text.specs.declared.command.Command.{Command}
use Rattle.run_text.specs.declared.run.SectionKind.{SectionKind}
use Rattle.run_text.specs.declared.run.Section.{Section as SectionText}
use Rattle.run_text.specs.declared.run.ZoneText.{ZoneText}
use Rattle.run_text.specs.declared.run.ZoneText.TheVariants.{Fixed, Posix, Hex}
use Rattle.run_text.specs.declared.run.ZoneLine.{ZoneLine}
use Rattle.run_text.specs.declared.run.RunFile.{RunFile}
use Rattle.run_text.specs.declared.run.VersionLine.{VersionLine}

-- a table of jobs: where it begins in the run file, what it is, under which label and in which zone, and its lines
pub record Section : Type 0 where
  pub line : ℕ
  pub kind : SectionKind
  pub label : List ℕ
  pub zone : List ℕ
  pub lines : List (List ℕ)

-- a zone under its name: where it stands in the run file, and where its offsets come from
pub record NamedZone : Type 0 where
  pub line : ℕ
  pub name : List ℕ
  pub source : Source

-- what a run file says
pub record Run : Type 0 where
  pub members : ℕ
  pub window : Window
  pub grace : ℕ
  pub zones : List NamedZone
  pub sections : List Section
  pub versions : List VersionLine
  pub commands : List Command

-- a run of no job and no command
abbrev pub run_with : ℕ → Window → ℕ → Run
run_with members window grace =
    record { members = members; window = window; grace = grace; zones = []; sections = []; versions = []; commands = [] }

-- the section with more lines at its end
abbrev pub with_lines : Section → List (List ℕ) → Section
with_lines section lines = record section { lines = section.lines ++ lines }

-- the section with a line more at its end
abbrev pub with_line : Section → List ℕ → Section
with_line section line = with_lines section (line ∷ [])

-- a section that has no line yet
abbrev pub opened : ℕ → SectionKind → (label zone : List ℕ) → Section
opened line kind label zone = record { line = line; kind = kind; label = label; zone = zone; lines = [] }

-- the run with more sections at its end
abbrev pub with_sections : Run → List Section → Run
with_sections run sections = record run { sections = run.sections ++ sections }

-- the run with a section more at its end
abbrev pub with_section : Run → Section → Run
with_section run section = with_sections run (section ∷ [])

-- the run with more zones at its end
abbrev pub with_zones : Run → List NamedZone → Run
with_zones run zones = record run { zones = run.zones ++ zones }

-- the run with a zone more at its end
abbrev pub with_zone : Run → NamedZone → Run
with_zone run zone = with_zones run (zone ∷ [])

-- the run with more versions at its end
abbrev pub with_versions : Run → List VersionLine → Run
with_versions run versions = record run { versions = run.versions ++ versions }

-- the run with a version more, which begins at that line, behind its sections
abbrev pub with_version : Run → (line : ℕ) → Minute → Run
with_version run line from = with_versions run (record { line = line; from = from; first_section = length run.sections } ∷ [])

-- the run with more zones, more sections and more versions
abbrev pub with_parts : Run → List NamedZone → List Section → List VersionLine → Run
with_parts run zones sections versions = with_versions (with_sections (with_zones run zones) sections) versions

-- the run with more commands at the end of its script
abbrev pub with_commands : Run → List Command → Run
with_commands run commands = record run { commands = run.commands ++ commands }

-- the run with a command more at the end of its script
abbrev pub with_command : Run → Command → Run
with_command run command = with_commands run (command ∷ [])

-- what the program's values of a run stand for
abbrev pub section_of : SectionText → Section
section_of section =
    record { line = section.line; kind = section.kind; label = section.label.now; zone = section.zone.now; lines = lines_of section.text.now }

-- the bytes that hexadecimal digits stand for, two digits a byte; none, where they stand for none
abbrev pub bytes_or_none : Result (List ℕ) FromHexError → List ℕ
bytes_or_none (Ok bytes) = bytes
bytes_or_none (Err fault) = []

-- where a zone's offsets come from
abbrev pub source_of_zone : ZoneText → Source
source_of_zone (Fixed minutes) = FixedOffset minutes
source_of_zone (Posix text) = PosixRule text.now
source_of_zone (Hex digits) = TzifFile (bytes_or_none (decode_of digits.now))

-- the zone of a line
abbrev pub zone_of : ZoneLine → NamedZone
zone_of zone = record { line = zone.line; name = zone.name.now; source = source_of_zone zone.source }

-- what a run file says
abbrev pub run_of : RunFile → Run
run_of run = record {
  members = run.members;
  window = run.window;
  grace = run.grace;
  zones = map zone_of run.zones.items;
  sections = map section_of run.sections.items;
  versions = run.versions.items;
  commands = run.commands.items;
}
