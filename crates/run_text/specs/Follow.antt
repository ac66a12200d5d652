-- Which line of a run file may follow which, and why another one may not. Source: docs/RUN_FILE.md.
use Rattle.std.specs.Prelude.{◌≡◌, ◌≢◌, ◌⊎◌, ℕ, zero, suc, ◌+◌, ◌≤◌, List, [], ◌∷◌, ◌++◌, Option, None, Some, codes, ⊤}
use Rattle.anacron_text.specs.LogicalLines.{joined}
use Rattle.anacron_text.specs.Settings.{no_settings}
use Rattle.zone_minutes.specs.Zone.{Source}
use Rattle.zone_minutes.specs.declared.minute.Minute.{Minute}
use Rattle.zone_minutes.specs.declared.minute.Window.{Window}
use Rattle.crontab_text.specs.Answers.{IsLineFault}
use Rattle.crontab_text.specs.declared.answer.Style.{Style}
use Rattle.crontab_text.specs.declared.answer.Style.TheVariants as style
use Rattle.script_text.specs.Command.{IsCommandLine}
use Rattle.script_text.specs.Script.{IsScriptWithinLimits}
use Rattle.script_text.specs.declared.command.Command.{Command}
use Rattle.run_text.specs.Grammar.{IsReplicasLine, IsWindowLine, IsGraceLine, IsSectionLine, HasSectionWord}
use Rattle.run_text.specs.Anacrontab.{SayAll, IsFirstBreak}
use Rattle.run_text.specs.Run.{Section, Run, run_with, opened, with_line, with_section, with_version, with_zone, with_command}
use Rattle.run_text.specs.Table.{Says}
use Rattle.run_text.specs.Versions.{HasVersionWord, BeginsVersion, BeginsNone}
use Rattle.run_text.specs.Zones.{AddsZone, AddsNone, HasZoneWord, zone_names_of}
use Rattle.run_text.specs.declared.refusal.Refusal.{Refusal}
use Rattle.run_text.specs.declared.table.Tables.{Tables}
use Rattle.run_text.specs.declared.run.SectionKind.{SectionKind}
use Rattle.run_text.specs.declared.run.SectionKind.TheVariants.{User, System, Anacron}
use Rattle.run_text.specs.declared.table.Tables.TheVariants.{Judged, Counted}
use Rattle.cron_fields.specs.Cause.{cause_number}
use Rattle.cron_fields.specs.declared.cause.Cause.TheVariants.{BadHeader, BadReplicas, BadWindow, BadGrace, BadSection, BadScript, MissingLine, BadZoneLine, BadVersion}

-- what the lines above a line of a run file were
pub data Above : Type 0 where
  -- no line
  Nothing : Above
  -- the version
  Version : Above
  -- the number of replicas
  Replicas : (members : ℕ) → Above
  -- the window
  Times : (members : ℕ) → (window : Window) → Above
  -- the head, zones, whole sections, and versions
  Sections : (run : Run) → Above
  -- and a section's first lines, of which so many are left behind the next one
  Table : (run : Run) → (section : Section) → (left : ℕ) → Above
  -- the line that opens the script
  Script : (run : Run) → Above
  -- the last line
  End : (run : Run) → Above

-- what stands above once a section has so many lines left
abbrev pub inside : Run → Section → ℕ → Above
inside run section zero = Sections (with_section run section)
inside run section (suc left) = Table run section left

-- how the lines of a section are read, if they are those of a crontab
abbrev pub style_of : SectionKind → Option Style
style_of User = Some style.User
style_of System = Some style.System
style_of Anacron = None

-- The line may stand in a section, with so many lines of it left behind: any line, where lines are only counted. Where they are
-- judged, a crontab's line says something. An anacrontab's may go on in the next one, so its lines are judged together, at the
-- last.
abbrev pub MayStandIn : Tables → Option Style → Section → (left : ℕ) → List ℕ → Type 0
MayStandIn Counted style section left line = ⊤
MayStandIn Judged (Some style) section left line = Says style section.label line
MayStandIn Judged None section zero line = SayAll no_settings (joined (with_line section line).lines)
MayStandIn Judged None section (suc left) line = ⊤

-- The line opens a section of so many lines, which are all there: so many lines are behind it.
pub record OpensSection (behind : ℕ) (line : List ℕ) (kind : SectionKind) (label zone : List ℕ) (count : ℕ) : Type 0 where
  pub is : IsSectionLine line kind label zone count
  pub whole : count ≤ behind

-- the line opens a section, and what stands above the next line then
pub record StartsSection (number behind : ℕ) (run : Run) (line : List ℕ) (next : Above) : Type 0 where
  pub kind : SectionKind
  pub label : List ℕ
  pub zone : List ℕ
  pub count : ℕ
  pub opens : OpensSection behind line kind label zone count
  pub next_is : next ≡ inside run (opened number kind label zone) count

-- the line opens no section
abbrev pub OpensNone : (behind : ℕ) → List ℕ → Type 0
OpensNone behind line = (kind : SectionKind) (label zone : List ℕ) (count : ℕ) → OpensSection behind line kind label zone count → ⊥

-- the line names a zone, and what stands above the next line then
pub record OpensZone (number : ℕ) (run : Run) (line : List ℕ) (next : Above) : Type 0 where
  pub name : List ℕ
  pub source : Source
  pub adds : AddsZone (zone_names_of run.zones) line name source
  pub next_is : next ≡ Sections (with_zone run (record { line = number; name = name; source = source }))

-- the line begins a version, and what stands above the next line then
pub record OpensVersion (number : ℕ) (run : Run) (line : List ℕ) (next : Above) : Type 0 where
  pub from : Minute
  pub begins : BeginsVersion run line from
  pub next_is : next ≡ Sections (with_version run number from)

-- the line says a command more, within the limits of a script
pub record SaysCommand (run : Run) (line : List ℕ) (command : Command) : Type 0 where
  pub is : IsCommandLine line run.members run.window command
  pub within : IsScriptWithinLimits (run.commands ++ command ∷ [])

-- the line says a command more, and what stands above the next line then
pub record AddsCommand (run : Run) (line : List ℕ) (next : Above) : Type 0 where
  pub command : Command
  pub says : SaysCommand run line command
  pub next_is : next ≡ Script (with_command run command)

-- The line of that number, with so many lines behind it, may stand below these, and what stands above the next one then.
abbrev pub MayStandBelow : Tables → (number behind : ℕ) → Above → List ℕ → Above → Type 0
MayStandBelow tables number behind Nothing line next = (line ≡ codes "cronrun 1") × (next ≡ Version)
MayStandBelow tables number behind Version line next = (members : ℕ) × IsReplicasLine line members × (next ≡ Replicas members)
MayStandBelow tables number behind (Replicas members) line next = (window : Window) × IsWindowLine line window × (next ≡ Times members window)
MayStandBelow tables number behind (Times members window) line next =
    (grace : ℕ) × IsGraceLine line grace × (next ≡ Sections (run_with members window grace))
MayStandBelow tables number behind (Sections run) line next =
    ((line ≡ codes "script") × (next ≡ Script run))
    ⊎ (OpensZone number run line next ⊎ (StartsSection number behind run line next ⊎ OpensVersion number run line next))
MayStandBelow tables number behind (Table run section left) line next =
    MayStandIn tables (style_of section.kind) section left line × (next ≡ inside run (with_line section line) left)
MayStandBelow tables number behind (Script run) line next = ((line ≡ codes "end") × (next ≡ End run)) ⊎ AddsCommand run line next
MayStandBelow tables number behind (End run) line next = ⊥

-- the line of that number is refused as a whole
abbrev pub IsOfLine : (number : ℕ) → Refusal → Type 0
IsOfLine number refusal = (refusal.line ≡ number) × (refusal.place ≡ 0)

-- The line may not stand before the script at all.
pub record IsNoLine (line : List ℕ) : Type 0 where
  pub no_section : HasSectionWord line → ⊥
  pub no_zone : HasZoneWord line → ⊥
  pub no_version : HasVersionWord line → ⊥
  pub no_script : line ≢ codes "script"

-- Before the script, below lines that gave this run: the line opens no section, names no zone, begins no version, or is none that
-- may stand there at all.
abbrev pub RefusesBeforeScript : (behind : ℕ) → Run → List ℕ → (cause : ℕ) → Type 0
RefusesBeforeScript behind run line cause =
    (HasSectionWord line × OpensNone behind line × (cause ≡ cause_number BadSection))
    ⊎ ((HasZoneWord line × AddsNone (zone_names_of run.zones) line × (cause ≡ cause_number BadZoneLine))
    ⊎ ((HasVersionWord line × BeginsNone run line × (cause ≡ cause_number BadVersion))
    ⊎ (IsNoLine line × (cause ≡ cause_number MissingLine))))

-- in the script: the line is none that may stand there
abbrev pub RefusesInScript : Run → List ℕ → (cause : ℕ) → Type 0
RefusesInScript run line cause =
    (line ≢ codes "end") × ((command : Command) → SaysCommand run line command → ⊥) × (cause ≡ cause_number BadScript)

-- In a section, with so many lines of it left behind: the line breaks a rule of crontabs; or it is the last of an anacrontab,
-- and the refusal is of the first of its logical lines that breaks a rule, at the first line of that one. A line that is only
-- counted isn't refused.
abbrev pub RefusesInTable : Tables → Option Style → (number : ℕ) → Section → (left : ℕ) → List ℕ → Refusal → Type 0
RefusesInTable Counted style number section left line refusal = ⊥
RefusesInTable Judged (Some style) number section left line refusal =
    IsLineFault style line refusal.cause refusal.place × (refusal.line ≡ number)
RefusesInTable Judged None number section zero line refusal =
    (first : ℕ) × IsFirstBreak no_settings (joined (with_line section line).lines) first refusal.cause refusal.place × (refusal.line ≡ section.line + first)
RefusesInTable Judged None number section (suc left) line refusal = ⊥

-- The line of that number, with so many lines behind it, may not stand below these, and is refused so.
abbrev pub Refuses : Tables → (number behind : ℕ) → Above → List ℕ → Refusal → Type 0
Refuses tables number behind Nothing line refusal = (line ≢ codes "cronrun 1") × (refusal.cause ≡ cause_number BadHeader) × IsOfLine number refusal
Refuses tables number behind Version line refusal =
    ((members : ℕ) → IsReplicasLine line members → ⊥) × (refusal.cause ≡ cause_number BadReplicas) × IsOfLine number refusal
Refuses tables number behind (Replicas members) line refusal =
    ((window : Window) → IsWindowLine line window → ⊥) × (refusal.cause ≡ cause_number BadWindow) × IsOfLine number refusal
Refuses tables number behind (Times members window) line refusal =
    ((grace : ℕ) → IsGraceLine line grace → ⊥) × (refusal.cause ≡ cause_number BadGrace) × IsOfLine number refusal
Refuses tables number behind (Sections run) line refusal = RefusesBeforeScript behind run line refusal.cause × IsOfLine number refusal
Refuses tables number behind (Table run section left) line refusal = RefusesInTable tables (style_of section.kind) number section left line refusal
Refuses tables number behind (Script run) line refusal = RefusesInScript run line refusal.cause × IsOfLine number refusal
Refuses tables number behind (End run) line refusal = (refusal.cause ≡ cause_number BadScript) × IsOfLine number refusal

-- the file ends where a line is missing, and for this cause
abbrev pub Misses : Above → ℕ → Type 0
Misses Nothing cause = cause ≡ cause_number BadHeader
Misses Version cause = cause ≡ cause_number BadReplicas
Misses (Replicas members) cause = cause ≡ cause_number BadWindow
Misses (Times members window) cause = cause ≡ cause_number BadGrace
Misses (Sections run) cause = cause ≡ cause_number MissingLine
Misses (Table run section left) cause = ⊥
Misses (Script run) cause = cause ≡ cause_number MissingLine
Misses (End run) cause = ⊥
