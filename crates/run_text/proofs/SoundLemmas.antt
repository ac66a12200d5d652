-- What holds of each run that is read, line by line.
use Rattle.std.proofs.Common.{◌≡◌, ◌≢◌, ℕ, zero, suc, ◌+◌, ◌<◌, ◌≤◌, List, [], ◌∷◌, ◌++◌, length, Option, Some, None, sym, subst, inl, inr, arith, length-append}
use Rattle.std.specs.Prelude.{⊤}
use Rattle.std.specs.List.{AllByRecursion}
use Rattle.std.proofs.lemmas.List.{map-append, length-map}
use Rattle.zone_minutes.specs.Window.{IsWithinLimits}
use Rattle.zone_minutes.specs.Zone.{Source}
use Rattle.zone_minutes.specs.declared.minute.Minute.{Minute}
use Rattle.zone_minutes.specs.declared.minute.Window.{Window}
use Rattle.script_text.specs.Command.{IsInRange}
use Rattle.anacron_text.specs.Settings.{no_settings}
use Rattle.crontab_text.specs.Lines.{lines_of}
use Rattle.crontab_text.specs.declared.answer.Style.{Style}
use Rattle.run_text.specs.Follow.{Above, Nothing, Version, Replicas, Times, Sections, Table, Script, End, inside, style_of, MayStandIn, MayStandBelow, AddsCommand}
use Rattle.run_text.specs.Reading.{ReadsFrom, IsRunText}
use Rattle.run_text.specs.Run.{NamedZone, Section, Run, run_with, opened, with_line, with_section, with_version, with_zone, with_command}
use Rattle.run_text.specs.Sound.{IsSoundSection, IsSoundSource, IsSoundZone, AreDistinct, AreSoundZones, AreSoundReplicas, IsSoundRun}
use Rattle.run_text.specs.Table.{Says, AreSaid}
use Rattle.run_text.specs.Versions.{BeginsVersion}
use Rattle.run_text.specs.Zones.{IsSourceText, fixed, posix, tzif, AddsZone, zone_names_of}
use Rattle.run_text.specs.declared.run.SectionKind.{SectionKind}
use Rattle.run_text.specs.declared.table.Tables.TheVariants.{Judged}
use Rattle.run_text.proofs.AnacrontabLemmas.{say_none}
use Rattle.run_text.proofs.OffsetLemmas.{offset_in_range}
use Rattle.run_text.proofs.VersionLemmas.{no_versions, versions_kept, versions_pushed}
use Rattle.cron_io.proofs.ListLemmas.{all_push}

-- what is known of the lines of a section so far: those of an anacrontab are judged at its last
abbrev SoFar : Option Style → (label : List ℕ) → List (List ℕ) → Type 0
SoFar (Some style) label lines = AllByRecursion (Says style label) lines
SoFar None label lines = ⊤

-- what holds above the line of that number
abbrev Good : ℕ → Above → Type 0
Good number Nothing = ⊤
Good number Version = ⊤
Good number (Replicas members) = AreSoundReplicas members
Good number (Times members window) = AreSoundReplicas members × IsWithinLimits window
Good number (Sections run) = IsSoundRun number run
Good number (Table run section left) = IsSoundRun number run × SoFar (style_of section.kind) section.label section.lines × (section.line + length section.lines < number)
Good number (Script run) = IsSoundRun number run
Good number (End run) = IsSoundRun number run

pub all_next : (P Q : Section → Type 0) (xs : List Section) → ((x : Section) → P x → Q x) → AllByRecursion P xs → AllByRecursion Q xs
all_next P Q [] f all = tt
all_next P Q (x ∷ xs) f all = (f x all.0, all_next P Q xs f all.1)

later_section : (number next : ℕ) → number ≤ next → (section : Section) → IsSoundSection number section → IsSoundSection next section
later_section number next le section sound = record { said = sound.said; within = omega (arith, sound.within) }

later_run : (number next : ℕ) (run : Run) → number ≤ next → IsSoundRun number run → IsSoundRun next run
later_run number next run le sound = record {
  replicas = sound.replicas;
  limits = sound.limits;
  grace = sound.grace;
  zones = sound.zones;
  sections = all_next (IsSoundSection number) (IsSoundSection next) run.sections (later_section number next le) sound.sections;
  versions = sound.versions;
  script = sound.script;
}

with_one_more : (number : ℕ) (run : Run) (section : Section) → IsSoundRun number run → IsSoundSection number section → IsSoundRun number (with_section run section)
with_one_more number run section sound part = record {
  replicas = sound.replicas;
  limits = sound.limits;
  grace = sound.grace;
  zones = sound.zones;
  sections = all_push (IsSoundSection number) run.sections section sound.sections part;
  versions = versions_kept run section sound.versions;
  script = record { in_range = sound.script.in_range; limits = sound.script.limits };
}

-- no zone is named yet
no_zones : AreSoundZones []
no_zones = record { few = omega arith; each = tt; distinct = tt }

sound_source : (kind text : List ℕ) (source : Source) → IsSourceText kind text source → IsSoundSource source
sound_source kind text source (fixed is offset says source_is) = subst IsSoundSource (sym source_is) (offset_in_range text offset says)
sound_source kind text source (posix is source_is) = subst IsSoundSource (sym source_is) tt
sound_source kind text source (tzif is bytes decodes some source_is) = subst IsSoundSource (sym source_is) tt

-- a new name stands behind names that differ
distinct_push : (names : List (List ℕ)) (name : List ℕ) → AreDistinct names → AllByRecursion (λ other. other ≢ name) names → AreDistinct (names ++ name ∷ [])
distinct_push [] name distinct new = (tt, tt)
distinct_push (first ∷ names) name distinct new =
    (all_push (λ other. other ≢ first) names name distinct.0 (λ same. new.0 (sym same)), distinct_push names name distinct.1 new.1)

-- one zone more
sound_zones : (zones : List NamedZone) (zone : NamedZone) (line : List ℕ) → AreSoundZones zones → AddsZone (zone_names_of zones) line zone.name zone.source → AreSoundZones (zones ++ zone ∷ [])
sound_zones zones zone line sound adds = record {
  few = omega (arith, length-append zones (zone ∷ []), length-map zones (λ (z : NamedZone). z.name), adds.free.few);
  each = all_push IsSoundZone zones zone sound.each (record {
    named = adds.is.is_name;
    no_utc = adds.free.no_utc;
    source = sound_source adds.is.kind adds.is.text zone.source adds.is.is_source;
  });
  distinct = rw (map-append (λ (z : NamedZone). z.name) zones (zone ∷ [])) (distinct_push (zone_names_of zones) zone.name sound.distinct adds.free.new);
}

with_zone_more : (next number : ℕ) (run : Run) (line name : List ℕ) (source : Source) → IsSoundRun next run → AddsZone (zone_names_of run.zones) line name source
    → IsSoundRun next (with_zone run (record { line = number; name = name; source = source }))
with_zone_more next number run line name source sound adds = record {
  replicas = sound.replicas;
  limits = sound.limits;
  grace = sound.grace;
  zones = sound_zones run.zones (record { line = number; name = name; source = source }) line sound.zones adds;
  sections = sound.sections;
  versions = record { few = sound.versions.few; inside = sound.versions.inside; within = sound.versions.within; in_order = sound.versions.in_order };
  script = record { in_range = sound.script.in_range; limits = sound.script.limits };
}

with_version_more : (next number : ℕ) (run : Run) (line : List ℕ) (from : Minute) → IsSoundRun next run → BeginsVersion run line from
    → IsSoundRun next (with_version run number from)
with_version_more next number run line from sound begins = record {
  replicas = sound.replicas;
  limits = sound.limits;
  grace = sound.grace;
  zones = sound.zones;
  sections = sound.sections;
  versions = versions_pushed run number line from sound.versions begins;
  script = record { in_range = sound.script.in_range; limits = sound.script.limits };
}

-- a run without jobs and commands
sound_head : (number members : ℕ) (window : Window) (grace : ℕ) → AreSoundReplicas members → IsWithinLimits window → grace ≤ 525_600
    → IsSoundRun number (run_with members window grace)
sound_head number members window grace replicas limits short = record {
  replicas = replicas;
  limits = limits;
  grace = short;
  zones = no_zones;
  sections = tt;
  versions = no_versions members window grace;
  script = record { in_range = tt; limits = record { commands = omega arith; rounds = omega arith; free_turns = omega arith } };
}

-- one command more
with_command_more : (number : ℕ) (run : Run) (line : List ℕ) (next : Above) → IsSoundRun number run → (adds : AddsCommand run line next)
    → IsSoundRun number (with_command run adds.command)
with_command_more number run line next sound adds = record {
  replicas = sound.replicas;
  limits = sound.limits;
  grace = sound.grace;
  zones = sound.zones;
  sections = sound.sections;
  versions = record { few = sound.versions.few; inside = sound.versions.inside; within = sound.versions.within; in_order = sound.versions.in_order };
  script = record {
    in_range = all_push (IsInRange run.members run.window) run.commands adds.command sound.script.in_range adds.says.is.in_range;
    limits = adds.says.within;
  };
}

-- a section of no line
said_none : (style : Option Style) (label : List ℕ) → AreSaid style label []
said_none (Some style) label = tt
said_none None label = say_none no_settings

far_none : (style : Option Style) (label : List ℕ) → SoFar style label []
far_none (Some style) label = tt
far_none None label = tt

good_start : (number line : ℕ) (run : Run) (kind : SectionKind) (label zone : List ℕ) (count : ℕ) → line < number → IsSoundRun number run → Good number (inside run (opened line kind label zone) count)
good_start number line run kind label zone zero below sound =
    with_one_more number run (opened line kind label zone) sound (record { said = said_none (style_of kind) label; within = omega arith })
good_start number line run kind label zone (suc count) below sound = (sound, far_none (style_of kind) label, omega arith)

-- one line more of a section, which is its last or isn't
far_next : (style : Option Style) (section : Section) (left : ℕ) (line : List ℕ) → SoFar style section.label section.lines → MayStandIn Judged style section (suc left) line
    → SoFar style section.label (with_line section line).lines
far_next (Some style) section left line so_far may = all_push (Says style section.label) section.lines line so_far may
far_next None section left line so_far may = tt

said_last : (style : Option Style) (section : Section) (line : List ℕ) → SoFar style section.label section.lines → MayStandIn Judged style section 0 line
    → AreSaid style section.label (with_line section line).lines
said_last (Some style) section line so_far may = all_push (Says style section.label) section.lines line so_far may
said_last None section line so_far may = may

good_line : (number : ℕ) (run : Run) (section : Section) (left : ℕ) (line : List ℕ) → IsSoundRun number run → SoFar (style_of section.kind) section.label section.lines
    → section.line + length section.lines + 1 < number → MayStandIn Judged (style_of section.kind) section left line → Good number (inside run (with_line section line) left)
good_line number run section zero line sound so_far below may =
    let longer : length (section.lines ++ line ∷ []) ≡ length section.lines + 1 = length-append section.lines (line ∷ []) in
    with_one_more number run (with_line section line) sound
    (record { said = said_last (style_of section.kind) section line so_far may; within = omega arith })
good_line number run section (suc left) line sound so_far below may =
    let longer : length (section.lines ++ line ∷ []) ≡ length section.lines + 1 = length-append section.lines (line ∷ []) in
    (sound, far_next (style_of section.kind) section left line so_far may, omega arith)

good_next : (number behind : ℕ) (above next : Above) (line : List ℕ) → Good number above → MayStandBelow Judged number behind above line next → Good (number + 1) next
good_next number behind Nothing next line good may = subst (Good (number + 1)) (sym may.1) tt
good_next number behind Version next line good (members, is, next_is) =
    subst (Good (number + 1)) (sym next_is) (record { some = is.some; few = is.few })
good_next number behind (Replicas members) next line good (window, is, next_is) = subst (Good (number + 1)) (sym next_is) (good, is.limits)
good_next number behind (Times members window) next line good (grace, is, next_is) =
    subst (Good (number + 1)) (sym next_is) (sound_head (number + 1) members window grace good.0 good.1 is.short)
good_next number behind (Sections run) next line good (inl may) = subst (Good (number + 1)) (sym may.1) (later_run number (number + 1) run (omega arith) good)
good_next number behind (Sections run) next line good (inr (inl names)) =
    subst (Good (number + 1)) (sym names.next_is) (with_zone_more (number + 1) number run line names.name names.source (later_run number (number + 1) run (omega arith) good) names.adds)
good_next number behind (Sections run) next line good (inr (inr (inr begins))) =
    subst (Good (number + 1)) (sym begins.next_is)
    (with_version_more (number + 1) number run line begins.from (later_run number (number + 1) run (omega arith) good) begins.begins)
good_next number behind (Sections run) next line good (inr (inr (inl start))) =
    subst (Good (number + 1)) (sym start.next_is)
    (good_start (number + 1) number run start.kind start.label start.zone start.count (omega arith) (later_run number (number + 1) run (omega arith) good))
good_next number behind (Table run section left) next line good (may, next_is) =
    subst (Good (number + 1)) (sym next_is)
    (good_line (number + 1) run section left line (later_run number (number + 1) run (omega arith) good.0) good.1 (omega (arith, good.2)) may)
good_next number behind (Script run) next line good (inl may) = subst (Good (number + 1)) (sym may.1) (later_run number (number + 1) run (omega arith) good)
good_next number behind (Script run) next line good (inr adds) =
    subst (Good (number + 1)) (sym adds.next_is) (later_run number (number + 1) (with_command run adds.command) (omega arith) (with_command_more number run line next good adds))
good_next number behind (End run) next line good may = absurd may

good_end : (number : ℕ) (above : Above) (lines : List (List ℕ)) (run : Run) → Good number above → ReadsFrom Judged number above lines run → IsSoundRun (number + length lines) run
good_end number above [] run good is = later_run number (number + length {A = List ℕ} []) run (omega arith) (subst (Good number) is good)
good_end number above (line ∷ lines) run good (next, may, reads) =
    let far = good_end (number + 1) next lines run (good_next number (length lines) above next line good may) reads in
    later_run (number + 1 + length lines) (number + length (line ∷ lines)) run (omega arith) far

-- each run that is read is sound
pub sound_run : (text : List ℕ) (run : Run) → IsRunText text run → IsSoundRun (1 + length (lines_of text)) run
sound_run text run is = good_end 1 Nothing (lines_of text) run tt is
