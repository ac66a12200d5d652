-- Zones, sections and versions, one after another.
use Rattle.std.proofs.Common.{◌≡◌, ◌≢◌, ℕ, ◌+◌, ◌<◌, ◌≤◌, List, [], ◌∷◌, ◌++◌, length, refl, sym, ap, ◌∙◌, subst, inr, append_assoc, map, All, Bor, codes, arith, length-append}
use Rattle.std.proofs.lemmas.List.{append-nil, map-append, length-map}
use Rattle.std.specs.List.{AllByRecursion}
use Rattle.std.proofs.lemmas.List.Elements.{All-push}
use Rattle.crontab_text.specs.Lines.{lines_of}
use Rattle.run_text.specs.Follow.{Sections, Script, IsOfLine, RefusesBeforeScript}
use Rattle.run_text.specs.Reading.{FitInFile, HasDigits}
use Rattle.run_text.specs.Run.{NamedZone, Run, Section, section_of, zone_of, run_with, with_section, with_version, with_parts}
use Rattle.run_text.specs.Steps.{place_of, CarriesBack, RefusedFrom, CanCountLines, HasNoPart, IsKnown, texts_of_names, with_part, FitsInFile, PassesPart, AddsPart}
use Rattle.run_text.specs.Versions.{BeginsVersion}
use Rattle.run_text.specs.Zones.{IsFreeName}
use Rattle.zone_minutes.specs.declared.minute.Minute.{Minute}
use Rattle.zone_minutes.specs.declared.minute.Window.{Window}
use Rattle.run_text.specs.declared.part.Known.{Known}
use Rattle.run_text.specs.declared.part.Part.{Part}
use Rattle.run_text.specs.declared.part.Part.TheVariants.{Zone as ZonePart, Section as SectionPart, Version as VersionPart}
use Rattle.run_text.specs.declared.parts.Parts.{Parts}
use Rattle.run_text.specs.declared.reader.Reader.{Reader}
use Rattle.run_text.specs.declared.refusal.Refusal.{Refusal}
use Rattle.run_text.specs.declared.run.Section.{Section as SectionText}
use Rattle.run_text.specs.declared.run.VersionLine.{VersionLine}
use Rattle.run_text.specs.declared.table.Tables.{Tables}
use Rattle.run_text.proofs.StepLemmas.{stays, goes_on, one_line_at, wrong_line}

same_parts : (run : Run) (a b : List NamedZone) (c d : List Section) (e f : List VersionLine) → a ≡ b → c ≡ d → e ≡ f
    → ◌≡◌ {A = Run} (record run { zones = a; sections = c; versions = e }) (record run { zones = b; sections = d; versions = f })
same_parts run a b c d e f zones sections versions = rw (zones, sections, versions) refl

-- the zones, the sections, or the versions, with those of a part
abbrev pub zones_with : List NamedZone → Part → List NamedZone
zones_with zones (ZonePart zone) = zones ++ zone_of zone ∷ []
zones_with zones (SectionPart section) = zones
zones_with zones (VersionPart line from) = zones

abbrev pub sections_with : List Section → Part → List Section
sections_with sections (ZonePart zone) = sections
sections_with sections (SectionPart section) = sections ++ section_of section ∷ []
sections_with sections (VersionPart line from) = sections

abbrev pub begun : ℕ → ℕ → Minute → VersionLine
begun sections line from = record { line = line; from = from; first_section = sections }

abbrev pub versions_with : List Section → List VersionLine → Part → List VersionLine
versions_with sections versions (ZonePart zone) = versions
versions_with sections versions (SectionPart section) = versions
versions_with sections versions (VersionPart line from) = versions ++ begun (length sections) line from ∷ []

-- what was read from the first place on, above which there is no part, and what is known then
pub record Reads (tables : Tables) (window : Window) (first now : Reader) (known : Known) (zones : List NamedZone) (sections : List Section) (versions : List VersionLine) : Type 0 where
  pub room : CanCountLines now
  pub short : length now.rest.now ≤ length first.rest.now
  pub knows : (run : Run) → HasNoPart window run → IsKnown known (with_parts run zones sections versions)
  pub leads : (run : Run) → HasNoPart window run
      → CarriesBack tables (place_of first (Sections run)) (place_of now (Sections (with_parts run zones sections versions)))

-- below the head there is no part
pub no_part : (members : ℕ) (window : Window) (grace : ℕ) → HasNoPart window (run_with members window grace)
no_part members window grace = record { window = refl; zones = refl; sections = refl; versions = refl }

-- nothing is read at first
with_none : (run : Run) → run ≡ with_parts run [] [] []
with_none run =
    same_parts run run.zones (run.zones ++ []) run.sections (run.sections ++ []) run.versions (run.versions ++ [])
    (sym (append-nil run.zones)) (sym (append-nil run.sections)) (sym (append-nil run.versions))

pub reads_none : {tables : Tables} (window : Window) (reader : Reader) (known : Known) → ((run : Run) → HasNoPart window run → IsKnown known run) → CanCountLines reader
    → Reads tables window reader reader known [] [] []
reads_none {tables = tables} window reader known knows room = record {
  room = room;
  short = omega arith;
  knows = λ run empty. subst (IsKnown known) (with_none run) (knows run empty);
  leads = λ run empty.
      subst (λ r. CarriesBack tables (place_of reader (Sections run)) (place_of reader (Sections r))) (with_none run) (stays _ _ _ _ refl);
}

-- one part more
run_next : (window : Window) (run : Run) (zones : List NamedZone) (sections : List Section) (versions : List VersionLine) (part : Part) → HasNoPart window run
    → with_part (with_parts run zones sections versions) part ≡ with_parts run (zones_with zones part) (sections_with sections part) (versions_with sections versions part)
run_next window run zones sections versions (ZonePart zone) none =
    same_parts run ((run.zones ++ zones) ++ zone_of zone ∷ []) (run.zones ++ (zones ++ zone_of zone ∷ [])) (run.sections ++ sections) (run.sections ++ sections)
    (run.versions ++ versions) (run.versions ++ versions) (append_assoc run.zones zones (zone_of zone ∷ [])) refl refl
run_next window run zones sections versions (SectionPart section) none =
    same_parts run (run.zones ++ zones) (run.zones ++ zones) ((run.sections ++ sections) ++ section_of section ∷ []) (run.sections ++ (sections ++ section_of section ∷ []))
    (run.versions ++ versions) (run.versions ++ versions) refl (append_assoc run.sections sections (section_of section ∷ [])) refl
run_next window run zones sections versions (VersionPart line from) none =
    let count : length (run.sections ++ sections) ≡ length sections = ap (λ s. length (s ++ sections)) none.sections in
    same_parts run (run.zones ++ zones) (run.zones ++ zones) (run.sections ++ sections) (run.sections ++ sections)
    ((run.versions ++ versions) ++ begun (length (run.sections ++ sections)) line from ∷ []) (run.versions ++ (versions ++ begun (length sections) line from ∷ [])) refl refl
    (append_assoc run.versions versions (begun (length (run.sections ++ sections)) line from ∷ []) ∙ ap (λ n. run.versions ++ (versions ++ begun n line from ∷ [])) count)

pub reads_next : {tables : Tables} (window : Window) (first now new : Reader) (before after : Known) (zones : List NamedZone) (sections : List Section) (versions : List VersionLine) (part : Part)
    → Reads tables window first now before zones sections versions → PassesPart tables now new before after part → CanCountLines new → length new.rest.now ≤ length now.rest.now
    → Reads tables window first new after (zones_with zones part) (sections_with sections part) (versions_with sections versions part)
reads_next {tables = tables} window first now new before after zones sections versions part so_far passes room shorter = record {
  room = room;
  short = omega (arith, so_far.short, shorter);
  knows = λ run none.
      subst (IsKnown after) (run_next window run zones sections versions part none)
      (passes.keeps (with_parts run zones sections versions) (so_far.knows run none));
  leads = λ run none.
      subst (λ r. CarriesBack tables (place_of first (Sections run)) (place_of new (Sections r))) (run_next window run zones sections versions part none)
      (goes_on _ _ _ (so_far.leads run none) (passes.leads (with_parts run zones sections versions) (so_far.knows run none)));
}

pub reads_refused : {tables : Tables} (window : Window) (first now : Reader) (known : Known) (zones : List NamedZone) (sections : List Section) (versions : List VersionLine) (refusal : Refusal)
    → Reads tables window first now known zones sections versions
    → ((run : Run) → IsKnown known run → RefusedFrom tables (place_of now (Sections run)) refusal)
    → (run : Run) → HasNoPart window run → RefusedFrom tables (place_of first (Sections run)) refusal
reads_refused window first now known zones sections versions refusal so_far refused run none =
    (so_far.leads run none).refuses refusal (refused (with_parts run zones sections versions) (so_far.knows run none))

pub reads_all : {tables : Tables} (window : Window) (first now new : Reader) (known : Known) (zones : List NamedZone) (sections : List Section) (versions : List VersionLine)
    → Reads tables window first now known zones sections versions
    → ((run : Run) → CarriesBack tables (place_of now (Sections run)) (place_of new (Script run)))
    → (run : Run) → HasNoPart window run → CarriesBack tables (place_of first (Sections run)) (place_of new (Script (with_parts run zones sections versions)))
reads_all window first now new known zones sections versions so_far last run none =
    goes_on _ _ _ (so_far.leads run none) (last (with_parts run zones sections versions))

-- the parts with one more
pub zones_pushed : (old new : Parts) (part : Part) → AddsPart old new part → map zone_of new.zones.items ≡ zones_with (map zone_of old.zones.items) part
zones_pushed old new (ZonePart zone) adds = ap (map zone_of) adds.0 ∙ map-append zone_of old.zones.items (zone ∷ [])
zones_pushed old new (SectionPart section) adds = ap (map zone_of) adds.0
zones_pushed old new (VersionPart line from) adds = ap (map zone_of) adds.0

pub sections_pushed : (old new : Parts) (part : Part) → AddsPart old new part → map section_of new.sections.items ≡ sections_with (map section_of old.sections.items) part
sections_pushed old new (ZonePart zone) adds = ap (map section_of) adds.1
sections_pushed old new (SectionPart section) adds = ap (map section_of) adds.1 ∙ map-append section_of old.sections.items (section ∷ [])
sections_pushed old new (VersionPart line from) adds = ap (map section_of) adds.1

pub begun_pushed : (old new : Parts) (part : Part) → AddsPart old new part → new.versions.items ≡ versions_with (map section_of old.sections.items) old.versions.items part
begun_pushed old new (ZonePart zone) adds = adds.2
begun_pushed old new (SectionPart section) adds = adds.2
begun_pushed old new (VersionPart line from) adds =
    adds.2 ∙ ap (λ n. old.versions.items ++ begun n line from ∷ []) (sym (length-map old.sections.items section_of))

-- a version's line
pub version_passes : {tables : Tables} (old new : Reader) (before after : Known) (line : List ℕ) (from : Minute) → new.number ≡ old.number + 1 → lines_of old.rest.now ≡ line ∷ lines_of new.rest.now
    → ((run : Run) → IsKnown before run → BeginsVersion run line from) → ((run : Run) → IsKnown before run → IsKnown after (with_version run new.number from))
    → PassesPart tables old new before after (VersionPart new.number from)
version_passes old new before after line from number lines begins keeps = record {
  leads = λ run is.
      one_line_at old new (Sections run) (Sections (with_version run new.number from)) line number lines
      (inr (inr (inr (record { from = from; begins = begins run is; next_is = ap (λ n. Sections (with_version run n from)) number }))));
  keeps = keeps;
}

-- a section more changes nothing of what is known
pub known_section : (known : Known) (run : Run) (section : Section) → IsKnown known run → IsKnown known (with_section run section)
known_section known run section is = record { names = is.names; window = is.window; versions = is.versions; last = is.last }

pub part_refused : (tables : Tables) (old new : Reader) (before : Known) (line : List ℕ) (refusal : Refusal) → new.number ≡ old.number + 1 → lines_of old.rest.now ≡ line ∷ lines_of new.rest.now
    → IsOfLine new.number refusal → ((run : Run) → IsKnown before run → RefusesBeforeScript (length (lines_of new.rest.now)) run line refusal.cause)
    → (run : Run) → IsKnown before run → RefusedFrom tables (place_of old (Sections run)) refusal
part_refused tables old new before line refusal number lines line_is refuses run is =
    wrong_line tables (old.number + 1) (Sections run) old.rest.now line new.rest.now refusal lines (refuses run is, (line_is.0 ∙ number, line_is.1))

-- the name is none of these
abbrev pub New : List ℕ → List (Bor (List ℕ)) → Type 0
New name names = AllByRecursion (λ other. other.now ≢ name) names

new_texts : (names : List (Bor (List ℕ))) (name : List ℕ) → AllByRecursion (λ other. other.now ≢ name) names → AllByRecursion (λ other. other ≢ name) (texts_of_names names)
new_texts [] name all = tt
new_texts (other ∷ names) name all = (all.0, new_texts names name all.1)

new_names : (names : List (Bor (List ℕ))) (name : List ℕ) → AllByRecursion (λ other. other ≢ name) (texts_of_names names) → AllByRecursion (λ other. other.now ≢ name) names
new_names [] name all = tt
new_names (other ∷ names) name all = (all.0, new_names names name all.1)

pub free_name : (names : List (Bor (List ℕ))) (name : List ℕ) → length names < 32 → name ≢ codes "UTC" → AllByRecursion (λ other. other.now ≢ name) names → IsFreeName (texts_of_names names) name
free_name names name few no_utc new =
    record { no_utc = no_utc; new = new_texts names name new; few = omega (arith, length-map names (λ (n : Bor (List ℕ)). n.now)) }

pub free_few : (names : List (Bor (List ℕ))) (name : List ℕ) → IsFreeName (texts_of_names names) name → length names < 32
free_few names name free = omega (arith, length-map names (λ (n : Bor (List ℕ)). n.now), free.few)

pub free_new : (names : List (Bor (List ℕ))) (name : List ℕ) → IsFreeName (texts_of_names names) name → AllByRecursion (λ other. other.now ≢ name) names
free_new names name free = new_names names name free.new

-- what was read, with a part kept
pub reads_pushed : {tables : Tables} (window : Window) (first now new : Reader) (before after : Known) (old more : Parts) (part : Part)
    → Reads tables window first now before (map zone_of old.zones.items) (map section_of old.sections.items) old.versions.items
    → PassesPart tables now new before after part → CanCountLines new → length new.rest.now ≤ length now.rest.now
    → AddsPart old more part → Reads tables window first new after (map zone_of more.zones.items) (map section_of more.sections.items) more.versions.items
reads_pushed window first now new before after old more part so_far passes room shorter adds =
    rw (zones_pushed old more part adds, sections_pushed old more part adds, begun_pushed old more part adds)
    (reads_next window first now new before after _ _ _ part so_far passes room shorter)

pub parts_pushed : (size below : ℕ) (old more : Parts) (part : Part) → FitInFile size old.sections.items → FitsInFile below part → below ≤ size → AddsPart old more part → FitInFile size more.sections.items
parts_pushed size below old more (ZonePart zone) all part_of within adds = rw adds.1 all
parts_pushed size below old more (SectionPart section) all part_of within adds =
    rw adds.1 (All-push (λ (s : SectionText). length s.text.now ≤ size) old.sections.items section all (omega (arith, part_of, within)))
parts_pushed size below old more (VersionPart line from) all part_of within adds = rw adds.1 all

-- there are no more sections than lines above, so they can be counted
pub count_pushed : (old more : Parts) (part : Part) → AddsPart old more part → length more.sections.items ≤ length old.sections.items + 1
count_pushed old more (ZonePart zone) adds = omega (arith, ap length adds.1)
count_pushed old more (SectionPart section) adds = omega (arith, ap length adds.1, length-append old.sections.items (section ∷ []))
count_pushed old more (VersionPart line from) adds = omega (arith, ap length adds.1)

pub digits_pushed : (below : ℕ) (old more : Parts) (part : Part) → All HasDigits old.zones.items → FitsInFile below part → AddsPart old more part → All HasDigits more.zones.items
digits_pushed below old more (ZonePart zone) all part_of adds = rw adds.0 (All-push HasDigits old.zones.items zone all part_of)
digits_pushed below old more (SectionPart section) all part_of adds = rw adds.0 all
digits_pushed below old more (VersionPart line from) all part_of adds = rw adds.0 all

pub less : {a b : ℕ} → a < b → a ≤ b
less lt = omega arith
