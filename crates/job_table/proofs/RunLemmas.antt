-- A version's sections, one after another.
use Rattle.std.proofs.Common.{◌≡◌, ℕ, ◌+◌, ◌-◌, ◌<◌, ◌≤◌, ◌^◌, None, List, [], ◌∷◌, ◌++◌, zero, suc, length, map, take, drop, get_or, refl, ap, ◌∙◌, sym, subst, arith, append_assoc}
use Rattle.std.specs.List.{AllByRecursion}
use Rattle.std.proofs.lemmas.List.{append-nil, length-map}
use Rattle.std.specs.Prelude.{slice_get}
use Rattle.std.proofs.lemmas.Option.{slice_get_past}
use Rattle.std.proofs.lemmas.List.Elements.{All-get_or}
use Rattle.std.proofs.Math.ListN.{get_or-map}
use Rattle.crontab_text.specs.Lines.{lines_of}
use Rattle.crontab_text.proofs.LineLemmas.{lines_at_most}
use Rattle.due_set.specs.Table.{Job}
use Rattle.run_text.specs.Reading.{IsReadRun}
use Rattle.run_text.specs.Run.{NamedZone, Section, Run, section_of, zone_of, run_of}
use Rattle.run_text.specs.Sound.{IsSoundSection, AreVersionLines}
use Rattle.run_text.specs.declared.refusal.Refusal.{Refusal}
use Rattle.run_text.specs.declared.run.RunFile.{RunFile}
use Rattle.run_text.specs.declared.run.Section.{Section as SectionText}
use Rattle.run_text.specs.declared.run.VersionLine.{VersionLine}
use Rattle.run_text.specs.declared.run.ZoneLine.{ZoneLine}
use Rattle.run_text.proofs.SoundLemmas.{sound_run}
use Rattle.job_table.specs.Collect.{Collected, AddsSection, RefusesSection, HasMarkedJobs, HasFaultyMarks}
use Rattle.job_table.specs.Marks.{Mark, AreMarks, AreSectionMarks}
use Rattle.job_table.specs.Versions.{first_section, sections_above, sections_in}
use Rattle.job_table.proofs.SectionLemmas.{some_marks}
use Rattle.job_table.proofs.VersionSectionLemmas.{all_in, first_rises, one_more_in, parted_in}

-- the marks of some sections are collected
pub record SoFar (zones : List NamedZone) (sections : List Section) (jobs : List Job) : Type 0 where
  pub marks : List Mark
  pub are : AreMarks zones sections marks
  pub collected : Collected zones marks jobs

pub none_so_far : (zones : List NamedZone) → SoFar zones [] []
none_so_far zones = record { marks = []; are = refl; collected = record { sound = tt; are = refl } }

marks_append : (zones : List NamedZone) (a b : List Section) (x y : List Mark) → AreMarks zones a x → AreMarks zones b y → AreMarks zones (a ++ b) (x ++ y)
marks_append zones [] b x y first second = subst (AreMarks zones b) (sym (ap (λ m. m ++ y) first)) second
marks_append zones (s ∷ a) b x y (first, others, here, rest, is) second =
    (first, others ++ y, here, marks_append zones a b others y rest second, ap (λ m. m ++ y) is ∙ append_assoc first others y)

-- the marks of a section alone
one_section : (zones : List NamedZone) (section : Section) (marks : List Mark) → AreSectionMarks zones section marks → AreMarks zones (section ∷ []) marks
one_section zones section marks are = (marks, [], are, refl, sym (append-nil marks))

-- one section more
pub more_so_far : (zones : List NamedZone) (sections : List Section) (section : Section) (old new : List Job) → SoFar zones sections old → AddsSection zones old new section → SoFar zones (sections ++ section ∷ []) new
more_so_far zones sections section old new so_far adds = record {
  marks = so_far.marks ++ adds.marks;
  are = marks_append zones sections (section ∷ []) so_far.marks adds.marks so_far.are (one_section zones section adds.marks adds.are);
  collected = adds.adds so_far.marks so_far.collected;
}

-- sound sections have marks
pub marks_exist : (zones : List NamedZone) (next : ℕ) (sections : List Section) → AllByRecursion (IsSoundSection next) sections → (marks : List Mark) × AreMarks zones sections marks
marks_exist zones next [] all = ([], refl)
marks_exist zones next (section ∷ sections) all =
    let (first, here) = some_marks zones section all.0.said in
    let (others, are) = marks_exist zones next sections all.1 in
    (first ++ others, (first, others, here, are, refl))

all_of_back : (P : Section → Type 0) (a b : List Section) → AllByRecursion P (a ++ b) → AllByRecursion P b
all_of_back P [] b all = all
all_of_back P (x ∷ a) b all = all_of_back P a b all.1

-- a section of a version at fault, and the sections behind it
refused_so_far : (next : ℕ) (run : Run) (version : ℕ) (front back : List Section) (section : Section) (jobs : List Job) (refusal : Refusal)
    → sections_in run version ≡ front ++ section ∷ back → AllByRecursion (IsSoundSection next) run.sections → SoFar run.zones front jobs
    → RefusesSection run.zones jobs section refusal → HasFaultyMarks run version refusal
refused_so_far next run version front back section jobs refusal are all so_far refuses =
    let all_here = subst (AllByRecursion (IsSoundSection next)) are (all_in (IsSoundSection next) run version all) in
    let (others, others_are) = marks_exist run.zones next back (all_of_back (IsSoundSection next) front (section ∷ back) all_here).1 in
    record {
      marks = (so_far.marks ++ refuses.marks) ++ others;
      are = subst (λ s. AreMarks run.zones s ((so_far.marks ++ refuses.marks) ++ others)) (sym are)
          (subst (AreMarks run.zones (front ++ section ∷ back)) (sym (append_assoc so_far.marks (refuses.marks) others))
          (marks_append run.zones front (section ∷ back) so_far.marks (refuses.marks ++ others) so_far.are (refuses.marks, others, refuses.are, others_are, refl)));
      fault = refuses.refuses so_far.marks others so_far.collected;
    }

-- what holds of a section of a run that was read
pub record SoundText (section : SectionText) : Type 0 where
  pub sound : IsSoundSection (2 ^ 32) (section_of section)
  pub text : length section.text.now < 2 ^ 32

all_get : (P : Section → Type 0) (xs : List Section) (i : ℕ) (d : Section) → AllByRecursion P xs → i < length xs → P (get_or xs i d)
all_get P [] i d all lt = absurd (omega arith)
all_get P (x ∷ xs) zero d all lt = all.0
all_get P (x ∷ xs) (suc i) d all lt = all_get P xs i d all.1 (omega arith)

at_most : (next bound : ℕ) (section : Section) → next ≤ bound → IsSoundSection next section → IsSoundSection bound section
at_most next bound section le sound = record { said = sound.said; within = omega (arith, sound.within) }

pub sections_sound : (run : RunFile) (read : IsReadRun run) → AllByRecursion (IsSoundSection (1 + length (lines_of read.text))) (map section_of run.sections.items)
sections_sound run read = (sound_run read.text (run_of run) read.says).sections

-- where a section stands
mapped_at : (items : List SectionText) (place : ℕ) (section : SectionText) → section ≡ get_or items place section → get_or (map section_of items) place (section_of section) ≡ section_of section
mapped_at items place section is = get_or-map section_of items place section ∙ ap section_of (sym is)

-- each section of a run that was read
pub sound_text : (run : RunFile) (section : SectionText) (place : ℕ) → IsReadRun run → section ≡ get_or run.sections.items place section → place < length run.sections.items → SoundText section
sound_text run section place read is lt =
    let next = 1 + length (lines_of read.text) in
    let inside : place < length (map section_of run.sections.items) = omega (arith, length-map run.sections.items section_of) in
    let sound = all_get (IsSoundSection next) (map section_of run.sections.items) place (section_of section) (sections_sound run read) inside in
    let short = subst (λ (s : SectionText). length s.text.now ≤ length read.text) (sym is) (All-get_or (λ (s : SectionText). length s.text.now ≤ length read.text) run.sections.items place section lt read.parts) in
    record {
      sound = at_most next (2 ^ 32) (section_of section) (omega (arith, lines_at_most read.text, read.short))
          (subst (IsSoundSection next) (mapped_at run.sections.items place section is) sound);
      text = omega (arith, short, read.short);
    }

-- the marks of a version's sections before a place are collected
abbrev pub SoFarIn : RunFile → (version place : ℕ) → List Job → Type 0
SoFarIn run version place jobs = SoFar (map zone_of run.zones.items) (drop (first_section (run_of run) version) (take place (map section_of run.sections.items))) jobs

-- the next section
pub next_in : (run : RunFile) (named : List ZoneLine) (section : SectionText) (version first place : ℕ) (old new : List Job) → named ≡ run.zones.items
    → section ≡ get_or run.sections.items place section → place < length run.sections.items → first ≡ first_section (run_of run) version → first ≤ place
    → SoFarIn run version place old → AddsSection (map zone_of named) old new (section_of section) → SoFarIn run version (place + 1) new
next_in run named section version first place old new zones_are is within begins since so_far adds =
    let zones = map zone_of run.zones.items in
    let sections = map section_of run.sections.items in
    let start = first_section (run_of run) version in
    let added = subst (λ l. AddsSection (map zone_of l) old new (section_of section)) zones_are adds in
    let inside : place < length sections = omega (arith, length-map run.sections.items section_of) in
    let from : start ≤ place = omega arith in
    let more : drop start (take (place + 1) sections) ≡ drop start (take place sections) ++ section_of section ∷ [] =
    one_more_in sections start place (section_of section) from inside ∙ ap (λ s. drop start (take place sections) ++ s ∷ []) (mapped_at run.sections.items place section is) in
    subst (λ l. SoFar zones l new) (sym more) (more_so_far zones (drop start (take place sections)) (section_of section) old new so_far added)

-- a section at fault
pub refused_in : (run : RunFile) (named : List ZoneLine) (section : SectionText) (version first place end : ℕ) (jobs : List Job) → IsReadRun run → named ≡ run.zones.items
    → section ≡ get_or run.sections.items place section → place < length run.sections.items → first ≡ first_section (run_of run) version → first ≤ place
    → end ≡ first_section (run_of run) (version + 1) → place < end → SoFarIn run version place jobs → (refusal : Refusal)
    → RefusesSection (map zone_of named) jobs (section_of section) refusal → HasFaultyMarks (run_of run) version refusal
refused_in run named section version first place end jobs read zones_are is within begins since ends before so_far refusal refuses =
    let sections = map section_of run.sections.items in
    let start = first_section (run_of run) version in
    let stop = first_section (run_of run) (suc version) in
    let next : version + 1 ≡ suc version = omega arith in
    let stop_is : end ≡ stop = ends ∙ ap (first_section (run_of run)) next in
    let inside : place < length sections = omega (arith, length-map run.sections.items section_of) in
    let from : start ≤ place = omega arith in
    let until : place < stop = omega arith in
    let front = drop start (take place sections) in
    let back = drop (suc place) (take stop sections) in
    let parts : drop start (take stop sections) ≡ front ++ section_of section ∷ back =
    parted_in sections start place stop (section_of section) from until inside ∙ ap (λ s. front ++ s ∷ back) (mapped_at run.sections.items place section is) in
    refused_so_far (1 + length (lines_of read.text)) (run_of run) version front back (section_of section) jobs refusal parts (sections_sound run read) so_far
    (subst (λ l. RefusesSection (map zone_of l) jobs (section_of section) refusal) zones_are refuses)

-- what holds of the versions' lines of a run that was read
pub version_lines : (run : RunFile) → IsReadRun run → AreVersionLines (run_of run)
version_lines run read = (sound_run read.text (run_of run) read.says).versions

-- all sections of a version
pub all_marks : (run : RunFile) (version first place end : ℕ) (jobs : List Job) → IsReadRun run → first ≡ first_section (run_of run) version → end ≡ first_section (run_of run) (version + 1)
    → (first ≤ end → place ≤ end) → end ≤ place → SoFarIn run version place jobs → HasMarkedJobs (run_of run) version jobs
all_marks run version first place end jobs read begins ends most least so_far =
    let next : version + 1 ≡ suc version = omega arith in
    let rises = first_rises (run_of run) version (version_lines run read) in
    let stop_is : end ≡ first_section (run_of run) (suc version) = ends ∙ ap (first_section (run_of run)) next in
    let in_order : first ≤ end = omega arith in
    let le = most in_order in
    let all : place ≡ first_section (run_of run) (suc version) = omega arith in
    let known = subst (λ n. SoFarIn run version n jobs) all so_far in
    record { marks = known.marks; are = known.are; collected = known.collected }

-- ---- the lines of versions

-- a line has its sections within those of the run
pub line_within : (run : RunFile) (items : List VersionLine) (place : ℕ) (line : VersionLine) → IsReadRun run → items ≡ run.versions.items → place < length items
    → line ≡ get_or items place line → line.first_section ≤ length run.sections.items
line_within run items place line read same within is =
    let inside = subst (λ (l : List VersionLine). place < length l) same within in
    let found : line ≡ get_or run.versions.items place line = is ∙ ap (λ (l : List VersionLine). get_or l place line) same in
    let below = (version_lines run read).within place line inside in
    subst (λ (v : VersionLine). v.first_section ≤ length run.sections.items) (sym found)
    (subst (λ n. (get_or run.versions.items place line).first_section ≤ n) (length-map run.sections.items section_of) below)

-- behind the last line all sections stand
pub past_lines : (run : RunFile) (items : List VersionLine) (version : ℕ) → items ≡ run.versions.items → (version ≡ 0 → ⊥) → length items ≤ version - 1
    → length run.sections.items ≡ first_section (run_of run) version
past_lines run items zero same some past = absurd (some refl)
past_lines run items (suc place) same some past =
    let most : length items ≤ place = omega arith in
    let none : slice_get run.versions.items place ≡ None = slice_get_past run.versions.items place (subst (λ (l : List VersionLine). length l ≤ place) same most) in
    sym (ap (sections_above (length (map section_of run.sections.items))) none ∙ length-map run.sections.items section_of)
