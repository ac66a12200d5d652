-- Each table has one due list, and each frame one check.
use Rattle.std.proofs.Common.{◌≡◌, ℕ, zero, suc, ◌+◌, ◌<◌, List, [], ◌∷◌, ◌++◌, length, map, flat_map, codes, zip, Option, None, Some, ℤ, refl, sym, ap, ◌∙◌, subst, arith}
use Rattle.std.specs.Prelude.{Contains, slice_get}
use Rattle.std.specs.List.{AllZip, range_with_len}
use Rattle.std.proofs.lemmas.List.Elements.{Contains-append_left}
use Rattle.std.proofs.lemmas.Option.{slice_get_within}
use Rattle.jiff.specs.Types.{TimeZone}
use Rattle.zone_minutes.specs.Zone.{Zone, IsReadAs, local_of}
use Rattle.zone_minutes.proofs.ZoneLemmas.{local_of-same}
use Rattle.due_set.specs.Table.{Job, Table, Version, IsJobDue, IsJobIn, IsJobRead, IsSound, job_of_version, jobs_in, jobs_of_later, version_count}
use Rattle.due_set.specs.declared.job.JobKind.{JobKind}
use Rattle.due_set.specs.declared.job.JobKind.TheVariants.{Crontab, Anacron, Never}
use Rattle.due_set.proofs.ExistLemmas.{due_list}
use Rattle.due_set.proofs.Rising.{Contains-tail, Contains-map, Contains-range_with_len}
use Rattle.due_set.proofs.SoundLemmas.{length_of_version, zone_is_read}
use Rattle.due_set.proofs.TableLemmas.{IsJobDueList-same, same_job}
use Rattle.cluster_sched.specs.Names.{name_text}
use Rattle.cluster_sched.specs.declared.row.Name.{Name}
use Rattle.crontab_text.specs.Answers.{LineAnswer, IsAnswer}
use Rattle.crontab_text.specs.declared.answer.Style.{Style}
use Rattle.crontab_text.proofs.AnswerLemmas.{same_answer, some_answer as some_crontab_answer}
use Rattle.anacron_text.specs.Answers.{AnacronLineAnswer}
use Rattle.anacron_text.specs.LogicalLines.{joined, line_count}
use Rattle.anacron_text.specs.Settings.{no_settings}
use Rattle.anacron_text.specs.declared.settings.Settings.{Settings}
use Rattle.anacron_text.proofs.AnswerLemmas.{same_answers_below, some_answers_below}
use Rattle.cron_io.specs.Lines.{text_of_lines}
use Rattle.run_text.specs.Follow.{style_of}
use Rattle.run_text.specs.Run.{Run, Section}
use Rattle.due_list.specs.CheckText.{AreAnacrontabFaults, AreCrontabFaults, AreFaultsBy, AreFaultsOf, IsCheckText, anacrontab_fault, check_lines, crontab_fault, numbers_from}
use Rattle.due_list.specs.DueText.{AreEntryLines, AreLinesBy, AreLinesOfJob, AreLinesOfVersion, IsDueText, anacron_line, due_line, due_lines, due_job_line, local_text}
use Rattle.due_list.specs.declared.fault.TableFault.{TableFault}
use Rattle.due_list.proofs.ListLemmas.{Contains-parts, cut_at, same_zip, some_zip, zip_member}

-- the zone of a job, as it is read, shows one local time
same_local : (table : Table) (version number : ℕ) (j k : Job) (z w : TimeZone) → IsJobIn table version number j z → IsJobIn table version number k w
    → (t : ℤ) → local_of z t ≡ local_of w t
same_local table version number j k z w p q t =
    let jobs : k ≡ j = same_job table version number k j q.is_job p.is_job in
    let zones : slice_get table.zones k.zone ≡ slice_get table.zones j.zone = ap (λ (job : Job). slice_get table.zones job.zone) jobs in
    let sources : Some q.source ≡ Some p.source = sym q.is_zone ∙ zones ∙ p.is_zone in
    let source_is : q.source ≡ p.source = cc in
    let read : IsReadAs p.source.source w = subst (λ (s : Zone). IsReadAs s.source w) source_is q.read in
    local_of-same p.source.source z w t p.read read

-- a line shows the instant's local time alone of the zone
same_line : (table : Table) (number : ℕ) (z w : TimeZone) (t : ℤ) → local_of z t ≡ local_of w t → due_line table number z t ≡ due_line table number w t
same_line table number z w t same =
    let name : Name = record { job = number; at = t } in
    ap (λ (local : ℤ). codes "due " ++ name_text table name ++ 32 ∷ local_text local) same

same_each : (table : Table) (number : ℕ) (z w : TimeZone) → ((t : ℤ) → local_of z t ≡ local_of w t) → (instants : List ℤ)
    → map (due_line table number z) instants ≡ map (due_line table number w) instants
same_each table number z w same [] = refl
same_each table number z w same (t ∷ instants) =
    ap (λ (line : List ℕ). line ∷ map (due_line table number z) instants) (same_line table number z w t (same t))
    ∙ ap (λ (l : List (List ℕ)). due_line table number w t ∷ l) (same_each table number z w same instants)

same_entry : (table : Table) (version number : ℕ) (job : Job) (z w : TimeZone) (a b : List (List ℕ)) → ((t : ℤ) → local_of z t ≡ local_of w t)
    → AreEntryLines table version number job z a → AreEntryLines table version number job w b → a ≡ b
same_entry table version number job z w a b same p q =
    let instants : p.instants ≡ q.instants = IsJobDueList-same table version number p.instants q.instants p.are_due q.are_due in
    p.lines_are
    ∙ ap (λ (l : List ℤ). due_job_line job.name version (length l) ∷ map (due_line table number z) l) instants
    ∙ ap (λ (l : List (List ℕ)). due_job_line job.name version (length q.instants) ∷ l) (same_each table number z w same q.instants)
    ∙ sym q.lines_are

some_of_kind : (table : Table) (version number : ℕ) (job : Job) (zone : TimeZone) → IsSound table → (kind : JobKind)
    → (lines : List (List ℕ)) × AreLinesBy kind table version number job zone lines
some_of_kind table version number job zone sound (Anacron period first last) = (anacron_line job.name version ∷ [], refl)
some_of_kind table version number job zone sound (Crontab fields) =
    let dues = due_list table sound version number in
    (due_job_line job.name version (length dues.0) ∷ map (due_line table number zone) dues.0, record { instants = dues.0; are_due = dues.1; lines_are = refl })
some_of_kind table version number job zone sound Never =
    let dues = due_list table sound version number in
    (due_job_line job.name version (length dues.0) ∷ map (due_line table number zone) dues.0, record { instants = dues.0; are_due = dues.1; lines_are = refl })

some_lines : (table : Table) (version number : ℕ) → IsSound table → version < version_count table → number < length table.jobs
    → (lines : List (List ℕ)) × AreLinesOfJob table version number lines
some_lines table version number sound has below =
    let read : IsJobRead table version number = zone_is_read table version number sound has below in
    let lines = some_of_kind table version number read.0 read.1 sound read.0.kind in
    (lines.0, record { job = read.0; zone = read.1; is_in = read.2; are = lines.1 })

-- numbers that follow one another have each their lines, where each number up to the last has
some_parts : (Are : ℕ → List (List ℕ) → Type 0) (first count : ℕ) → ((number : ℕ) → number < first + count → (lines : List (List ℕ)) × Are number lines)
    → (parts : List (List (List ℕ))) × AllZip Are (range_with_len first count) parts
some_parts Are first zero some = ([], tt)
some_parts Are first (suc count) some =
    let lines = some first (omega arith) in
    let rest = some_parts Are (first + 1) count (λ number below. some number (omega (arith, below))) in
    (lines.0 ∷ rest.0, (lines.1, rest.1))

some_of_version : (table : Table) (version : ℕ) → IsSound table → version < version_count table → (lines : List (List ℕ)) × AreLinesOfVersion table version lines
some_of_version table version sound has =
    let size : length (jobs_in table version) ≡ length table.jobs = length_of_version table version sound has in
    let parts =
    some_parts (AreLinesOfJob table version) 0 (length (jobs_in table version))
    (λ number below. some_lines table version number sound has (omega (arith, size, below))) in
    (flat_map (λ (part : List (List ℕ)). part) parts.0, record { parts = parts.0; are = parts.1; lines_are = refl })

pub some_due_text : (table : Table) → IsSound table → (text : List ℕ) × IsDueText table text
some_due_text table sound =
    let parts = some_parts (AreLinesOfVersion table) 0 (version_count table) (λ version below. some_of_version table version sound (omega (arith, below))) in
    (text_of_lines (due_lines parts.0), record { parts = parts.0; are = parts.1; text_is = refl })

same_of_kind : (table : Table) (version number : ℕ) (job : Job) (z w : TimeZone) (a b : List (List ℕ)) → ((t : ℤ) → local_of z t ≡ local_of w t) → (kind : JobKind)
    → AreLinesBy kind table version number job z a → AreLinesBy kind table version number job w b → a ≡ b
same_of_kind table version number job z w a b same (Anacron period first last) p q = p ∙ sym q
same_of_kind table version number job z w a b same (Crontab fields) p q = same_entry table version number job z w a b same p q
same_of_kind table version number job z w a b same Never p q = same_entry table version number job z w a b same p q

same_lines : (table : Table) (version number : ℕ) (a b : List (List ℕ)) → AreLinesOfJob table version number a → AreLinesOfJob table version number b → a ≡ b
same_lines table version number a b p q =
    let jobs : q.job ≡ p.job = same_job table version number q.job p.job q.is_in.is_job p.is_in.is_job in
    same_of_kind table version number p.job p.zone q.zone a b (same_local table version number p.job q.job p.zone q.zone p.is_in q.is_in) p.job.kind p.are
    (subst (λ (j : Job). AreLinesBy j.kind table version number j q.zone b) jobs q.are)

same_of_version : (table : Table) (version : ℕ) (a b : List (List ℕ)) → AreLinesOfVersion table version a → AreLinesOfVersion table version b → a ≡ b
same_of_version table version a b p q =
    let numbers = range_with_len 0 (length (jobs_in table version)) in
    let parts : p.parts ≡ q.parts = same_zip (AreLinesOfJob table version) (same_lines table version) numbers p.parts q.parts p.are q.are in
    p.lines_are ∙ ap (λ (l : List (List (List ℕ))). flat_map (λ (part : List (List ℕ)). part) l) parts ∙ sym q.lines_are

pub same_due_text : (table : Table) (a b : List ℕ) → IsDueText table a → IsDueText table b → a ≡ b
same_due_text table a b p q =
    let versions = range_with_len 0 (version_count table) in
    let parts : p.parts ≡ q.parts = same_zip (AreLinesOfVersion table) (same_of_version table) versions p.parts q.parts p.are q.are in
    p.text_is ∙ ap (λ (l : List (List (List ℕ))). text_of_lines (due_lines l)) parts ∙ sym q.text_is

-- the line of a due instant stands among those of its job
among_kind : (table : Table) (version number : ℕ) (at : ℤ) (job : Job) (zone : TimeZone) (lines : List (List ℕ)) (due : IsJobDue table version number at) (kind : JobKind)
    → kind ≡ Crontab due.fields → AreLinesBy kind table version number job zone lines → Contains lines (due_line table number zone at)
among_kind table version number at job zone lines due (Crontab fields) is are =
    subst (λ l. Contains l (due_line table number zone at)) (sym are.lines_are)
    (Contains-tail (due_job_line job.name version (length are.instants)) (map (due_line table number zone) are.instants) (due_line table number zone at)
    (Contains-map (due_line table number zone) are.instants at (are.are_due.complete at due)))
among_kind table version number at job zone lines due (Anacron period first last) is are = absurd (cc)
among_kind table version number at job zone lines due Never is are = absurd (cc)

among_job : (table : Table) (version number : ℕ) (at : ℤ) (lines : List (List ℕ)) (due : IsJobDue table version number at) → AreLinesOfJob table version number lines
    → Contains lines (due_line table number due.zone at)
among_job table version number at lines due are =
    let jobs : are.job ≡ due.job = same_job table version number are.job due.job are.is_in.is_job due.is_in.is_job in
    let kind : are.job.kind ≡ Crontab due.fields = ap (λ (j : Job). j.kind) jobs ∙ due.kind in
    let local : local_of are.zone at ≡ local_of due.zone at = same_local table version number are.job due.job are.zone due.zone are.is_in due.is_in at in
    subst (λ line. Contains lines line) (same_line table number are.zone due.zone at local)
    (among_kind table version number at are.job are.zone lines due are.job.kind kind are.are)

-- a part of a number that is among these stands among the parts
among_parts : (Are : ℕ → List (List ℕ) → Type 0) (count number : ℕ) (parts : List (List (List ℕ))) (line : List ℕ) → number < count
    → AllZip Are (range_with_len 0 count) parts → ((lines : List (List ℕ)) → Are number lines → Contains lines line)
    → Contains (flat_map (λ (p : List (List ℕ)). p) parts) line
among_parts Are count number parts line below are has =
    let numbers = range_with_len 0 count in
    let zero_plus : 0 + number ≡ number = omega arith in
    let among : Contains numbers number = subst (Contains numbers) zero_plus (Contains-range_with_len 0 count number below) in
    let part = zip_member Are numbers parts number are among in
    Contains-parts parts part.0 line part.1 (has part.0 part.2)

-- a version that has a job is one of the table
version_below : (table : Table) (version number : ℕ) (job : Job) → job_of_version table version number ≡ Some job → version < version_count table
version_below table zero number job is_job = omega arith
version_below table (suc place) number job is_job = by (slice_get table.later place) refl is_job
  where
    by : (found : Option Version) → slice_get table.later place ≡ found → slice_get (jobs_of_later found) number ≡ Some job → suc place < version_count table
    by None at is = absurd (cc)
    by (Some version) at is = let lt : place < length table.later = slice_get_within table.later place version at in omega (arith, lt)

among_version : (table : Table) (version number : ℕ) (at : ℤ) (lines : List (List ℕ)) (due : IsJobDue table version number at) → AreLinesOfVersion table version lines
    → Contains lines (due_line table number due.zone at)
among_version table version number at lines due are =
    let jobs = jobs_in table version in
    let below : number < length jobs = slice_get_within jobs number due.job due.is_in.is_job in
    let line = due_line table number due.zone at in
    subst (λ l. Contains l line) (sym are.lines_are)
    (among_parts (AreLinesOfJob table version) (length jobs) number are.parts line below are.are (λ part is. among_job table version number at part due is))

pub has_due_line : (table : Table) (text : List ℕ) (version number : ℕ) (at : ℤ) → IsDueText table text → (due : IsJobDue table version number at)
    → (front back : List (List ℕ)) × (text ≡ text_of_lines (front ++ due_line table number due.zone at ∷ back))
has_due_line table text version number at is due =
    let has : version < version_count table = version_below table version number due.job due.is_in.is_job in
    let line = due_line table number due.zone at in
    let all = flat_map (λ (p : List (List ℕ)). p) is.parts in
    let inside : Contains all line =
    among_parts (AreLinesOfVersion table) (version_count table) version is.parts line has is.are (λ part among. among_version table version number at part due among) in
    let lines : Contains (due_lines is.parts) line =
    Contains-tail (codes "cron due 1") (all ++ codes "end" ∷ []) line (Contains-append_left all (codes "end" ∷ []) line inside) in
    let cut = cut_at (due_lines is.parts) line lines in
    (cut.0, cut.1, is.text_is ∙ ap text_of_lines cut.2)

some_crontab : (style : Style) (owner : List ℕ) (first : ℕ) (lines : List (List ℕ)) → (faults : List TableFault) × AreCrontabFaults style owner first lines faults
some_crontab style owner first lines =
    let answers = some_zip (IsAnswer style owner) (some_crontab_answer style owner) lines in
    (flat_map (λ (row : ℕ × LineAnswer). crontab_fault row.0 row.1) (zip (numbers_from (λ line. 1) first lines) answers.0), record { answers = answers.0; are = answers.1; faults_are = refl })

some_anacrontab : (settings : Settings) (first : ℕ) (lines : List (List ℕ)) → (faults : List TableFault) × AreAnacrontabFaults settings first lines faults
some_anacrontab settings first lines =
    let answers = some_answers_below lines settings in
    (flat_map (λ (row : ℕ × AnacronLineAnswer). anacrontab_fault row.0 row.1) (zip (numbers_from line_count first lines) answers.0), record { answers = answers.0; are = answers.1; faults_are = refl })

some_by : (style : Option Style) (section : Section) → (faults : List TableFault) × AreFaultsBy style section faults
some_by (Some style) section = some_crontab style section.label (section.line + 1) section.lines
some_by None section = some_anacrontab no_settings (section.line + 1) (joined section.lines)

pub some_check_text : (run : Run) → (text : List ℕ) × IsCheckText run text
some_check_text run =
    let parts = some_zip AreFaultsOf (λ section. some_by (style_of section.kind) section) run.sections in
    let faults = flat_map (λ (part : List TableFault). part) parts.0 in
    (text_of_lines (check_lines faults), record { faults = faults; are = record { parts = parts.0; are = parts.1; faults_are = refl }; text_is = refl })

same_crontab : (style : Style) (owner : List ℕ) (first : ℕ) (lines : List (List ℕ)) (a b : List TableFault) → AreCrontabFaults style owner first lines a → AreCrontabFaults style owner first lines b → a ≡ b
same_crontab style owner first lines a b p q =
    let answers : p.answers ≡ q.answers = same_zip (IsAnswer style owner) (same_answer style owner) lines p.answers q.answers p.are q.are in
    p.faults_are ∙ ap (λ (l : List LineAnswer). flat_map (λ (row : ℕ × LineAnswer). crontab_fault row.0 row.1) (zip (numbers_from (λ line. 1) first lines) l)) answers ∙ sym q.faults_are

same_anacrontab : (settings : Settings) (first : ℕ) (lines : List (List ℕ)) (a b : List TableFault) → AreAnacrontabFaults settings first lines a → AreAnacrontabFaults settings first lines b → a ≡ b
same_anacrontab settings first lines a b p q =
    let answers : p.answers ≡ q.answers = same_answers_below lines settings p.answers q.answers p.are q.are in
    p.faults_are ∙ ap (λ (l : List AnacronLineAnswer). flat_map (λ (row : ℕ × AnacronLineAnswer). anacrontab_fault row.0 row.1) (zip (numbers_from line_count first lines) l)) answers ∙ sym q.faults_are

same_by : (style : Option Style) (section : Section) (a b : List TableFault) → AreFaultsBy style section a → AreFaultsBy style section b → a ≡ b
same_by (Some style) section a b p q = same_crontab style section.label (section.line + 1) section.lines a b p q
same_by None section a b p q = same_anacrontab no_settings (section.line + 1) (joined section.lines) a b p q

pub same_check_text : (run : Run) (a b : List ℕ) → IsCheckText run a → IsCheckText run b → a ≡ b
same_check_text run a b p q =
    let parts : p.are.parts ≡ q.are.parts = same_zip AreFaultsOf (λ section. same_by (style_of section.kind) section) run.sections p.are.parts q.are.parts p.are.are q.are.are in
    let faults : p.faults ≡ q.faults = p.are.faults_are ∙ ap (λ (l : List (List TableFault)). flat_map (λ (part : List TableFault). part) l) parts ∙ sym q.are.faults_are in
    p.text_is ∙ ap (λ (l : List TableFault). text_of_lines (check_lines l)) faults ∙ sym q.text_is
