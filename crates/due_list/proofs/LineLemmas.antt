-- The lines of a due list and of a check, appended to a text.
use Rattle.std.proofs.Common.{◌≡◌, ℕ, ◌+◌, ◌-◌, ◌<◌, List, [], ◌∷◌, ◌++◌, length, map, take, get_or, flat_map, codes, decimal, ℤ, Some, refl, sym, ap, ◌∙◌, subst, arith, append_assoc, append-nil, length-append}
use Rattle.std.specs.Prelude.{IsSomeAnd, slice_get, slice_index}
use Rattle.std.specs.List.{range_with_len}
use Rattle.std.proofs.lemmas.List.{take_at, get_or_at, length-map}
use Rattle.jiff.specs.Types.{TimeZone}
use Rattle.zone_minutes.specs.Stamp.{stamp_text}
use Rattle.zone_minutes.specs.declared.minute.Minute.{Minute}
use Rattle.due_set.specs.Table.{Job, Table, IsAnacron, IsJobDue, IsJobDueList, IsJobIn, IsJobRead, IsSound, job_of_version, jobs_in, version_count}
use Rattle.due_set.specs.declared.job.JobKind.{JobKind}
use Rattle.due_set.specs.declared.job.JobKind.TheVariants.{Crontab, Anacron, Never}
use Rattle.due_set.proofs.SoundLemmas.{length_of_version, zone_is_read}
use Rattle.cluster_sched.specs.Names.{IsNameIn, IsTimeNear}
use Rattle.due_set.proofs.NamedLemmas.{due_says, named_in_table}
use Rattle.cluster_sched.specs.declared.row.Name.{Name}
use Rattle.cron_io.specs.Lines.{text_of_lines}
use Rattle.due_list.specs.CheckText.{check_lines, fault_line}
use Rattle.due_list.specs.DueText.{AreEntryLines, AreLinesBy, AreLinesOfJob, AreLinesOfJobs, AreLinesOfVersion, IsDueText, anacron_line, due_line, due_job_line, local_text}
use Rattle.due_list.specs.Parts.{AppendsLines, AppendsParts, numbers_of_instants}
use Rattle.due_list.specs.declared.fault.TableFault.{TableFault}
use Rattle.due_list.proofs.ListLemmas.{parts_push, zip_push}
use Rattle.cron_io.proofs.ListLemmas.{range_more}
use Rattle.cron_io.proofs.LineLemmas.{text_of_lines-append as text_append}

-- a stamp ends with its `Z`
stamp_is : (minute : ℤ) → stamp_text minute ≡ local_text minute ++ 90 ∷ []
unfolding stamp_text
stamp_is minute = refl

-- a text without its last byte, which was a `Z`
last_cut : (front stamped cut : List ℕ) (len : ℕ) → stamped ≡ front ++ 90 ∷ [] → len ≡ length stamped
    → (0 < len → slice_index stamped (len - 1) < 128 → cut ≡ take (len - 1) stamped) → cut ≡ front
last_cut front stamped cut len whole len_is cut_is = cut_is some ascii ∙ ap (take (len - 1)) whole ∙ take_at front (90 ∷ []) (len - 1) place
  where
    size : len ≡ length front + 1
    size = len_is ∙ ap length whole ∙ length-append front (90 ∷ [])

    some : 0 < len
    some = omega (arith, size)

    place : length front ≡ len - 1
    place = omega (arith, size)

    last : slice_index stamped (len - 1) ≡ 90
    last = ap (λ (l : List ℕ). get_or l (len - 1) 0) whole ∙ get_or_at front 90 [] 0 (len - 1) place

    ascii : slice_index stamped (len - 1) < 128
    ascii = omega (arith, last)

pub local_is : (old stamped cut : List ℕ) (len : ℕ) (minute : ℤ) → stamped ≡ old ++ stamp_text minute → len ≡ length stamped
    → (0 < len → slice_index stamped (len - 1) < 128 → cut ≡ take (len - 1) stamped) → cut ≡ old ++ local_text minute
local_is old stamped cut len minute stamped_is len_is cut_is = last_cut (old ++ local_text minute) stamped cut len whole len_is cut_is
  where
    whole : stamped ≡ (old ++ local_text minute) ++ 90 ∷ []
    whole = stamped_is ∙ ap (λ (l : List ℕ). old ++ l) (stamp_is minute) ∙ sym (append_assoc old (local_text minute) (90 ∷ []))

-- a due instant is one of a launch
pub name_in : (table : Table) (version number : ℕ) (at : ℤ) → IsSound table → number < length table.jobs → IsJobDue table version number at
    → let name : Name = record { job = number; at = at } in IsNameIn table name
name_in table version number at sound below due = record {
  job = below;
  inside = subst (λ by_period. IsTimeNear table.window by_period at) (sym (due_says table version number at sound due)) due.inside;
}

-- the five parts of a due line
pub due_parts : (old a b c d e : List ℕ) (name local : List ℕ) → a ≡ old ++ codes "due " → b ≡ a ++ name → c ≡ b ++ 32 ∷ [] → d ≡ c ++ local → e ≡ d ++ 10 ∷ []
    → e ≡ old ++ ((codes "due " ++ name ++ 32 ∷ local) ++ 10 ∷ [])
due_parts old a b c d e name local p q r s t =
    t ∙ ap (λ (l : List ℕ). l ++ 10 ∷ []) (s ∙ ap (λ (l : List ℕ). l ++ local) (r ∙ ap (λ (l : List ℕ). l ++ 32 ∷ []) (q ∙ ap (λ (l : List ℕ). l ++ name) p)))
    ∙ joined
  where
    joined : (((((old ++ codes "due ") ++ name) ++ 32 ∷ []) ++ local) ++ 10 ∷ []) ≡ old ++ ((codes "due " ++ name ++ 32 ∷ local) ++ 10 ∷ [])
    joined = simp append_assoc

-- the lines of an entry
pub entry_lines : (table : Table) (version number : ℕ) (job : Job) (zone : TimeZone) (dues : List Minute) (old mid new name : List ℕ) (count : ℕ)
    → IsJobDueList table version number (numbers_of_instants dues) → count ≡ length dues → name ≡ job.name → mid ≡ old ++ (due_job_line name version count ++ 10 ∷ [])
    → new ≡ mid ++ text_of_lines (map (λ at. due_line table number zone at.0) dues)
    → AppendsLines old new (AreEntryLines table version number job zone)
entry_lines table version number job zone dues old mid new name count list count_is name_is mid_is new_is =
    let at_of : Minute → ℤ = λ minute. minute.0 in
    let instants = numbers_of_instants dues in
    let first = due_job_line job.name version (length instants) in
    let rest = map (due_line table number zone) instants in
    let size : count ≡ length instants = count_is ∙ sym (length-map dues at_of) in
    let head : due_job_line name version count ≡ first = ap (λ (n : List ℕ). due_job_line n version count) name_is ∙ ap (due_job_line job.name version) size in
    record {
      lines = first ∷ rest;
      are = record { instants = instants; are_due = list; lines_are = refl };
      new_is = new_is
          ∙ ap (λ (l : List ℕ). l ++ text_of_lines (map (λ at. due_line table number zone at.0) dues)) (mid_is ∙ ap (λ (l : List ℕ). old ++ (l ++ 10 ∷ [])) head)
          ∙ ap (λ (l : List (List ℕ)). (old ++ (first ++ 10 ∷ [])) ++ text_of_lines l) (through dues)
          ∙ append_assoc old (first ++ 10 ∷ []) (text_of_lines rest);
    }
  where
    through : (minutes : List Minute) → map (λ (at : Minute). due_line table number zone at.0) minutes ≡ map (due_line table number zone) (numbers_of_instants minutes)
    through [] = refl
    through (minute ∷ minutes) = ap (λ (l : List (List ℕ)). due_line table number zone minute.0 ∷ l) (through minutes)

by_period : (kind : JobKind) (table : Table) (version number : ℕ) (job : Job) (zone : TimeZone) → IsAnacron kind
    → AreLinesBy kind table version number job zone (anacron_line job.name version ∷ [])
by_period (Crontab fields) table version number job zone is = absurd is
by_period (Anacron period first last) table version number job zone is = refl
by_period Never table version number job zone is = absurd is

by_instants : (kind : JobKind) (table : Table) (version number : ℕ) (job : Job) (zone : TimeZone) (lines : List (List ℕ)) → (IsAnacron kind → ⊥)
    → AreEntryLines table version number job zone lines → AreLinesBy kind table version number job zone lines
by_instants (Crontab fields) table version number job zone lines plain are = are
by_instants (Anacron period first last) table version number job zone lines plain are = absurd (plain tt)
by_instants Never table version number job zone lines plain are = are

-- the name of a job of the table, which is the same in each version
pub name_is : (table : Table) (version number : ℕ) (job : Job) (zone : TimeZone) (name : List ℕ) → IsSound table → IsJobIn table version number job zone
    → IsSomeAnd (slice_get table.jobs number) (λ j. name ≡ j.name) → name ≡ job.name
name_is table version number job zone name sound is_in known =
    let first = named_in_table table version number job sound is_in.is_job in
    let here : name ≡ first.0.name = subst (λ o. IsSomeAnd o (λ (j : Job). name ≡ j.name)) first.1 known in
    here ∙ first.2

-- and when it runs
kind_is : (table : Table) (version number : ℕ) (kind : JobKind) (job : Job) → IsSomeAnd (job_of_version table version number) (λ j. kind ≡ j.kind)
    → job_of_version table version number ≡ Some job → kind ≡ job.kind
kind_is table version number kind job known is_job = subst (λ o. IsSomeAnd o (λ (j : Job). kind ≡ j.kind)) is_job known

-- the line of a job that runs once in a period
pub period_lines : (table : Table) (version number : ℕ) (kind : JobKind) (old new name : List ℕ) → IsSound table → version < version_count table
    → number < length table.jobs → IsSomeAnd (job_of_version table version number) (λ j. kind ≡ j.kind) → IsAnacron kind
    → IsSomeAnd (slice_get table.jobs number) (λ j. name ≡ j.name) → new ≡ old ++ (anacron_line name version ++ 10 ∷ []) → AppendsLines old new (AreLinesOfJob table version number)
period_lines table version number kind old new name sound has below of_kind by known new_is =
    let read : IsJobRead table version number = zone_is_read table version number sound has below in
    let job = read.0 in
    let zone = read.1 in
    let is_in : IsJobIn table version number job zone = read.2 in
    record {
      lines = anacron_line job.name version ∷ [];
      are = record {
        job = job;
        zone = zone;
        is_in = is_in;
        are = by_period job.kind table version number job zone (subst IsAnacron (kind_is table version number kind job of_kind is_in.is_job) by);
      };
      new_is = new_is ∙ ap (λ (n : List ℕ). old ++ (anacron_line n version ++ 10 ∷ [])) (name_is table version number job zone name sound is_in known)
          ∙ ap (λ (l : List ℕ). old ++ l) (sym (append-nil (anacron_line job.name version ++ 10 ∷ [])));
    }

-- the lines of any other job
pub instant_lines : (table : Table) (version number : ℕ) (kind : JobKind) (old new : List ℕ) → IsSound table → version < version_count table → number < length table.jobs
    → IsSomeAnd (job_of_version table version number) (λ j. kind ≡ j.kind) → (IsAnacron kind → ⊥)
    → ((job : Job) (zone : TimeZone) → IsJobIn table version number job zone → AppendsLines old new (AreEntryLines table version number job zone))
    → AppendsLines old new (AreLinesOfJob table version number)
instant_lines table version number kind old new sound has below of_kind plain known =
    let read : IsJobRead table version number = zone_is_read table version number sound has below in
    let job = read.0 in
    let zone = read.1 in
    let is_in : IsJobIn table version number job zone = read.2 in
    let added : AppendsLines old new (AreEntryLines table version number job zone) = known job zone is_in in
    record {
      lines = added.lines;
      are = record {
        job = job;
        zone = zone;
        is_in = is_in;
        are = by_instants job.kind table version number job zone added.lines
            (λ is. plain (subst IsAnacron (sym (kind_is table version number kind job of_kind is_in.is_job)) is)) added.are;
      };
      new_is = added.new_is;
    }

-- no part yet
pub parts_none : (Are : ℕ → List (List ℕ) → Type 0) (text : List ℕ) → AppendsParts Are [] text text
parts_none Are text = record { parts = []; are = tt; new_is = sym (append-nil text) }

-- one part more
pub parts_more : (Are : ℕ → List (List ℕ) → Type 0) (number : ℕ) (old mid new : List ℕ) → AppendsParts Are (range_with_len 0 number) old mid
    → AppendsLines mid new (Are number) → AppendsParts Are (range_with_len 0 (number + 1)) old new
parts_more Are number old mid new known added =
    let at : 0 + number ≡ number = omega arith in
    let numbers : range_with_len 0 (number + 1) ≡ range_with_len 0 number ++ number ∷ [] = range_more 0 number number at in
    let whole = flat_map (λ (part : List (List ℕ)). part) known.parts in
    subst (λ (l : List ℕ). AppendsParts Are l old new) (sym numbers)
    (record {
      parts = known.parts ++ added.lines ∷ [];
      are = zip_push Are (range_with_len 0 number) known.parts number added.lines known.are added.are;
      new_is = added.new_is ∙ ap (λ (l : List ℕ). l ++ text_of_lines added.lines) known.new_is
          ∙ append_assoc old (text_of_lines whole) (text_of_lines added.lines)
          ∙ ap (λ (l : List ℕ). old ++ l) (sym (ap text_of_lines (parts_push known.parts added.lines) ∙ text_append whole added.lines));
    })

-- the lines of a version, of which each job has its own
pub version_lines : (table : Table) (version count : ℕ) (old new : List ℕ) → IsSound table → version < version_count table → count ≡ length table.jobs
    → AppendsParts (AreLinesOfJob table version) (range_with_len 0 count) old new → AppendsLines old new (AreLinesOfVersion table version)
version_lines table version count old new sound has count_is known =
    let size : count ≡ length (jobs_in table version) = count_is ∙ sym (length_of_version table version sound has) in
    record {
      lines = flat_map (λ (part : List (List ℕ)). part) known.parts;
      are = record {
        parts = known.parts;
        are = subst (λ (n : ℕ). AreLinesOfJobs table version (range_with_len 0 n) known.parts) size known.are;
        lines_are = refl;
      };
      new_is = known.new_is;
    }

-- the whole due list
pub due_text_is : (table : Table) (first mid last : List ℕ) → first ≡ codes "cron due 1\n" → AppendsParts (AreLinesOfVersion table) (range_with_len 0 (version_count table)) first mid
    → last ≡ mid ++ codes "end\n" → IsDueText table last
due_text_is table first mid last first_is known last_is =
    let whole = flat_map (λ (part : List (List ℕ)). part) known.parts in
    let end = codes "end" ∷ [] in
    record {
      parts = known.parts;
      are = known.are;
      text_is = last_is ∙ ap (λ (l : List ℕ). l ++ codes "end\n") (known.new_is ∙ ap (λ (l : List ℕ). l ++ text_of_lines whole) first_is)
          ∙ append_assoc (codes "cron due 1\n") (text_of_lines whole) (codes "end\n")
          ∙ ap (λ (l : List ℕ). codes "cron due 1\n" ++ l) (sym (text_append whole end));
    }

-- the whole check
pub check_text_is : (faults : List TableFault) (first mid last : List ℕ) (count : ℕ) → first ≡ codes "cron check 1\n" → mid ≡ first ++ text_of_lines (map fault_line faults)
    → count ≡ length faults → last ≡ mid ++ (codes "faults " ++ decimal count ++ codes "\nend\n") → last ≡ text_of_lines (check_lines faults)
check_text_is faults first mid last count first_is mid_is count_is last_is =
    let lines = map fault_line faults in
    let tail = (codes "faults " ++ decimal (length faults)) ∷ codes "end" ∷ [] in
    last_is ∙ ap (λ (n : ℕ). mid ++ (codes "faults " ++ decimal n ++ codes "\nend\n")) count_is
    ∙ ap (λ (l : List ℕ). l ++ (codes "faults " ++ decimal (length faults) ++ codes "\nend\n")) (mid_is ∙ ap (λ (l : List ℕ). l ++ text_of_lines lines) first_is)
    ∙ append_assoc (codes "cron check 1\n") (text_of_lines lines) (codes "faults " ++ decimal (length faults) ++ codes "\nend\n")
    ∙ ap (λ (l : List ℕ). codes "cron check 1\n" ++ (text_of_lines lines ++ l)) (ends (decimal (length faults)))
    ∙ ap (λ (l : List ℕ). codes "cron check 1\n" ++ l) (sym (text_append lines tail))
  where
    ends : (digits : List ℕ) → codes "faults " ++ digits ++ codes "\nend\n" ≡ text_of_lines ((codes "faults " ++ digits) ∷ codes "end" ∷ [])
    ends digits = sym (append_assoc (codes "faults " ++ digits) (10 ∷ []) (codes "end\n") ∙ append_assoc (codes "faults ") digits (codes "\nend\n"))
