-- Each run of a text has a table or a refusal.
use Rattle.std.proofs.Common.{◌≡◌, ◌⊎◌, inl, inr, ℕ, suc, ◌+◌, ◌<◌, ◌≤◌, Bool, true, false, List, [], ◌∷◌, ◌++◌, length, map, refl, ap, ◌∙◌, sym, subst, arith, append_assoc, codes, pos, true≢false}
use Rattle.std.specs.Prelude.{All}
use Rattle.std.proofs.lemmas.List.{append-nil}
use Rattle.std.proofs.lemmas.List.Elements.{All-nil, All-cons, All-head, All-tail}
use Rattle.std.proofs.lemmas.Slice.Eq.{bytes_eq-Decides}
use Rattle.std.proofs.lemmas.Bool.Decides.{nat_tests}
use Rattle.std.specs.Prelude.{bytes_eq, nat_lt}
use Rattle.crontab_text.specs.Lines.{lines_of}
use Rattle.due_set.specs.Table.{Job, Table, IsBuiltFor, utc_over}
use Rattle.run_text.specs.Reading.{IsRunText}
use Rattle.run_text.specs.Run.{NamedZone, Run}
use Rattle.run_text.specs.declared.refusal.Refusal.{Refusal}
use Rattle.run_text.proofs.SoundLemmas.{sound_run}
use Rattle.zone_minutes.specs.Zone.{IsReadable, zone_over}
use Rattle.zone_minutes.specs.declared.minute.Window.{Window}
use Rattle.zone_minutes.proofs.ZoneLemmas.{IsReadable-fixed}
use Rattle.cron_fields.specs.declared.cause.Cause.TheVariants.{UnknownZone, DuplicateJob, TooManyJobs, TooManyDue, BadZone}
use Rattle.job_table.specs.Collect.{Collected}
use Rattle.job_table.specs.Jobs.{named_job, HasJob}
use Rattle.job_table.specs.Marks.{Mark, MarksZone, MarksJob, AreSound}
use Rattle.job_table.specs.Table.{IsDueCount, IsTableOf, IsRefusedRun, HasBadZone, HasLineAtFault, HasVersionAtFault, at_line, names_in, table_of, whole_run, AreDecided}
use Rattle.job_table.specs.Versions.{AreVersionMarks}
use Rattle.job_table.specs.Zones.{AreReadable, HasZone, NamesZone, zones_over}
use Rattle.job_table.proofs.DueCountLemmas.{due_count}
use Rattle.job_table.proofs.MarkLemmas.{adds_zone, adds_job, refuses_zone, refuses_job}
use Rattle.job_table.proofs.SoundTableLemmas.{sound_table}
use Rattle.job_table.proofs.VersionMarkLemmas.{to_first, versions_exist}

-- two texts are one, or not
same_or_not : (a b : List ℕ) → (a ≡ b) ⊎ (a ≡ b → ⊥)
same_or_not a b = by (bytes_eq a b) refl
  where
    by : (r : Bool) → bytes_eq a b ≡ r → (a ≡ b) ⊎ (a ≡ b → ⊥)
    by true is = inl ((bytes_eq-Decides a b).0 is)
    by false is = inr (λ same. true≢false (sym ((bytes_eq-Decides a b).1 same) ∙ is))

-- one of the zones has the name, or none
zone_or_not : (name : List ℕ) (zones : List NamedZone) → HasZone name zones ⊎ (HasZone name zones → ⊥)
zone_or_not name [] = inr (λ has. has)
zone_or_not name (zone ∷ zones) =
    elim (same_or_not zone.name name) [
      | inl same ↦ inl (inl same)
      | inr other ↦ elim (zone_or_not name zones) [
        | inl later ↦ inl (inr later)
        | inr none ↦ inr (λ has. elim has [ inl same ↦ other same | inr later ↦ none later ])
      ]
    ]

named_or_not : (name : List ℕ) (zones : List NamedZone) → NamesZone name zones ⊎ (NamesZone name zones → ⊥)
named_or_not name zones =
    elim (same_or_not name (codes "UTC")) [
      | inl utc ↦ inl (inl utc)
      | inr other ↦ elim (zone_or_not name zones) [
        | inl has ↦ inl (inr has)
        | inr none ↦ inr (λ named. elim named [ inl utc ↦ other utc | inr has ↦ none has ])
      ]
    ]

-- one of the jobs has the name, or none
job_or_not : (name : List ℕ) (jobs : List Job) → HasJob name jobs ⊎ (HasJob name jobs → ⊥)
job_or_not name [] = inr (λ has. has)
job_or_not name (job ∷ jobs) =
    elim (same_or_not job.name name) [
      | inl same ↦ inl (inl same)
      | inr other ↦ elim (job_or_not name jobs) [
        | inl later ↦ inl (inr later)
        | inr none ↦ inr (λ has. elim has [ inl same ↦ other same | inr later ↦ none later ])
      ]
    ]

-- marks that are collected
record Taken (zones : List NamedZone) (marks : List Mark) : Type 0 where
  pub jobs : List Job
  pub collected : Collected zones marks jobs

abbrev Verdict : List NamedZone → List Mark → Type 0
Verdict zones marks = Taken zones marks ⊎ ((refusal : Refusal) × HasLineAtFault zones marks refusal)

-- marks behind others are collected too, or the first of them at fault is told
judge : (zones : List NamedZone) (before marks : List Mark) → Taken zones before → Verdict zones (before ++ marks)
judge zones before [] taken = inl (subst (Taken zones) (sym (append-nil before)) taken)
judge zones before (MarksZone at name ∷ marks) taken =
    let mark = MarksZone at name ∷ [] in
    elim (named_or_not name zones) [
      | inl named ↦ subst (Verdict zones) (append_assoc before mark marks) (judge zones (before ++ mark) marks (record {
        jobs = taken.jobs;
        collected = adds_zone zones taken.jobs at name named before taken.collected;
      }))
      | inr none ↦ subst (Verdict zones) (append_assoc before mark marks)
          (inr (at_line at UnknownZone, refuses_zone zones taken.jobs at name (at_line at UnknownZone) none refl before marks taken.collected))
    ]
judge zones before (MarksJob at name zone kind ∷ marks) taken =
    let mark = MarksJob at name zone kind ∷ [] in
    elim (job_or_not name taken.jobs) [
      | inl has ↦ subst (Verdict zones) (append_assoc before mark marks)
          (inr (at_line at DuplicateJob, refuses_job zones taken.jobs at name zone kind (at_line at DuplicateJob) has refl before marks taken.collected))
      | inr none ↦ subst (Verdict zones) (append_assoc before mark marks) (judge zones (before ++ mark) marks (record {
        jobs = taken.jobs ++ named_job name zone kind ∷ [];
        collected = adds_job zones taken.jobs at name zone kind none before taken.collected;
      }))
    ]

none_taken : (zones : List NamedZone) → Taken zones []
none_taken zones = record { jobs = []; collected = record { sound = tt; are = refl } }

-- the marks of no version are at fault, or the first version at fault is told
judge_versions : (zones : List NamedZone) (marks : List (List Mark)) → All (AreSound zones) marks ⊎ ((refusal : Refusal) × HasVersionAtFault zones marks refusal)
judge_versions zones [] = inl (All-nil (AreSound zones))
judge_versions zones (here ∷ marks) =
    elim (judge zones [] here (none_taken zones)) [
      | inr fault ↦ inr (fault.0, record { before = []; here = here; after = marks; parts = refl; sound = All-nil (AreSound zones); fault = fault.1 })
      | inl taken ↦ elim (judge_versions zones marks) [
        | inl others ↦ inl (All-cons (AreSound zones) here marks taken.collected.sound others)
        | inr fault ↦ inr (
          fault.0,
          record {
            before = here ∷ fault.1.before;
            here = fault.1.here;
            after = fault.1.after;
            parts = ap (λ (l : List (List Mark)). here ∷ l) fault.1.parts;
            sound = All-cons (AreSound zones) here fault.1.before taken.collected.sound fault.1.sound;
            fault = fault.1.fault;
          },
        )
      ]
    ]

-- each zone is read, or the first that is refused is told
judge_zones : (zones : List NamedZone) → AreDecided zones → AreReadable zones ⊎ ((refusal : Refusal) × HasBadZone zones refusal)
judge_zones [] all = inl (All-nil (λ zone. IsReadable zone.source))
judge_zones (zone ∷ zones) all =
    elim all.0 [
      | inr refused ↦ inr (
        at_line zone.line BadZone,
        record {
          before = [];
          zone = zone;
          after = zones;
          parts = refl;
          readable = All-nil (λ z. IsReadable z.source);
          refused = refused;
          is = refl;
        },
      )
      | inl readable ↦ elim (judge_zones zones all.1) [
        | inl others ↦ inl (All-cons (λ z. IsReadable z.source) zone zones readable others)
        | inr bad ↦ inr (
          bad.0,
          record {
            before = zone ∷ bad.1.before;
            zone = bad.1.zone;
            after = bad.1.after;
            parts = ap (λ z. zone ∷ z) bad.1.parts;
            readable = All-cons (λ z. IsReadable z.source) zone bad.1.before readable bad.1.readable;
            refused = bad.1.refused;
            is = bad.1.is;
          },
        )
      ]
    ]

built_over : (window : Window) (zones : List NamedZone) → AreDecided zones → AreReadable zones → All (IsBuiltFor window) (map (λ zone. zone_over zone.source window) zones)
built_over window [] all readable = All-nil (IsBuiltFor window)
built_over window (zone ∷ zones) all readable =
    All-cons (IsBuiltFor window) (zone_over zone.source window) (map (λ z. zone_over z.source window) zones)
    (record { from = refl; until = refl; read = All-head (λ z. IsReadable z.source) zone zones readable })
    (built_over window zones all.1 (All-tail (λ z. IsReadable z.source) zone zones readable))

all_built : (window : Window) (zones : List NamedZone) → AreDecided zones → AreReadable zones → All (IsBuiltFor window) (zones_over window zones)
all_built window zones all readable =
    All-cons (IsBuiltFor window) (utc_over window) (map (λ zone. zone_over zone.source window) zones)
    (record { from = refl; until = refl; read = IsReadable-fixed (pos 0) (omega arith, omega arith) }) (built_over window zones all readable)

-- a count is within the limit, or above it
few_or_many : (n limit : ℕ) → (n ≤ limit) ⊎ (limit < n)
few_or_many n limit = by (nat_lt limit n) refl
  where
    by : (r : Bool) → nat_lt limit n ≡ r → (n ≤ limit) ⊎ (limit < n)
    by true is = inr (grind (arith, nat_tests))
    by false is = inl (grind (arith, nat_tests))

-- the verdict on the due instants
counted : (run : Run) (marks : List (List Mark)) → AreVersionMarks run marks → AreReadable run.zones → All (AreSound run.zones) marks → length (names_in marks) ≤ 1000
    → (count : ℕ) × IsDueCount (table_of run marks) count → ((table : Table) × IsTableOf run table) ⊎ ((refusal : Refusal) × IsRefusedRun run refusal)
counted run marks are readable sound few (count, counts) =
    elim (few_or_many count 20_000) [
      | inl fits ↦ inl (
        table_of run marks,
        record { readable = readable; marks = marks; are = are; sound = sound; few_jobs = few; is = refl; count = count; counted = counts; few_due = fits },
      )
      | inr many ↦ inr (
        whole_run TooManyDue,
        inr (record {
          readable = readable;
          marks = marks;
          are = are;
          why = inr (inr (record { sound = sound; few = few; count = count; counted = counts; many = many; is = refl }));
        }),
      )
    ]

pub some_verdict : (text : List ℕ) (run : Run) → IsRunText text run → AreDecided run.zones → ((table : Table) × IsTableOf run table) ⊎ ((refusal : Refusal) × IsRefusedRun run refusal)
some_verdict text run says decided =
    let known = sound_run text run says in
    let (marks, size, from) = versions_exist run (1 + length (lines_of text)) known.sections (suc (length run.versions)) 0 in
    let are = to_first run marks size from in
    elim (judge_zones run.zones decided) [
      | inr bad ↦ inr (bad.0, inl bad.1)
      | inl readable ↦ elim (judge_versions run.zones marks) [
        | inr fault ↦ inr (fault.0, inr (record { readable = readable; marks = marks; are = are; why = inl fault.1 }))
        | inl sound ↦ elim (few_or_many (length (names_in marks)) 1000) [
          | inr many ↦ inr (whole_run TooManyJobs, inr (record { readable = readable; marks = marks; are = are; why = inr (inl (record { sound = sound; many = many; is = refl })) }))
          | inl few ↦ counted run marks are readable sound few
              (due_count (table_of run marks) (sound_table text run marks says are sound few (all_built run.window run.zones decided readable)))
        ]
      ]
    ]
