-- The marks of versions, one after another.
use Rattle.std.proofs.Common.{◌≡◌, ℕ, zero, suc, ◌+◌, ◌-◌, ◌<◌, List, [], ◌∷◌, ◌++◌, Some, length, length-append, map, refl, ap, ◌∙◌, sym, subst, arith}
use Rattle.std.specs.Prelude.{All, slice_get}
use Rattle.std.specs.List.{AllByRecursion}
use Rattle.std.proofs.lemmas.List.{map-append}
use Rattle.std.proofs.lemmas.List.Elements.{All-nil, All-cons, All-append}
use Rattle.due_set.specs.Table.{Job}
use Rattle.run_text.specs.Run.{Run}
use Rattle.run_text.specs.Sound.{IsSoundSection}
use Rattle.run_text.specs.declared.refusal.Refusal.{Refusal}
use Rattle.job_table.specs.Collect.{HasMarkedJobs, HasFaultyMarks, HaveMarkedJobs, HasFaultyVersion}
use Rattle.job_table.specs.Marks.{Mark, AreMarks, AreSound}
use Rattle.job_table.specs.Table.{jobs_of}
use Rattle.job_table.specs.Versions.{AreVersionMarks, sections_in}
use Rattle.job_table.proofs.RunLemmas.{marks_exist}
use Rattle.job_table.proofs.VersionSectionLemmas.{all_in}

-- each list has the marks of the version of its place, from a version on
abbrev pub AreMarksFrom : Run → ℕ → List (List Mark) → Type 0
AreMarksFrom run version [] = Unit {0}
AreMarksFrom run version (here ∷ marks) = AreMarks run.zones (sections_in run version) here × AreMarksFrom run (suc version) marks

-- by its place
from_each : (run : Run) (version : ℕ) (marks : List (List Mark))
    → ((k : ℕ) (here : List Mark) → slice_get marks k ≡ Some here → AreMarks run.zones (sections_in run (version + k)) here) → AreMarksFrom run version marks
from_each run version [] each = tt
from_each run version (here ∷ marks) each =
    let none : version + 0 ≡ version = omega arith in
    let moved : (k : ℕ) → version + suc k ≡ suc version + k = λ k. omega arith in (
      subst (λ v. AreMarks run.zones (sections_in run v) here) none (each 0 here refl),
      from_each run (suc version) marks (λ k other is. subst (λ v. AreMarks run.zones (sections_in run v) other) (moved k) (each (suc k) other is)),
    )

each_from : (run : Run) (version : ℕ) (marks : List (List Mark)) → AreMarksFrom run version marks → (k : ℕ) (here : List Mark) → slice_get marks k ≡ Some here
    → AreMarks run.zones (sections_in run (version + k)) here
each_from run version [] are k here is = cc
each_from run version (first ∷ marks) are zero here is =
    let none : version ≡ version + 0 = omega arith in
    let same : first ≡ here = cc in
    subst (λ v. AreMarks run.zones (sections_in run v) here) none (subst (AreMarks run.zones (sections_in run version)) same are.0)
each_from run version (first ∷ marks) are (suc k) here is =
    let moved : suc version + k ≡ version + suc k = omega arith in
    subst (λ v. AreMarks run.zones (sections_in run v) here) moved (each_from run (suc version) marks are.1 k here is)

pub from_first : (run : Run) (marks : List (List Mark)) → AreVersionMarks run marks → AreMarksFrom run 0 marks
from_first run marks are =
    let none : (k : ℕ) → k ≡ 0 + k = λ k. omega arith in
    from_each run 0 marks (λ k here is. subst (λ v. AreMarks run.zones (sections_in run v) here) (none k) (are.each k here is))

pub to_first : (run : Run) (marks : List (List Mark)) → length marks ≡ suc (length run.versions) → AreMarksFrom run 0 marks → AreVersionMarks run marks
to_first run marks size are =
    let none : (k : ℕ) → 0 + k ≡ k = λ k. omega arith in
    record { versions = size; each = λ k here is. subst (λ v. AreMarks run.zones (sections_in run v) here) (none k) (each_from run 0 marks are k here is) }

-- some versions behind others
pub marks_behind : (run : Run) (version : ℕ) (a b : List (List Mark)) → AreMarksFrom run version a → AreMarksFrom run (version + length a) b → AreMarksFrom run version (a ++ b)
marks_behind run version [] b first second =
    let none : version + length {A = List Mark} [] ≡ version = omega arith in
    subst (λ v. AreMarksFrom run v b) none second
marks_behind run version (here ∷ a) b first second =
    let moved : version + length (here ∷ a) ≡ suc version + length a = omega arith in
    (first.0, marks_behind run (suc version) a b first.1 (subst (λ v. AreMarksFrom run v b) moved second))

-- ---- versions that are collected

-- so many versions have their marks, of which none is at fault, and these jobs
pub record MarkedFirst (run : Run) (version : ℕ) (jobs : List (List Job)) : Type 0 where
  pub marks : List (List Mark)
  pub size : length marks ≡ version
  pub are : AreMarksFrom run 0 marks
  pub sound : All (AreSound run.zones) marks
  pub jobs_are : jobs ≡ map jobs_of marks

-- the next version alone
one_behind : (run : Run) (version : ℕ) (marks : List (List Mark)) (here : List Mark) (others : List (List Mark)) → length marks ≡ version → AreMarksFrom run 0 marks
    → AreMarks run.zones (sections_in run version) here → AreMarksFrom run (suc version) others → AreMarksFrom run 0 (marks ++ here ∷ others)
one_behind run version marks here others size before is behind =
    let place : version ≡ 0 + length marks = omega arith in
    marks_behind run 0 marks (here ∷ others) before (subst (λ v. AreMarksFrom run v (here ∷ others)) place (is, behind))

-- one version more
pub next_marked : (run : Run) (version : ℕ) (jobs new : List (List Job)) (here : List Job) → MarkedFirst run version jobs → HasMarkedJobs run version here → new ≡ jobs ++ here ∷ []
    → MarkedFirst run (version + 1) new
next_marked run version jobs new here first is new_is = record {
  marks = first.marks ++ is.marks ∷ [];
  size = omega (arith, length-append first.marks (is.marks ∷ []), first.size);
  are = one_behind run version first.marks is.marks [] first.size first.are is.are tt;
  sound = All-append (AreSound run.zones) first.marks (is.marks ∷ []) first.sound (All-cons (AreSound run.zones) is.marks [] is.collected.sound (All-nil (AreSound run.zones)));
  jobs_are = new_is ∙ ap (λ l. l ++ here ∷ []) first.jobs_are ∙ ap (λ j. map jobs_of first.marks ++ j ∷ []) is.collected.are ∙ sym (map-append jobs_of first.marks (is.marks ∷ []));
}

-- all versions
pub all_marked : (run : Run) (version : ℕ) (jobs : List (List Job)) → MarkedFirst run version jobs → version ≡ length run.versions + 1 → HaveMarkedJobs run jobs
all_marked run version jobs first all = record {
  marks = first.marks;
  are = to_first run first.marks (omega (arith, first.size)) first.are;
  sound = first.sound;
  jobs_are = first.jobs_are;
}

-- sound sections have marks in each version
pub versions_exist : (run : Run) (next : ℕ) → AllByRecursion (IsSoundSection next) run.sections → (count version : ℕ)
    → (marks : List (List Mark)) × (length marks ≡ count) × AreMarksFrom run version marks
versions_exist run next all zero version = ([], refl, tt)
versions_exist run next all (suc count) version =
    let (here, is) = marks_exist run.zones next (sections_in run version) (all_in (IsSoundSection next) run version all) in
    let (marks, size, are) = versions_exist run next all count (suc version) in
    (here ∷ marks, omega (arith, size), (is, are))

-- a version at fault
pub faulty_version : (run : Run) (next version : ℕ) (jobs : List (List Job)) (refusal : Refusal) → AllByRecursion (IsSoundSection next) run.sections → MarkedFirst run version jobs
    → version < length run.versions + 1 → HasFaultyMarks run version refusal → HasFaultyVersion run refusal
faulty_version run next version jobs refusal all first within faulty =
    let (others, size, behind) = versions_exist run next all (length run.versions - version) (suc version) in
    let marks = first.marks ++ faulty.marks ∷ others in
    record {
      marks = marks;
      are = to_first run marks (omega (arith, length-append first.marks (faulty.marks ∷ others), first.size, size)) (one_behind run version first.marks faulty.marks others first.size first.are faulty.are behind);
      fault = record { before = first.marks; here = faulty.marks; after = others; parts = refl; sound = first.sound; fault = faulty.fault };
    }
