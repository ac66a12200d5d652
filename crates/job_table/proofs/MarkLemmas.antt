-- Marks that are collected one by one.
use Rattle.std.proofs.Common.{◌≡◌, ℕ, List, [], ◌∷◌, ◌++◌, refl, ap, ◌∙◌, sym, subst, inl, inr, arith, append_assoc}
use Rattle.std.proofs.lemmas.List.{append-nil}
use Rattle.due_set.specs.Table.{Job, AreNamesDistinct}
use Rattle.due_set.specs.declared.job.JobKind.{JobKind}
use Rattle.run_text.specs.declared.refusal.Refusal.{Refusal}
use Rattle.job_table.specs.Collect.{Collected, AddsMarks, RefusesMarks}
use Rattle.job_table.specs.Jobs.{named_job, HasJob}
use Rattle.job_table.specs.Marks.{Mark, MarksZone, MarksJob, BringsJob, IsMarkFault, AreSoundBehind, AreSound}
use Rattle.run_text.specs.Run.{NamedZone}
use Rattle.job_table.specs.Zones.{NamesZone}
use Rattle.job_table.specs.Table.{jobs_of, at_line, HasLineAtFault}
use Rattle.job_table.proofs.JobLemmas.{distinct_push}
use Rattle.cron_fields.specs.declared.cause.Cause.TheVariants.{UnknownZone, DuplicateJob}

pub jobs_of-append : (xs ys : List Mark) → jobs_of (xs ++ ys) ≡ jobs_of xs ++ jobs_of ys
jobs_of-append [] ys = refl
jobs_of-append (MarksZone line name ∷ xs) ys = jobs_of-append xs ys
jobs_of-append (MarksJob line name zone kind ∷ xs) ys = ap (λ l. record { name = name; zone = zone; kind = kind } ∷ l) (jobs_of-append xs ys)

brought : (name : List ℕ) (marks : List Mark) → BringsJob name marks → HasJob name (jobs_of marks)
brought name [] brings = brings
brought name (MarksZone line zone ∷ marks) brings = brought name marks brings
brought name (MarksJob line other zone kind ∷ marks) (inl same) = inl same
brought name (MarksJob line other zone kind ∷ marks) (inr later) = inr (brought name marks later)

brings : (name : List ℕ) (marks : List Mark) → HasJob name (jobs_of marks) → BringsJob name marks
brings name [] has = has
brings name (MarksZone line zone ∷ marks) has = brings name marks has
brings name (MarksJob line other zone kind ∷ marks) (inl same) = inl same
brings name (MarksJob line other zone kind ∷ marks) (inr later) = inr (brings name marks later)

-- one mark more that isn't at fault
sound_push : (zones : List NamedZone) (before marks : List Mark) (mark : Mark) → AreSoundBehind zones before marks → ((line cause : ℕ) → IsMarkFault zones (before ++ marks) mark line cause → ⊥)
    → AreSoundBehind zones before (marks ++ mark ∷ [])
sound_push zones before [] mark sound none = (subst (λ b. (line cause : ℕ) → IsMarkFault zones b mark line cause → ⊥) (append-nil before) none, tt)
sound_push zones before (m ∷ ms) mark sound none = (
  sound.0,
  sound_push zones (before ++ m ∷ []) ms mark sound.1
      (subst (λ b. (line cause : ℕ) → IsMarkFault zones b mark line cause → ⊥) (sym (append_assoc before (m ∷ []) ms)) none),
)

-- nothing more
pub adds_none : (zones : List NamedZone) (jobs : List Job) → AddsMarks zones jobs jobs []
adds_none zones jobs marks collected = subst (λ m. Collected zones m jobs) (sym (append-nil marks)) collected

-- a zone that is the run's
pub adds_zone : (zones : List NamedZone) (jobs : List Job) (at : ℕ) (name : List ℕ) → NamesZone name zones → AddsMarks zones jobs jobs (MarksZone at name ∷ [])
adds_zone zones jobs at name is marks collected = record {
  sound = sound_push zones [] marks (MarksZone at name) collected.sound (λ line cause fault. fault.0 is);
  are = collected.are ∙ sym (jobs_of-append marks (MarksZone at name ∷ []) ∙ append-nil (jobs_of marks));
}

-- a job of a new name
pub adds_job : (zones : List NamedZone) (jobs : List Job) (at : ℕ) (name : List ℕ) (zone : ℕ) (kind : JobKind) → (HasJob name jobs → ⊥)
    → AddsMarks zones jobs (jobs ++ named_job name zone kind ∷ []) (MarksJob at name zone kind ∷ [])
adds_job zones jobs at name zone kind none marks collected = record {
  sound = sound_push zones [] marks (MarksJob at name zone kind) collected.sound (λ line cause fault. none (subst (HasJob name) (sym collected.are) (brought name marks fault.0)));
  are = ap (λ l. l ++ named_job name zone kind ∷ []) collected.are ∙ sym (jobs_of-append marks (MarksJob at name zone kind ∷ []));
}

at_fault : (zones : List NamedZone) (marks others : List Mark) (mark : Mark) (line cause : ℕ) (refusal : Refusal) → AreSound zones marks → IsMarkFault zones marks mark line cause → refusal ≡ record { line = line; cause = cause; place = 0 }
    → HasLineAtFault zones ((marks ++ mark ∷ []) ++ others) refusal
at_fault zones marks others mark line cause refusal sound fault is =
    subst (HasLineAtFault zones ((marks ++ mark ∷ []) ++ others)) (sym is) (record {
      first = record { before = marks; mark = mark; after = others; parts = append_assoc marks (mark ∷ []) others; sound = sound; here = fault };
      place = refl;
    })

-- a zone that the run hasn't
pub refuses_zone : (zones : List NamedZone) (jobs : List Job) (at : ℕ) (name : List ℕ) (refusal : Refusal) → (NamesZone name zones → ⊥) → refusal ≡ at_line at UnknownZone
    → RefusesMarks zones jobs (MarksZone at name ∷ []) refusal
refuses_zone zones jobs at name refusal other is marks others collected = at_fault zones marks others (MarksZone at name) at 21 refusal collected.sound (other, refl, refl) is

-- a job whose name is there
pub refuses_job : (zones : List NamedZone) (jobs : List Job) (at : ℕ) (name : List ℕ) (zone : ℕ) (kind : JobKind) (refusal : Refusal) → HasJob name jobs → refusal ≡ at_line at DuplicateJob
    → RefusesMarks zones jobs (MarksJob at name zone kind ∷ []) refusal
refuses_job zones jobs at name zone kind refusal has is marks others collected =
    at_fault zones marks others (MarksJob at name zone kind) at 22 refusal collected.sound (brings name marks (subst (HasJob name) collected.are has), refl, refl) is

distinct_behind : (zones : List NamedZone) (before marks : List Mark) → AreNamesDistinct (jobs_of before) → AreSoundBehind zones before marks → AreNamesDistinct (jobs_of (before ++ marks))
distinct_behind zones before [] distinct sound = subst (λ m. AreNamesDistinct (jobs_of m)) (sym (append-nil before)) distinct
distinct_behind zones before (MarksZone line name ∷ marks) distinct sound =
    let mark = MarksZone line name ∷ [] in
    let same : jobs_of (before ++ mark) ≡ jobs_of before = jobs_of-append before mark ∙ append-nil (jobs_of before) in
    subst (λ m. AreNamesDistinct (jobs_of m)) (append_assoc before mark marks) (distinct_behind zones (before ++ mark) marks (subst AreNamesDistinct (sym same) distinct) sound.1)
distinct_behind zones before (MarksJob line name zone kind ∷ marks) distinct sound =
    let mark = MarksJob line name zone kind ∷ [] in
    let more = distinct_push (jobs_of before) (named_job name zone kind) distinct (λ has. sound.0 line 22 (brings name before has, refl, refl)) in
    subst (λ m. AreNamesDistinct (jobs_of m)) (append_assoc before mark marks) (distinct_behind zones (before ++ mark) marks (subst AreNamesDistinct (sym (jobs_of-append before mark)) more) sound.1)

-- jobs of marks that aren't at fault have names of their own
pub sound_distinct : (zones : List NamedZone) (marks : List Mark) → AreSound zones marks → AreNamesDistinct (jobs_of marks)
sound_distinct zones marks sound = distinct_behind zones [] marks (λ i j d rises within. absurd (omega arith)) sound

-- one list of marks after another
pub adds_both : (zones : List NamedZone) (old now new : List Job) (a b : List Mark) → AddsMarks zones old now a → AddsMarks zones now new b → AddsMarks zones old new (a ++ b)
adds_both zones old now new a b first second marks collected = subst (λ m. Collected zones m new) (append_assoc marks a b) (second (marks ++ a) (first marks collected))

-- marks of some lines at fault among all of them
pub regroup : (a b c d e : List Mark) → ((a ++ b) ++ c) ++ (d ++ e) ≡ (a ++ (b ++ (c ++ d))) ++ e
regroup a b c d e = simp append_assoc
