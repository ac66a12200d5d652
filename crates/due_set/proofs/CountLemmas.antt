-- An entry's due instants, counted from one to the next.
use Rattle.std.proofs.Common.{◌≡◌, ℕ, ◌+◌, ◌<◌, List, [], ◌∷◌, ◌++◌, length, Option, Some, ℤ, pos, negsuc, ◌+ℤ◌, ◌-ℤ◌, ◌<ℤ◌, ◌≤ℤ◌, inl, inr, refl, sym, ap, ◌∙◌, subst, arith, length-append}
use Rattle.std.specs.Prelude.{Contains, unsigned_abs}
use Rattle.std.proofs.lemmas.Int.{ints, by_lt_z}
use Rattle.std.proofs.lemmas.List.Elements.{Contains-append_left, Contains-push, Contains-push_cases}
use Rattle.cron_fields.specs.declared.field.Fields.{Fields}
use Rattle.zone_minutes.specs.Zone.{Source, Zone}
use Rattle.zone_minutes.specs.declared.minute.Window.{Window}
use Rattle.due_set.specs.Due.{IsDueIn, IsFirstDue, IsNotDueIn}
use Rattle.due_set.specs.Table.{Job, Table, IsDueList, IsJobDueList, IsNextDue, job_of_version}
use Rattle.due_set.specs.declared.job.JobKind.TheVariants.{Crontab}
use Rattle.due_set.proofs.Rising.{Contains-none, IsRising-push}
use Rattle.due_set.proofs.TableLemmas.{IsCrontabIn, IsJobDue-from, IsJobDue-in, same_job}

-- so many due instants are counted, up to an instant that is outside
pub record CountsTo (fields : Fields) (source : Source) (from until : ℤ) (minute count : ℕ) : Type 0 where
  pub instants : List ℤ
  pub listed : IsDueList fields source from (pos minute) instants
  pub is : count ≡ length instants
  pub few : (from +ℤ pos count) ≤ℤ pos minute
  pub within : pos minute ≤ℤ until

pub CountsTo-start : (fields : Fields) (source : Source) (from until : ℤ) (minute : ℕ) → pos minute ≡ from → from <ℤ until → CountsTo fields source from until minute 0
CountsTo-start fields source from until minute minute_is ordered = record {
  instants = [];
  listed = record {
    rising = tt;
    since = λ t h. absurd (Contains-none t h);
    before = λ t h. absurd (Contains-none t h);
    sound = λ t h. absurd (Contains-none t h);
    complete = λ t since lt due. absurd (omega (arith, ints));
  };
  is = refl;
  few = omega (arith, ints);
  within = omega (arith, ints);
}

both_ways : (a b : ℤ) → a ≤ℤ b → b ≤ℤ a → a ≡ b
both_ways a b le ge = omega (arith, ints)

-- the next due instant is counted
pub CountsTo-next : (fields : Fields) (source : Source) (from until at : ℤ) (minute count next : ℕ) → CountsTo fields source from until minute count
    → IsFirstDue fields source (pos minute) at → at <ℤ until → pos next ≡ at +ℤ pos 1 → CountsTo fields source from until next (count + 1)
CountsTo-next fields source from until at minute count next known first lt next_is =
    let xs : List ℤ = known.instants in
    let listed = known.listed in
    let few : (from +ℤ pos count) ≤ℤ pos minute = known.few in
    let since : pos minute ≤ℤ at = first.since in
    let sooner : (u : ℤ) → Contains xs u → u <ℤ at = λ u h. let before : u <ℤ pos minute = listed.before u h in omega (arith, ints) in
    record {
      instants = xs ++ at ∷ [];
      listed = record {
        rising = IsRising-push xs at listed.rising sooner;
        since = λ u h. elim (Contains-push_cases xs at u h) [
          | inl had ↦ listed.since u had
          | inr e ↦ subst (λ (v : ℤ). from ≤ℤ v) e (omega (arith, ints))
        ];
        before = λ u h. elim (Contains-push_cases xs at u h) [
          | inl had ↦ let before : u <ℤ at = sooner u had in omega (arith, ints)
          | inr e ↦ subst (λ (v : ℤ). v <ℤ pos next) e (omega (arith, ints))
        ];
        sound = λ u h. elim (Contains-push_cases xs at u h) [
          | inl had ↦ listed.sound u had
          | inr e ↦ subst (IsDueIn fields source) e first.due
        ];
        complete = λ u back before due.
            by_lt_z u (pos minute)
            (λ counted. Contains-append_left xs (at ∷ []) u (listed.complete u back counted due))
            (λ later. by_lt_z u at
            (λ too_soon. absurd (first.none_before u later too_soon due))
            (λ le. subst (Contains (xs ++ at ∷ [])) (both_ways at u le (omega (arith, ints))) (Contains-push xs at)));
      };
      is = omega (arith, length-append xs (at ∷ []), known.is);
      few = omega (arith, ints);
      within = omega (arith, ints);
    }

-- where no later instant is due, all are counted
pub CountsTo-all : (fields : Fields) (source : Source) (from until : ℤ) (minute count : ℕ) → CountsTo fields source from until minute count
    → IsNotDueIn fields source (pos minute) until → (instants : List ℤ) × IsDueList fields source from until instants × (count ≡ length instants)
CountsTo-all fields source from until minute count known none =
    let listed = known.listed in
    let within : pos minute ≤ℤ until = known.within in (
      known.instants,
      record {
        rising = listed.rising;
        since = listed.since;
        before = λ t h. let before : t <ℤ pos minute = listed.before t h in omega (arith, ints);
        sound = listed.sound;
        complete = λ t back before due. by_lt_z t (pos minute) (λ counted. listed.complete t back counted due) (λ later. absurd (none t later before due));
      },
      known.is,
    )

-- the list of a crontab job's due instants is that of its entry in the window
pub IsJobDueList-entry : (table : Table) (version number : ℕ) (job : Job) (fields : Fields) (source : Zone) (window : Window) (instants : List ℤ) → IsCrontabIn table version number job fields source
    → window ≡ table.window → IsDueList fields source.source window.from.0 window.until.0 instants → IsJobDueList table version number instants
IsJobDueList-entry table version number job fields source window instants known window_is list =
    let all : IsDueList fields source.source table.window.from.0 table.window.until.0 instants =
    subst (λ (w : Window). IsDueList fields source.source w.from.0 w.until.0 instants) window_is list in
    record {
      rising = all.rising;
      sound = λ t h. IsJobDue-from table version number job fields source t known (record { since = all.since t h; before = all.before t h }) (all.sound t h);
      complete = λ t due. all.complete t due.inside.since due.inside.before (IsJobDue-in table version number job fields source t known due);
    }

-- a job that is no crontab's entry has none
pub IsJobDueList-none : (table : Table) (version number : ℕ) (job : Job) → job_of_version table version number ≡ Some job → ((fields : Fields) → job.kind ≡ Crontab fields → ⊥)
    → IsJobDueList table version number []
IsJobDueList-none table version number job is_job other = record {
  rising = tt;
  sound = λ t h. absurd (Contains-none t h);
  complete = λ t due.
      let jobs : due.job ≡ job = same_job table version number due.job job due.is_in.is_job is_job in
      absurd (other due.fields (ap (λ (j : Job). j.kind) (sym jobs) ∙ due.kind));
}

-- a smaller number that is not negative has a smaller size
pub abs_below : (a b : ℤ) → pos 0 ≤ℤ a → a <ℤ b → unsigned_abs a < unsigned_abs b
abs_below (pos a) (pos b) nonneg lt = omega (arith, ints)
abs_below (pos a) (negsuc b) nonneg lt = absurd (omega (arith, ints))
abs_below (negsuc a) b nonneg lt = absurd (omega (arith, ints))

-- how many minutes of the window are left, which fall
abbrev pub left_of : ℤ → ℕ → ℕ
left_of until minute = unsigned_abs (until -ℤ pos minute)

pub left_falls : (until at : ℤ) (minute next : ℕ) → pos minute ≤ℤ at → at <ℤ until → pos next ≡ at +ℤ pos 1 → left_of until next < left_of until minute
left_falls until at minute next since lt next_is = abs_below (until -ℤ pos next) (until -ℤ pos minute) (omega (arith, ints)) (omega (arith, ints))

-- after an instant a job has one next due instant
pub IsNextDue-same : (table : Table) (version number : ℕ) (before : Option ℤ) (a b : ℤ) → IsNextDue table version number before a → IsNextDue table version number before b → a ≡ b
IsNextDue-same table version number before a b p q = both_ways a b (p.least b q.due q.later) (q.least a p.due p.later)
