-- The texts of names: their parts, and one text for each name.
use Rattle.std.proofs.Common.{◌≡◌, ◌↔◌, Bool, true, false, true≢false, ℕ, ℤ, pos, negsuc, ◌+ℤ◌, ◌-ℤ◌, ◌≤ℤ◌, ◌<ℤ◌, ◌<◌, ◌+◌, List, [], ◌∷◌, ◌++◌, length, get_or, drop, Option, None, Some, MatchOption, inl, inr, refl, sym, ap, ◌∙◌, arith, length-append, to_z, of_z, w64, FitsSigned}
use Rattle.std.proofs.Math.Seq.{get_or-append_seam}
use Rattle.std.proofs.lemmas.List.{get_or_default, take-append-drop}
use Rattle.std.proofs.lemmas.Str.Pattern.{NoCharPasses-char, drop_at_char}
use Rattle.std.specs.Prelude.{◌==◌, IfSome, IfNone, slice_get, IsSomeAnd}
use Rattle.std.specs.Str.{NoCharPasses}
use Rattle.std.specs.Str.Pattern.{RFindsChar, SplitsAroundMatch}
use Rattle.std.proofs.lemmas.Bool.{cases_lt}
use Rattle.std.proofs.lemmas.Int.{ints, to_z-of_z}
use Rattle.std.proofs.lemmas.Option.{slice_get-get_or, slice_get_cases}
use Rattle.zone_minutes.proofs.StampLemmas.{basic_stamp_text-injective, date_text-injective}
use Rattle.zone_minutes.specs.Civil.{day_number, IsCalendarDay, IsCalendarMinute}
use Rattle.zone_minutes.specs.Stamp.{basic_stamp_text, date_text}
use Rattle.zone_minutes.specs.Window.{IsWithinLimits}
use Rattle.zone_minutes.specs.declared.minute.Window.{Window}
use Rattle.due_set.specs.Table.{Job, Table, IsSound, AreNamesDistinct, is_by_period, job_name, name_of}
use Rattle.cluster_sched.specs.Names.{IsCalendarTime, IsDayNear, IsNameIn, IsTimeNear, LacksAt, name_text, time_text}
use Rattle.cluster_sched.specs.declared.row.Name.{Name}
use Rattle.cluster_sched.proofs.StampLemmas.{LacksAt-basic_stamp_text, LacksAt-date_text}
use denote.Ref.{Bor}

-- ---- where a text is cut

-- bytes without `@` aren't parted by one
pub not_parted : (bytes xs s : List ℕ) → LacksAt bytes → bytes ≡ xs ++ 64 ∷ s → ⊥
not_parted bytes xs s lacks e =
    let long : length bytes ≡ length (xs ++ 64 ∷ s) = ap length e in
    lacks (length xs) 0 (omega (arith, length-append xs (64 ∷ s))) (ap (λ l. get_or l (length xs) 0) e ∙ get_or-append_seam xs 64 s 0)

-- texts that are parted at their last `@` have the same parts
pub same_name_parts : (xs ys s t : List ℕ) → LacksAt s → LacksAt t → xs ++ 64 ∷ s ≡ ys ++ 64 ∷ t → (xs ≡ ys) × (s ≡ t)
same_name_parts [] [] s t lacks_s lacks_t e = let whole : 64 ∷ s ≡ 64 ∷ t = e in (refl, (cc))
same_name_parts [] (y ∷ ys) s t lacks_s lacks_t e =
    let whole : 64 ∷ s ≡ y ∷ (ys ++ 64 ∷ t) = e in
    let rest : s ≡ ys ++ 64 ∷ t = (cc) in
    absurd (not_parted s ys t lacks_s rest)
same_name_parts (x ∷ xs) [] s t lacks_s lacks_t e =
    let whole : x ∷ (xs ++ 64 ∷ s) ≡ 64 ∷ t = e in
    let rest : t ≡ xs ++ 64 ∷ s = (cc) in
    absurd (not_parted t xs s lacks_t rest)
same_name_parts (x ∷ xs) (y ∷ ys) s t lacks_s lacks_t e =
    let whole : x ∷ (xs ++ 64 ∷ s) ≡ y ∷ (ys ++ 64 ∷ t) = e in
    let heads : x ≡ y = (cc) in
    let rest : xs ++ 64 ∷ s ≡ ys ++ 64 ∷ t = (cc) in
    let parts = same_name_parts xs ys s t lacks_s lacks_t rest in
    (rw (heads, parts.0) refl, parts.1)

LacksAt-from_search : (bytes : List ℕ) → NoCharPasses (λ d. d == 64) bytes → LacksAt bytes
LacksAt-from_search bytes none = λ k d lt e. NoCharPasses-char 64 bytes k none (omega arith) lt (get_or_default bytes k 0 d lt ∙ e)

-- what a search for the last `@` says
abbrev pub IsCut : List ℕ → Option (Bor (List ℕ) × Bor (List ℕ)) → Type 0
IsCut text r = MatchOption r (RFindsChar 64 text None) (λ x. SplitsAroundMatch (RFindsChar 64) text x.0.now x.1.now)

pub cut_parts : (text : List ℕ) (r : Option (Bor (List ℕ) × Bor (List ℕ))) → IsCut text r → IfSome r (λ x. text ≡ x.0.now ++ 64 ∷ x.1.now)
cut_parts text None h = tt
cut_parts text (Some x) h =
    sym (take-append-drop h.0 text) ∙ rw (drop_at_char 64 text h.0 h.1 h.2.1 (omega arith), ← h.3, ← h.4) refl

pub cut_last : (text : List ℕ) (r : Option (Bor (List ℕ) × Bor (List ℕ))) → IsCut text r → IfSome r (λ x. LacksAt x.1.now)
cut_last text None h = tt
cut_last text (Some x) h = rw h.4 (LacksAt-from_search (drop h.1 text) h.2.0)

pub cut_none : (text : List ℕ) (r : Option (Bor (List ℕ) × Bor (List ℕ))) → IsCut text r → IfNone r (LacksAt text)
cut_none text None h = LacksAt-from_search text h
cut_none text (Some x) h = tt

-- ---- days and instants, by the name of a job

-- the days of instants up to the year 2200
day_bounds : (minute : ℤ) → pos 0 ≤ℤ minute → minute <ℤ pos 120_968_640 → (pos 0 ≤ℤ day_number minute) × (day_number minute ≤ℤ pos 84_005)
day_bounds (pos n) since before = (omega (arith, ints), omega (arith, ints, before))
day_bounds (negsuc n) since before = absurd (omega (arith, ints, since))

-- a window's instants have stamps, and the days near it dates
pub IsCalendarTime-near : (window : Window) (by_period : Bool) (at : ℤ) → IsWithinLimits window → IsTimeNear window by_period at → IsCalendarTime by_period at
IsCalendarTime-near window true at limits near =
    let first = day_bounds window.from.0 (omega (arith, ints)) (omega (arith, ints)) in
    let last = day_bounds (window.until.0 -ℤ pos 1) (omega (arith, ints)) (omega (arith, ints)) in
    (omega (arith, ints, first), omega (arith, ints, last))
IsCalendarTime-near window false at limits near = (omega (arith, ints), omega (arith, ints))

-- two of them have two texts
pub time_text-injective : (by_period : Bool) (a b : ℤ) → IsCalendarTime by_period a → IsCalendarTime by_period b → time_text by_period a ≡ time_text by_period b → a ≡ b
time_text-injective true a b in_a in_b e = date_text-injective a b in_a in_b e
time_text-injective false a b in_a in_b e = basic_stamp_text-injective a b in_a in_b e

-- and no `@`
pub LacksAt-time_text : (by_period : Bool) (at : ℤ) → IsCalendarTime by_period at → LacksAt (time_text by_period at)
LacksAt-time_text true at calendar = LacksAt-date_text at calendar
LacksAt-time_text false at calendar = LacksAt-basic_stamp_text at calendar

-- the words for a job that runs by its period
pub record SaysDate (by_period : Bool) (at : ℤ) : Type 1 where
  pub text : time_text by_period at ≡ date_text at
  pub calendar : IsCalendarTime by_period at ≡ IsCalendarDay at
  pub near : (window : Window) → IsTimeNear window by_period at ≡ IsDayNear window at

says_date : (by_period : Bool) (at : ℤ) → by_period ≡ true → SaysDate by_period at
says_date true at is = record { text = refl; calendar = refl; near = λ window. refl }
says_date false at is = absurd (true≢false (sym is))

-- and those for any other
pub record SaysStamp (by_period : Bool) (at : ℤ) : Type 1 where
  pub text : time_text by_period at ≡ basic_stamp_text at
  pub calendar : IsCalendarTime by_period at ≡ IsCalendarMinute at

says_stamp : (by_period : Bool) (at : ℤ) → ¬ (by_period ≡ true) → SaysStamp by_period at
says_stamp true at is = absurd (is refl)
says_stamp false at is = record { text = refl; calendar = refl }

-- which words are meant, by a table's answer to whether its job runs by its period
pub told_date : (table : Table) (job : ℕ) (b : Bool) (at : ℤ) → b ≡ is_by_period table job → b ≡ true → SaysDate (is_by_period table job) at
told_date table job b at told e = says_date (is_by_period table job) at (sym told ∙ e)

pub told_stamp : (table : Table) (job : ℕ) (b : Bool) (at : ℤ) → b ≡ is_by_period table job → b ≡ false → SaysStamp (is_by_period table job) at
told_stamp table job b at told e = says_stamp (is_by_period table job) at (λ by. true≢false (sym by ∙ sym told ∙ e))

-- the window's first and last day, as they are computed
pub record HasDays (window : Window) (first last : ℤ) : Type 0 where
  pub is_first : first ≡ day_number window.from.0
  pub is_last : last ≡ day_number (window.until.0 -ℤ pos 1)
  pub first_in : (pos 0 ≤ℤ first) × (first ≤ℤ pos 84_005)
  pub last_in : (pos 0 ≤ℤ last) × (last ≤ℤ pos 84_005)

pub HasDays-computed : (window : Window) (first last : ℤ) → IsWithinLimits window → first ≡ day_number (to_z w64 (of_z w64 window.from.0))
    → last ≡ day_number (to_z w64 (of_z w64 (to_z w64 (of_z w64 window.until.0) -ℤ pos 1))) → HasDays window first last
HasDays-computed window first last limits computed_first computed_last =
    let from_fits : FitsSigned w64 window.from.0 = omega (arith, ints) in
    let until_fits : FitsSigned w64 window.until.0 = omega (arith, ints) in
    let end_fits : FitsSigned w64 (window.until.0 -ℤ pos 1) = omega (arith, ints) in
    let is_first : first ≡ day_number window.from.0 = simp to_z-of_z at computed_first in
    let is_last : last ≡ day_number (window.until.0 -ℤ pos 1) = simp to_z-of_z at computed_last in
    record {
      is_first = is_first;
      is_last = is_last;
      first_in = rw is_first (day_bounds window.from.0 (omega (arith, ints)) (omega (arith, ints)));
      last_in = rw is_last (day_bounds (window.until.0 -ℤ pos 1) (omega (arith, ints)) (omega (arith, ints)));
    }

-- a day is near the window where it is so close to these
pub near_days : (window : Window) (by_period : Bool) (at first last : ℤ) → HasDays window first last → SaysDate by_period at → (first -ℤ pos 2) ≤ℤ at
    → (at ≤ℤ (last +ℤ pos 2)) ↔ IsTimeNear window by_period at
near_days window by_period at first last days says since =
    rw (says.near window) (
      λ until. record { since = rw (← days.is_first) since; until = rw (← days.is_last) until },
      λ near. rw days.is_last near.until,
    )

pub not_near_days : (window : Window) (by_period : Bool) (at first last : ℤ) → HasDays window first last → SaysDate by_period at → at <ℤ (first -ℤ pos 2) → ¬ (IsTimeNear window by_period at)
not_near_days window by_period at first last days says before near =
    let is : IsDayNear window at = rw (says.near window) at near in
    let since : (first -ℤ pos 2) ≤ℤ at = rw days.is_first is.since in
    absurd (omega (arith, ints))

-- ---- names

job_name-below : (jobs : List Job) (i : ℕ) (d : Job) → i < length jobs → name_of (slice_get jobs i) ≡ (get_or jobs i d).name
job_name-below jobs i d lt = ap name_of (slice_get-get_or jobs i d lt)

-- two jobs of a table have two names
pub job_name-injective : (jobs : List Job) (i j : ℕ) → AreNamesDistinct jobs → i < length jobs → j < length jobs
    → name_of (slice_get jobs i) ≡ name_of (slice_get jobs j) → i ≡ j
job_name-injective jobs i j distinct lt_i lt_j e = elim ((slice_get_cases jobs i).1) [ inl is ↦ with_job is.0 | inr past ↦ absurd (omega (arith, past.0)) ]
  where
    same : (d : Job) → (get_or jobs i d).name ≡ (get_or jobs j d).name
    same d = sym (job_name-below jobs i d lt_i) ∙ e ∙ job_name-below jobs j d lt_j

    with_job : Job → i ≡ j
    with_job d = elim (cases_lt i j) [
      | inl lt ↦ absurd (distinct i j d lt lt_j (same d))
      | inr ge ↦ elim (cases_lt j i) [ inl lt ↦ absurd (distinct j i d lt lt_i (sym (same d))) | inr le ↦ omega arith ]
    ]

-- a name's day or instant is of the calendar
pub IsCalendarTime-name : (table : Table) (name : Name) → IsWithinLimits table.window → IsNameIn table name → IsCalendarTime (is_by_period table name.job) name.at
IsCalendarTime-name table name limits is_in = IsCalendarTime-near table.window (is_by_period table name.job) name.at limits is_in.inside

-- a text that is cut at its last `@`, and is one of a name, is cut where the name is
pub parts_of_name : (table : Table) (name : Name) (text job time : List ℕ) → IsWithinLimits table.window → IsNameIn table name → text ≡ job ++ 64 ∷ time → LacksAt time → text ≡ name_text table name
    → (job ≡ job_name table name.job) × (time ≡ time_text (is_by_period table name.job) name.at)
parts_of_name table name text job time limits is_in cut lacks e =
    let by_period = is_by_period table name.job in
    let calendar = IsCalendarTime-name table name limits is_in in
    same_name_parts job (job_name table name.job) time (time_text by_period name.at) lacks (LacksAt-time_text by_period name.at calendar) (sym cut ∙ e)

-- how long a name is
pub length-name_text : (table : Table) (name : Name) (text : List ℕ) (long : ℕ) → IsSomeAnd (slice_get table.jobs name.job) (λ job. text ≡ job.name) → length (time_text (is_by_period table name.job) name.at) ≡ long
    → length (name_text table name) ≡ length text + 1 + long
length-name_text table name text long is time =
    let same = name_of-same (slice_get table.jobs name.job) text is in
    rw same (omega (arith, length-append (job_name table name.job) (64 ∷ time_text (is_by_period table name.job) name.at)))
  where
    name_of-same : (o : Option Job) (text : List ℕ) → IsSomeAnd o (λ job. text ≡ job.name) → text ≡ name_of o
    name_of-same None text is = absurd is
    name_of-same (Some job) text is = is

-- two launches of a table have two texts
pub name_text-injective : (table : Table) (a b : Name) → IsSound table → IsNameIn table a → IsNameIn table b → name_text table a ≡ name_text table b → a ≡ b
name_text-injective table a b sound in_a in_b e =
    let by_period = is_by_period table b.job in
    let in_calendar = IsCalendarTime-name table a sound.limits in_a in
    let parts = parts_of_name table b (name_text table a) (job_name table a.job) (time_text (is_by_period table a.job) a.at) sound.limits in_b refl (LacksAt-time_text (is_by_period table a.job) a.at in_calendar) e in
    let job : a.job ≡ b.job = job_name-injective table.jobs a.job b.job sound.distinct in_a.job in_b.job parts.0 in
    let calendar_a : IsCalendarTime by_period a.at = rw job at in_calendar in
    let calendar_b = IsCalendarTime-name table b sound.limits in_b in
    let texts : time_text by_period a.at ≡ time_text by_period b.at = rw job at parts.1 in
    let at : a.at ≡ b.at = time_text-injective by_period a.at b.at calendar_a calendar_b texts in
    let make : ℕ → ℤ → Name = λ j t. record { job = j; at = t } in
    let both : make a.job a.at ≡ make b.job b.at = rw (job, at) in
    both
