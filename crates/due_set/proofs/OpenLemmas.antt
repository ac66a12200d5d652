-- The jobs of a table that run by their period, and when they may opened.
use Rattle.std.proofs.Common.{◌≡◌, ℕ, ◌+◌, ◌≤◌, Option, None, Some, ℤ, pos, ◌+ℤ◌, ◌<ℤ◌, ◌≤ℤ◌, ◌⊎◌, inl, inr, refl, sym, ap, ◌∙◌, subst, arith}
use Rattle.std.specs.Prelude.{slice_get, IfSome}
use Rattle.std.proofs.lemmas.Bool.{cases_lt}
use Rattle.std.proofs.lemmas.Int.{ints, by_lt_z}
use Rattle.std.proofs.lemmas.Option.{slice_get_within}
use Rattle.jiff.specs.Types.{TimeZone}
use Rattle.zone_minutes.specs.Civil.{day_number, first_of_month, first_of_year, minute_of_day}
use Rattle.zone_minutes.specs.Window.{IsInWindow}
use Rattle.zone_minutes.specs.Zone.{Zone, IsReadAs, local_of}
use Rattle.zone_minutes.specs.declared.minute.Minute.{Minute}
use Rattle.zone_minutes.specs.declared.minute.Window.{Window}
use Rattle.zone_minutes.proofs.ZoneLemmas.{local_of-same}
use Rattle.due_set.specs.Anacron.{IsFirstOpening, IsJobOpen, IsOverSince, IsPeriodOver, MayOpen}
use Rattle.due_set.specs.Calls.{HasCome, IsOnTime}
use Rattle.due_set.specs.Day.{Opens, OpensAtNone, OpensFirst}
use Rattle.due_set.specs.Table.{Job, Table, IsAfter, IsAnacron, IsBuiltFor, IsJobIn, IsSound, job_of_version, jobs_in}
use Rattle.due_set.specs.declared.anacron.Opening.{Opening}
use Rattle.due_set.specs.declared.job.JobKind.{JobKind}
use Rattle.due_set.specs.declared.job.JobKind.TheVariants.{Anacron, Crontab, Never}
use Rattle.due_set.specs.declared.job.Period.{Period}
use Rattle.due_set.specs.declared.job.Period.TheVariants.{Days, Monthly, Yearly}
use Rattle.due_set.proofs.DecideLemmas.{IsDecided, decided_both, decided_inside, decided_le, decided_like, decided_lt}
use Rattle.due_set.proofs.SoundLemmas.{has_version, length_of_version, zone_is_read}
use Rattle.due_set.proofs.TableLemmas.{IfSome-both, same_job}

-- a job that runs by its period, with what decides when it may opened, and the source of its zone
pub record IsAnacronIn (table : Table) (version number : ℕ) (job : Job) (opening : Opening) (source : Zone) : Type 0 where
  pub is_job : job_of_version table version number ≡ Some job
  pub kind : job.kind ≡ Anacron opening.period opening.first_minute opening.last_minute
  pub is_zone : slice_get table.zones job.zone ≡ Some source

pub IsJobOpen-from : (table : Table) (version number : ℕ) (job : Job) (opening : Opening) (source : Zone) (z : TimeZone) (now date : ℤ) → IsAnacronIn table version number job opening source
    → IsReadAs source.source z → IsInWindow table.window now → Opens opening (local_of z now) → date ≡ day_number (local_of z now)
    → IsJobOpen table version number opening.last opening.cursor now date
IsJobOpen-from table version number job opening source z now date known read inside opens date_is = record {
  job = job;
  zone = z;
  is_in = record { is_job = known.is_job; source = source; is_zone = known.is_zone; read = read };
  period = opening.period;
  first_minute = opening.first_minute;
  last_minute = opening.last_minute;
  kind = known.kind;
  inside = inside;
  may = opens;
  is_date = date_is;
}

-- what a job says of itself is what decides
pub record OpensThen (opening : Opening) (source : Zone) (now date : ℤ) : Type 0 where
  pub zone : TimeZone
  pub read : IsReadAs source.source zone
  pub opens : Opens opening (local_of zone now)
  pub is_date : date ≡ day_number (local_of zone now)

pub IsJobOpen-in : (table : Table) (version number : ℕ) (job : Job) (opening : Opening) (source : Zone) (now date : ℤ) → IsAnacronIn table version number job opening source
    → IsJobOpen table version number opening.last opening.cursor now date → OpensThen opening source now date
IsJobOpen-in table version number job opening source now date known opened =
    let jobs : opened.job ≡ job = same_job table version number opened.job job opened.is_in.is_job known.is_job in
    let kinds : Anacron opened.period opened.first_minute opened.last_minute ≡ Anacron opening.period opening.first_minute opening.last_minute =
    sym opened.kind ∙ ap (λ (j : Job). j.kind) jobs ∙ known.kind in
    let periods : opened.period ≡ opening.period = cc in
    let firsts : opened.first_minute ≡ opening.first_minute = cc in
    let lasts : opened.last_minute ≡ opening.last_minute = cc in
    let zones : slice_get table.zones opened.job.zone ≡ slice_get table.zones job.zone = ap (λ (j : Job). slice_get table.zones j.zone) jobs in
    let sources : Some opened.is_in.source ≡ Some source = sym opened.is_in.is_zone ∙ zones ∙ known.is_zone in
    let source_is : opened.is_in.source ≡ source = cc in
    record {
      zone = opened.zone;
      read = subst (λ (s : Zone). IsReadAs s.source opened.zone) source_is opened.is_in.read;
      opens =
          subst (λ (p : Period). MayOpen p opening.first_minute opening.last_minute opening.last opening.cursor (local_of opened.zone now)) periods
          (subst (λ (n : ℕ). MayOpen opened.period n opening.last_minute opening.last opening.cursor (local_of opened.zone now)) firsts
          (subst (λ (n : ℕ). MayOpen opened.period opened.first_minute n opening.last opening.cursor (local_of opened.zone now)) lasts opened.may));
      is_date = opened.is_date;
    }

-- a job of another kind never opens
pub no_opening : (table : Table) (version number : ℕ) (job : Job) (last cursor : Option ℤ) (now date : ℤ) → job_of_version table version number ≡ Some job → (IsAnacron job.kind → ⊥)
    → IsJobOpen table version number last cursor now date → ⊥
no_opening table version number job last cursor now date is_job other opened =
    let jobs : opened.job ≡ job = same_job table version number opened.job job opened.is_in.is_job is_job in
    let kind : Anacron opened.period opened.first_minute opened.last_minute ≡ job.kind = sym opened.kind ∙ ap (λ (j : Job). j.kind) jobs in
    other (subst IsAnacron kind tt)

-- the first instant of the window at which the clock shows a minute at which the job may opened
pub IsFirstOpening-from : (table : Table) (version number : ℕ) (job : Job) (opening : Opening) (source : Zone) (window : Window) (t : ℤ) → IsAnacronIn table version number job opening source
    → IsBuiltFor table.window source → window ≡ table.window → OpensFirst opening source.source window.from.0 t → window.from.0 ≤ℤ t → t <ℤ window.until.0
    → IsFirstOpening table version number opening.last opening.cursor t
IsFirstOpening-from table version number job opening source window t known built window_is first since before =
    let inside : IsInWindow table.window t = subst (λ (w : Window). IsInWindow w t) window_is (record { since = since; before = before }) in
    let z = built.read.0 in
    record {
      date = day_number (local_of z t);
      opens = IsJobOpen-from table version number job opening source z t (day_number (local_of z t)) known built.read.1 inside (first.opens z built.read.1) refl;
      least = λ other day opened.
          let then = IsJobOpen-in table version number job opening source other day known opened in
          let within : window.from.0 ≤ℤ other = subst (λ (w : Window). w.from.0 ≤ℤ other) (sym window_is) opened.inside.since in
          by_lt_z other t (λ sooner. absurd (first.none_before then.zone other then.read within sooner then.opens)) (λ le. le);
    }

pub never_opens : (table : Table) (version number : ℕ) (job : Job) (opening : Opening) (source : Zone) (window : Window) (now date : ℤ) → IsAnacronIn table version number job opening source
    → window ≡ table.window → OpensAtNone opening source.source window.from.0 window.until.0
    → IsJobOpen table version number opening.last opening.cursor now date → ⊥
never_opens table version number job opening source window now date known window_is none opened =
    let then = IsJobOpen-in table version number job opening source now date known opened in
    none then.zone now then.read (subst (λ (w : Window). w.from.0 ≤ℤ now) (sym window_is) opened.inside.since)
    (subst (λ (w : Window). now <ℤ w.until.0) (sym window_is) opened.inside.before) then.opens

pub opening_found : (table : Table) (version number : ℕ) (job : Job) (opening : Opening) (source : Zone) (window : Window) (last cursor : Option ℤ) (result : Option Minute)
    → opening.last ≡ last → opening.cursor ≡ cursor → IsAnacronIn table version number job opening source → IsBuiltFor table.window source → window ≡ table.window
    → IfSome result (λ t. OpensFirst opening source.source window.from.0 t.0) → IfSome result (λ t. window.from.0 ≤ℤ t.0) → IfSome result (λ t. t.0 <ℤ window.until.0)
    → IfSome result (λ t. IsFirstOpening table version number last cursor t.0)
opening_found table version number job opening source window last cursor result last_is cursor_is known built window_is found since before =
    IfSome-both (λ t. OpensFirst opening source.source window.from.0 t.0 × (window.from.0 ≤ℤ t.0)) (λ t. t.0 <ℤ window.until.0)
    (λ t. IsFirstOpening table version number last cursor t.0) result
    (IfSome-both (λ t. OpensFirst opening source.source window.from.0 t.0) (λ t. window.from.0 ≤ℤ t.0) (λ t. OpensFirst opening source.source window.from.0 t.0 × (window.from.0 ≤ℤ t.0)) result
    found since (λ t first back. (first, back)))
    before
    (λ t both lt.
    subst (λ (c : Option ℤ). IsFirstOpening table version number last c t.0) cursor_is
    (subst (λ (l : Option ℤ). IsFirstOpening table version number l opening.cursor t.0) last_is
    (IsFirstOpening-from table version number job opening source window t.0 known built window_is both.0 both.1 lt)))

-- ---- laws

come_of_opening : (kind : JobKind) (zone : TimeZone) (period : Period) (first last : ℕ) (now date : ℤ) → kind ≡ Anacron period first last
    → date ≡ day_number (local_of zone now) → HasCome kind zone date now
come_of_opening kind zone period first last now date kind_is date_is =
    subst (λ (k : JobKind). HasCome k zone date now) (sym kind_is) (omega (arith, ints, date_is))

on_time_of_opening : (kind : JobKind) (zone : TimeZone) (grace : ℕ) (period : Period) (first last : ℕ) (now date : ℤ) → kind ≡ Anacron period first last
    → date ≡ day_number (local_of zone now) → IsOnTime kind zone grace date now
on_time_of_opening kind zone grace period first last now date kind_is date_is =
    subst (λ (k : JobKind). IsOnTime k zone grace date now) (sym kind_is) (sym date_is)

pub IsPeriodOver-since : (period : Period) (earlier last date : ℤ) → earlier ≤ℤ last → IsPeriodOver period last date → IsPeriodOver period earlier date
IsPeriodOver-since (Days days) earlier last date le over = omega (arith, ints, over)
IsPeriodOver-since Monthly earlier last date le over = omega (arith, ints, over)
IsPeriodOver-since Yearly earlier last date le over = omega (arith, ints, over)

-- ---- the job that may opened is the table's

same_source : (table : Table) (version number : ℕ) (a b : Job) (za zb : TimeZone) (p : IsJobIn table version number a za) (q : IsJobIn table version number b zb) → p.source ≡ q.source
same_source table version number a b za zb p q =
    let jobs : a ≡ b = same_job table version number a b p.is_job q.is_job in
    let zones : slice_get table.zones a.zone ≡ slice_get table.zones b.zone = ap (λ (j : Job). slice_get table.zones j.zone) jobs in
    let sources : Some p.source ≡ Some q.source = sym p.is_zone ∙ zones ∙ q.is_zone in
    cc

-- two zones that a job's source is read as show one local time
pub same_local : (table : Table) (version number : ℕ) (a b : Job) (za zb : TimeZone) (t : ℤ) → IsJobIn table version number a za → IsJobIn table version number b zb
    → local_of za t ≡ local_of zb t
same_local table version number a b za zb t p q =
    local_of-same q.source.source za zb t (subst (λ (s : Zone). IsReadAs s.source za) (same_source table version number a b za zb p q) p.read) q.read

pub opens_on_one_date : (table : Table) (version number : ℕ) (last cursor : Option ℤ) (now a b : ℤ) → IsJobOpen table version number last cursor now a
    → IsJobOpen table version number last cursor now b → a ≡ b
opens_on_one_date table version number last cursor now a b p q =
    p.is_date ∙ ap day_number (same_local table version number p.job q.job p.zone q.zone now p.is_in q.is_in) ∙ sym q.is_date

-- in each zone that the job's source is read as
pub record OpensIn (table : Table) (version number : ℕ) (job : Job) (zone : TimeZone) (last cursor : Option ℤ) (now date : ℤ) : Type 0 where
  pub period : Period
  pub first_minute : ℕ
  pub last_minute : ℕ
  pub kind : job.kind ≡ Anacron period first_minute last_minute
  pub is_date : date ≡ day_number (local_of zone now)

pub opens_in : (table : Table) (version number : ℕ) (job : Job) (zone : TimeZone) (last cursor : Option ℤ) (now date : ℤ) → IsJobIn table version number job zone
    → IsJobOpen table version number last cursor now date → OpensIn table version number job zone last cursor now date
opens_in table version number job zone last cursor now date is_in opened = record {
  period = opened.period;
  first_minute = opened.first_minute;
  last_minute = opened.last_minute;
  kind = sym (ap (λ (j : Job). j.kind) (same_job table version number opened.job job opened.is_in.is_job is_in.is_job)) ∙ opened.kind;
  is_date = opened.is_date ∙ ap day_number (same_local table version number opened.job job opened.zone zone now opened.is_in is_in);
}

pub opening_has_come : (table : Table) (version number : ℕ) (job : Job) (zone : TimeZone) (last cursor : Option ℤ) (now date : ℤ) → IsJobIn table version number job zone
    → IsJobOpen table version number last cursor now date → HasCome job.kind zone date now
opening_has_come table version number job zone last cursor now date is_in opened =
    let here = opens_in table version number job zone last cursor now date is_in opened in
    come_of_opening job.kind zone here.period here.first_minute here.last_minute now date here.kind here.is_date

pub opening_is_on_time : (table : Table) (version number : ℕ) (job : Job) (zone : TimeZone) (last cursor : Option ℤ) (now date : ℤ) → IsJobIn table version number job zone
    → IsJobOpen table version number last cursor now date → IsOnTime job.kind zone table.grace date now
opening_is_on_time table version number job zone last cursor now date is_in opened =
    let here = opens_in table version number job zone last cursor now date is_in opened in
    on_time_of_opening job.kind zone table.grace here.period here.first_minute here.last_minute now date here.kind here.is_date

-- ---- whether a job may opened is decided

decided_nat_le : (a b : ℕ) → IsDecided (a ≤ b)
decided_nat_le a b = elim (cases_lt b a) [ inl lt ↦ inr (λ le. absurd (omega arith)) | inr ge ↦ inl (omega arith) ]

decided_over : (period : Period) (last date : ℤ) → IsDecided (IsPeriodOver period last date)
decided_over (Days days) last date = decided_le (last +ℤ pos days) date
decided_over Monthly last date = decided_lt last (first_of_month date)
decided_over Yearly last date = decided_lt last (first_of_year date)

decided_over_since : (period : Period) (last : Option ℤ) (date : ℤ) → IsDecided (IsOverSince period last date)
decided_over_since period None date = inl tt
decided_over_since period (Some last) date = decided_over period last date

decided_after : (cursor : Option ℤ) (date : ℤ) → IsDecided (IsAfter cursor date)
decided_after None date = inl tt
decided_after (Some cursor) date = decided_lt cursor date

decided_opens : (period : Period) (first_minute last_minute : ℕ) (last cursor : Option ℤ) (shown : ℤ) → IsDecided (MayOpen period first_minute last_minute last cursor shown)
decided_opens period first_minute last_minute last cursor shown =
    decided_like (Times × Date) (MayOpen period first_minute last_minute last cursor shown)
    (λ all. record { since = all.0.0; before = omega (arith, all.0.1); on = record { later = all.1.0; over = all.1.1 } })
    (λ may. ((may.since, omega (arith, may.before)), (may.on.later, may.on.over)))
    (decided_both Times Date
    (decided_both (first_minute ≤ minute_of_day shown) (minute_of_day shown + 1 ≤ last_minute) (decided_nat_le first_minute (minute_of_day shown))
    (decided_nat_le (minute_of_day shown + 1) last_minute))
    (decided_both (IsAfter cursor (day_number shown)) (IsOverSince period last (day_number shown)) (decided_after cursor (day_number shown))
    (decided_over_since period last (day_number shown))))
  where
    Times : Type 0
    Times = (first_minute ≤ minute_of_day shown) × (minute_of_day shown + 1 ≤ last_minute)

    Date : Type 0
    Date = IsAfter cursor (day_number shown) × IsOverSince period last (day_number shown)

-- some date on which the job may opened at the instant, or none
abbrev IsDecidedOpen : Table → ℕ → ℕ → Option ℤ → Option ℤ → ℤ → Type 0
IsDecidedOpen table version number last cursor now =
    ((date : ℤ) × IsJobOpen table version number last cursor now date) ⊎ ((date : ℤ) → IsJobOpen table version number last cursor now date → ⊥)

pub open_or_not : (table : Table) (version number : ℕ) (last cursor : Option ℤ) (now : ℤ) → IsSound table → IsDecidedOpen table version number last cursor now
open_or_not table version number last cursor now sound = by_job (job_of_version table version number) refl
  where
    by_time : (job : Job) (opening : Opening) (source : Zone) (z : TimeZone) → opening.last ≡ last → opening.cursor ≡ cursor
        → IsAnacronIn table version number job opening source → IsReadAs source.source z → IsDecided (IsInWindow table.window now)
        → IsDecided (Opens opening (local_of z now)) → IsDecidedOpen table version number last cursor now
    by_time job opening source z last_is cursor_is known read (inl inside) (inl opens) =
        inl (
          day_number (local_of z now),
          subst (λ (c : Option ℤ). IsJobOpen table version number last c now (day_number (local_of z now))) cursor_is
              (subst (λ (l : Option ℤ). IsJobOpen table version number l opening.cursor now (day_number (local_of z now))) last_is
              (IsJobOpen-from table version number job opening source z now (day_number (local_of z now)) known read inside opens refl)),
        )
    by_time job opening source z last_is cursor_is known read (inr outside) opens = inr (λ date opened. outside opened.inside)
    by_time job opening source z last_is cursor_is known read (inl inside) (inr not) =
        inr (λ date opened.
        let then = IsJobOpen-in table version number job opening source now date known
        (subst (λ (c : Option ℤ). IsJobOpen table version number opening.last c now date) (sym cursor_is)
        (subst (λ (l : Option ℤ). IsJobOpen table version number l cursor now date) (sym last_is) opened)) in
        not (subst (Opens opening) (local_of-same source.source then.zone z now then.read read) then.opens))

    by_kind : (job : Job) (kind : JobKind) → job_of_version table version number ≡ Some job → job.kind ≡ kind → IsDecidedOpen table version number last cursor now
    by_kind job (Crontab fields) is_job kind = inr (λ date opened. no_opening table version number job last cursor now date is_job (λ it. subst IsAnacron kind it) opened)
    by_kind job Never is_job kind = inr (λ date opened. no_opening table version number job last cursor now date is_job (λ it. subst IsAnacron kind it) opened)
    by_kind job (Anacron period first last_minute) is_job kind =
        let known = has_version table version number job sound is_job in
        let count = length_of_version table version sound known in
        let there = zone_is_read table version number sound known (omega (arith, count, slice_get_within (jobs_in table version) number job is_job)) in
        let jobs : there.0 ≡ job = same_job table version number there.0 job there.2.is_job is_job in
        let opening : Opening = record { period = period; first_minute = first; last_minute = last_minute; last = last; cursor = cursor } in
        by_time job opening there.2.source there.1 refl refl
        (record { is_job = is_job; kind = kind; is_zone = subst (λ (j : Job). slice_get table.zones j.zone ≡ Some there.2.source) jobs there.2.is_zone })
        there.2.read (decided_inside table.window now)
        (decided_opens period first last_minute last cursor (local_of there.1 now))

    by_job : (found : Option Job) → job_of_version table version number ≡ found → IsDecidedOpen table version number last cursor now
    by_job None none = inr (λ date opened. absurd (cc (none, opened.is_in.is_job)))
    by_job (Some job) is_job = by_kind job job.kind is_job refl
