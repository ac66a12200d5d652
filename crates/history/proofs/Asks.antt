-- A table that asks for a start and then for its call, launch after launch: one job that is due at each minute, over a window of 33.
use Rattle.std.proofs.Common.{◌≡◌, ℕ, zero, suc, ◌+◌, ◌-◌, ◌<◌, ◌^◌, ℤ, pos, negsuc, true, false, Option, Some, None, List, [], ◌∷◌, refl, ap, ◌∙◌, arith, subst, lit<, ◌↔◌, inl, unsigned_abs, FitsSigned}
use Rattle.std.specs.Int.{int_rem_euclid, w64}
use Rattle.std.proofs.lemmas.Bool.Decides.{Decides-int_eq}
use Rattle.std.proofs.lemmas.Int.{ints}
use Rattle.std.proofs.lemmas.List.Elements.{All-cons, All-nil}
use Rattle.cron_fields.specs.FieldSet.{Has}
use Rattle.cron_fields.specs.declared.field.FieldSet.{FieldSet}
use Rattle.cron_fields.specs.declared.field.Fields.{Fields}
use Rattle.cron_fields.proofs.BitLemmas.{IsBitSet-mask}
use Rattle.zone_minutes.specs.Civil.{civil_at, day_number, weekday_of, IsCalendarMinute}
use Rattle.zone_minutes.specs.Window.{IsInWindow}
use Rattle.zone_minutes.specs.Zone.{FixedOffset, IsReadable, Zone}
use Rattle.zone_minutes.specs.declared.minute.Window.{Window}
use Rattle.zone_minutes.proofs.CalendarLemmas.{IsWithinClock, IsWithinClock-at}
use Rattle.zone_minutes.proofs.ZoneLemmas.{IsReadable-fixed, local_of-fixed}
use Rattle.due_set.specs.Calls.{IsOnTime}
use Rattle.due_set.specs.Due.{Matches}
use Rattle.due_set.proofs.SoundLemmas.{no_later}
use Rattle.due_set.specs.Table.{IsKindOfName, IsBuiltFor, IsJobDue, IsJobIn, IsNextDue, IsSound, Job, Table, utc_over}
use Rattle.due_set.specs.declared.job.JobKind.TheVariants.{Crontab}
use Rattle.launch_machine.specs.Answers.{IsCallKind, IsIntent}
use Rattle.launch_machine.specs.Clerk.{Applies, TakesStart}
use Rattle.launch_machine.specs.Intent.{NoCall}
use Rattle.launch_machine.specs.declared.machine.Intent.TheVariants as intent
use Rattle.paxos_base.specs.Rows.{fresh_row}
use Rattle.paxos_base.specs.declared.entry.Entry.{Entry}
use Rattle.paxos_base.specs.declared.entry.Entry.TheVariants as entry
use Rattle.paxos_base.specs.declared.entry.Kind.TheVariants.{Launch}
use Rattle.paxos_base.specs.declared.rows.JobRow.{JobRow}
use Rattle.step_spec.specs.Propose.{is_open}
use Rattle.history.specs.Takeover.{AsksFor}

-- ---- the table

abbrev every : FieldSet
every = record { bits = 2 ^ 64 - 2 ^ 0; star = true; hashed = false }

abbrev pub each_minute : Fields
each_minute = record { minute = every; hour = every; month_day = every; month = every; week_day = every }

abbrev pub only_job : Job
only_job = record { name = []; zone = 0; kind = Crontab each_minute }

abbrev some_minutes : Window
some_minutes = record { from = record { 0 = pos 525_600 }; until = record { 0 = pos 525_633 } }

abbrev only_zone : Zone
only_zone = utc_over some_minutes

abbrev pub busy : Table
busy = record { window = some_minutes; grace = 0; zones = only_zone ∷ []; jobs = only_job ∷ []; later = [] }

-- the minutes of the window, from 0 on
abbrev pub minute : ℕ → ℤ
minute k = pos (525_600 + k)

pub in_window : (k : ℕ) → k < 33 → IsInWindow busy.window (minute k)
in_window k within = record { since = omega (arith, ints); before = omega (arith, ints, within) }

pub minute_fits : (k : ℕ) → k < 33 → FitsSigned w64 (minute k)
minute_fits k within = omega (arith, ints, within)

pub utc : IsReadable (FixedOffset (pos 0))
utc = IsReadable-fixed (pos 0) (grind arith, grind arith)

pub sound : IsSound busy
sound = record {
  limits = record { since = grind arith; until = grind arith; ordered = grind arith; short = grind arith };
  grace = omega arith;
  built = All-cons (IsBuiltFor busy.window) only_zone [] (record { from = refl; until = refl; read = utc }) (All-nil (IsBuiltFor busy.window));
  zone_numbers = All-cons (λ job. job.zone < 1) only_job [] (lit< tt) (All-nil (λ job. job.zone < 1));
  few = omega arith;
  distinct = λ i j d before within. absurd (omega (arith, before, within));
  kinds = All-cons (λ job. IsKindOfName job.name job.kind) only_job [] refl (All-nil (λ job. IsKindOfName job.name job.kind));
  versions = no_later busy;
}

-- ---- when the job is due

pub has_every : (value : ℕ) → value < 64 → Has every value
has_every value small = (IsBitSet-mask 0 64 value).1 (omega arith, small)

pub small_weekday : (day : ℤ) → unsigned_abs (int_rem_euclid day (pos 7)) < 64
small_weekday (pos n) = omega arith
small_weekday (negsuc n) = omega arith

pub matches_all : (local : ℤ) → IsCalendarMinute local → Matches each_minute local
matches_all local inside =
    let clock : IsWithinClock (civil_at local) = IsWithinClock-at local (civil_at local) inside refl in
    record {
      date = record {
        month_in = has_every (civil_at local).month (omega (arith, clock.month));
        day_in = (has_every (civil_at local).day (omega (arith, clock.day)), has_every (weekday_of (day_number local)) (small_weekday _));
      };
      time = record { hour_in = has_every (civil_at local).hour (omega (arith, clock.hour)); minute_in = has_every (civil_at local).minute (omega (arith, clock.minute)) };
    }

job_in : IsJobIn busy 0 0 only_job utc.0
job_in = record { is_job = refl; source = only_zone; is_zone = refl; read = utc.1 }

due : (k : ℕ) → k < 33 → IsJobDue busy 0 0 (minute k)
due k within = record {
  job = only_job;
  zone = utc.0;
  is_in = job_in;
  fields = each_minute;
  kind = refl;
  inside = in_window k within;
  due = let shown = local_of-fixed (pos 0) (minute k) utc.0 utc.1 in rw shown (matches_all _ (omega (arith, ints, within), omega (arith, ints, within)));
}

-- the minute of the launch before, where there is one
abbrev pub minute_before : ℕ → Option ℤ
minute_before zero = None
minute_before (suc k) = Some (minute k)

next : (k : ℕ) → k < 33 → IsNextDue busy 0 0 (minute_before k) (minute k)
next zero within = record { due = due zero within; later = tt; least = λ other is after. is.inside.since }
next (suc k) within = record { due = due (suc k) within; later = omega (arith, ints); least = λ other is after. omega (arith, ints, after) }

-- ---- the launch table, after so many launches

-- after so many launches
abbrev pub idle : ℕ → JobRow
idle k = record { job = 0; cursor = minute_before k; open_now = None; last = minute_before k; launched = k; voided = 0 }

-- the next of them is open
abbrev pub opened : ℕ → JobRow
opened k = record (idle k) { cursor = Some (minute k); open_now = Some (minute k) }

-- the launch table with this row of the job, and behind it the table's own
abbrev pub with_table : JobRow → List JobRow
with_table row = row ∷ fresh_row 1 ∷ []

-- the entries of a launch
abbrev pub start_entry : ℕ → Entry
start_entry k = entry.Start 0 (minute k) (minute k)

abbrev pub end_entry : ℕ → Entry
end_entry k = entry.End 0 (minute k) Launch

takes_start : (k : ℕ) → k < 33 → TakesStart busy (with_table (idle k)) 0 (minute k) (minute k)
takes_start k within = record { known = lit< tt; row = idle k; is_row = refl; idle = refl; may = inl (next k within, omega (arith, ints)) }

pub start_applies : (k : ℕ) → k < 33 → Applies busy (with_table (idle k)) (start_entry k) (with_table (opened k))
start_applies k within = inl (takes_start k within, refl)

pub end_applies : (k : ℕ) → Applies busy (with_table (opened k)) (end_entry k) (with_table (idle (suc k)))
end_applies k = inl (
  record { row = opened k; is_row = refl; since = minute k; is_open = refl; cursor = refl },
  let more : k + 1 ≡ suc k = omega arith in rw more refl,
)

pub nothing_below : (before : ℕ) → before < 0 → ⊥
nothing_below before less = omega (arith, less)

no_call : (k : ℕ) (now : ℤ) → NoCall busy (with_table (idle k)) now
no_call k now zero at may = let row : idle k ≡ may.row = cc in let shut : None ≡ Some may.since = ap (λ r. r.open_now) row ∙ may.is_open in cc
no_call k now (suc zero) at may = let row : fresh_row 1 ≡ may.row = cc in let shut : None ≡ Some may.since = ap (λ r. r.open_now) row ∙ may.is_open in cc
no_call k now (suc (suc job)) at may = let none : None ≡ Some may.row = may.is_row in cc

pub start_asked : (k : ℕ) → k < 33 → IsIntent busy (with_table (idle k)) (minute k) (intent.Start 0 (minute k))
start_asked k within = (no_call k (minute k), record { takes = takes_start k within; first = λ before other less it. nothing_below before less })

on_time : (k : ℕ) → IsCallKind busy 0 0 (minute k) (minute k) Launch
on_time k spec zone is_in =
    let same : only_job ≡ spec = cc_some only_job spec is_in.is_job in
    subst (λ (job : Job). (Launch ≡ Launch) ↔ IsOnTime job.kind zone 0 (minute k) (minute k)) same ((λ it. omega (arith, ints)), (λ it. refl))
  where
    cc_some : (a b : Job) → Some a ≡ Some b → a ≡ b
    cc_some a b is = cc

pub call_asked : (k : ℕ) → IsIntent busy (with_table (opened k)) (minute k) (intent.Call 0 (minute k) Launch)
call_asked k = (
  record {
    may = record { known = lit< tt; row = opened k; is_row = refl; since = minute k; is_open = refl; cursor = refl; spec = only_job; zone = utc.0; is_in = job_in; come = omega (arith, ints) };
    first = λ before other less may. nothing_below before less;
  },
  on_time k,
)

-- the launch is open until it is ended
pub is_open_then : (k : ℕ) → is_open 0 (minute k) (with_table (opened k)) ≡ true
is_open_then k = (Decides-int_eq (minute k) (minute k)).1 refl

pub some_asks : (table : Table) × (job : ℕ) × (at : ℤ) × (now : ℤ) × AsksFor table job at now
some_asks = (
  busy,
  0,
  minute 0,
  minute 0,
  record {
    inside = in_window 0 (lit< tt);
    start = start_asked 0 (lit< tt);
    call = call_asked 0;
    job_fits = lit< tt;
    at_fits = minute_fits 0 (lit< tt);
    now_fits = minute_fits 0 (lit< tt);
  },
)
