-- A table of one job that runs each day, over a window of one minute, and what its launch table asks for.
use Rattle.std.proofs.Common.{◌≡◌, zero, suc, ◌<◌, ℤ, pos, ◌+ℤ◌, ◌≤ℤ◌, true, Some, None, [], ◌∷◌, refl, sym, ap, ◌∙◌, inl, inr, arith, subst, lit<, ◌↔◌}
use Rattle.std.specs.List.{slice_get}
use Rattle.std.proofs.lemmas.Int.{ints}
use Rattle.std.proofs.lemmas.Bool.Decides.{Decides-int_eq}
use Rattle.std.proofs.lemmas.List.Elements.{All-cons, All-nil}
use Rattle.jiff.specs.Types.{TimeZone}
use Rattle.zone_minutes.specs.Civil.{day_number}
use Rattle.zone_minutes.specs.Window.{IsInWindow}
use Rattle.zone_minutes.specs.Zone.{FixedOffset, IsReadAs, Zone, local_of}
use Rattle.zone_minutes.specs.declared.minute.Window.{Window}
use Rattle.zone_minutes.proofs.ZoneLemmas.{local_of-fixed}
use Rattle.due_set.specs.Anacron.{IsJobOpen, MayOpenOn}
use Rattle.due_set.specs.Calls.{IsOnTime}
use Rattle.due_set.proofs.SoundLemmas.{no_later}
use Rattle.due_set.specs.Table.{IsKindOfName, IsBuiltFor, IsJobIn, IsSound, Job, Table, utc_over}
use Rattle.due_set.specs.declared.job.JobKind.TheVariants.{Anacron}
use Rattle.due_set.specs.declared.job.Period.TheVariants.{Days}
use Rattle.due_set.proofs.MatchingLemmas.{minute_of_day-below}
use Rattle.paxos_base.specs.declared.entry.Entry.{Entry}
use Rattle.paxos_base.specs.declared.entry.Entry.TheVariants as entry
use Rattle.paxos_base.specs.declared.entry.Kind.TheVariants.{Launch}
use Rattle.paxos_base.specs.Rows.{fresh_row}
use Rattle.paxos_base.specs.declared.rows.JobRow.{JobRow}
use Rattle.cluster_sched.specs.declared.row.SchedRow.{SchedRow}
use Rattle.launch_machine.specs.Answers.{IsCallKind, IsIntent}
use Rattle.launch_machine.specs.Clerk.{Applies, AppliesAll, MayStart, TakesStart, first_force, first_rows, NoStart, NoTable}
use Rattle.launch_machine.specs.Intent.{NoCall}
use Rattle.launch_machine.specs.declared.machine.Intent.TheVariants as intent
use Rattle.launch_machine.proofs.StartLemmas.{may_start_later}
use Rattle.launch_machine.proofs.MachineLemmas.{may_start_on}
use Rattle.step_spec.specs.Propose.{is_open}
use Rattle.history.proofs.Asks.{utc, with_table}

-- ---- the table

abbrev daily_job : Job
daily_job = record { name = 47 ∷ []; zone = 0; kind = Anacron (Days 1) 0 1440 }

abbrev one_minute : Window
one_minute = record { from = record { 0 = pos 525_600 }; until = record { 0 = pos 525_601 } }

abbrev only_zone : Zone
only_zone = utc_over one_minute

abbrev pub daily : Table
daily = record { window = one_minute; grace = 0; zones = only_zone ∷ []; jobs = daily_job ∷ []; later = [] }

-- its one minute, and the day of that
abbrev pub now : ℤ
now = pos 525_600

abbrev pub today : ℤ
today = pos 365

pub inside : IsInWindow one_minute now
inside = record { since = omega (arith, ints); before = omega (arith, ints) }

pub sound : IsSound daily
sound = record {
  limits = record { since = grind arith; until = grind arith; ordered = grind arith; short = grind arith };
  grace = omega arith;
  built = All-cons (IsBuiltFor daily.window) only_zone [] (record { from = refl; until = refl; read = utc }) (All-nil (IsBuiltFor daily.window));
  zone_numbers = All-cons (λ job. job.zone < 1) daily_job [] (lit< tt) (All-nil (λ job. job.zone < 1));
  few = omega arith;
  distinct = λ i j d before within. absurd (omega (arith, before, within));
  kinds = All-cons (λ job. IsKindOfName job.name job.kind) daily_job [] refl (All-nil (λ job. IsKindOfName job.name job.kind));
  versions = no_later daily;
}

job_in : IsJobIn daily 0 0 daily_job utc.0
job_in = record { is_job = refl; source = only_zone; is_zone = refl; read = utc.1 }

-- the job of the table is that one, in UTC
only_one : (spec : Job) (zone : TimeZone) → IsJobIn daily 0 0 spec zone → (daily_job ≡ spec) × IsReadAs (FixedOffset (pos 0)) zone
only_one spec zone is_in =
    let same : daily_job ≡ spec = first_job daily_job spec is_in.is_job in
    let at : slice_get daily.zones 0 ≡ Some is_in.source = subst (λ (job : Job). slice_get daily.zones job.zone ≡ Some is_in.source) (sym same) is_in.is_zone in
    let source : only_zone ≡ is_in.source = first_zone only_zone is_in.source at in
    (same, subst (λ (z : Zone). IsReadAs z.source zone) (sym source) is_in.read)
  where
    first_job : (a b : Job) → Some a ≡ Some b → a ≡ b
    first_job a b is = cc

    first_zone : (a b : Zone) → Some a ≡ Some b → a ≡ b
    first_zone a b is = cc

shown : (zone : TimeZone) → IsReadAs (FixedOffset (pos 0)) zone → day_number (local_of zone now) ≡ today
shown zone read = (let day : day_number (now +ℤ pos 0) ≡ today = refl in ap day_number (local_of-fixed (pos 0) now zone read) ∙ day)

pub opens : IsJobOpen daily 0 0 None None now today
opens =
    let is : day_number (local_of utc.0 now) ≡ today = shown utc.0 utc.1 in
    record {
      job = daily_job;
      zone = utc.0;
      is_in = job_in;
      period = Days 1;
      first_minute = 0;
      last_minute = 1440;
      kind = refl;
      inside = inside;
      may = record {
        since = omega arith;
        before = minute_of_day-below (local_of utc.0 now);
        on = subst (MayOpenOn (Days 1) None None) (sym is) (record { later = tt; over = tt });
      };
      is_date = sym is;
    }

-- ---- the launch table: before the launch, while it is open, and after it

abbrev pub idle : JobRow
idle = record { job = 0; cursor = None; open_now = None; last = None; launched = 0; voided = 0 }

abbrev pub opened : JobRow
opened = record idle { cursor = Some today; open_now = Some now }

abbrev pub over : JobRow
over = record { job = 0; cursor = Some today; open_now = None; last = Some today; launched = 1; voided = 0 }

abbrev pub start_entry : Entry
start_entry = entry.Start 0 today now

abbrev pub end_entry : Entry
end_entry = entry.End 0 today Launch

takes_start : TakesStart daily (with_table idle) 0 today now
takes_start = record { known = lit< tt; row = idle; is_row = refl; idle = refl; may = inr opens }

start_applies : Applies daily (with_table idle) start_entry (with_table opened)
start_applies = inl (takes_start, refl)

end_applies : Applies daily (with_table opened) end_entry (with_table over)
end_applies = inl (record { row = opened; is_row = refl; since = now; is_open = refl; cursor = refl }, refl)

pub applied_none : AppliesAll daily (first_rows daily) [] (with_table idle)
applied_none = refl

pub applied_start : AppliesAll daily (first_rows daily) (start_entry ∷ []) (with_table opened)
applied_start = (with_table opened, start_applies, refl)

pub applied_end : AppliesAll daily (first_rows daily) (start_entry ∷ end_entry ∷ []) (with_table over)
applied_end = (with_table opened, start_applies, (with_table over, end_applies, refl))

no_call : (row : JobRow) (at : ℤ) → row.open_now ≡ None → NoCall daily (with_table row) at
no_call row at shut zero date may =
    let same : row ≡ may.row = cc in
    let both : None ≡ Some may.since = sym shut ∙ ap (λ r. r.open_now) same ∙ may.is_open in
    cc
no_call row at shut (suc zero) date may =
    let same : fresh_row 1 ≡ may.row = cc in
    let both : None ≡ Some may.since = ap (λ r. r.open_now) same ∙ may.is_open in
    cc
no_call row at shut (suc (suc job)) date may = let none : None ≡ Some may.row = may.is_row in cc

pub start_asked : IsIntent daily (with_table idle) now (intent.Start 0 today)
start_asked = (no_call idle now refl, record { takes = takes_start; first = λ before other less it. absurd (omega (arith, less)) })

call_kind : IsCallKind daily 0 0 today now Launch
call_kind spec zone is_in =
    let one = only_one spec zone is_in in
    subst (λ (job : Job). (Launch ≡ Launch) ↔ IsOnTime job.kind zone 0 today now) one.0 ((λ it. shown zone one.1), (λ it. refl))

pub call_asked : IsIntent daily (with_table opened) now (intent.Call 0 today Launch)
call_asked = (
  record {
    may = record {
      known = lit< tt;
      row = opened;
      is_row = refl;
      since = now;
      is_open = refl;
      cursor = refl;
      spec = daily_job;
      zone = utc.0;
      is_in = job_in;
      come = subst (λ day. today ≤ℤ day) (sym (shown utc.0 utc.1)) (omega (arith, ints));
    };
    first = λ before other less may. absurd (omega (arith, less));
  },
  call_kind,
)

-- it may not open on the same day again
no_start : NoStart daily (with_table over) now
no_start zero at takes =
    let row : over ≡ takes.row = cc in
    let may : MayStart daily first_force 0 over at now = subst (λ (r : JobRow). MayStart daily first_force 0 r at now) (sym row) takes.may in
    let again = may_start_on daily 0 over at now (daily_job, refl, tt) may in
    let is = only_one again.job again.zone again.is_in in
    let date : at ≡ today = again.is_date ∙ shown again.zone is.1 in
    let later = may_start_later daily first_force 0 over at now may in
    omega (arith, ints, date, later)
no_start (suc job) at takes = let below : suc job < 1 = takes.known in omega (arith, below)

-- the table has one version
no_table : NoTable daily (with_table over) now
no_table version takes = omega (arith, takes.next, takes.known)

pub rest_asked : IsIntent daily (with_table over) now intent.Rest
rest_asked = (no_call over now refl, no_start, no_table)

pub is_open_then : is_open 0 today (with_table opened) ≡ true
is_open_then = (Decides-int_eq today today).1 refl

abbrev pub call_row : SchedRow
call_row = record { name = record { job = 0; at = today }; kind = Launch; now = record { 0 = now }; by = 0 }
