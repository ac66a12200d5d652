-- A legal book in which a job that runs by its period is launched on two dates, a day apart.
use Rattle.std.proofs.Common.{◌≡◌, ℕ, zero, suc, ◌+◌, ◌<◌, ℤ, pos, ◌+ℤ◌, ◌≤ℤ◌, true, Option, Some, None, List, [], ◌∷◌, ◌++◌, refl, sym, ap, ◌∙◌, inl, inr, arith, subst, lit<, ◌↔◌}
use Rattle.std.specs.List.{slice_get}
use Rattle.std.proofs.lemmas.Int.{ints}
use Rattle.std.proofs.lemmas.Bool.Decides.{Decides-int_eq}
use Rattle.std.proofs.lemmas.List.Elements.{All-cons, All-nil}
use Rattle.jiff.specs.Types.{TimeZone}
use Rattle.zone_minutes.specs.Civil.{day_number}
use Rattle.zone_minutes.specs.Window.{IsInWindow}
use Rattle.zone_minutes.specs.Zone.{FixedOffset, IsReadAs, Zone, local_of}
use Rattle.zone_minutes.specs.declared.minute.Window.{Window}
use Rattle.zone_minutes.proofs.ZoneLemmas.{local_of-fixed}
use Rattle.due_set.specs.Anacron.{IsJobOpen, IsOverSince, MayOpenOn}
use Rattle.due_set.specs.Calls.{IsOnTime}
use Rattle.due_set.proofs.SoundLemmas.{no_later}
use Rattle.due_set.specs.Table.{IsKindOfName, IsAfter, IsBuiltFor, IsJobIn, IsSound, Job, Table, utc_over}
use Rattle.due_set.specs.declared.job.JobKind.TheVariants.{Anacron}
use Rattle.due_set.specs.declared.job.Period.TheVariants.{Days}
use Rattle.due_set.proofs.MatchingLemmas.{minute_of_day-below}
use Rattle.paxos_base.specs.Vote.{put_vote}
use Rattle.paxos_base.specs.declared.entry.Entry.{Entry}
use Rattle.paxos_base.specs.declared.entry.Entry.TheVariants as entry
use Rattle.paxos_base.specs.declared.entry.Kind.TheVariants.{Launch}
use Rattle.paxos_base.specs.declared.entry.Vote.{Vote}
use Rattle.paxos_base.specs.Rows.{fresh_row}
use Rattle.paxos_base.specs.declared.rows.JobRow.{JobRow}
use Rattle.cluster_sched.specs.declared.fate.Fate.TheVariants.{Done}
use Rattle.cluster_sched.specs.declared.row.SchedRow.{SchedRow}
use Rattle.launch_machine.specs.Answers.{IsCallKind, IsIntent}
use Rattle.launch_machine.specs.Clerk.{Applies, AppliesAll, TakesStart, first_rows}
use Rattle.launch_machine.specs.Intent.{NoCall}
use Rattle.launch_machine.specs.declared.machine.Intent.TheVariants as intent
use Rattle.step_spec.specs.Propose.{is_open}
use Rattle.history.specs.Book.{Row}
use Rattle.history.specs.Legal.{IsLegal}
use Rattle.history.proofs.Turns.{Book}
use Rattle.launch_safety.specs.Parts.{HasTwoDates}
use Rattle.launch_safety.proofs.Alone.{Stands, calls, end, leading, led, start, vote}
use Rattle.launch_safety.proofs.Ended.{ends_alone}
use Rattle.history.proofs.Asks.{utc, with_table}

-- ---- the table: a job that runs each day, in UTC, over a window of two days

abbrev daily_job : Job
daily_job = record { name = 47 ∷ []; zone = 0; kind = Anacron (Days 1) 0 1440 }

abbrev two_days : Window
two_days = record { from = record { 0 = pos 525_600 }; until = record { 0 = pos 528_480 } }

abbrev only_zone : Zone
only_zone = utc_over two_days

abbrev daily : Table
daily = record { window = two_days; grace = 0; zones = only_zone ∷ []; jobs = daily_job ∷ []; later = [] }

sound : IsSound daily
sound = record {
  limits = record { since = grind arith; until = grind arith; ordered = grind arith; short = grind arith };
  grace = omega arith;
  built = All-cons (IsBuiltFor daily.window) only_zone [] (record { from = refl; until = refl; read = utc }) (All-nil (IsBuiltFor daily.window));
  zone_numbers = All-cons (λ job. job.zone < 1) daily_job [] (lit< tt) (All-nil (λ job. job.zone < 1));
  few = omega arith;
  distinct = λ i j d before within. absurd (omega (arith, before, within));
  kinds = All-cons (λ job. IsKindOfName job.name job.kind) daily_job [] refl (All-nil (λ job. IsKindOfName job.name job.kind));
  versions = no_later daily;
}

job_in : IsJobIn daily 0 0 daily_job utc.0
job_in = record { is_job = refl; source = only_zone; is_zone = refl; read = utc.1 }

-- the job of the table is that one, in UTC
only_one : (spec : Job) (zone : TimeZone) → IsJobIn daily 0 0 spec zone → (daily_job ≡ spec) × IsReadAs (FixedOffset (pos 0)) zone
only_one spec zone is_in =
    let same : daily_job ≡ spec = first_job daily_job spec is_in.is_job in
    let at : slice_get daily.zones 0 ≡ Some is_in.source = subst (λ (job : Job). slice_get daily.zones job.zone ≡ Some is_in.source) (sym same) is_in.is_zone in
    let source : only_zone ≡ is_in.source = first_zone only_zone is_in.source at in
    (same, subst (λ (z : Zone). IsReadAs z.source zone) (sym source) is_in.read)
  where
    first_job : (a b : Job) → Some a ≡ Some b → a ≡ b
    first_job a b is = cc

    first_zone : (a b : Zone) → Some a ≡ Some b → a ≡ b
    first_zone a b is = cc

-- ---- a date of the job: an instant, and the day that it is

record IsOn (now date : ℤ) : Type 0 where
  inside : IsInWindow two_days now
  day : day_number (now +ℤ pos 0) ≡ date

shown_on : (now date : ℤ) (zone : TimeZone) → IsOn now date → IsReadAs (FixedOffset (pos 0)) zone → day_number (local_of zone now) ≡ date
shown_on now date zone on read = ap day_number (local_of-fixed (pos 0) now zone read) ∙ on.day

opens : (last cursor : Option ℤ) (now date : ℤ) → IsOn now date → IsAfter cursor date → IsOverSince (Days 1) last date → IsJobOpen daily 0 0 last cursor now date
opens last cursor now date on later over =
    let shown = shown_on now date utc.0 on utc.1 in
    record {
      job = daily_job;
      zone = utc.0;
      is_in = job_in;
      period = Days 1;
      first_minute = 0;
      last_minute = 1440;
      kind = refl;
      inside = on.inside;
      may = record {
        since = omega arith;
        before = minute_of_day-below (local_of utc.0 now);
        on = subst (MayOpenOn (Days 1) last cursor) (sym shown) (record { later = later; over = over });
      };
      is_date = sym shown;
    }

-- the row of the job: idle since its last date, and open on a date
abbrev idle : Option ℤ → ℕ → JobRow
idle last count = record { job = 0; cursor = last; open_now = None; last = last; launched = count; voided = 0 }

abbrev opened : Option ℤ → ℕ → ℤ → ℤ → JobRow
opened last count now date = record (idle last count) { cursor = Some date; open_now = Some now }

takes_start : (last : Option ℤ) (count : ℕ) (now date : ℤ) → IsOn now date → IsAfter last date → IsOverSince (Days 1) last date → TakesStart daily (with_table (idle last count)) 0 date now
takes_start last count now date on later over = record { known = lit< tt; row = idle last count; is_row = refl; idle = refl; may = inr (opens last last now date on later over) }

no_call : (last : Option ℤ) (count : ℕ) (now : ℤ) → NoCall daily (with_table (idle last count)) now
no_call last count now zero at may = let row : idle last count ≡ may.row = cc in let shut : None ≡ Some may.since = ap (λ r. r.open_now) row ∙ may.is_open in cc
no_call last count now (suc zero) at may = let row : fresh_row 1 ≡ may.row = cc in let shut : None ≡ Some may.since = ap (λ r. r.open_now) row ∙ may.is_open in cc
no_call last count now (suc (suc job)) at may = let none : None ≡ Some may.row = may.is_row in cc

start_asked : (last : Option ℤ) (count : ℕ) (now date : ℤ) → IsOn now date → IsAfter last date → IsOverSince (Days 1) last date → IsIntent daily (with_table (idle last count)) now (intent.Start 0 date)
start_asked last count now date on later over =
    (no_call last count now, record { takes = takes_start last count now date on later over; first = λ before other less it. absurd (omega (arith, less)) })

call_kind : (now date : ℤ) → IsOn now date → IsCallKind daily 0 0 date now Launch
call_kind now date on spec zone is_in =
    let one = only_one spec zone is_in in
    subst (λ (job : Job). (Launch ≡ Launch) ↔ IsOnTime job.kind zone 0 date now) one.0 ((λ it. shown_on now date zone on one.1), (λ it. refl))

call_asked : (last : Option ℤ) (count : ℕ) (now date : ℤ) → IsOn now date → IsIntent daily (with_table (opened last count now date)) now (intent.Call 0 date Launch)
call_asked last count now date on = (
  record {
    may = record {
      known = lit< tt;
      row = opened last count now date;
      is_row = refl;
      since = now;
      is_open = refl;
      cursor = refl;
      spec = daily_job;
      zone = utc.0;
      is_in = job_in;
      come = subst (λ day. date ≤ℤ day) (sym (shown_on now date utc.0 on utc.1)) (omega (arith, ints));
    };
    first = λ before other less may. absurd (omega (arith, less));
  },
  call_kind now date on,
)

start_applies : (last : Option ℤ) (count : ℕ) (now date : ℤ) → IsOn now date → IsAfter last date → IsOverSince (Days 1) last date
    → Applies daily (with_table (idle last count)) (entry.Start 0 date now) (with_table (opened last count now date))
start_applies last count now date on later over = inl (takes_start last count now date on later over, refl)

end_applies : (last : Option ℤ) (count : ℕ) (now date : ℤ) → Applies daily (with_table (opened last count now date)) (entry.End 0 date Launch) (with_table (idle (Some date) (count + 1)))
end_applies last count now date = inl (record { row = opened last count now date; is_row = refl; since = now; is_open = refl; cursor = refl }, refl)

opened_there : (last : Option ℤ) (count : ℕ) (now date : ℤ) → is_open 0 date (with_table (opened last count now date)) ≡ true
opened_there last count now date = (Decides-int_eq date date).1 refl

abbrev launch : (now date : ℤ) → SchedRow
launch now date = record { name = record { job = 0; at = date }; kind = Launch; now = record { 0 = now }; by = 0 }

-- ---- the two dates

abbrev now1 : ℤ
now1 = pos 525_600

abbrev now2 : ℤ
now2 = pos 527_040

on1 : IsOn now1 (pos 365)
on1 = record { inside = record { since = omega (arith, ints); before = omega (arith, ints) }; day = refl }

on2 : IsOn now2 (pos 366)
on2 = record { inside = record { since = omega (arith, ints); before = omega (arith, ints) }; day = refl }

abbrev start1 : Entry
start1 = entry.Start 0 (pos 365) now1

abbrev end1 : Entry
end1 = entry.End 0 (pos 365) Launch

abbrev start2 : Entry
start2 = entry.Start 0 (pos 366) now2

abbrev end2 : Entry
end2 = entry.End 0 (pos 366) Launch

abbrev votes1 : List Vote
votes1 = put_vote (vote 0 start1) []

abbrev votes2 : List Vote
votes2 = put_vote (vote 1 end1) votes1

abbrev votes3 : List Vote
votes3 = put_vote (vote 2 start2) votes2

abbrev votes4 : List Vote
votes4 = put_vote (vote 3 end2) votes3

abbrev open1 : List JobRow
open1 = with_table (opened None 0 now1 (pos 365))

abbrev idle1 : List JobRow
idle1 = with_table (idle (Some (pos 365)) 1)

abbrev open2 : List JobRow
open2 = with_table (opened (Some (pos 365)) 1 now2 (pos 366))

applied1 : AppliesAll daily (first_rows daily) (start1 ∷ []) open1
applied1 = (open1, start_applies None 0 now1 (pos 365) on1 tt tt, refl)

applied2 : AppliesAll daily (first_rows daily) (start1 ∷ end1 ∷ []) idle1
applied2 = (open1, start_applies None 0 now1 (pos 365) on1 tt tt, (idle1, end_applies None 0 now1 (pos 365), refl))

later2 : IsAfter (Some (pos 365)) (pos 366)
later2 = omega (arith, ints)

over2 : IsOverSince (Days 1) (Some (pos 365)) (pos 366)
over2 = omega (arith, ints)

applied3 : AppliesAll daily (first_rows daily) (start1 ∷ end1 ∷ start2 ∷ []) open2
applied3 = (open1, start_applies None 0 now1 (pos 365) on1 tt tt, (idle1, end_applies None 0 now1 (pos 365), (open2, start_applies (Some (pos 365)) 1 now2 (pos 366) on2 later2 over2, refl)))

abbrev held1 : List SchedRow
held1 = launch now1 (pos 365) ∷ []

abbrev held2 : List SchedRow
held2 = held1 ++ launch now2 (pos 366) ∷ []

first_book : Book 1 daily (Stands (leading daily votes2 (start1 ∷ end1 ∷ [])) held1 [] [] None)
first_book =
    end daily votes1 (start1 ∷ []) held1 [] [] (launch now1 (pos 365)) open1 applied1 (opened_there None 0 now1 (pos 365))
    (calls daily votes1 (start1 ∷ []) [] [] [] None open1 0 (pos 365) now1 Launch Done (Some (launch now1 (pos 365))) (lit< tt) on1.inside applied1 (call_asked None 0 now1 (pos 365) on1) refl
    (start daily [] [] [] [] [] None (with_table (idle None 0)) 0 (pos 365) now1 (lit< tt) on1.inside refl (start_asked None 0 now1 (pos 365) on1 tt tt) (led daily)))

second_book : Book 1 daily (Stands (leading daily votes4 (start1 ∷ end1 ∷ start2 ∷ end2 ∷ [])) held2 [] [] None)
second_book =
    end daily votes3 (start1 ∷ end1 ∷ start2 ∷ []) held2 [] [] (launch now2 (pos 366)) open2 applied3 (opened_there (Some (pos 365)) 1 now2 (pos 366))
    (calls daily votes3 (start1 ∷ end1 ∷ start2 ∷ []) held1 [] [] None open2 0 (pos 366) now2 Launch Done (Some (launch now2 (pos 366))) (lit< tt) on2.inside applied3 (call_asked (Some (pos 365)) 1 now2 (pos 366) on2) refl
    (start daily votes2 (start1 ∷ end1 ∷ []) held1 [] [] None idle1 0 (pos 366) now2 (lit< tt) on2.inside applied2 (start_asked (Some (pos 365)) 1 now2 (pos 366) on2 later2 over2) first_book))

pub two_dates : (table : Table) × (book : List Row) × IsSound table × IsLegal 1 table book × HasTwoDates 1 table book
two_dates = (
  daily,
  second_book.rows,
  sound,
  second_book.legal,
  record {
    job = 0;
    by_period = (daily_job, refl, tt);
    first = pos 365;
    second = pos 366;
    later = omega (arith, ints);
    first_ended = ends_alone daily votes4 (start1 ∷ end1 ∷ start2 ∷ end2 ∷ []) held2 [] [] None (start1 ∷ []) (start2 ∷ end2 ∷ []) 0 (pos 365) Launch refl second_book;
    second_ended = ends_alone daily votes4 (start1 ∷ end1 ∷ start2 ∷ end2 ∷ []) held2 [] [] None (start1 ∷ end1 ∷ start2 ∷ []) [] 0 (pos 366) Launch refl second_book;
  },
)
