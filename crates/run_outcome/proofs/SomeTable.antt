-- A table of one job that is due at each of two minutes, and what its launch table asks for, launch after launch.
use Rattle.std.proofs.Common.{◌≡◌, ℕ, zero, suc, ◌+◌, ◌<◌, ℤ, pos, Option, Some, None, List, [], ◌∷◌, refl, sym, ap, ◌∙◌, arith, subst, lit<, ◌↔◌, inl, inr}
use Rattle.std.proofs.lemmas.Int.{ints}
use Rattle.std.proofs.lemmas.List.Elements.{All-cons, All-nil}
use Rattle.zone_minutes.specs.Window.{IsInWindow}
use Rattle.zone_minutes.specs.Zone.{Zone}
use Rattle.zone_minutes.specs.declared.minute.Window.{Window}
use Rattle.zone_minutes.proofs.ZoneLemmas.{local_of-fixed}
use Rattle.due_set.specs.Calls.{IsOnTime}
use Rattle.due_set.proofs.SoundLemmas.{no_later}
use Rattle.due_set.specs.Table.{IsKindOfName, IsBuiltFor, IsJobDue, IsJobIn, IsNextDue, IsSound, Job, Table, utc_over}
use Rattle.paxos_base.specs.Rows.{fresh_row}
use Rattle.paxos_base.specs.declared.entry.Entry.{Entry}
use Rattle.paxos_base.specs.declared.entry.Entry.TheVariants as entry
use Rattle.paxos_base.specs.declared.entry.Kind.TheVariants.{Launch}
use Rattle.paxos_base.specs.declared.rows.JobRow.{JobRow}
use Rattle.launch_machine.specs.Answers.{IsCallKind, IsIntent}
use Rattle.launch_machine.specs.Clerk.{Applies, MayStart, TakesStart, first_force, NoStart, NoTable}
use Rattle.launch_machine.specs.Intent.{NoCall}
use Rattle.launch_machine.specs.declared.machine.Intent.TheVariants as intent
use Rattle.launch_machine.proofs.MachineLemmas.{due_or_opens}
use Rattle.history.proofs.Asks.{utc, nothing_below, each_minute, only_job, matches_all, with_table}

-- ---- the table

abbrev two_minutes : Window
two_minutes = record { from = record { 0 = pos 525_600 }; until = record { 0 = pos 525_602 } }

abbrev only_zone : Zone
only_zone = utc_over two_minutes

abbrev pub brief : Table
brief = record { window = two_minutes; grace = 2; zones = only_zone ∷ []; jobs = only_job ∷ []; later = [] }

-- the minutes of the window, from 0 on
abbrev pub minute : ℕ → ℤ
minute k = pos (525_600 + k)

pub in_window : (k : ℕ) → k < 2 → IsInWindow brief.window (minute k)
in_window k within = record { since = omega (arith, ints); before = omega (arith, ints, within) }

pub sound : IsSound brief
sound = record {
  limits = record { since = grind arith; until = grind arith; ordered = grind arith; short = grind arith };
  grace = omega arith;
  built = All-cons (IsBuiltFor brief.window) only_zone [] (record { from = refl; until = refl; read = utc }) (All-nil (IsBuiltFor brief.window));
  zone_numbers = All-cons (λ job. job.zone < 1) only_job [] (lit< tt) (All-nil (λ job. job.zone < 1));
  few = omega arith;
  distinct = λ i j d before within. absurd (omega (arith, before, within));
  kinds = All-cons (λ job. IsKindOfName job.name job.kind) only_job [] refl (All-nil (λ job. IsKindOfName job.name job.kind));
  versions = no_later brief;
}

-- ---- when the job is due

job_in : IsJobIn brief 0 0 only_job utc.0
job_in = record { is_job = refl; source = only_zone; is_zone = refl; read = utc.1 }

pub due : (k : ℕ) → k < 2 → IsJobDue brief 0 0 (minute k)
due k within = record {
  job = only_job;
  zone = utc.0;
  is_in = job_in;
  fields = each_minute;
  kind = refl;
  inside = in_window k within;
  due = let shown = local_of-fixed (pos 0) (minute k) utc.0 utc.1 in rw shown (matches_all _ (omega (arith, ints, within), omega (arith, ints, within)));
}

-- the minute of the launch before, where there is one
abbrev minute_before : ℕ → Option ℤ
minute_before zero = None
minute_before (suc k) = Some (minute k)

next : (k : ℕ) → k < 2 → IsNextDue brief 0 0 (minute_before k) (minute k)
next zero within = record { due = due zero within; later = tt; least = λ other is after. is.inside.since }
next (suc k) within = record { due = due (suc k) within; later = omega (arith, ints); least = λ other is after. omega (arith, ints, after) }

-- ---- the launch table, after so many launches

-- after so many launches
abbrev pub idle : ℕ → JobRow
idle k = record { job = 0; cursor = minute_before k; open_now = None; last = minute_before k; launched = k; voided = 0 }

-- the next of them is open
abbrev pub opened : ℕ → JobRow
opened k = record (idle k) { cursor = Some (minute k); open_now = Some (minute k) }

-- the entries of a launch
abbrev pub start_entry : ℕ → Entry
start_entry k = entry.Start 0 (minute k) (minute k)

abbrev pub end_entry : ℕ → Entry
end_entry k = entry.End 0 (minute k) Launch

takes_start : (k : ℕ) → k < 2 → TakesStart brief (with_table (idle k)) 0 (minute k) (minute k)
takes_start k within = record { known = lit< tt; row = idle k; is_row = refl; idle = refl; may = inl (next k within, omega (arith, ints)) }

pub start_applies : (k : ℕ) → k < 2 → Applies brief (with_table (idle k)) (start_entry k) (with_table (opened k))
start_applies k within = inl (takes_start k within, refl)

pub end_applies : (k : ℕ) → Applies brief (with_table (opened k)) (end_entry k) (with_table (idle (suc k)))
end_applies k = inl (
  record { row = opened k; is_row = refl; since = minute k; is_open = refl; cursor = refl },
  let more : k + 1 ≡ suc k = omega arith in rw more refl,
)

no_call : (k : ℕ) (now : ℤ) → NoCall brief (with_table (idle k)) now
no_call k now zero at may = let row : idle k ≡ may.row = cc in let shut : None ≡ Some may.since = ap (λ r. r.open_now) row ∙ may.is_open in cc
no_call k now (suc zero) at may = let row : fresh_row 1 ≡ may.row = cc in let shut : None ≡ Some may.since = ap (λ r. r.open_now) row ∙ may.is_open in cc
no_call k now (suc (suc job)) at may = let none : None ≡ Some may.row = may.is_row in cc

pub start_asked : (k : ℕ) → k < 2 → IsIntent brief (with_table (idle k)) (minute k) (intent.Start 0 (minute k))
start_asked k within = (no_call k (minute k), record { takes = takes_start k within; first = λ before other less it. nothing_below before less })

on_time : (k : ℕ) → IsCallKind brief 0 0 (minute k) (minute k) Launch
on_time k spec zone is_in =
    let same : only_job ≡ spec = cc_some only_job spec is_in.is_job in
    subst (λ (job : Job). (Launch ≡ Launch) ↔ IsOnTime job.kind zone 2 (minute k) (minute k)) same ((λ it. omega (arith, ints)), (λ it. refl))
  where
    cc_some : (a b : Job) → Some a ≡ Some b → a ≡ b
    cc_some a b is = cc

pub call_asked : (k : ℕ) → IsIntent brief (with_table (opened k)) (minute k) (intent.Call 0 (minute k) Launch)
call_asked k = (
  record {
    may = record { known = lit< tt; row = opened k; is_row = refl; since = minute k; is_open = refl; cursor = refl; spec = only_job; zone = utc.0; is_in = job_in; come = omega (arith, ints) };
    first = λ before other less may. nothing_below before less;
  },
  on_time k,
)

-- the next minute has not come
no_start : (k : ℕ) → NoStart brief (with_table (idle (suc k))) (minute k)
no_start k zero at takes =
    let row : idle (suc k) ≡ takes.row = cc in
    by_may (subst (λ (r : JobRow). MayStart brief first_force 0 r at (minute k)) (sym row) takes.may)
  where
    by_may : MayStart brief first_force 0 (idle (suc k)) at (minute k) → ⊥
    by_may (inl (next, come)) = let later = next.later in omega (arith, ints, later, come)
    by_may (inr opens) = due_or_opens brief 0 0 _ _ (minute 0) (minute k) at (due 0 (lit< tt)) opens
no_start k (suc job) at takes = let below : suc job < 1 = takes.known in omega (arith, below)

-- the table has one version
no_table : (rows : List JobRow) (now : ℤ) → NoTable brief rows now
no_table rows now version takes = omega (arith, takes.next, takes.known)

pub rest_asked : (k : ℕ) → IsIntent brief (with_table (idle (suc k))) (minute k) intent.Rest
rest_asked k = (no_call (suc k) (minute k), no_start k, no_table (with_table (idle (suc k))) (minute k))
