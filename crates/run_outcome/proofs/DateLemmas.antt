-- A job that may open on a date at an instant that the book passes is launched on it then, unless it's barred.
use Rattle.std.proofs.Common.{◌≡◌, ◌⊎◌, ℕ, ◌<◌, ◌≤◌, Option, Some, None, List, [], ◌++◌, length, take, drop, ℤ, ◌≤ℤ◌, ◌<ℤ◌, refl, sym, ap, ◌∙◌, inl, inr, subst, arith}
use Rattle.std.specs.List.{Contains, slice_get}
use Rattle.std.proofs.lemmas.Int.{ints, by_lt_z}
use Rattle.std.proofs.lemmas.Option.{slice_get_within}
use Rattle.std.proofs.lemmas.List.{take-append-drop}
use Rattle.zone_minutes.specs.Civil.{day_number}
use Rattle.zone_minutes.specs.Zone.{local_of}
use Rattle.due_set.specs.Anacron.{IsJobOpen, IsOverSince}
use Rattle.due_set.specs.Calls.{HasCome, IsOnTime}
use Rattle.due_set.specs.Table.{IsAfter, IsJobIn, Job, Table}
use Rattle.due_set.proofs.OpenLemmas.{same_local}
use Rattle.due_set.proofs.TableLemmas.{same_job}
use Rattle.due_set.specs.declared.job.JobKind.{JobKind}
use Rattle.paxos_base.specs.declared.entry.Entry.{Entry}
use Rattle.paxos_base.specs.declared.entry.Entry.TheVariants.{End, Start}
use Rattle.paxos_base.specs.declared.entry.Kind.{Kind}
use Rattle.paxos_base.specs.declared.entry.Kind.TheVariants.{Launch, Void}
use Rattle.paxos_base.specs.declared.rows.JobRow.{JobRow}
use Rattle.cluster_sched.specs.declared.row.SchedRow.{SchedRow}
use Rattle.launch_machine.specs.Clerk.{IsClerkOf, MayStart, first_force, first_rows, in_force}
use Rattle.launch_machine.specs.Starts.{AdoptionsOf}
use Rattle.launch_machine.specs.declared.force.InForce.{InForce}
use Rattle.launch_machine.proofs.MachineLemmas.{may_start_on, opens_by_period}
use Rattle.launch_safety.specs.Fits.{Fits, HasEnd, HasStart, IsEffective, IsHeld}
use Rattle.launch_safety.specs.Launched.{IsCalledAt, IsLatest, OpensBy}
use Rattle.launch_safety.proofs.EffectLemmas.{IsEffective-more}
use Rattle.launch_safety.proofs.OpenLemmas.{open_under}
use Rattle.launch_safety.proofs.PeriodLemmas.{IsDated, clerk_dates, opens_after_each}
use Rattle.step_spec.specs.State.{prefix_of}
use Rattle.agreement.specs.Log.{IsLog}
use Rattle.history.specs.Book.{Row, standing_after, votes_in}
use Rattle.history.specs.Legal.{IsLegal}
use Rattle.history.proofs.Agreement.{book_log}
use Rattle.launch_safety.specs.Fitting.{held_in}
use Rattle.launch_safety.proofs.Whole.{IsFirstBacked, effective_may, front_force, held_first, whole}
use Rattle.launch_safety.proofs.ReadLemmas.{held_by}
use Rattle.run_outcome.proofs.SettledLemmas.{Passes}
use Rattle.launch_safety.proofs.WholeReadings.{not_ahead}
use Rattle.run_outcome.specs.Barred.{IsBarred, IsVoidedSooner}
use Rattle.run_outcome.specs.Whole.{AdoptsNone}
use Rattle.run_outcome.proofs.FrontLemmas.{front_log, front_none, held_on, table_at}
use Rattle.history.proofs.FrontLemmas.{front_legal}
use Rattle.launch_safety.proofs.SettledLemmas.{row_of}

-- no launch that was called before is of the date or a later one
pub later_than_each : (table : Table) (held : List SchedRow) (job : ℕ) (now date at then : ℤ) → OpensBy table held job now date → IsCalledAt held job at Launch then → then <ℤ now → at <ℤ date
later_than_each table held job now date at then by called sooner = go by.last by.latest by.opens
  where
    go : (last : Option ℤ) → IsLatest held job now last → IsJobOpen table 0 job last last now date → at <ℤ date
    go None none opens = absurd (none at then called sooner)
    go (Some last) known opens =
        let low = known.last then at called sooner in
        let later : last <ℤ day_number (local_of opens.zone now) = opens.may.on.later in
        let is : date ≡ day_number (local_of opens.zone now) = opens.is_date in
        omega (arith, ints, low, later, is)

pub not_both : (kind : Kind) → kind ≡ Void → kind ≡ Launch → ⊥
not_both kind void launch = let both : Void ≡ Launch = sym void ∙ launch in cc

pub after_day : (at day shown : ℤ) → at ≡ day → at ≤ℤ shown → (shown ≡ at → ⊥) → day <ℤ shown
after_day at day shown is come off =
    by_lt_z at shown (λ lt. omega (arith, ints, lt, is)) (λ ge. let same : shown ≡ at = omega (arith, ints, come, ge) in absurd (off same))

module _ (n : ℕ) (table : Table) (book : List Row) (job : ℕ) (now date : ℤ) (few : n ≤ 7) (legal : IsLegal n table book) (adopts : AdoptsNone n table book)
    (by : OpensBy table (held_in n table book) job now date) (passes : Passes n table now book) (log : List Entry) (is_log : IsLog n (votes_in passes.front) log) where
  abbrev opens : IsJobOpen table 0 job by.last by.last now date
  opens = by.opens

  front_is : IsLegal n table passes.front
  front_is = front_legal n table passes.front passes.back (subst (λ rows. IsLegal n table rows) passes.parts legal)

  none : AdoptionsOf table log []
  none = front_none n table book few legal adopts passes.front passes.back passes.parts log is_log

  fits : Fits table log (held_in n table passes.front)
  fits = whole n table passes.front few front_is log is_log

  abbrev known_to : ℕ
  known_to = prefix_of ((standing_after n (first_rows table) passes.front).replicas passes.who)

  whole_log : take known_to log ++ drop known_to log ≡ log
  whole_log = take-append-drop known_to log

  known : job < length table.jobs
  known = slice_get_within table.jobs job opens.job opens.is_in.is_job

  clerk : IsClerkOf table (take known_to log) passes.asks.rows
  clerk = table_at n table passes.front log passes.who passes.asks.rows few front_is is_log passes.asks.rows_are

  first : first_force ≡ in_force table passes.asks.rows
  first = sym (front_force n table passes.front few front_is log is_log none (take known_to log) (drop known_to log) passes.asks.rows (sym whole_log) clerk)

  ended : (day : ℤ) (kind : Kind) → HasEnd table (take known_to log) job day kind → HasEnd table log job day kind
  ended day kind end = subst (λ some. HasEnd table some job day kind) whole_log (IsEffective-more table (take known_to log) (drop known_to log) (End job day kind) end)

  still_held : (row : SchedRow) → Contains (held_in n table passes.front) row → Contains (held_in n table book) row
  still_held row has = held_on n table book passes.front passes.back row passes.parts has

  -- a launch that has ended was called before the instant, or is the date's and was called then
  abbrev Called : ℤ → Type 0
  Called day = ((then : ℤ) × IsCalledAt (held_in n table book) job day Launch then × (then <ℤ now)) ⊎ IsCalledAt (held_in n table book) job date Launch now

  launched : (day : ℤ) → HasEnd table log job day Launch → Called day
  launched day end =
      let found : IsHeld (held_in n table passes.front) job day Launch = fits.ended job day Launch end in
      let row = found.row in
      let here : Contains (held_in n table book) row = still_held row found.among in
      let low : row.now.0 ≤ℤ now = held_by n table now passes.front row front_is passes.by found.among in
      let backed : IsFirstBacked table log row = held_first n table passes.front log row few front_is is_log none found.among in
      let is_in : IsJobIn table 0 row.name.job opens.job opens.zone = subst (λ number. IsJobIn table 0 number opens.job opens.zone) (sym found.of_job) opens.is_in in
      let on_time : day_number (local_of opens.zone row.now.0) ≡ row.name.at =
      subst (λ (k : JobKind). IsOnTime k opens.zone table.grace row.name.at row.now.0) opens.kind ((backed.kind opens.job opens.zone is_in).0 found.of_kind) in
      by_lt_z row.now.0 now
      (λ sooner. inl (
        row.now.0,
        record { row = row; among = here; of_job = found.of_job; due_at = found.due_at; of_kind = found.of_kind; called = refl },
        sooner,
      ))
      (λ not_sooner.
      let same : row.now.0 ≡ now = omega (arith, ints, low, not_sooner) in
      let day_is : row.name.at ≡ date = sym on_time ∙ ap (λ instant. day_number (local_of opens.zone instant)) same ∙ sym opens.is_date in
      inr (record { row = row; among = here; of_job = found.of_job; due_at = day_is; of_kind = found.of_kind; called = same }))

  abbrev Result : Type 0
  Result = IsCalledAt (held_in n table book) job date Launch now ⊎ IsBarred n table book job now date

  started_later : (day : ℤ) → HasStart table (take known_to log) job day → date <ℤ day → Result
  started_later day (then, early) later =
      let start : IsEffective table log (Start job day then) = subst (λ some. IsEffective table some (Start job day then)) whole_log (IsEffective-more table (take known_to log) (drop known_to log) (Start job day then) early) in
      let read : then ≤ℤ now = not_ahead n table passes.front log job day then now few front_is is_log start passes.by in
      let by_period = opens_by_period table job by.last by.last now date opens in
      let began = may_start_on table job start.takes.2.row day then by_period (effective_may n table passes.front few front_is log is_log none job day then start) in
      let shown : day ≡ day_number (local_of opens.zone then) =
      began.is_date ∙ ap day_number (same_local table 0 job began.job opens.job began.zone opens.zone then began.is_in opens.is_in) in
      let there = front_log n table book few legal passes.front passes.back log passes.parts is_log in
      inr (inl (record {
        log = there.whole;
        is_log = there.is_whole;
        day = day;
        then = then;
        start = subst (λ some. IsEffective table some (Start job day then)) (sym there.goes) (IsEffective-more table log there.more (Start job day then) start);
        sooner = by_lt_z then now
            (λ lt. lt)
            (λ not_sooner.
            let same : then ≡ now = omega (arith, ints, read, not_sooner) in
            let here : day ≡ date = shown ∙ ap (λ instant. day_number (local_of opens.zone instant)) same ∙ sym opens.is_date in
            absurd (omega (arith, ints, later, here)));
        later = later;
      }))

  -- a void of the date or a later one was called at an instant at which the zone showed a later date still
  void_later : (day : ℤ) → HasEnd table log job day Void → date ≤ℤ day → IsVoidedSooner (held_in n table book) job now date
  void_later day end low =
      let found : IsHeld (held_in n table passes.front) job day Void = fits.ended job day Void end in
      let row = found.row in
      let read : row.now.0 ≤ℤ now = held_by n table now passes.front row front_is passes.by found.among in
      let backed : IsFirstBacked table log row = held_first n table passes.front log row few front_is is_log none found.among in
      let is_in : IsJobIn table 0 row.name.job opens.job opens.zone = subst (λ number. IsJobIn table 0 number opens.job opens.zone) (sym found.of_job) opens.is_in in
      let spec = same_job table 0 row.name.job backed.spec opens.job backed.is_in.is_job is_in.is_job in
      let come_there : row.name.at ≤ℤ day_number (local_of backed.zone row.now.0) =
      subst (λ (k : JobKind). HasCome k backed.zone row.name.at row.now.0) (ap (λ (j : Job). j.kind) spec ∙ opens.kind) backed.come in
      let come : row.name.at ≤ℤ day_number (local_of opens.zone row.now.0) =
      subst (λ local. row.name.at ≤ℤ day_number local) (same_local table 0 row.name.job backed.spec opens.job backed.zone opens.zone row.now.0 backed.is_in is_in) come_there in
      let later : day <ℤ day_number (local_of opens.zone row.now.0) =
      after_day row.name.at day (day_number (local_of opens.zone row.now.0)) found.due_at come
      (λ same. not_both row.kind found.of_kind ((backed.kind opens.job opens.zone is_in).1
      (subst (λ (k : JobKind). IsOnTime k opens.zone table.grace row.name.at row.now.0) (sym opens.kind) same))) in
      let past : date <ℤ day_number (local_of opens.zone row.now.0) = omega (arith, ints, low, later) in
      record {
        day = day;
        then = row.now.0;
        void = record { row = row; among = still_held row found.among; of_job = found.of_job; due_at = found.due_at; of_kind = found.of_kind; called = refl };
        sooner = by_lt_z row.now.0 now
            (λ lt. lt)
            (λ not_sooner.
            let same : row.now.0 ≡ now = omega (arith, ints, read, not_sooner) in
            let shown : day_number (local_of opens.zone row.now.0) ≡ date = ap (λ instant. day_number (local_of opens.zone instant)) same ∙ sym opens.is_date in
            absurd (omega (arith, ints, past, shown)));
        reached = low;
      }

  module _ (row : JobRow) (is_row : slice_get passes.asks.rows job ≡ Some row) where
    dated : IsDated table (take known_to log) job row.cursor row.open_now row.last
    dated = clerk_dates table (take known_to log) passes.asks.rows job known clerk row is_row

    -- a launch that is open is of a later date
    opened : (cursor since : ℤ) → row.cursor ≡ Some cursor → row.open_now ≡ Some since → Result
    opened cursor since cursor_is is_open =
        by_lt_z date cursor
        (λ later. started_later cursor (dated.begun cursor cursor_is) later)
        (λ come. absurd (passes.asks.rests.0 job cursor (record {
          known = known;
          row = row;
          is_row = is_row;
          since = since;
          is_open = is_open;
          cursor = cursor_is;
          spec = opens.job;
          zone = opens.zone;
          is_in = subst (λ (force : InForce). IsJobIn table force.version job opens.job opens.zone) first opens.is_in;
          come = subst (λ (k : JobKind). HasCome k opens.zone cursor now) (sym opens.kind) (subst (λ day. cursor ≤ℤ day) opens.is_date come);
        })))

    -- one of the date or a later one has ended: as launched at the instant, or as a void
    ended_as : (cursor : ℤ) (kind : Kind) → row.cursor ≡ Some cursor → date ≤ℤ cursor → HasEnd table log job cursor kind → Result
    ended_as cursor Launch cursor_is low end = elim (launched cursor end) [
      | inl before ↦
          let later = later_than_each table (held_in n table book) job now date cursor before.0 by before.1 before.2 in
          absurd (omega (arith, ints, low, later))
      | inr called ↦ inl called
    ]
    ended_as cursor Void cursor_is low end = inr (inr (void_later cursor end low))

    -- where none was started on the date or later, the last launch was called at the instant: else the job could be started then
    not_started : row.open_now ≡ None → IsAfter row.cursor date → Result
    not_started idle later = go row.last refl
      where
        starts : IsOverSince opens.period row.last date → Result
        starts over = absurd (passes.asks.rests.1 job date (record {
          known = known;
          row = row;
          is_row = is_row;
          idle = idle;
          may = subst (λ (force : InForce). MayStart table force job row date now) first (inr (record {
            job = opens.job;
            zone = opens.zone;
            is_in = opens.is_in;
            period = opens.period;
            first_minute = opens.first_minute;
            last_minute = opens.last_minute;
            kind = opens.kind;
            inside = opens.inside;
            may = record {
              since = opens.may.since;
              before = opens.may.before;
              on = record {
                later = subst (IsAfter row.cursor) opens.is_date later;
                over = subst (IsOverSince opens.period row.last) opens.is_date over;
              };
            };
            is_date = opens.is_date;
          }));
        }))

        go : (last : Option ℤ) → row.last ≡ last → Result
        go None last_is = starts (subst (λ (o : Option ℤ). IsOverSince opens.period o date) (sym last_is) tt)
        go (Some last) last_is = elim (launched last (ended last Launch (dated.kept last last_is))) [
          | inl before ↦
              starts (subst (λ (o : Option ℤ). IsOverSince opens.period o date) (sym last_is)
              (opens_after_each table (held_in n table book) job now date last before.0 by before.1 before.2 opens.job opens.period opens.first_minute opens.last_minute opens.is_in.is_job opens.kind))
          | inr called ↦ inl called
        ]

    by_row : (cursor open_now : Option ℤ) → row.cursor ≡ cursor → row.open_now ≡ open_now → Result
    by_row cursor (Some since) cursor_is is_open =
        let open_since = open_under table (take known_to log) passes.asks.rows job row since clerk is_row is_open in opened open_since.at since open_since.is is_open
    by_row None None cursor_is is_open = not_started is_open (subst (λ (o : Option ℤ). IsAfter o date) (sym cursor_is) tt)
    by_row (Some cursor) None cursor_is is_open =
        by_lt_z cursor date
        (λ after. not_started is_open (subst (λ (o : Option ℤ). IsAfter o date) (sym cursor_is) after))
        (λ low.
        let (kind, end) = (dated.started cursor (dated.begun cursor cursor_is)).idle is_open in
        ended_as cursor kind cursor_is low (ended cursor kind end))

  with_log : Result
  with_log =
      let found = row_of table (take known_to log) passes.asks.rows job clerk known in by_row found.0 found.1 found.0.cursor found.0.open_now refl refl

pub on_date : (n : ℕ) (table : Table) (book : List Row) (job : ℕ) (now date : ℤ) → n ≤ 7 → IsLegal n table book → AdoptsNone n table book → OpensBy table (held_in n table book) job now date
    → Passes n table now book → IsCalledAt (held_in n table book) job date Launch now ⊎ IsBarred n table book job now date
on_date n table book job now date few legal adopts by passes =
    let (log, is_log) = book_log n table passes.front few (front_legal n table passes.front passes.back (subst (λ rows. IsLegal n table rows) passes.parts legal)) in
    with_log n table book job now date few legal adopts by passes log is_log
