-- In a book that obeys a script without commands each date on which a job may open is launched, and nothing else is held.
use Rattle.std.proofs.Common.{◌≡◌, ℕ, ◌<◌, ◌≤◌, Option, Some, None, List, ◌∷◌, ◌++◌, length, ℤ, ◌≤ℤ◌, ◌<ℤ◌, refl, sym, ap, ◌∙◌, inl, inr, subst, arith, append_assoc}
use Rattle.std.specs.List.{Contains}
use Rattle.std.proofs.lemmas.List.{length-append}
use Rattle.std.proofs.lemmas.Int.{ints, by_lt_z}
use Rattle.zone_minutes.specs.Civil.{day_number}
use Rattle.zone_minutes.specs.Zone.{local_of}
use Rattle.due_set.specs.Anacron.{IsJobOpen}
use Rattle.due_set.specs.Table.{IsAfter, IsRunByPeriod, Table}
use Rattle.due_set.proofs.OpenLemmas.{same_local}
use Rattle.paxos_base.specs.declared.entry.Entry.{Entry}
use Rattle.paxos_base.specs.declared.entry.Entry.TheVariants.{End, Start}
use Rattle.paxos_base.specs.declared.entry.Kind.{Kind}
use Rattle.paxos_base.specs.declared.entry.Kind.TheVariants.{Launch, Void}
use Rattle.paxos_base.specs.declared.rows.JobRow.{JobRow}
use Rattle.cluster_sched.specs.declared.row.SchedRow.{SchedRow}
use Rattle.launch_safety.specs.Fits.{Fits, HasEnd, IsEffective, IsHeld}
use Rattle.launch_safety.specs.Launched.{IsCalledAt, IsLatest, OpensBy}
use Rattle.launch_safety.proofs.EffectLemmas.{IsEffective-more, is_before, split_order}
use Rattle.launch_safety.proofs.FitLemmas.{end_started, held_once}
use Rattle.launch_safety.proofs.PeriodLemmas.{IsDated, clerk_dates}
use Rattle.agreement.specs.Log.{IsLog}
use Rattle.history.specs.Book.{Row, votes_in}
use Rattle.history.specs.Legal.{IsLegal}
use Rattle.history.proofs.Agreement.{book_log}
use Rattle.launch_safety.specs.Fitting.{held_in}
use Rattle.launch_safety.proofs.Whole.{held_first, whole}
use Rattle.run_outcome.specs.Whole.{AdoptsNone}
use Rattle.run_outcome.specs.Barred.{IsBarred, IsStartedLater, IsVoidedSooner}
use Rattle.run_outcome.proofs.DateLemmas.{later_than_each}
use Rattle.run_outcome.proofs.Minutes.{AllDrained}
use Rattle.run_outcome.proofs.Unscripted.{called_then, in_order, opens}

module _ (n : ℕ) (table : Table) (rows : List Row) (few : n ≤ 7) (legal : IsLegal n table rows) (adopts : AdoptsNone n table rows) (known : AllDrained n table rows) where
  abbrev held : List SchedRow
  held = held_in n table rows

  -- ---- no date is barred

  not_started : (job : ℕ) (now date : ℤ) → IsRunByPeriod table job → OpensBy table held job now date → IsStartedLater n table rows job now date → ⊥
  not_started job now date by_period by started =
      let call = called_then n table rows few legal adopts known started.log started.is_log job started.day started.then started.start by_period in
      let before = later_than_each table held job now date started.day started.then by call started.sooner in
      let later = started.later in
      omega (arith, ints, before, later)

  -- each row of such a job is a launch that was called at its start's reading
  module _ (log : List Entry) (is_log : IsLog n (votes_in rows) log) where
    fits : Fits table log held
    fits = whole n table rows few legal log is_log

    pub started_row : (row : SchedRow) → IsRunByPeriod table row.name.job → Contains held row
        → (now : ℤ) × IsEffective table log (Start row.name.job row.name.at now) × (row.kind ≡ Launch) × (row.now.0 ≡ now)
    started_row row by_period has =
        let (now, start) = (held_first n table rows log row few legal is_log (adopts log is_log) has).start in
        let call = called_then n table rows few legal adopts known log is_log row.name.job row.name.at now start by_period in
        let same : call.row ≡ row = held_once table log held call.row row fits call.among has call.of_job call.due_at in
        (now, start, sym (ap (λ (r : SchedRow). r.kind) same) ∙ call.of_kind, sym (ap (λ (r : SchedRow). r.now.0) same) ∙ call.called)

    -- the same of a launch that was called
    start_of : (job : ℕ) (date then : ℤ) (kind : Kind) → IsRunByPeriod table job → IsCalledAt held job date kind then → IsEffective table log (Start job date then) × (kind ≡ Launch)
    start_of job date then kind by_period call =
        let (now, start, launched, read) = started_row call.row (subst (IsRunByPeriod table) (sym call.of_job) by_period) call.among in
        let same : now ≡ then = sym read ∙ call.called in
        let of_job : IsEffective table log (Start job call.row.name.at now) = subst (λ number. IsEffective table log (Start number call.row.name.at now)) call.of_job start in
        let of_date : IsEffective table log (Start job date now) = subst (λ day. IsEffective table log (Start job day now)) call.due_at of_job in
        (subst (λ instant. IsEffective table log (Start job date instant)) same of_date, sym call.of_kind ∙ launched)

    pub not_voided : (job : ℕ) (now date : ℤ) → IsRunByPeriod table job → IsVoidedSooner held job now date → ⊥
    not_voided job now date by_period voided =
        let none : Void ≡ Launch = (start_of job voided.day voided.then Void by_period voided.void).1 in
        cc

    -- ---- each launch is of a date on which its job might open

    module _ (job : ℕ) (at now : ℤ) (start : IsEffective table log (Start job at now)) (by_period : IsRunByPeriod table job) where
      abbrev row : JobRow
      row = start.takes.2.row

      opened : IsJobOpen table 0 job row.last row.cursor now at
      opened = opens n table rows few legal adopts known log is_log job at now start by_period

      dated : IsDated table start.before job row.cursor row.open_now row.last
      dated = clerk_dates table start.before start.takes.0 job start.takes.2.known start.takes.1 row start.takes.2.is_row

      -- what has taken effect before stands in the log
      in_log : (entry : Entry) → IsEffective table start.before entry → IsEffective table log entry
      in_log entry before = subst (λ some. IsEffective table some entry) (sym start.parts) (IsEffective-more table start.before (Start job at now ∷ start.after) entry before)

      -- a start of a lower slot took effect before
      before_it : (other : Entry) (first : IsEffective table log other) → length first.before < length start.before → IsEffective table start.before other
      before_it other first lt = elim (split_order first.before start.before first.after start.after other (Start job at now) (sym first.parts ∙ start.parts)) [
        | inl (same, is) ↦ absurd (let long : length first.before ≡ length start.before = ap length same in omega (arith, lt, long))
        | inr (inl here) ↦ is_before table log other first start.before here
        | inr (inr behind) ↦ absurd (
            let long : length first.before ≡ length (start.before ++ Start job at now ∷ behind.after) = ap length behind.parts in
            omega (arith, lt, long, length-append start.before (Start job at now ∷ behind.after))
            )
      ]

      -- a launch that was called before is no later than the last that the row remembers
      launched_before : (date then : ℤ) → IsCalledAt held job date Launch then → then <ℤ now → (last : ℤ) × (row.last ≡ Some last) × (date ≤ℤ last)
      launched_before date then call sooner =
          let first = (start_of job date then Launch by_period call).0 in
          let order = in_order n table rows few legal adopts known log is_log job job date at then now first start sooner in
          let before = before_it (Start job date then) first order in
          let (kind, end) = (dated.started date (then, before)).idle start.takes.2.idle in
          let found : IsHeld held job date kind = fits.ended job date kind (in_log (End job date kind) end) in
          let same : found.row ≡ call.row = held_once table log held found.row call.row fits found.among call.among (found.of_job ∙ sym call.of_job) (found.due_at ∙ sym call.due_at) in
          let is : kind ≡ Launch = sym found.of_kind ∙ ap (λ (r : SchedRow). r.kind) same ∙ call.of_kind in
          let by = dated.launched date (subst (HasEnd table start.before job date) is end) in
          (by.at, by.is, by.le)

      -- the last that the row remembers was called before
      last_called : (last : ℤ) → row.last ≡ Some last → (then : ℤ) × IsCalledAt held job last Launch then × (then <ℤ now)
      last_called last is =
          let (then, before) = end_started table start.before job last Launch (dated.kept last is) in
          let first : IsEffective table log (Start job last then) =
          record {
            before = before.before;
            after = before.after ++ Start job at now ∷ start.after;
            parts = start.parts ∙ ap (λ some. some ++ Start job at now ∷ start.after) before.parts ∙ append_assoc before.before (Start job last then ∷ before.after) (Start job at now ∷ start.after);
            takes = before.takes;
          } in
          let earlier = opens n table rows few legal adopts known log is_log job last then first by_period in
          let cursor = dated.started last (then, before) in
          let below : last <ℤ at =
          (let after : cursor.at <ℤ day_number (local_of opened.zone now) = subst (λ (o : Option ℤ). IsAfter o (day_number (local_of opened.zone now))) cursor.is opened.may.on.later in
          let le = cursor.le in
          let shown = opened.is_date in
          omega (arith, ints, after, le, shown)) in
          let shown : last ≡ day_number (local_of opened.zone then) =
          earlier.is_date ∙ ap day_number (same_local table 0 job earlier.job opened.job earlier.zone opened.zone then earlier.is_in opened.is_in) in
          let differs : then ≡ now → ⊥ =
          (λ same.
          let here : last ≡ at = shown ∙ ap (λ instant. day_number (local_of opened.zone instant)) same ∙ sym opened.is_date in
          omega (arith, ints, below, here)) in (
            then,
            called_then n table rows few legal adopts known log is_log job last then first by_period,
            by_lt_z then now
                (λ lt. lt)
                (λ ge. by_lt_z now then
                (λ behind. absurd (
                let order = in_order n table rows few legal adopts known log is_log job job at last now then start first behind in
                let long : length start.before ≡ length (before.before ++ Start job last then ∷ before.after) = ap length before.parts in
                omega (arith, order, long, length-append before.before (Start job last then ∷ before.after))
                ))
                (λ le. absurd (differs (omega (arith, ints, ge, le))))),
          )

      latest : (last : Option ℤ) → row.last ≡ last → IsLatest held job now last
      latest None is = λ date then call sooner.
          let (last, is_last, le) = launched_before date then call sooner in
          let none : None ≡ Some last = sym is ∙ is_last in
          cc
      latest (Some last) is =
          let (then, call, sooner) = last_called last is in
          record {
            then = then;
            called = call;
            sooner = sooner;
            last = λ other day called before.
                let (most, is_most, le) = launched_before day other called before in
                let one : Some most ≡ Some last = sym is_most ∙ is in
                let same : most ≡ last = cc in
                omega (arith, ints, le, same);
          }

      -- the date is later than the last launch's too
      after_last : (last : Option ℤ) → row.last ≡ last → IsAfter last (day_number (local_of opened.zone now))
      after_last None is = tt
      after_last (Some last) is =
          let (then, before) = end_started table start.before job last Launch (dated.kept last is) in
          let cursor = dated.started last (then, before) in
          let after : cursor.at <ℤ day_number (local_of opened.zone now) = subst (λ (o : Option ℤ). IsAfter o (day_number (local_of opened.zone now))) cursor.is opened.may.on.later in
          let le = cursor.le in
          omega (arith, ints, after, le)

      pub opened_by : OpensBy table held job now at
      opened_by = record {
        last = row.last;
        latest = latest row.last refl;
        opens = record {
          job = opened.job;
          zone = opened.zone;
          is_in = opened.is_in;
          period = opened.period;
          first_minute = opened.first_minute;
          last_minute = opened.last_minute;
          kind = opened.kind;
          inside = opened.inside;
          may = record {
            since = opened.may.since;
            before = opened.may.before;
            on = record { later = after_last row.last refl; over = opened.may.on.over };
          };
          is_date = opened.is_date;
        };
      }

  pub none_barred : (job : ℕ) (now date : ℤ) → IsRunByPeriod table job → OpensBy table held job now date → IsBarred n table rows job now date → ⊥
  none_barred job now date by_period by (inl started) = not_started job now date by_period by started
  none_barred job now date by_period by (inr voided) =
      let (log, is_log) = book_log n table rows few legal in
      not_voided log is_log job now date by_period voided
