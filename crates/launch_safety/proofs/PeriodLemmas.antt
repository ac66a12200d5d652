-- The launches of a job are a period apart: a row remembers the latest of those that ended.
use Rattle.std.proofs.Common.{◌≡◌, ℕ, zero, suc, ◌+◌, ◌<◌, length, inl, inr, List, [], ◌∷◌, ◌++◌, get_or, Option, None, Some, ℤ, ◌≤ℤ◌, ◌<ℤ◌, refl, sym, ap, ◌∙◌, subst, arith}
use Rattle.std.specs.Prelude.{All, map, slice_get}
use Rattle.std.specs.List.{range_with_len}
use Rattle.std.proofs.lemmas.Int.{ints, by_lt_z}
use Rattle.std.proofs.lemmas.List.{append-nil, append_assoc}
use Rattle.std.proofs.lemmas.List.Elements.{All-contains}
use Rattle.paxos_base.specs.declared.entry.Entry.{Entry}
use Rattle.paxos_base.specs.declared.entry.Entry.TheVariants.{Noop, Start, End, Table as TableEntry}
use Rattle.paxos_base.specs.declared.entry.Kind.{Kind}
use Rattle.paxos_base.specs.declared.entry.Kind.TheVariants.{Launch, Void}
use Rattle.paxos_base.specs.declared.rows.JobRow.{JobRow}
use Rattle.due_set.specs.Anacron.{IsJobOpen, IsOverSince}
use Rattle.due_set.specs.Table.{Job, Table, IsAfter, IsAnacron, job_of_version}
use Rattle.due_set.specs.declared.job.JobKind.TheVariants.{Anacron}
use Rattle.due_set.specs.declared.job.Period.{Period}
use Rattle.due_set.proofs.OpenLemmas.{IsPeriodOver-since}
use Rattle.due_set.proofs.TableLemmas.{same_job}
use Rattle.cluster_sched.specs.Held.{AreNamedOnce}
use Rattle.cluster_sched.specs.declared.row.SchedRow.{SchedRow}
use Rattle.paxos_base.specs.Rows.{fresh_row, row_count}
use Rattle.launch_machine.specs.Clerk.{Applies, AppliesAll, IsClerkOf, MayStart, TakesStart, TakesEnd, TakesEffect, adopted_row, closed_row, first_rows, in_force, opened_row, table_size, with_row}
use Rattle.launch_machine.specs.declared.force.InForce.{InForce}
use Rattle.launch_machine.proofs.ClerkLemmas.{IsClerkOf-push}
use Rattle.launch_machine.proofs.MachineLemmas.{closed_cursor, set_there}
use Rattle.std.proofs.lemmas.Bool.{cases_eq}
use Rattle.launch_machine.proofs.StartLemmas.{changed, may_start_later}
use Rattle.launch_safety.specs.Fits.{ArePeriodsApart, HasStart, HasEnd, IsBacked, IsEffective, IsHeld, IsPeriodApart}
use Rattle.launch_safety.specs.Launched.{IsCalledAt, IsLatest, OpensBy}
use Rattle.launch_safety.proofs.CoverLemmas.{HasStart-more}
use Rattle.launch_safety.proofs.EffectLemmas.{IsEffective-last, IsEffective-more, effective_cases, is_before, nothing_effective, split_order, was_started}
use Rattle.launch_safety.proofs.FitLemmas.{end_started, row_once}

-- a launch that was started is at most the row's cursor, and has ended where the row isn't open at it
pub record IsStartedBy (table : Table) (log : List Entry) (job : ℕ) (cursor open_now : Option ℤ) (t : ℤ) : Type 0 where
  pub at : ℤ
  pub is : cursor ≡ Some at
  pub le : t ≤ℤ at
  pub idle : open_now ≡ None → (kind : Kind) × HasEnd table log job t kind
  pub before : t <ℤ at → (kind : Kind) × HasEnd table log job t kind

-- a launch that has ended is at most the row's last
pub record IsLaunchedBy (last : Option ℤ) (t : ℤ) : Type 0 where
  pub at : ℤ
  pub is : last ≡ Some at
  pub le : t ≤ℤ at

-- what the log started and ended is what the row says: the latest that was started is its cursor, and the latest launch its last
pub record IsDated (table : Table) (log : List Entry) (job : ℕ) (cursor open_now last : Option ℤ) : Type 0 where
  pub started : (t : ℤ) → HasStart table log job t → IsStartedBy table log job cursor open_now t
  pub launched : (t : ℤ) → HasEnd table log job t Launch → IsLaunchedBy last t
  pub begun : (t : ℤ) → cursor ≡ Some t → HasStart table log job t
  pub kept : (t : ℤ) → last ≡ Some t → HasEnd table log job t Launch

-- the job's row, where there is one, says what the log started and ended
abbrev HasDates : Table → List Entry → List JobRow → ℕ → Type 0
HasDates table log rows job = (row : JobRow) → slice_get rows job ≡ Some row → IsDated table log job row.cursor row.open_now row.last

-- what one more entry leaves of what was started
started_more : (table : Table) (log more : List Entry) (job : ℕ) (cursor open_now : Option ℤ) (t : ℤ) → IsStartedBy table log job cursor open_now t
    → IsStartedBy table (log ++ more) job cursor open_now t
started_more table log more job cursor open_now t known = record {
  at = known.at;
  is = known.is;
  le = known.le;
  idle = λ is_idle. let ended = known.idle is_idle in (ended.0, IsEffective-more table log more (End job t ended.0) ended.1);
  before = λ lt. let ended = known.before lt in (ended.0, IsEffective-more table log more (End job t ended.0) ended.1);
}

-- an entry of another job, or one without effect, leaves the row and what it says
module _ (table : Table) (log : List Entry) (rows middle : List JobRow) (entry : Entry) (job : ℕ) (clerk : IsClerkOf table log rows)
    (left : slice_get middle job ≡ slice_get rows job) (known : HasDates table log rows job) where
  dates_left : ((t now : ℤ) → entry ≡ Start job t now → TakesEffect table rows entry → ⊥) → ((t : ℤ) (kind : Kind) → entry ≡ End job t kind → TakesEffect table rows entry → ⊥)
      → HasDates table (log ++ entry ∷ []) middle job
  dates_left no_start no_end row is_row =
      let old = known row (sym left ∙ is_row) in
      record {
        started = λ t (now, effective). elim (effective_cases table log entry (Start job t now) rows clerk effective) [
          | inl (is, takes) ↦ absurd (no_start t now (sym is) takes)
          | inr before ↦ started_more table log (entry ∷ []) job row.cursor row.open_now t (old.started t (now, before))
        ];
        launched = λ t effective. elim (effective_cases table log entry (End job t Launch) rows clerk effective) [
          | inl (is, takes) ↦ absurd (no_end t Launch (sym is) takes)
          | inr before ↦ old.launched t before
        ];
        begun = λ t is. HasStart-more table log (entry ∷ []) job t (old.begun t is);
        kept = λ t is. IsEffective-more table log (entry ∷ []) (End job t Launch) (old.kept t is);
      }

-- a start of the job puts the cursor behind all that were started, which have ended
module _ (table : Table) (log : List Entry) (rows middle : List JobRow) (job : ℕ) (at now : ℤ) (clerk : IsClerkOf table log rows)
    (takes : TakesStart table rows job at now) (e : middle ≡ with_row (opened_row at now) rows job) (known : HasDates table log rows job) where
  started_here : (cursor open_now : Option ℤ) (t : ℤ) → cursor ≡ Some at → open_now ≡ Some now → t ≡ at
      → IsStartedBy table (log ++ Start job at now ∷ []) job cursor open_now t
  started_here cursor open_now t cursor_is open_is same = record {
    at = at;
    is = cursor_is;
    le = omega (arith, ints, same);
    idle = λ none. absurd (cc (none, open_is));
    before = λ lt. absurd (omega (arith, ints, same, lt));
  }

  started_then : (cursor open_now : Option ℤ) (t : ℤ) → cursor ≡ Some at → open_now ≡ Some now → HasStart table log job t
      → IsStartedBy table (log ++ Start job at now ∷ []) job cursor open_now t
  started_then cursor open_now t cursor_is open_is start =
      let old = (known takes.row takes.is_row).started t start in
      let later : old.at <ℤ at = subst (λ (c : Option ℤ). IsAfter c at) old.is (may_start_later table (in_force table rows) job takes.row at now takes.may) in
      let ended = old.idle takes.idle in
      record {
        at = at;
        is = cursor_is;
        le = omega (arith, ints, later, old.le);
        idle = λ none. absurd (cc (none, open_is));
        before = λ lt. (ended.0, IsEffective-more table log (Start job at now ∷ []) (End job t ended.0) ended.1);
      }

  dates_start : HasDates table (log ++ Start job at now ∷ []) middle job
  dates_start row is_row =
      let opened : opened_row at now takes.row ≡ row = changed (opened_row at now) rows job takes.row row takes.is_row (ap (λ (m : List JobRow). slice_get m job) (sym e) ∙ is_row) in
      let cursor_is : row.cursor ≡ Some at = ap (λ (r : JobRow). r.cursor) (sym opened) in
      let open_is : row.open_now ≡ Some now = ap (λ (r : JobRow). r.open_now) (sym opened) in
      let last_is : takes.row.last ≡ row.last = ap (λ (r : JobRow). r.last) opened in
      record {
        started = λ t (then, effective). elim (effective_cases table log (Start job at now) (Start job t then) rows clerk effective) [
          | inl (is, again) ↦ started_here row.cursor row.open_now t cursor_is open_is (cc is)
          | inr before ↦ started_then row.cursor row.open_now t cursor_is open_is (then, before)
        ];
        launched = λ t effective. elim (effective_cases table log (Start job at now) (End job t Launch) rows clerk effective) [
          | inl (is, again) ↦ absurd (cc is)
          | inr before ↦ subst (λ (l : Option ℤ). IsLaunchedBy l t) last_is ((known takes.row takes.is_row).launched t before)
        ];
        begun = λ t is.
            let same : at ≡ t = cc (is, cursor_is) in
            subst (HasStart table (log ++ Start job at now ∷ []) job) same (now, IsEffective-last table log (Start job at now) rows clerk takes);
        kept = λ t is. IsEffective-more table log (Start job at now ∷ []) (End job t Launch) ((known takes.row takes.is_row).kept t (last_is ∙ is));
      }

-- an end of the job is of its cursor, and a launch is remembered
module _ (table : Table) (log : List Entry) (rows middle : List JobRow) (job : ℕ) (at : ℤ) (kind : Kind) (clerk : IsClerkOf table log rows)
    (takes : TakesEnd rows job at) (e : middle ≡ with_row (closed_row at kind) rows job) (known : HasDates table log rows job) where
  -- each launch that was started is at most the cursor
  most : (t : ℤ) → HasStart table log job t → t ≤ℤ at
  most t start =
      let old = (known takes.row takes.is_row).started t start in
      let same : Some old.at ≡ Some at = sym old.is ∙ takes.cursor in
      let at_is : old.at ≡ at = cc in
      omega (arith, ints, at_is, old.le)

  ended_then : (t : ℤ) → HasStart table log job t → (other : Kind) × HasEnd table (log ++ End job at kind ∷ []) job t other
  ended_then t start = by_lt_z t at
      (λ lt.
      let old = (known takes.row takes.is_row).started t start in
      let same : Some old.at ≡ Some at = sym old.is ∙ takes.cursor in
      let at_is : old.at ≡ at = cc in
      let ended = old.before (omega (arith, ints, at_is, lt)) in
      (ended.0, IsEffective-more table log (End job at kind ∷ []) (End job t ended.0) ended.1))
      (λ ge.
      let le : t ≤ℤ at = most t start in
      let same : at ≡ t = omega (arith, ints, ge, le) in
      (kind, subst (λ (u : ℤ). HasEnd table (log ++ End job at kind ∷ []) job u kind) same (IsEffective-last table log (End job at kind) rows clerk takes)))

  launched_then : (k : Kind) (last : Option ℤ) (t : ℤ) → k ≡ kind → last ≡ (closed_row at k takes.row).last → HasEnd table log job t Launch → IsLaunchedBy last t
  launched_then Launch last t is last_is ended =
      record { at = at; is = last_is; le = most t (end_started table log job t Launch ended) }
  launched_then Void last t is last_is ended = subst (λ (l : Option ℤ). IsLaunchedBy l t) (sym last_is) ((known takes.row takes.is_row).launched t ended)

  dates_end : HasDates table (log ++ End job at kind ∷ []) middle job
  dates_end row is_row =
      let closed : closed_row at kind takes.row ≡ row = changed (closed_row at kind) rows job takes.row row takes.is_row (ap (λ (m : List JobRow). slice_get m job) (sym e) ∙ is_row) in
      let cursor_is : row.cursor ≡ Some at = ap (λ (r : JobRow). r.cursor) (sym closed) ∙ closed_cursor at kind takes.row ∙ takes.cursor in
      let last_is : row.last ≡ (closed_row at kind takes.row).last = ap (λ (r : JobRow). r.last) (sym closed) in
      record {
        started = λ t (now, effective). elim (effective_cases table log (End job at kind) (Start job t now) rows clerk effective) [
          | inl (is, again) ↦ absurd (cc is)
          | inr before ↦ record {
            at = at;
            is = cursor_is;
            le = most t (now, before);
            idle = λ none. ended_then t (now, before);
            before = λ lt. ended_then t (now, before);
          }
        ];
        launched = λ t effective. elim (effective_cases table log (End job at kind) (End job t Launch) rows clerk effective) [
          | inl (is, again) ↦ newly kind row.last t (cc is) (cc is) last_is
          | inr before ↦ launched_then kind row.last t refl last_is before
        ];
        begun = λ t is. HasStart-more table log (End job at kind ∷ []) job t ((known takes.row takes.is_row).begun t (takes.cursor ∙ sym cursor_is ∙ is));
        kept = λ t is. kept_then kind t refl (sym last_is ∙ is);
      }
    where
      kept_then : (k : Kind) (t : ℤ) → k ≡ kind → (closed_row at k takes.row).last ≡ Some t → HasEnd table (log ++ End job at kind ∷ []) job t Launch
      kept_then Launch t is kept_is =
          let same : at ≡ t = cc in
          let here : HasEnd table (log ++ End job at kind ∷ []) job at kind = IsEffective-last table log (End job at kind) rows clerk takes in
          subst (λ (u : ℤ). HasEnd table (log ++ End job at kind ∷ []) job u Launch) same
          (subst (HasEnd table (log ++ End job at kind ∷ []) job at) (sym is) here)
      kept_then Void t is kept_is = IsEffective-more table log (End job at kind ∷ []) (End job t Launch) ((known takes.row takes.is_row).kept t kept_is)

      newly : (k : Kind) (last : Option ℤ) (t : ℤ) → k ≡ Launch → t ≡ at → last ≡ (closed_row at k takes.row).last → IsLaunchedBy last t
      newly Launch last t is same last_is = record { at = at; is = last_is; le = omega (arith, ints, same) }
      newly Void last t is same last_is = absurd (cc is)

-- one more entry
dates_next : (table : Table) (log : List Entry) (rows middle : List JobRow) (entry : Entry) (job : ℕ) → job < length table.jobs → IsClerkOf table log rows
    → Applies table rows entry middle → HasDates table log rows job → HasDates table (log ++ entry ∷ []) middle job
dates_next table log rows middle entry job known_job clerk (inr (not, e)) known =
    dates_left table log rows middle entry job clerk (ap (λ (m : List JobRow). slice_get m job) e) known (λ t now is takes. not takes) (λ t kind is takes. not takes)
dates_next table log rows middle Noop job known_job clerk (inl (takes, e)) known = absurd takes
dates_next table log rows middle (TableEntry version now) job known_job clerk (inl (takes, e)) known =
    let own : ℕ = length table.jobs in
    dates_left table log rows middle (TableEntry version now) job clerk
    (ap (λ (m : List JobRow). slice_get m job) e
    ∙ set_there rows own job (adopted_row version now (get_or rows own (fresh_row own))) (λ same. omega (arith, same, known_job))) known
    (λ t then is again. absurd (cc is)) (λ t kind is again. absurd (cc is))
dates_next table log rows middle (Start j at now) job known_job clerk (inl (takes, e)) known =
    elim (cases_eq job j) [
      | inl same ↦ subst (λ (k : ℕ). HasDates table (log ++ Start k at now ∷ []) middle job) same (
          dates_start table log rows middle job at now clerk (subst (λ (k : ℕ). TakesStart table rows k at now) (sym same) takes)
          (e ∙ ap (with_row (opened_row at now) rows) (sym same)) known
          )
      | inr ne ↦ dates_left table log rows middle (Start j at now) job clerk
          (ap (λ (m : List JobRow). slice_get m job) e ∙ set_there rows j job (opened_row at now (get_or rows j (fresh_row j))) ne) known
          (λ t then is again. ne (cc is)) (λ t kind is again. absurd (cc is))
    ]
dates_next table log rows middle (End j at kind) job known_job clerk (inl (takes, e)) known =
    elim (cases_eq job j) [
      | inl same ↦ subst (λ (k : ℕ). HasDates table (log ++ End k at kind ∷ []) middle job) same (
          dates_end table log rows middle job at kind clerk (subst (λ (k : ℕ). TakesEnd rows k at) (sym same) takes)
          (e ∙ ap (with_row (closed_row at kind) rows) (sym same)) known
          )
      | inr ne ↦ dates_left table log rows middle (End j at kind) job clerk
          (ap (λ (m : List JobRow). slice_get m job) e ∙ set_there rows j job (closed_row at kind (get_or rows j (fresh_row j))) ne) known
          (λ t then is again. absurd (cc is)) (λ t k is again. ne (cc is))
    ]

-- more entries
dates_along : (table : Table) (log entries : List Entry) (rows last : List JobRow) (job : ℕ) → job < length table.jobs → IsClerkOf table log rows
    → AppliesAll table rows entries last → HasDates table log rows job → HasDates table (log ++ entries) last job
dates_along table log [] rows last job known_job clerk e known =
    subst (λ (l : List Entry). HasDates table l last job) (sym (append-nil log)) (subst (λ (r : List JobRow). HasDates table log r job) (sym e) known)
dates_along table log (entry ∷ entries) rows last job known_job clerk (middle, step, rest) known =
    let longer : IsClerkOf table (log ++ entry ∷ []) middle = (IsClerkOf-push table log entry middle).1 (rows, clerk, step) in
    subst (λ (l : List Entry). HasDates table l last job) (append_assoc log (entry ∷ []) entries)
    (dates_along table (log ++ entry ∷ []) entries middle last job known_job longer rest (dates_next table log rows middle entry job known_job clerk step known))

-- a fresh row has no cursor, and no last launch
record IsFresh (row : JobRow) : Type 0 where
  pub cursor : row.cursor ≡ None
  pub last : row.last ≡ None

fresh_in : (a n k : ℕ) (row : JobRow) → slice_get (map fresh_row (range_with_len a n)) k ≡ Some row → IsFresh row
fresh_in a zero k row e = absurd cc
fresh_in a (suc n) zero row e =
    let row_is : fresh_row a ≡ row = cc in
    record { cursor = ap (λ (r : JobRow). r.cursor) (sym row_is); last = ap (λ (r : JobRow). r.last) (sym row_is) }
fresh_in a (suc n) (suc k) row e = fresh_in (a + 1) n k row e

-- the jobs' rows of a log say what it started and ended
pub clerk_dates : (table : Table) (log : List Entry) (rows : List JobRow) (job : ℕ) → job < length table.jobs → IsClerkOf table log rows → HasDates table log rows job
clerk_dates table log rows job known_job clerk = dates_along table [] log (first_rows table) rows job known_job refl clerk at_first
  where
    at_first : HasDates table [] (first_rows table) job
    at_first row is_row = record {
      started = λ t (now, effective). absurd (nothing_effective table (Start job t now) effective);
      launched = λ t effective. absurd (nothing_effective table (End job t Launch) effective);
      begun = λ t is. absurd (cc ((fresh_in 0 (row_count (table_size table)) job row is_row).cursor, is));
      kept = λ t is. absurd (cc ((fresh_in 0 (row_count (table_size table)) job row is_row).last, is));
    }

-- a launch whose start takes effect isn't started again
not_again : (table : Table) (log : List Entry) (job : ℕ) (at a b : ℤ) (first : IsEffective table log (Start job at a)) → IsEffective table first.before (Start job at b) → ⊥
not_again table log job at a b first again =
    let row = first.takes.2.row in
    let known = (clerk_dates table first.before first.takes.0 job first.takes.2.known first.takes.1 row first.takes.2.is_row).started at (b, again) in
    let rises : known.at <ℤ at = subst (λ (c : Option ℤ). IsAfter c at) known.is (may_start_later table (in_force table first.takes.0) job row at a first.takes.2.may) in
    omega (arith, ints, rises, known.le)

-- a launch is started once
pub started_once : (table : Table) (log : List Entry) (job : ℕ) (at a b : ℤ) → IsEffective table log (Start job at a) → IsEffective table log (Start job at b) → a ≡ b
started_once table log job at a b first second =
    elim (split_order first.before second.before first.after second.after (Start job at a) (Start job at b) (sym first.parts ∙ second.parts)) [
      | inl (same, is) ↦ cc is
      | inr (inl found) ↦ absurd (not_again table log job at b a second (is_before table log (Start job at a) first second.before found))
      | inr (inr found) ↦ absurd (not_again table log job at a b first (is_before table log (Start job at b) second first.before found))
    ]

-- ---- a period apart

-- a date on which a job may open is a period after each launch that isn't after the last
opens_apart : (table : Table) (version job : ℕ) (last cursor : Option ℤ) (now at date : ℤ) → IsJobOpen table version job last cursor now date → IsLaunchedBy last at
    → IsPeriodApart table version job at date
opens_apart table version job last cursor now at date opens launched spec period first_minute last_minute is_job kind =
    let size : opens.job ≡ spec = same_job table version job opens.job spec opens.is_in.is_job is_job in
    let kinds : Anacron opens.period opens.first_minute opens.last_minute ≡ Anacron period first_minute last_minute =
    sym opens.kind ∙ ap (λ (j : Job). j.kind) size ∙ kind in
    let periods : opens.period ≡ period = cc in
    let over : IsOverSince opens.period last date = subst (IsOverSince opens.period last) (sym opens.is_date) opens.may.on.over in
    let since : IsOverSince period (Some launched.at) date =
    subst (λ (l : Option ℤ). IsOverSince period l date) launched.is (subst (λ (p : Period). IsOverSince p last date) periods over) in
    IsPeriodOver-since period at launched.at date launched.le since

-- by the version in force one that runs by a period may be started on a date alone
may_open : (table : Table) (force : InForce) (job : ℕ) (row : JobRow) (at now : ℤ) (spec : Job) → job_of_version table force.version job ≡ Some spec → IsAnacron spec.kind
    → MayStart table force job row at now → IsJobOpen table force.version job row.last row.cursor now at
may_open table force job row at now spec is_job by (inr opens) = opens
may_open table force job row at now spec is_job by (inl (next, come)) =
    let same : spec ≡ next.due.job = same_job table force.version job spec next.due.job is_job next.due.is_in.is_job in
    absurd (subst IsAnacron (ap (λ (j : Job). j.kind) same ∙ next.due.kind) by)

pub start_apart : (table : Table) (before : List Entry) (rows : List JobRow) (job : ℕ) (at date now : ℤ) → IsClerkOf table before rows → TakesStart table rows job date now
    → HasEnd table before job at Launch → IsPeriodApart table (in_force table rows).version job at date
start_apart table before rows job at date now clerk takes ended spec period first_minute last_minute is_job kind =
    let opens = may_open table (in_force table rows) job takes.row date now spec is_job (subst IsAnacron (sym kind) tt) takes.may in
    opens_apart table (in_force table rows).version job takes.row.last takes.row.cursor now at date opens
    ((clerk_dates table before rows job takes.known clerk takes.row takes.is_row).launched at ended) spec period first_minute last_minute is_job kind

-- a launch that was started, and is earlier than one that is started now, has ended
ended_before : (table : Table) (log : List Entry) (job : ℕ) (earlier later : ℤ) → HasStart table log job earlier → (start : HasStart table log job later)
    → earlier <ℤ later → (kind : Kind) × HasEnd table start.1.before job earlier kind
ended_before table log job earlier later (then, first) (now, second) lt =
    let row = second.takes.2.row in
    let known : (t : ℤ) → HasStart table second.before job t → IsStartedBy table second.before job row.cursor row.open_now t =
    (clerk_dates table second.before second.takes.0 job second.takes.2.known second.takes.1 row second.takes.2.is_row).started in
    elim (split_order first.before second.before first.after second.after (Start job earlier then) (Start job later now) (sym first.parts ∙ second.parts)) [
      | inl (same, is) ↦ absurd (not_same (cc is))
      | inr (inl found) ↦ (known earlier (then, is_before table log (Start job earlier then) first second.before found)).idle second.takes.2.idle
      | inr (inr found) ↦ absurd (not_later (is_before table log (Start job later now) second first.before found))
    ]
  where
    not_same : earlier ≡ later → ⊥
    not_same e = omega (arith, ints, e, lt)

    not_later : IsEffective table first.before (Start job later now) → ⊥
    not_later effective =
        let row = first.takes.2.row in
        let known = (clerk_dates table first.before first.takes.0 job first.takes.2.known first.takes.1 row first.takes.2.is_row).started later (now, effective) in
        let rises : known.at <ℤ earlier = subst (λ (c : Option ℤ). IsAfter c earlier) known.is (may_start_later table (in_force table first.takes.0) job row earlier then first.takes.2.may) in
        omega (arith, ints, lt, rises, known.le)

-- of two launches that are held the earlier ended before the later was started
pub started_apart : (table : Table) (log : List Entry) (held : List SchedRow) → AreNamedOnce held → All (IsBacked table log) held
    → ((job : ℕ) (at : ℤ) (kind : Kind) → HasEnd table log job at kind → IsHeld held job at kind) → ArePeriodsApart table log held
started_apart table log held once backed ended a b in_a in_b size a_launch b_launch lt version start =
    let row = All-contains (IsBacked table log) held a backed in_a in
    let first : HasStart table log b.name.job a.name.at =
    subst (λ (j : ℕ). HasStart table log j a.name.at) size (was_started table log row.version a.name.job a.name.at row.start) in
    let second : HasStart table log b.name.job b.name.at = was_started table log version b.name.job b.name.at start in
    let over = ended_before table log b.name.job a.name.at b.name.at first second lt in
    let in_log : HasEnd table log b.name.job a.name.at over.0 =
    subst (λ (l : List Entry). HasEnd table l b.name.job a.name.at over.0) (sym start.parts)
    (IsEffective-more table start.before (Start b.name.job b.name.at start.now ∷ start.after) (End b.name.job a.name.at over.0) over.1) in
    let found = ended b.name.job a.name.at over.0 in_log in
    let same : found.row ≡ a = row_once held found.row a once found.among in_a (found.of_job ∙ sym size) found.due_at in
    let kind_is : over.0 ≡ Launch = sym found.of_kind ∙ ap (λ (r : SchedRow). r.kind) same ∙ a_launch in
    subst (λ (v : ℕ). IsPeriodApart table v b.name.job a.name.at b.name.at) start.in_force
    (start_apart table start.before start.rows b.name.job a.name.at b.name.at start.now start.clerk start.takes
    (subst (λ (k : Kind). HasEnd table start.before b.name.job a.name.at k) kind_is over.1))

-- ---- the latest launch

pub latest_same : (held : List SchedRow) (job : ℕ) (now : ℤ) (a b : Option ℤ) → IsLatest held job now a → IsLatest held job now b → a ≡ b
latest_same held job now None None p q = refl
latest_same held job now None (Some b) p q = absurd (p b q.then q.called q.sooner)
latest_same held job now (Some a) None p q = absurd (q a p.then p.called p.sooner)
latest_same held job now (Some a) (Some b) p q =
    let le : a ≤ℤ b = q.last p.then a p.called p.sooner in
    let ge : b ≤ℤ a = p.last q.then b q.called q.sooner in
    ap Some (both a b le ge)
  where
    both : (x y : ℤ) → x ≤ℤ y → y ≤ℤ x → x ≡ y
    both x y le ge = omega (arith, ints)

launched_by : (held : List SchedRow) (job : ℕ) (now at then : ℤ) (last : Option ℤ) → IsLatest held job now last → IsCalledAt held job at Launch then → then <ℤ now
    → IsLaunchedBy last at
launched_by held job now at then None none called sooner = absurd (none at then called sooner)
launched_by held job now at then (Some last) known called sooner = record { at = last; is = refl; le = known.last then at called sooner }

pub opens_after_each : (table : Table) (held : List SchedRow) (job : ℕ) (now date at then : ℤ) → OpensBy table held job now date → IsCalledAt held job at Launch then
    → then <ℤ now → IsPeriodApart table 0 job at date
opens_after_each table held job now date at then by called sooner =
    opens_apart table 0 job by.last by.last now at date by.opens (launched_by held job now at then by.last by.latest called sooner)
