-- What a book holds once one of its replicas has a launch table that asks for nothing, or its log has nothing left to do.
use Rattle.std.proofs.Common.{◌≡◌, ℕ, ◌≤◌, false, true≢false, Some, List, [], ◌++◌, take, drop, ℤ, pos, ◌+ℤ◌, ◌-ℤ◌, ◌≤ℤ◌, inl, inr, sym, ap, ◌∙◌, subst, arith}
use Rattle.std.specs.List.{Contains}
use Rattle.std.proofs.lemmas.Int.{ints}
use Rattle.std.proofs.lemmas.List.{take-append-drop}
use Rattle.std.proofs.lemmas.List.Sums.{fold-append}
use Rattle.due_set.specs.Calls.{HasCome, IsOnTime}
use Rattle.due_set.specs.Table.{IsJobDue, IsJobIn, IsSound, Job, Table, is_by_period}
use Rattle.due_set.specs.declared.job.JobKind.{JobKind}
use Rattle.due_set.specs.declared.job.JobKind.TheVariants.{Crontab}
use Rattle.due_set.proofs.NamedLemmas.{due_says, opening_says}
use Rattle.paxos_base.specs.declared.entry.Entry.{Entry}
use Rattle.paxos_base.specs.declared.entry.Entry.TheVariants.{End}
use Rattle.paxos_base.specs.declared.entry.Kind.{Kind}
use Rattle.paxos_base.specs.declared.entry.Kind.TheVariants.{Launch}
use Rattle.cluster_sched.specs.declared.row.SchedRow.{SchedRow}
use Rattle.launch_machine.specs.Clerk.{IsClerkOf, MayStart, first_rows, in_force}
use Rattle.launch_machine.specs.Starts.{AdoptionsOf}
use Rattle.launch_machine.specs.Versions.{IsDueUnder, version_at}
use Rattle.launch_safety.specs.Fits.{Fits, HasEnd, HasStart, IsBacked, IsHeld, IsStartedUnder}
use Rattle.launch_safety.specs.Launched.{IsCalledAt}
use Rattle.launch_safety.specs.Settled.{IsSettled}
use Rattle.launch_safety.proofs.CoverLemmas.{HasStart-more}
use Rattle.launch_safety.proofs.EffectLemmas.{IsEffective-more}
use Rattle.launch_safety.proofs.SettledLemmas.{settled_over, settled_sound}
use Rattle.step_spec.specs.State.{State, prefix_of}
use Rattle.step_spec.specs.Step.{IsLaunchTable}
use Rattle.agreement.specs.Log.{IsLog}
use Rattle.agreement.proofs.Tables.{follows}
use Rattle.history.specs.Book.{Row, Standing, after_row, first_standing, standing_after, votes_in}
use Rattle.history.specs.Legal.{IsLegal}
use Rattle.history.proofs.Agreement.{book_log}
use Rattle.launch_safety.specs.Fitting.{held_in}
use Rattle.launch_safety.proofs.Whole.{first_started, front_adopts, held_backed, whole}
use Rattle.script_semantics.specs.Settling.{AsksNothing}
use Rattle.run_outcome.specs.Readings.{IsGraceLong}
use Rattle.launch_safety.specs.Readings.{AreTurnsBy}
use Rattle.launch_safety.proofs.ReadLemmas.{book_inside, held_by, stays_held}
use Rattle.history.proofs.FrontLemmas.{front_legal}
use Rattle.run_outcome.specs.Whole.{AdoptsNone}
use Rattle.run_outcome.proofs.FrontLemmas.{front_none}
use Rattle.history.proofs.BookLemmas.{stands}

-- the launch table of a replica is that of a front of the log
table_of : (n : ℕ) (table : Table) (book : List Row) (log : List Entry) (who : ℕ) (at : ℤ) → n ≤ 7 → IsLegal n table book → IsLog n (votes_in book) log
    → (asks : AsksNothing table at ((standing_after n (first_rows table) book).replicas who))
    → IsClerkOf table (take (prefix_of ((standing_after n (first_rows table) book).replicas who)) log) asks.rows
table_of n table book log who at few legal is_log asks =
    let there = stands n table book few legal in
    let same : there.w.replicas who ≡ (standing_after n (first_rows table) book).replicas who = there.matches.replicas who in
    let is_table : IsLaunchTable table (there.w.replicas who) asks.rows = subst (λ s. IsLaunchTable table s asks.rows) (sym same) asks.rows_are in
    subst (λ (s : State). IsClerkOf table (take (prefix_of s) log) asks.rows) same
    (follows n table (first_rows table) there.w log who asks.rows there.followed.whole there.followed.tables (subst (λ cast. IsLog n cast log) (sym there.matches.cast) is_log) is_table).1

-- so where the log adopts no version each due instant up to the one at which it asks for nothing was started and has ended
over : (n : ℕ) (table : Table) (book : List Row) (log : List Entry) (who : ℕ) (until : ℤ) (job : ℕ) (at : ℤ) → n ≤ 7 → IsLegal n table book → IsLog n (votes_in book) log
    → AdoptionsOf table log [] → AsksNothing table until ((standing_after n (first_rows table) book).replicas who) → IsJobDue table 0 job at → at ≤ℤ until
    → HasStart table log job at × (kind : Kind) × HasEnd table log job at kind
over n table book log who until job at few legal is_log none asks due come =
    let k = prefix_of ((standing_after n (first_rows table) book).replicas who) in
    let whole_log : take k log ++ drop k log ≡ log = take-append-drop k log in
    let clerk = table_of n table book log who until few legal is_log asks in
    let (start, kind, ended) =
    settled_over table (take k log) until job at (front_adopts n table book few legal log is_log none (take k log) (drop k log) asks.rows (sym whole_log) clerk)
    (record { rows = asks.rows; clerk = clerk; no_call = asks.rests.0; no_start = asks.rests.1; no_table = asks.rests.2 }) due come in (
      subst (λ some. HasStart table some job at) whole_log (HasStart-more table (take k log) (drop k log) job at start),
      kind,
      subst (λ some. HasEnd table some job at kind) whole_log (IsEffective-more table (take k log) (drop k log) (End job at kind) ended),
    )

-- a row of a due instant that is held: it was called no sooner, and is a launch where it was called within grace
record IsRowOf (table : Table) (held : List SchedRow) (job : ℕ) (at : ℤ) : Type 0 where
  row : SchedRow
  among : Contains held row
  of_job : row.name.job ≡ job
  due_at : row.name.at ≡ at
  come : at ≤ℤ row.now.0
  in_time : row.now.0 ≤ℤ (at +ℤ pos table.grace) → row.kind ≡ Launch

-- one that is held is such a row, where its instant is due by the version under which it was started
due_row : (table : Table) (log : List Entry) (held : List SchedRow) (job : ℕ) (at : ℤ) (kind : Kind) (found : IsHeld held job at kind) (backed : IsBacked table log found.row)
    → IsJobDue table backed.version job at → IsRowOf table held job at
due_row table log held job at kind found backed due =
    let is_in : IsJobIn table backed.version job backed.spec backed.zone = subst (λ number. IsJobIn table backed.version number backed.spec backed.zone) found.of_job backed.is_in in
    let spec : backed.spec ≡ due.job = same_of (sym is_in.is_job ∙ due.is_in.is_job) in
    let crontab : backed.spec.kind ≡ Crontab due.fields = ap (λ (j : Job). j.kind) spec ∙ due.kind in
    let kinds = backed.kind backed.spec backed.zone backed.is_in in
    record {
      row = found.row;
      among = found.among;
      of_job = found.of_job;
      due_at = found.due_at;
      come = subst (λ instant. instant ≤ℤ found.row.now.0) found.due_at (subst (λ (k : JobKind). HasCome k backed.zone found.row.name.at found.row.now.0) crontab backed.come);
      in_time = λ within. kinds.1 (subst (λ (k : JobKind). IsOnTime k backed.zone table.grace found.row.name.at found.row.now.0) (sym crontab)
          (subst (λ instant. found.row.now.0 ≤ℤ (instant +ℤ pos table.grace)) (sym found.due_at) within));
    }
  where
    same_of : {X : Type 0} {a b : X} → Some a ≡ Some b → a ≡ b
    same_of is = cc

row_of : (n : ℕ) (table : Table) (book : List Row) (who : ℕ) (until : ℤ) (job : ℕ) (at : ℤ) → n ≤ 7 → IsLegal n table book → AdoptsNone n table book
    → AsksNothing table until ((standing_after n (first_rows table) book).replicas who) → IsJobDue table 0 job at → at ≤ℤ until → IsRowOf table (held_in n table book) job at
row_of n table book who until job at few legal none asks due come =
    let (log, is_log) = book_log n table book few legal in
    let fits : Fits table log (held_in n table book) = whole n table book few legal log is_log in
    let (start, kind, ended) = over n table book log who until job at few legal is_log (none log is_log) asks due come in
    let found : IsHeld (held_in n table book) job at kind = fits.ended job at kind ended in
    let backed : IsBacked table log found.row = held_backed n table book log found.row few legal is_log found.among in
    let first : backed.version ≡ 0 = first_started n table book log backed.version found.row.name.job found.row.name.at few legal is_log (none log is_log) backed.start in
    due_row table log (held_in n table book) job at kind found backed (subst (λ version. IsJobDue table version job at) (sym first) due)

-- a replica asked for nothing at an instant, in some front of the book in which no clock has passed it
pub record Passes (n : ℕ) (table : Table) (at : ℤ) (book : List Row) : Type 0 where
  pub front : List Row
  pub back : List Row
  pub parts : book ≡ front ++ back
  pub by : AreTurnsBy at front
  pub who : ℕ
  pub asks : AsksNothing table at ((standing_after n (first_rows table) front).replicas who)

-- so a due instant then of the first version was called at that instant, and is held as launched
pub called : (n : ℕ) (table : Table) (book : List Row) (job : ℕ) (at : ℤ) → n ≤ 7 → IsLegal n table book → AdoptsNone n table book → IsJobDue table 0 job at → Passes n table at book
    → IsCalledAt (held_in n table book) job at Launch at
called n table book job at few legal none due passes =
    let front = passes.front in
    let front_is : IsLegal n table front = front_legal n table front passes.back (subst (λ rows. IsLegal n table rows) passes.parts legal) in
    let found = row_of n table front passes.who at job at few front_is (front_none n table book few legal none front passes.back passes.parts) passes.asks due (omega (arith, ints)) in
    let low = held_by n table at front found.row front_is passes.by found.among in
    let come = found.come in
    let stays : Contains (held_in n table (front ++ passes.back)) found.row =
    subst (λ (st : Standing). Contains st.held found.row)
    (sym (fold-append (λ (st : Standing) (row : Row). after_row n st row.turn row.event row.letters) (first_standing n (first_rows table)) front passes.back))
    (stays_held n (standing_after n (first_rows table) front) passes.back found.row found.among) in
    record {
      row = found.row;
      among = subst (λ rows. Contains (held_in n table rows) found.row) (sym passes.parts) stays;
      of_job = found.of_job;
      due_at = found.due_at;
      of_kind = found.in_time (omega (arith, ints, low));
      called = omega (arith, ints, low, come);
    }

pub called_held : (held : List SchedRow) (job : ℕ) (at now : ℤ) (kind : Kind) → IsCalledAt held job at kind now → IsHeld held job at kind
called_held held job at now kind call = record { row = call.row; among = call.among; of_job = call.of_job; due_at = call.due_at; of_kind = call.of_kind }

-- ---- at the window's last minute

-- a log that has nothing left to do then has ended each due instant, by the versions in force then
pub ended : (table : Table) (log : List Entry) (adoptions : List ℤ) (job : ℕ) (at : ℤ) → IsSound table → AdoptionsOf table log adoptions → IsSettled table log (table.window.until.0 -ℤ pos 1)
    → IsDueUnder table adoptions job at → HasStart table log job at × (kind : Kind) × HasEnd table log job at kind
ended table log adoptions job at sound adopted settled due =
    let before = due.inside.before in
    settled_sound table log adoptions (table.window.until.0 -ℤ pos 1) job at sound adopted settled due (omega (arith, ints, before))

-- an instant at which a job without a `/` in its name was started is due by the version in force then
started_due : (table : Table) (log : List Entry) (version job : ℕ) (at : ℤ) → IsSound table → is_by_period table job ≡ false → IsStartedUnder table log version job at → IsJobDue table version job at
started_due table log version job at sound plain start = subst (λ number. IsJobDue table number job at) start.in_force (by_may start.takes.may)
  where
    by_may : MayStart table (in_force table start.rows) job start.takes.row at start.now → IsJobDue table (in_force table start.rows).version job at
    by_may (inl next) = next.0.due
    by_may (inr opens) =
        absurd (true≢false (sym (opening_says table (in_force table start.rows).version job start.takes.row.last start.takes.row.cursor start.now at sound opens) ∙ plain))

-- so each is held as launched where grace lasts as long as the window
pub launched : (n : ℕ) (table : Table) (book : List Row) (log : List Entry) (adoptions : List ℤ) (job : ℕ) (at : ℤ) → n ≤ 7 → IsSound table → IsLegal n table book → IsLog n (votes_in book) log
    → AdoptionsOf table log adoptions → IsSettled table log (table.window.until.0 -ℤ pos 1) → IsGraceLong table → IsDueUnder table adoptions job at → IsHeld (held_in n table book) job at Launch
launched n table book log adoptions job at few sound legal is_log adopted settled long due =
    let (start, kind, end) = ended table log adoptions job at sound adopted settled due in
    let found : IsHeld (held_in n table book) job at kind = (whole n table book few legal log is_log).ended job at kind end in
    let backed : IsBacked table log found.row = held_backed n table book log found.row few legal is_log found.among in
    let began : IsStartedUnder table log backed.version job at =
    subst (λ number. IsStartedUnder table log backed.version number at) found.of_job (subst (IsStartedUnder table log backed.version found.row.name.job) found.due_at backed.start) in
    let plain = due_says table (version_at adoptions at) job at sound due in
    let row = due_row table log (held_in n table book) job at kind found backed (started_due table log backed.version job at sound plain began) in
    let since = due.inside.since in
    let low = held_by n table (table.window.until.0 -ℤ pos 1) book row.row legal (book_inside n table book legal) row.among in
    record { row = row.row; among = row.among; of_job = row.of_job; due_at = row.due_at; of_kind = row.in_time (omega (arith, ints, long, since, low)) }
