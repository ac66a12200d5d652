-- What the book of a run holds.
use Rattle.std.proofs.Common.{◌≡◌, ◌≢◌, ◌⊎◌, ℕ, ◌≤◌, false, List, [], Some, sym, subst, ℤ, ◌<ℤ◌}
use Rattle.std.specs.Prelude.{Contains, take, length}
use Rattle.std.proofs.Math.Seq.{take-length}
use Rattle.std.proofs.lemmas.List.Elements.{All-contains, All-nil}
use Rattle.disk_model.specs.declared.mem_disk.MemDisk.{MemDisk}
use Rattle.paxos_base.specs.declared.entry.Entry.{Entry}
use Rattle.paxos_base.specs.declared.entry.Entry.TheVariants.{Noop}
use Rattle.paxos_base.specs.declared.entry.Kind.{Kind}
use Rattle.paxos_base.specs.declared.entry.Kind.TheVariants.{Launch}
use Rattle.due_set.specs.Anacron.{IsPeriodOver}
use Rattle.due_set.specs.Due.{IsRising}
use Rattle.due_set.specs.Table.{Job, Table, is_by_period, job_of_version}
use Rattle.due_set.specs.declared.job.JobKind.TheVariants.{Anacron}
use Rattle.due_set.specs.declared.job.Period.{Period}
use Rattle.cluster_sched.specs.declared.row.SchedRow.{SchedRow}
use Rattle.launch_safety.specs.Fits.{Fits, HasStart, HasEnd, IsBacked, IsEffective, IsHeld, IsStartedUnder}
use Rattle.launch_safety.specs.Launched.{IsCalledAt, IsWanted, LaunchesEachDue, OpensBy}
use Rattle.due_list.proofs.ListLemmas.{cut_at}
use Rattle.launch_safety.proofs.FitLemmas.{held_once}
use Rattle.launch_machine.specs.Starts.{AdoptionsOf, StartsOf}
use Rattle.launch_machine.specs.Versions.{IsDueUnder}
use Rattle.replica_node.specs.declared.node.Node.{Node}
use Rattle.history.specs.Book.{Row}
use Rattle.script_text.specs.declared.command.Command.{Command}
use Rattle.script_semantics.specs.Script.{Obeys}
use Rattle.launch_safety.specs.Fitting.{FitsItsLog, held_in}
use Rattle.run_outcome.specs.Readings.{IsGraceLong, script_turns}
use Rattle.launch_safety.specs.Readings.{AreTurnsBy, IsTurnBy}
use Rattle.world_law.specs.Book.{BookState}
use Rattle.world_law.proofs.Called.{held_at_rest}
use Rattle.run_outcome.specs.Barred.{IsBarred}
use Rattle.run_outcome.specs.Whole.{AdoptsNone}
use Rattle.run_outcome.proofs.SaidLemmas.{said_adopted}
use Rattle.run_outcome.proofs.WholeDates.{all_unscripted, date_unscripted, each_date, other_unscripted}
use Rattle.cron_serve.specs.Promise.{HasPeriodsApart}
use Rattle.cron_serve.specs.Serve.{IsRunOf}
use Rattle.cron_serve.proofs.PlayLemmas.{few_members}
use Rattle.cron_serve.proofs.VersionLemmas.{started_due, started_within}

module _ (bytes : List ℕ) (table : Table) (book : BookState) (nodes : List (Node MemDisk)) (run : IsRunOf bytes table book nodes) where
  -- the ledger holds what the rows hold
  same : book.ledger.held ≡ held_in run.run.members table run.rows
  same =
      subst (λ members. book.ledger.held ≡ held_in members table run.rows) run.members (held_at_rest table run.rows book run.rest run.behind)

  pub fitting : Fits table run.whole.log book.ledger.held
  fitting =
      let at_end : take (length run.rows) run.rows ≡ run.rows = take-length run.rows in
      let fits : FitsItsLog run.run.members table run.rows = subst (FitsItsLog run.run.members table) at_end (run.whole.fits (length run.rows)) in
      subst (λ (held : List SchedRow). Fits table run.whole.log held) (sym same) (fits run.whole.log run.whole.is_log)

  pub once : (a b : SchedRow) → Contains book.ledger.held a → Contains book.ledger.held b → a.name.job ≡ b.name.job → a.name.at ≡ b.name.at → a ≡ b
  once a b in_a in_b jobs instants = held_once table run.whole.log book.ledger.held a b fitting in_a in_b jobs instants

  few : run.run.members ≤ 7
  few = few_members bytes run.run table run.taken

  pub row_backed : (row : SchedRow) → Contains book.ledger.held row → IsBacked table run.whole.log row
  row_backed row among = All-contains (IsBacked table run.whole.log) book.ledger.held row fitting.backed among

  -- a row of a job without a `/` in its name is of a due instant
  pub row_due : (row : SchedRow) → is_by_period table row.name.job ≡ false → Contains book.ledger.held row → IsDueUnder table run.whole.adoptions row.name.job row.name.at
  row_due row plain among =
      let is = row_backed row among in
      started_due table run.whole.log run.whole.adoptions is.version row.name.job row.name.at run.sound run.whole.adopted (fitting.in_order row.name.job) plain is.start

  pub end_held : (job : ℕ) (at : ℤ) (kind : Kind) → HasEnd table run.whole.log job at kind → IsHeld book.ledger.held job at kind
  end_held job at kind ended = fitting.ended job at kind ended

  pub effective : (entry : Entry) → Contains run.whole.log entry → entry ≢ Noop → IsEffective table run.whole.log entry
  effective entry among other =
      let (before, after, parts) = cut_at run.whole.log entry among in
      record { before = before; after = after; parts = parts; takes = run.whole.effective before after entry parts other }

  pub each_ended : (job : ℕ) (at : ℤ) → IsDueUnder table run.whole.adoptions job at
      → HasStart table run.whole.log job at × (kind : Kind) × HasEnd table run.whole.log job at kind × IsHeld book.ledger.held job at kind
  each_ended job at due =
      let (start, kind, ended) = run.whole.ended job at due in
      (start, kind, ended, end_held job at kind ended)

  pub later : (job : ℕ) (at : ℤ) → IsDueUnder table run.whole.adoptions job at → AreTurnsBy at (script_turns run.whole.obeyed) → IsCalledAt book.ledger.held job at Launch at
  later job at due by = subst (λ (held : List SchedRow). IsCalledAt held job at Launch at) (sym same) (run.whole.later job at due by)

  pub each_within_grace : (job : ℕ) (at : ℤ) → IsGraceLong table → IsDueUnder table run.whole.adoptions job at → IsHeld book.ledger.held job at Launch
  each_within_grace job at long due = subst (λ (held : List SchedRow). IsHeld held job at Launch) (sym same) (run.whole.all long job at due)

  pub dates_rise : (job : ℕ) → (dates : List ℤ) × StartsOf table run.whole.log job dates × IsRising dates
  dates_rise job = let order = fitting.in_order job in (order.instants, order.starts, order.rising)

  pub dates_apart : (a b : SchedRow) (version : ℕ) (job : Job) (period : Period) (first last : ℕ)
      → Contains book.ledger.held a → Contains book.ledger.held b → a.name.job ≡ b.name.job → a.kind ≡ Launch → b.kind ≡ Launch → a.name.at <ℤ b.name.at
      → IsStartedUnder table run.whole.log version b.name.job b.name.at → job_of_version table version b.name.job ≡ Some job → job.kind ≡ Anacron period first last
      → IsPeriodOver period a.name.at b.name.at
  dates_apart a b version job period first last in_a in_b jobs one other sooner start = fitting.apart a b in_a in_b jobs one other sooner version start job period first last

  pub periods_apart : HasPeriodsApart table run.whole.adoptions book.ledger.held
  periods_apart a b in_a in_b jobs one other sooner =
      let is = row_backed b in_b in (
        is.version,
        started_within table run.whole.log run.whole.adoptions is.version b.name.job b.name.at run.whole.adopted is.start,
        fitting.apart a b in_a in_b jobs one other sooner is.version is.start,
      )

  -- where the run adopts no version, no log of its book does
  adopts_none : run.whole.adoptions ≡ [] → AdoptsNone run.run.members table run.rows
  adopts_none plain log is_log =
      subst (λ (adoptions : List ℤ). AdoptionsOf table log adoptions) plain (said_adopted run.run.members table run.run.commands run.rows log few run.whole is_log).0

  pub each_opened : (job : ℕ) (now date : ℤ) → run.whole.adoptions ≡ [] → OpensBy table book.ledger.held job now date → AreTurnsBy now (script_turns run.whole.obeyed)
      → IsCalledAt book.ledger.held job date Launch now ⊎ IsBarred run.run.members table run.rows job now date
  each_opened job now date plain opens by =
      subst (λ (held : List SchedRow). IsCalledAt held job date Launch now ⊎ IsBarred run.run.members table run.rows job now date) (sym same)
      (each_date run.run.members table run.run.commands run.rows run.whole.obeyed job now date few run.whole.legal (adopts_none plain)
      (subst (λ (held : List SchedRow). OpensBy table held job now date) same opens) by)

  -- the script has no command
  module _ (none : run.run.commands ≡ []) where
    walks : Obeys run.run.members table [] run.rows
    walks = subst (λ (script : List Command). Obeys run.run.members table script run.rows) none run.whole.obeyed

    -- so no turn is the script's
    read_none : (at : ℤ) → AreTurnsBy at (script_turns run.whole.obeyed)
    read_none at =
        subst (λ (script : List Command). (parts : Obeys run.run.members table script run.rows) → AreTurnsBy at (script_turns parts)) (sym none)
        (λ parts. subst (AreTurnsBy at) (sym parts.obeys.one.none) (All-nil (λ (r : Row). IsTurnBy at r.turn))) run.whole.obeyed

    pub each_called : (job : ℕ) (at : ℤ) → IsDueUnder table run.whole.adoptions job at → IsCalledAt book.ledger.held job at Launch at
    each_called job at due = later job at due (read_none at)

    -- and no version is adopted
    module _ (plain : run.whole.adoptions ≡ []) where
      pub each_date_called : (job : ℕ) (now date : ℤ) → OpensBy table book.ledger.held job now date → IsCalledAt book.ledger.held job date Launch now
      each_date_called job now date opens =
          subst (λ (held : List SchedRow). IsCalledAt held job date Launch now) (sym same)
          (date_unscripted run.run.members table run.rows job now date few run.whole.legal walks (adopts_none plain)
          (subst (λ (held : List SchedRow). OpensBy table held job now date) same opens))

      pub none_other : (row : SchedRow) → Contains book.ledger.held row → IsWanted table book.ledger.held row × (row.kind ≡ Launch)
      none_other row among =
          subst (λ (held : List SchedRow). IsWanted table held row × (row.kind ≡ Launch)) (sym same)
          (other_unscripted run.run.members table run.rows row few run.whole.legal walks (adopts_none plain) (subst (λ (held : List SchedRow). Contains held row) same among))

      pub all_launched : LaunchesEachDue table book.ledger.held
      all_launched = subst (LaunchesEachDue table) (sym same) (all_unscripted run.run.members table run.rows few run.whole.legal walks (adopts_none plain))
