-- In a book that obeys a script without commands each start of a job that runs by its period is called at its own reading.
use Rattle.std.proofs.Common.{◌≡◌, ℕ, ◌<◌, ◌≤◌, Option, Some, None, List, [], ◌∷◌, ◌++◌, length, take, drop, ℤ, ◌≤ℤ◌, ◌<ℤ◌, refl, sym, ap, ◌∙◌, inl, inr, subst, arith, append_assoc}
use Rattle.std.specs.List.{Contains, slice_get}
use Rattle.std.proofs.lemmas.Bool.{cases_lt}
use Rattle.std.proofs.lemmas.Int.{ints, by_lt_z}
use Rattle.std.proofs.lemmas.Option.{slice_get_within}
use Rattle.std.proofs.lemmas.List.{take-append-drop, take-append-le}
use Rattle.std.proofs.lemmas.List.Elements.{All-contains, Contains-append_right}
use Rattle.std.proofs.Math.Seq.{take-append_seam}
use Rattle.zone_minutes.specs.Civil.{day_number}
use Rattle.zone_minutes.specs.Zone.{local_of}
use Rattle.due_set.specs.Anacron.{IsJobOpen}
use Rattle.due_set.specs.Calls.{HasCome, IsOnTime}
use Rattle.due_set.specs.Table.{IsJobIn, IsRunByPeriod, Table}
use Rattle.due_set.specs.declared.job.JobKind.{JobKind}
use Rattle.paxos_base.specs.declared.entry.Entry.{Entry}
use Rattle.paxos_base.specs.declared.entry.Entry.TheVariants.{End, Start}
use Rattle.paxos_base.specs.declared.entry.Kind.{Kind}
use Rattle.paxos_base.specs.declared.entry.Kind.TheVariants.{Launch}
use Rattle.paxos_base.specs.declared.rows.JobRow.{JobRow}
use Rattle.cluster_sched.specs.declared.row.SchedRow.{SchedRow}
use Rattle.launch_machine.specs.Clerk.{IsClerkOf, TakesStart, first_force, first_rows, in_force}
use Rattle.launch_machine.specs.Starts.{AdoptionsOf}
use Rattle.launch_machine.specs.declared.force.InForce.{InForce}
use Rattle.launch_machine.specs.Intent.{MayCall}
use Rattle.launch_machine.specs.declared.machine.Intent.TheVariants as intent
use Rattle.launch_machine.proofs.ClerkLemmas.{AppliesAll-same}
use Rattle.launch_machine.proofs.MachineLemmas.{may_start_on}
use Rattle.launch_safety.specs.Fits.{HasEnd, IsEffective, IsHeld}
use Rattle.launch_safety.specs.Launched.{IsCalledAt}
use Rattle.launch_safety.proofs.EffectLemmas.{IsEffective-more}
use Rattle.launch_safety.proofs.OpenLemmas.{start_before}
use Rattle.launch_safety.proofs.PeriodLemmas.{IsStartedBy, clerk_dates, started_once}
use Rattle.step_spec.specs.State.{prefix_of}
use Rattle.agreement.specs.Log.{IsLog}
use Rattle.history.specs.Book.{Row, Standing, standing_after, turn_of, votes_in}
use Rattle.history.specs.Legal.{IsLegal, MayFollow}
use Rattle.history.specs.declared.turn.Turn.{Turn}
use Rattle.history.specs.declared.turn.Turn.TheVariants.{Did, Stopped, Restarted, Arrived}
use Rattle.history.proofs.Agreement.{book_log}
use Rattle.launch_safety.specs.Fitting.{held_in}
use Rattle.launch_safety.proofs.Whole.{effective_may, front_force, held_first, whole}
use Rattle.launch_safety.specs.Readings.{AreTurnsBy, IsTurnBy}
use Rattle.launch_safety.proofs.ReadLemmas.{held_by}
use Rattle.launch_safety.specs.Asked.{IsAskedAt, ReadsAt}
use Rattle.launch_safety.proofs.Rises.{AllGoOn, rises}
use Rattle.launch_safety.proofs.WholeReadings.{held_asked, logged_asked, not_ahead, reads_by}
use Rattle.run_outcome.proofs.FrontLemmas.{by_front, cut_at, front_none, held_on, log_on, short_at, table_at}
use Rattle.run_outcome.specs.Whole.{AdoptsNone}
use Rattle.run_outcome.proofs.Minutes.{AllDrained, IsDrained, IsDrainedBy, Place, earlier, go_back, go_front, later, place}
use Rattle.due_set.proofs.Rising.{Contains-head as in_first}
use Rattle.history.proofs.FrontLemmas.{front_legal, follows_there}
use Rattle.launch_safety.proofs.SettledLemmas.{row_of}

-- who has a turn that reads an instant is one of the replicas
member_of : (n : ℕ) (table : Table) (standing : Standing) (turn : Turn) (row : Row) (now : ℤ) (who : ℕ) → MayFollow n table standing turn row → ReadsAt now turn
    → turn_of turn ≡ Some who → who < n
member_of n table standing (Did other cause made) row now who may reads of = let same : other ≡ who = cc in subst (λ k. k < n) same may.0.member
member_of n table standing (Stopped other None kept) row now who may reads of = absurd reads
member_of n table standing (Stopped other (Some cause) kept) row now who may reads of = let same : other ≡ who = cc in subst (λ k. k < n) same may.0.member
member_of n table standing (Restarted other) row now who may reads of = absurd reads
member_of n table standing (Arrived number) row now who may reads of = absurd reads

module _ (n : ℕ) (table : Table) (rows : List Row) (few : n ≤ 7) (legal : IsLegal n table rows) (adopts : AdoptsNone n table rows) (known : AllDrained n table rows)
    (log : List Entry) (is_log : IsLog n (votes_in rows) log) where
  part_legal : (front back : List Row) → rows ≡ front ++ back → IsLegal n table front
  part_legal front back parts = front_legal n table front back (subst (λ some. IsLegal n table some) parts legal)

  -- ---- a start of the log

  module _ (job : ℕ) (at now : ℤ) (start : IsEffective table log (Start job at now)) where
    abbrev slot : ℕ
    slot = length start.before

    asked : IsAskedAt n table rows slot now (intent.Start job at)
    asked = logged_asked n table rows log start.before start.after job at now few legal is_log start.parts

    drained : IsDrained n table asked.front asked.row asked.back now
    drained = known.each asked.front asked.row asked.back now asked.parts asked.reads

    -- the front that is drained at its reading
    abbrev upto : List Row
    upto = asked.front ++ asked.row ∷ drained.mid

    upto_parts : rows ≡ upto ++ drained.rest
    upto_parts = asked.parts ∙ ap (λ back. asked.front ++ asked.row ∷ back) drained.parts ∙ sym (append_assoc asked.front (asked.row ∷ drained.mid) drained.rest)

    upto_legal : IsLegal n table upto
    upto_legal = part_legal upto drained.rest upto_parts

    quiet : IsDrainedBy n table upto now
    quiet = drained.drained

    abbrev known_to : ℕ
    known_to = prefix_of ((standing_after n (first_rows table) upto).replicas quiet.who)

    asker_in : asked.who < n
    asker_in = member_of n table (standing_after n (first_rows table) asked.front) asked.row.turn asked.row now asked.who
        (follows_there n table asked.front asked.back asked.row (subst (λ some. IsLegal n table some) asked.parts legal)) asked.reads asked.turn_is

    all_go : AllGoOn (asked.row ∷ drained.mid)
    all_go = go_back asked.front (asked.row ∷ drained.mid) (go_front upto drained.rest (subst AllGoOn upto_parts known.goes))

    -- all have learned up to its slot by then
    up : slot ≤ known_to
    up =
        let rose = rises n table asked.front (asked.row ∷ drained.mid) asked.who few upto_legal all_go in
        let learned = asked.learned in
        let caught_up = quiet.caught_up asked.who asker_in in
        omega (arith, rose, learned, caught_up)

    upto_log : (some : List Entry) × IsLog n (votes_in upto) some
    upto_log = book_log n table upto few upto_legal

    abbrev front_log : List Entry
    front_log = upto_log.0

    upto_none : AdoptionsOf table front_log []
    upto_none = front_none n table rows few legal adopts upto drained.rest upto_parts front_log upto_log.1

    log_is : (more : List Entry) × (log ≡ front_log ++ more)
    log_is = log_on n table rows few legal upto drained.rest front_log log upto_parts upto_log.1 is_log

    short : known_to ≤ length front_log
    short = short_at n table upto front_log quiet.who few upto_legal upto_log.1

    clerk : IsClerkOf table (take known_to front_log) quiet.asks.rows
    clerk = table_at n table upto front_log quiet.who quiet.asks.rows few upto_legal upto_log.1 quiet.asks.rows_are

    -- had they learned no more, the start could be made then
    not_last : slot ≡ known_to → ⊥
    not_last same =
        let within : slot ≤ length front_log = omega (arith, short, same) in
        let cut : take slot front_log ≡ start.before =
        sym (take-append-le slot front_log log_is.0 within) ∙ ap (take slot) (sym log_is.1 ∙ start.parts) ∙ take-append_seam start.before (Start job at now ∷ start.after) in
        let clerk_there : IsClerkOf table start.before quiet.asks.rows = subst (λ some. IsClerkOf table some quiet.asks.rows) (ap (λ k. take k front_log) (sym same) ∙ cut) clerk in
        let one : start.takes.0 ≡ quiet.asks.rows = AppliesAll-same table (first_rows table) start.before start.takes.0 quiet.asks.rows start.takes.1 clerk_there in
        quiet.asks.rests.1 job at (subst (λ some. TakesStart table some job at now) one start.takes.2)

    below : slot < known_to
    below = elim (cases_lt slot known_to) [
      | inl lt ↦ lt
      | inr ge ↦ absurd (not_last (omega (arith, ge, up)))
    ]

    in_front : IsEffective table (take known_to front_log) (Start job at now)
    in_front =
        let cut = cut_at front_log log_is.0 start.before start.after (Start job at now) known_to (sym log_is.1 ∙ start.parts) below short in
        record { before = start.before; after = cut.0; parts = cut.1; takes = start.takes }

    -- ---- of a job that runs by its period

    module _ (by : IsRunByPeriod table job) where
      pub opens : IsJobOpen table 0 job start.takes.2.row.last start.takes.2.row.cursor now at
      opens = may_start_on table job start.takes.2.row at now by (effective_may n table rows few legal log is_log (adopts log is_log) job at now start)

      known_job : job < length table.jobs
      known_job = slice_get_within table.jobs job opens.job opens.is_in.is_job

      found : (row : JobRow) × (slice_get quiet.asks.rows job ≡ Some row)
      found = row_of table (take known_to front_log) quiet.asks.rows job clerk known_job

      begun : IsStartedBy table (take known_to front_log) job found.0.cursor found.0.open_now at
      begun = (clerk_dates table (take known_to front_log) quiet.asks.rows job known_job clerk found.0 found.1).started at (now, in_front)

      first : first_force ≡ in_force table quiet.asks.rows
      first =
          sym (front_force n table upto few upto_legal front_log upto_log.1 upto_none (take known_to front_log) (drop known_to front_log) quiet.asks.rows
          (sym (take-append-drop known_to front_log)) clerk)

      -- it isn't open any more, since it could be called then
      not_open : (since : ℤ) → found.0.open_now ≡ Some since → begun.at ≤ℤ at → ⊥
      not_open since is_open le =
          let low = begun.le in
          let same : begun.at ≡ at = omega (arith, ints, le, low) in
          let shown = opens.is_date in
          let come : at ≤ℤ day_number (local_of opens.zone now) = omega (arith, ints, shown) in
          quiet.asks.rests.0 job at (record {
            known = known_job;
            row = found.0;
            is_row = found.1;
            since = since;
            is_open = is_open;
            cursor = begun.is ∙ ap Some same;
            spec = opens.job;
            zone = opens.zone;
            is_in = subst (λ (force : InForce). IsJobIn table force.version job opens.job opens.zone) first opens.is_in;
            come = subst (λ (k : JobKind). HasCome k opens.zone at now) (sym opens.kind) come;
          })

      ended : (kind : Kind) × HasEnd table (take known_to front_log) job at kind
      ended = by_open found.0.open_now refl
        where
          by_open : (open_now : Option ℤ) → found.0.open_now ≡ open_now → (kind : Kind) × HasEnd table (take known_to front_log) job at kind
          by_open None is = begun.idle is
          by_open (Some since) is = by_lt_z at begun.at (λ lt. begun.before lt) (λ le. absurd (not_open since is le))

      held : IsHeld (held_in n table upto) job at ended.0
      held = (whole n table upto few upto_legal front_log upto_log.1).ended job at ended.0
          (subst (λ some. HasEnd table some job at ended.0) (take-append-drop known_to front_log)
          (IsEffective-more table (take known_to front_log) (drop known_to front_log) (End job at ended.0) ended.1))

      abbrev row : SchedRow
      row = held.row

      among : Contains (held_in n table rows) row
      among = held_on n table rows upto drained.rest row upto_parts held.among

      no_later : row.now.0 ≤ℤ now
      no_later = held_by n table now upto row upto_legal quiet.by held.among

      -- it was called behind its start
      called : (slot : ℕ) × IsAskedAt n table rows slot row.now.0 (intent.Call row.name.job row.name.at row.kind)
      called = held_asked n table rows row few legal among

      no_sooner : now ≤ℤ row.now.0
      no_sooner =
          let call = called.1 in
          let call_parts : rows ≡ call.front ++ call.row ∷ call.back = call.parts in
          let call_legal = part_legal call.front (call.row ∷ call.back) call_parts in
          let stood = known.each call.front call.row call.back row.now.0 call_parts call.reads in
          let read : AreTurnsBy row.now.0 call.front = by_front row.now.0 call.front (call.row ∷ stood.mid) stood.drained.by in
          let (call_log, is_call_log) = book_log n table call.front few call_legal in
          let state = prefix_of ((standing_after n (first_rows table) call.front).replicas call.who) in
          let clerk_then = table_at n table call.front call_log call.who call.launch few call_legal is_call_log call.launch_is in
          let may : MayCall table call.launch row.name.job row.name.at row.now.0 = call.asks.0.may in
          let before = start_before table (take state call_log) call.launch row.name.job row.name.at clerk_then
          (record { row = may.row; is_row = may.is_row; since = may.since; is_open = may.is_open; cursor = may.cursor }) in
          let in_call : IsEffective table call_log (Start row.name.job row.name.at before.0) =
          subst (λ some. IsEffective table some (Start row.name.job row.name.at before.0)) (take-append-drop state call_log)
          (IsEffective-more table (take state call_log) (drop state call_log) (Start row.name.job row.name.at before.0) before.1) in
          let low : before.0 ≤ℤ row.now.0 = not_ahead n table call.front call_log row.name.job row.name.at before.0 row.now.0 few call_legal is_call_log in_call read in
          let on = log_on n table rows few legal call.front (call.row ∷ call.back) call_log log call_parts is_call_log is_log in
          let in_log : IsEffective table log (Start row.name.job row.name.at before.0) =
          subst (λ some. IsEffective table some (Start row.name.job row.name.at before.0)) (sym on.1)
          (IsEffective-more table call_log on.0 (Start row.name.job row.name.at before.0) in_call) in
          let of_job : IsEffective table log (Start job row.name.at before.0) = subst (λ number. IsEffective table log (Start number row.name.at before.0)) held.of_job in_log in
          let of_date : IsEffective table log (Start job at before.0) = subst (λ date. IsEffective table log (Start job date before.0)) held.due_at of_job in
          let same : before.0 ≡ now = started_once table log job at before.0 now of_date start in
          omega (arith, ints, low, same)

      then : row.now.0 ≡ now
      then = omega (arith, ints, no_later, no_sooner)

      launched : row.kind ≡ Launch
      launched =
          let backed = held_first n table rows log row few legal is_log (adopts log is_log) among in
          let is_in : IsJobIn table 0 row.name.job opens.job opens.zone = subst (λ number. IsJobIn table 0 number opens.job opens.zone) (sym held.of_job) opens.is_in in
          let shown : day_number (local_of opens.zone row.now.0) ≡ row.name.at =
          ap (λ instant. day_number (local_of opens.zone instant)) then ∙ sym opens.is_date ∙ sym held.due_at in
          (backed.kind opens.job opens.zone is_in).1 (subst (λ (k : JobKind). IsOnTime k opens.zone table.grace row.name.at row.now.0) (sym opens.kind) shown)

      -- so it is held as launched, and was called at its reading
      pub called_then : IsCalledAt (held_in n table rows) job at Launch now
      called_then = record { row = row; among = among; of_job = held.of_job; due_at = held.due_at; of_kind = launched; called = then }

  -- ---- starts stand in the log in the order of their readings

  pub in_order : (one other : ℕ) (at date now later_now : ℤ) (first : IsEffective table log (Start one at now)) (second : IsEffective table log (Start other date later_now)) → now <ℤ later_now
      → length first.before < length second.before
  in_order one other at date now later_now first second sooner =
      go (place (upto one at now first) (drained one at now first).rest (asked other date later_now second).front (asked other date later_now second).row (asked other date later_now second).back
      (sym (upto_parts one at now first) ∙ (asked other date later_now second).parts))
    where
      go : Place (upto one at now first) (drained one at now first).rest (asked other date later_now second).front (asked other date later_now second).row (asked other date later_now second).back
          → length first.before < length second.before
      go (earlier more parts rest) =
          let ask = asked other date later_now second in
          let there : Contains (ask.front ++ ask.row ∷ more) ask.row = Contains-append_right ask.front (ask.row ∷ more) ask.row (in_first ask.row more) in
          let read = reads_by later_now now ask.row.turn ask.reads
          (All-contains (λ (r : Row). IsTurnBy now r.turn) (upto one at now first) ask.row (quiet one at now first).by (subst (λ some. Contains some ask.row) (sym parts) there)) in
          absurd (omega (arith, ints, read, sooner))
      go (later less front rest) =
          let ask = asked other date later_now second in
          let who = ask.who in
          let ask_legal : IsLegal n table (upto one at now first ++ less) = subst (λ some. IsLegal n table some) front (part_legal ask.front (ask.row ∷ ask.back) ask.parts) in
          let go_on : AllGoOn (upto one at now first ++ less) = subst AllGoOn front (go_front ask.front (ask.row ∷ ask.back) (subst AllGoOn ask.parts known.goes)) in
          let rose = rises n table (upto one at now first) less who few ask_legal (go_back (upto one at now first) less go_on) in
          let learned : prefix_of ((standing_after n (first_rows table) (upto one at now first ++ less)).replicas who) ≡ length second.before =
          subst (λ some. prefix_of ((standing_after n (first_rows table) some).replicas who) ≡ length second.before) front ask.learned in
          let caught_up = (quiet one at now first).caught_up who (asker_in other date later_now second) in
          let low = below one at now first in
          omega (arith, rose, learned, caught_up, low)
