-- What is voted for and called in a turn of a legal book was asked for then, or was cast before.
use Rattle.std.proofs.Common.{◌≡◌, ◌⊎◌, ℕ, ◌≤◌, Bool, true, false, Option, Some, None, List, [], ◌∷◌, ℤ, refl, sym, ap, ◌∙◌, inl, inr, arith, subst, append-nil}
use Rattle.std.specs.List.{Contains, flat_map}
use Rattle.std.proofs.lemmas.List.Elements.{All-contains_itself}
use Rattle.paxos_base.specs.Vote.{vote_at}
use Rattle.paxos_base.specs.declared.durable.Delta.{Delta}
use Rattle.paxos_base.specs.declared.entry.Entry.{Entry}
use Rattle.paxos_base.specs.declared.entry.Entry.TheVariants.{Noop, Start, End, Table as TableEntry}
use Rattle.paxos_base.specs.declared.entry.Vote.{Vote}
use Rattle.paxos_base.specs.declared.rows.JobRow.{JobRow}
use Rattle.due_set.specs.Table.{Table}
use Rattle.cluster_sched.specs.declared.row.SchedRow.{SchedRow}
use Rattle.launch_machine.specs.Answers.{IsIntent}
use Rattle.launch_machine.specs.Clerk.{first_rows}
use Rattle.launch_machine.specs.declared.machine.Intent.{Intent}
use Rattle.launch_machine.specs.declared.machine.Intent.TheVariants as intent
use Rattle.step_spec.specs.Act.{Act}
use Rattle.step_spec.specs.Coherent.{IsCoherent}
use Rattle.step_spec.specs.Folds.{calls_of, deltas_of}
use Rattle.step_spec.specs.May.{AllMay, MayCallFor, Setting, TellsWhatWasSaid}
use Rattle.step_spec.specs.Propose.{bound_by}
use Rattle.step_spec.specs.State.{State, prefix_of}
use Rattle.step_spec.specs.Step.{Event, Campaign, Tick, Hear, Answer, IsLaunchTable, IsPlanned, Plan}
use Rattle.step_spec.proofs.LineLemmas.{step_may}
use Rattle.step_spec.proofs.Lists.{map_came, nothing_in}
use Rattle.step_spec.proofs.VoteLemmas.{found_vote}
use Rattle.agreement.specs.Agree.{HasCast}
use Rattle.agreement.specs.Transition.{identity_of}
use Rattle.agreement.specs.World.{CastVote}
use Rattle.agreement.proofs.Told.{HasHeard, IsLed}
use Rattle.history.specs.Book.{Row, Standing, acts_at, cast_votes, learned_in, standing_after, turn_of, vote_of_delta, votes_in, votes_of}
use Rattle.history.specs.Legal.{IsEventOfCause, IsLegal, MayFollow, TakesTurn, kept_votes}
use Rattle.history.specs.declared.turn.CallRow.{CallRow}
use Rattle.history.specs.declared.turn.Cause.{Cause}
use Rattle.history.specs.declared.turn.Cause.TheVariants as causes
use Rattle.history.specs.declared.turn.Turn.{Turn}
use Rattle.history.specs.declared.turn.Turn.TheVariants.{Did, Stopped, Restarted, Arrived}
use Rattle.history.proofs.Reached.{heard_event}
use Rattle.history.proofs.Standings.{call_asked}
use Rattle.history.proofs.PlainLemmas.{AsksFor, step_calls, votes_of_deltas}
use Rattle.launch_safety.proofs.CallLemmas.{call_read}
use Rattle.launch_safety.specs.Asked.{ReadsAt, TicksAt, state_before}
use Rattle.launch_safety.proofs.Offers.{IsOffered, IsTicked, heard_accept, step_votes}
use Rattle.due_set.proofs.Rising.{Contains-head as in_first}
use Rattle.history.proofs.BookLemmas.{Stands, stands}

-- a vote for the entry at the slot is among the votes
pub record WasCast (votes : List CastVote) (slot : ℕ) (entry : Entry) : Type 0 where
  pub cast : CastVote
  pub has : Contains votes cast
  pub at_slot : cast.vote.slot ≡ slot
  pub of_entry : cast.vote.entry ≡ entry

-- the turn that comes behind the book asks for this
pub record AsksIn (n : ℕ) (table : Table) (book : List Row) (turn : Turn) (slot : ℕ) (now : ℤ) (wanted : Intent) : Type 0 where
  pub who : ℕ
  pub turn_is : turn_of turn ≡ Some who
  pub reads : ReadsAt now turn
  pub learned : prefix_of (state_before n table book who) ≡ slot
  pub launch : List JobRow
  pub launch_is : IsLaunchTable table (state_before n table book who) launch
  pub asks : IsIntent table launch now wanted

-- it asks for the start or the adoption; of another entry nothing is said
abbrev pub AsksEntry : ℕ → Table → List Row → Turn → ℕ → Entry → Type 0
AsksEntry n table book turn slot (Start job at now) = AsksIn n table book turn slot now (intent.Start job at)
AsksEntry n table book turn slot (TableEntry version now) = AsksIn n table book turn slot now (intent.Adopt version)
AsksEntry n table book turn slot entry = Unit {0}

-- a cause whose event is a tick ticks at its instant
ticks_at : (n : ℕ) (table : Table) (standing : Standing) (who : ℕ) (cause : Cause) (event : Event) (now : ℤ) (plan : Plan) → IsEventOfCause n table standing who cause event → event ≡ Tick now plan → TicksAt now cause
ticks_at n table standing who causes.Campaign event now plan is so = absurd (let other : Campaign ≡ Tick now plan = sym is ∙ so in cc)
ticks_at n table standing who (causes.Tick minute) event now plan (inside, other, is) so =
    let one : Tick minute.0 other ≡ Tick now plan = sym is ∙ so in
    let same : minute.0 ≡ now = cc in
    same
ticks_at n table standing who (causes.Hear number) event now plan is so = absurd (let other : Hear is.letter.from is.messages ≡ Tick now plan = sym is.is ∙ so in cc)
ticks_at n table standing who causes.Answer event now plan is so =
    absurd (let other : Answer is.row.name.job is.row.name.at is.row.kind is.plan.rows ≡ Tick now plan = sym is.is ∙ so in cc)

module _ (n : ℕ) (table : Table) (book : List Row) (few : n ≤ 7) (legal : IsLegal n table book) (who : ℕ) (cause : Cause) (event : Event)
    (takes : TakesTurn n table (standing_after n (first_rows table) book) who cause event) where
  abbrev standing : Standing
  standing = standing_after n (first_rows table) book

  abbrev state : State
  state = standing.replicas who

  pub there : Stands n table book
  there = stands n table book few legal

  abbrev pub setting : Setting
  setting = record { self = identity_of n who; table = table; event = Some event; said = there.w.said; answered = there.w.answered }

  told : TellsWhatWasSaid setting event
  told = heard_event n table standing (votes_in book) (learned_in book) there.w who cause event there.matches takes.event_of

  -- ---- votes

  -- it was voted for before, or the turn offers it
  abbrev IsVoted : ℕ → Entry → Type 0
  IsVoted slot entry = WasCast (votes_in book) slot entry ⊎ ((prefix_of state ≡ slot) × IsTicked event entry)

  cast_before : (by : ℕ) (vote : Vote) (slot : ℕ) → vote.slot ≡ slot → HasCast there.w.cast by vote → IsVoted slot vote.entry
  cast_before by vote slot is has =
      let cast : CastVote = record { by = by; vote = vote } in
      inl (record { cast = cast; has = subst (λ votes. Contains votes cast) there.matches.cast has; at_slot = is; of_entry = refl })

  asked_before : (of : Event) (vote : Vote) → TellsWhatWasSaid setting of → AsksFor of vote → IsVoted vote.slot vote.entry
  asked_before Campaign vote said asked = absurd asked
  asked_before (Tick now plan) vote said asked = absurd asked
  asked_before (Hear from messages) vote said asked =
      cast_before from vote vote.slot refl (there.followed.whole.kept.accepts from vote (heard_accept there.w.said from messages vote said asked)).0
  asked_before (Answer job at kind rows) vote said asked = absurd asked

  bound_before : (vote : Vote) (offered : IsOffered event state vote) (found : Option Vote) → vote_at (prefix_of state) offered.best ≡ found
      → IsVoted (prefix_of state) (bound_by found offered.entry)
  bound_before vote offered None is = inr (refl, offered.ticked)
  bound_before vote offered (Some older) is =
      let heard = subst (λ s. HasHeard n there.w (prefix_of s) s.term) (there.matches.replicas who) (there.followed.whole.told.terms who takes.member) in
      let led : IsLed n there.w (prefix_of state) offered.ballot offered.best = subst (λ term. HasHeard n there.w (prefix_of state) term) offered.leader heard in
      let found = found_vote (Contains offered.best) (prefix_of state) offered.best older (All-contains_itself offered.best) is in
      let backed = led.rallied.backed older found.1 in
      cast_before backed.0 older (prefix_of state) found.0 backed.1

  turn_vote : (vote : Vote) → Contains (votes_of (acts_at n standing who event)) vote → IsVoted vote.slot vote.entry
  turn_vote vote has = elim (step_votes (identity_of n who) event state vote has) [
    | inl asked ↦ asked_before event vote told asked
    | inr offered ↦ subst (λ (v : Vote). IsVoted v.slot v.entry) offered.is (bound_before vote offered (vote_at (prefix_of state) offered.best) refl)
  ]

  -- what is offered is asked for in the turn
  module _ (turn : Turn) (of : turn_of turn ≡ Some who) (reads : (now : ℤ) → TicksAt now cause → ReadsAt now turn) where
    wanted_in : (slot : ℕ) (now : ℤ) (plan : Plan) (wanted : Intent) → prefix_of state ≡ slot → event ≡ Tick now plan → plan.intent ≡ wanted
        → AsksIn n table book turn slot now wanted
    wanted_in slot now plan wanted learned is wants =
        let planned : IsPlanned table state (Tick now plan) = subst (IsPlanned table state) is takes.planned in
        record {
          who = who;
          turn_is = of;
          reads = reads now (ticks_at n table standing who cause event now plan takes.event_of is);
          learned = learned;
          launch = plan.rows;
          launch_is = planned.0;
          asks = subst (IsIntent table plan.rows now) wants planned.1;
        }

    ticked_in : (slot : ℕ) (entry : Entry) → prefix_of state ≡ slot → IsTicked event entry → AsksEntry n table book turn slot entry
    ticked_in slot Noop learned ticked = tt
    ticked_in slot (End job at kind) learned ticked = tt
    ticked_in slot (Start job at now) learned (plan, is, wants) = wanted_in slot now plan (intent.Start job at) learned is wants
    ticked_in slot (TableEntry version now) learned (plan, is, wants) = wanted_in slot now plan (intent.Adopt version) learned is wants

    pub vote_asked : (vote : Vote) → Contains (votes_of (acts_at n standing who event)) vote
        → WasCast (votes_in book) vote.slot vote.entry ⊎ AsksEntry n table book turn vote.slot vote.entry
    vote_asked vote has = elim (turn_vote vote has) [
      | inl before ↦ inl before
      | inr offered ↦ inr (ticked_in vote.slot vote.entry offered.0 offered.1)
    ]

  -- ---- calls

  pub acts_may : AllMay setting state (acts_at n standing who event)
  acts_may =
      step_may setting state event refl (omega (arith, takes.member, few))
      (subst (λ s. IsCoherent (identity_of n who) s) (there.matches.replicas who) (there.followed.whole.kept.sound who takes.member)) takes.planned told

  pub call_may : (row : SchedRow) → Contains (calls_of (acts_at n standing who event)) row → MayCallFor setting state row
  call_may row has = step_calls setting event state row acts_may has

-- ---- turns

-- the vote that is kept of a step is a vote of the step
kept_vote : (acts : List Act) (delta : Delta) (kept : Bool) (vote : Vote) → deltas_of acts ≡ delta ∷ [] → Contains (kept_votes kept delta) vote → Contains (votes_of acts) vote
kept_vote acts delta true vote is has =
    let votes : votes_of acts ≡ vote_of_delta delta = sym (votes_of_deltas acts) ∙ ap (λ deltas. flat_map vote_of_delta deltas) is ∙ append-nil (vote_of_delta delta) in
    subst (λ some. Contains some vote) (sym votes) has
kept_vote acts delta false vote is has = nothing_in has

-- a vote that is cast is one of the votes
vote_came : (who : Option ℕ) (votes : List Vote) (cast : CastVote) → Contains (cast_votes who votes) cast → Contains votes cast.vote
vote_came None votes cast has = nothing_in has
vote_came (Some who) votes cast has = let came = map_came _ votes cast has in subst (λ (c : CastVote). Contains votes c.vote) came.is came.has

module _ (n : ℕ) (table : Table) (book : List Row) (few : n ≤ 7) (legal : IsLegal n table book) where
  abbrev st : Standing
  st = standing_after n (first_rows table) book

  -- it was cast before, or the turn asks for it
  abbrev pub IsNew : Turn → ℕ → Entry → Type 0
  IsNew turn slot entry = WasCast (votes_in book) slot entry ⊎ AsksEntry n table book turn slot entry

  none_new : (turn : Turn) (votes : List Vote) → votes ≡ [] → (vote : Vote) → Contains votes vote → IsNew turn vote.slot vote.entry
  none_new turn votes none vote has = nothing_in (subst (λ some. Contains some vote) none has)

  row_vote : (turn : Turn) (row : Row) → MayFollow n table st turn row → (vote : Vote) → Contains row.votes vote → IsNew turn vote.slot vote.entry
  row_vote (Did who cause made) row may vote has =
      vote_asked n table book few legal who cause row.event may.0 (Did who cause made) refl (λ now ticks. ticks) vote (subst (λ votes. Contains votes vote) may.1.votes has)
  row_vote (Stopped who None kept) row (member, runs, not_kept, nothing) vote has = none_new (Stopped who None kept) row.votes nothing.votes vote has
  row_vote (Stopped who (Some cause) kept) row (takes, within) vote has =
      vote_asked n table book few legal who cause row.event takes (Stopped who (Some cause) kept) refl (λ now ticks. ticks) vote
      (kept_vote (acts_at n st who row.event) within.delta kept vote within.changes (subst (λ votes. Contains votes vote) within.votes has))
  row_vote (Restarted who) row (member, stopped, nothing) vote has = none_new (Restarted who) row.votes nothing.votes vote has
  row_vote (Arrived number) row (late, nothing) vote has = none_new (Arrived number) row.votes nothing.votes vote has

  pub row_votes : (turn : Turn) (row : Row) → MayFollow n table st turn row → (cast : CastVote) → Contains (cast_votes (turn_of turn) row.votes) cast → IsNew turn cast.vote.slot cast.vote.entry
  row_votes turn row may cast has = row_vote turn row may cast.vote (vote_came (turn_of turn) row.votes cast has)

  -- the call of a turn is asked for in it
  pub row_call : (who : ℕ) (cause : Cause) (row : Row) (made : CallRow) → MayFollow n table st (Did who cause (Some made)) row
      → AsksIn n table book (Did who cause (Some made)) (prefix_of (st.replicas who)) made.row.now.0 (intent.Call made.row.name.job made.row.name.at made.row.kind)
  row_call who cause row made may =
      let asked : Contains (calls_of (acts_at n st who row.event)) made.row =
      subst (λ calls. Contains calls made.row) (sym (call_asked n table st who cause made row may)) (in_first made.row []) in
      let called = call_may n table book few legal who cause row.event may.0 made.row asked in
      let read = call_read n table st who cause made row may in
      record {
        who = who;
        turn_is = refl;
        reads = subst (TicksAt made.row.now.0) (sym read.is) (sym read.same);
        learned = refl;
        launch = called.rows;
        launch_is = called.rows_are;
        asks = called.asked;
      }
