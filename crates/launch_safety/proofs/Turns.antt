-- What a replica votes for and calls in a turn of a legal book.
use Rattle.std.proofs.Common.{◌≡◌, ℕ, ◌≤◌, true, false, Option, Some, None, List, [], ◌∷◌, take, drop, ℤ, refl, ap, ◌∙◌, inl, inr, arith, subst, IsTrue}
use Rattle.std.specs.List.{Contains, slice_get}
use Rattle.std.specs.Ordering.{int_eq}
use Rattle.std.proofs.lemmas.Bool.Decides.{Decides-int_eq}
use Rattle.std.proofs.lemmas.List.{take-append-drop}
use Rattle.std.proofs.lemmas.List.Elements.{All-contains_itself}
use Rattle.paxos_base.specs.Vote.{vote_at}
use Rattle.paxos_base.specs.declared.entry.Entry.{Entry}
use Rattle.paxos_base.specs.declared.entry.Entry.TheVariants.{Noop, Start, End, Table as TableEntry}
use Rattle.paxos_base.specs.declared.entry.Vote.{Vote}
use Rattle.paxos_base.specs.declared.rows.JobRow.{JobRow}
use Rattle.due_set.specs.Table.{Table}
use Rattle.cluster_sched.specs.declared.row.SchedRow.{SchedRow}
use Rattle.launch_machine.specs.Clerk.{TakesEnd, first_rows, in_force, table_size}
use Rattle.launch_machine.specs.Intent.{MayCall}
use Rattle.launch_safety.specs.Fits.{IsBacked, IsHeld, IsStartedUnder}
use Rattle.launch_safety.proofs.EffectLemmas.{started_more}
use Rattle.launch_safety.proofs.OpenLemmas.{start_under}
use Rattle.step_spec.specs.Coherent.{IsCoherent}
use Rattle.step_spec.specs.Folds.{calls_of}
use Rattle.step_spec.specs.May.{AllMay, Ending, MayCallFor, MayEnter, Setting, TellsWhatWasSaid}
use Rattle.step_spec.specs.Propose.{bound_by, is_open, is_row_open}
use Rattle.step_spec.specs.State.{State, prefix_of}
use Rattle.step_spec.specs.Step.{Event, Campaign, Tick, Hear, Answer}
use Rattle.step_spec.proofs.LineLemmas.{step_may}
use Rattle.step_spec.proofs.Lists.{found_in, nothing_in}
use Rattle.step_spec.proofs.VoteLemmas.{found_vote}
use Rattle.agreement.specs.Agree.{HasCast}
use Rattle.agreement.specs.Log.{FollowsLog, IsLog}
use Rattle.agreement.specs.Transition.{identity_of}
use Rattle.agreement.specs.World.{CastVote, Learning, World}
use Rattle.agreement.proofs.Kept.{Origin, asked_by, proposed_by}
use Rattle.agreement.proofs.Told.{HasHeard, IsLed}
use Rattle.history.specs.Book.{Row, Standing, acts_at, learned_in, standing_after, votes_in, votes_of}
use Rattle.history.specs.Legal.{IsEventOfCause, IsLegal, TakesTurn}
use Rattle.history.specs.declared.turn.Cause.{Cause}
use Rattle.history.specs.declared.turn.Cause.TheVariants as causes
use Rattle.history.proofs.Agreement.{agrees}
use Rattle.history.proofs.Reached.{Matches}
use Rattle.launch_safety.specs.Fitting.{TakesEffectAt}
use Rattle.launch_safety.proofs.Invariant.{SaysHeld, Fitting}
use Rattle.history.proofs.PlainLemmas.{step_calls, step_origin}
use Rattle.due_set.proofs.Rising.{Contains-head as in_first, Contains-cases as cons_cases}
use Rattle.history.proofs.BookLemmas.{Stands, stands}

-- an open launch may be ended
open_takes : (rows : List JobRow) (job : ℕ) (at : ℤ) (found : Option JobRow) → slice_get rows job ≡ found → is_row_open at found ≡ true → TakesEnd rows job at
open_takes rows job at None is opened = absurd cc
open_takes rows job at (Some row) is opened = by_open row.open_now row.cursor refl refl opened
  where
    by_open : (open_now cursor : Option ℤ) → row.open_now ≡ open_now → row.cursor ≡ cursor → is_row_open at (Some row) ≡ true → TakesEnd rows job at
    by_open None cursor is_open is_cursor opened = absurd (let closed : false ≡ true = rw is_open at opened in cc)
    by_open (Some since) None is_open is_cursor opened = absurd (let closed : false ≡ true = rw (is_open, is_cursor) at opened in cc)
    by_open (Some since) (Some other) is_open is_cursor opened =
        let same : int_eq other at ≡ true = rw (is_open, is_cursor) at opened in
        record {
          row = row;
          is_row = is;
          since = since;
          is_open = is_open;
          cursor = is_cursor ∙ ap Some ((Decides-int_eq other at).0 same);
        }

pub end_takes : (rows : List JobRow) (job : ℕ) (at : ℤ) → IsTrue (is_open job at rows) → TakesEnd rows job at
end_takes rows job at opened = open_takes rows job at (slice_get rows job) refl opened

-- the answer that an event brings a replica
abbrev pub answered_by : ℕ → Event → List Ending
answered_by who Campaign = []
answered_by who (Tick now plan) = []
answered_by who (Hear from messages) = []
answered_by who (Answer job at kind rows) = record { to = who; job = job; at = at; kind = kind } ∷ []

-- the setting of a replica that takes an event, by what was said in a world
abbrev pub setting_at : ℕ → Table → World → ℕ → Event → Setting
setting_at n table w who event = record { self = identity_of n who; table = table; event = Some event; said = w.said; answered = answered_by who event }

told_of : (n : ℕ) (table : Table) (st : Standing) (votes : List CastVote) (learned : List Learning) (w : World) → Matches n (table_size table) st votes learned w
    → (who : ℕ) (cause : Cause) (event : Event) → IsEventOfCause n table st who cause event → TellsWhatWasSaid (setting_at n table w who event) event
told_of n table st votes learned w m who causes.Campaign event is = rw is tt
told_of n table st votes learned w m who (causes.Tick now) event (inside, plan, is) = rw is tt
told_of n table st votes learned w m who (causes.Hear number) event is =
    rw is.is (m.said is.letter is.messages (found_in st.posted number is.letter is.there) is.heard)
told_of n table st votes learned w m who causes.Answer event is = rw is.is (in_first _ [])

module _ (n : ℕ) (table : Table) (book : List Row) (few : n ≤ 7) (legal : IsLegal n table book) (log : List Entry) (is_log : IsLog n (votes_in book) log)
    (fits : Fitting table log (votes_in book) (standing_after n (first_rows table) book)) (who : ℕ) (cause : Cause) (event : Event)
    (takes : TakesTurn n table (standing_after n (first_rows table) book) who cause event) where
  abbrev standing : Standing
  standing = standing_after n (first_rows table) book

  abbrev state : State
  state = standing.replicas who

  there : Stands n table book
  there = stands n table book few legal

  abbrev setting : Setting
  setting = setting_at n table there.w who event

  told : TellsWhatWasSaid setting event
  told = told_of n table standing (votes_in book) (learned_in book) there.w there.matches who cause event takes.event_of

  acts_may : AllMay setting state (acts_at n standing who event)
  acts_may =
      step_may setting state event refl (omega (arith, takes.member, few))
      (subst (λ s. IsCoherent (identity_of n who) s) (there.matches.replicas who) (there.followed.whole.kept.sound who takes.member)) takes.planned told

  follows : FollowsLog table log state
  follows = (agrees n table book few legal).follow log is_log who takes.runs

  -- ---- calls

  -- the launch table of the replica is that of a front of the log, so what it calls was started under the version in force there
  call_backed : (row : SchedRow) → MayCallFor setting state row → IsBacked table log row
  call_backed row may = record {
    version = (in_force table may.rows).version;
    start = subst (λ some. IsStartedUnder table some (in_force table may.rows).version row.name.job row.name.at) (take-append-drop (prefix_of state) log)
        (started_more table (take (prefix_of state) log) (drop (prefix_of state) log) (in_force table may.rows).version row.name.job row.name.at
        (start_under table (take (prefix_of state) log) may.rows row.name.job row.name.at (follows.table_is may.rows may.rows_are)
        (record { row = asked.row; is_row = asked.is_row; since = asked.since; is_open = asked.is_open; cursor = asked.cursor })));
    spec = asked.spec;
    zone = asked.zone;
    is_in = asked.is_in;
    come = asked.come;
    kind = may.asked.1;
  }
    where
      asked : MayCall table may.rows row.name.job row.name.at row.now.0
      asked = may.asked.0.may

  pub turn_calls : (row : SchedRow) → Contains (calls_of (acts_at n standing who event)) row → IsBacked table log row
  turn_calls row has = call_backed row (step_calls setting event state row acts_may has)

  -- ---- votes

  abbrev Says : ℕ → Entry → Type 0
  Says slot entry = SaysHeld standing.held entry × TakesEffectAt table log slot entry

  cast_says : (by : ℕ) (vote : Vote) → HasCast there.w.cast by vote → Says vote.slot vote.entry
  cast_says by vote has =
      let cast : CastVote = record { by = by; vote = vote } in
      let among : Contains (votes_in book) cast = subst (λ votes. Contains votes cast) there.matches.cast has in
      (fits.says cast among, fits.works cast among)

  -- the scheduler holds what it answers
  answer_held : (of : Cause) → IsEventOfCause n table standing who of event → (ending : Ending) → Contains (answered_by who event) ending
      → IsHeld standing.held ending.job ending.at ending.kind
  answer_held causes.Campaign is ending has = nothing_in (subst (λ e. Contains (answered_by who e) ending) is has)
  answer_held (causes.Tick now) (inside, plan, is) ending has = nothing_in (subst (λ e. Contains (answered_by who e) ending) is has)
  answer_held (causes.Hear number) is ending has = nothing_in (subst (λ e. Contains (answered_by who e) ending) is.is has)
  answer_held causes.Answer is ending has = elim (cons_cases _ [] ending (subst (λ e. Contains (answered_by who e) ending) is.is has)) [
    | inl same ↦ subst (λ (e : Ending). IsHeld standing.held e.job e.at e.kind) same
        (record { row = is.row; among = fits.waits who is.row is.waits; of_job = refl; due_at = refl; of_kind = refl })
    | inr none ↦ nothing_in none
  ]

  -- an entry of the replica's own accord takes effect at its prefix, and an end is what the scheduler has answered
  enters : (entry : Entry) → MayEnter setting state entry → Says (prefix_of state) entry
  enters Noop may = (tt, tt)
  enters (TableEntry version now) may = (tt, (follows.short, (may.rows, follows.table_is may.rows may.rows_are, may.asked.1)))
  enters (Start job at now) may = (tt, (follows.short, (may.rows, follows.table_is may.rows may.rows_are, may.asked.1.takes)))
  enters (End job at kind) may = (
    answer_held cause takes.event_of (record { to = who; job = job; at = at; kind = kind }) may.answered,
    (follows.short, (may.rows, follows.table_is may.rows may.rows_are, end_takes may.rows job at may.open_there)),
  )

  proposes : (vote : Vote) (best : List Vote) (entry : Entry) → IsLed n there.w (prefix_of state) vote.ballot best → MayEnter setting state entry
      → (found : Option Vote) → vote_at (prefix_of state) best ≡ found → Says (prefix_of state) (bound_by found entry)
  proposes vote best entry led may None is = enters entry may
  proposes vote best entry led may (Some older) is =
      let found = found_vote (Contains best) (prefix_of state) best older (All-contains_itself best) is in
      let backed = led.rallied.backed older found.1 in
      subst (λ slot. Says slot older.entry) found.0 (cast_says backed.0 older backed.1)

  of_origin : (vote : Vote) → Origin setting state vote → Says vote.slot vote.entry
  of_origin vote (asked_by from said) = cast_says from vote (there.followed.whole.kept.accepts from vote said).0
  of_origin vote (proposed_by me proposal) =
      let heard = subst (λ s. HasHeard n there.w (prefix_of s) s.term) (there.matches.replicas who) (there.followed.whole.told.terms who takes.member) in
      let led : IsLed n there.w (prefix_of state) vote.ballot proposal.best = subst (λ term. HasHeard n there.w (prefix_of state) term) proposal.leader heard in
      rw (proposal.slot, proposal.bound)
      (proposes vote proposal.best proposal.entry led proposal.may (vote_at (prefix_of state) proposal.best) refl)

  pub turn_votes : (vote : Vote) → Contains (votes_of (acts_at n standing who event)) vote → Says vote.slot vote.entry
  turn_votes vote has = of_origin vote (step_origin setting event state vote acts_may told has)
