-- Two replicas over a table of one job, of which one leads alone: without a flight, with an answer that waits, and with a flight.
use Rattle.std.proofs.Common.{◌≡◌, ℕ, zero, suc, ◌<◌, ◌≤◌, List, [], ◌∷◌, Option, None, Some, ℤ, refl, sym, inl, inr, arith, subst, lit<}
use Rattle.std.proofs.lemmas.List.Elements.{All-cons, All-nil}
use Rattle.paxos_base.specs.Durable.{after_delta}
use Rattle.paxos_base.specs.Members.{with_member}
use Rattle.paxos_base.specs.Vote.{vote_at, votes_from}
use Rattle.paxos_base.specs.declared.durable.Durable.{Durable}
use Rattle.paxos_base.specs.declared.entry.Entry.{Entry}
use Rattle.paxos_base.specs.declared.entry.Entry.TheVariants.{End, Noop}
use Rattle.paxos_base.specs.declared.entry.Kind.TheVariants.{Launch}
use Rattle.paxos_base.specs.declared.entry.Vote.{Vote}
use Rattle.paxos_base.specs.declared.rows.JobRow.{JobRow}
use Rattle.cluster_sched.specs.declared.row.SchedRow.{SchedRow}
use Rattle.launch_machine.specs.Answers.{IsIntent}
use Rattle.launch_machine.specs.declared.machine.Intent.TheVariants.{Call}
use Rattle.term_core.specs.Term.{new_flight}
use Rattle.term_core.specs.declared.flight.Flight.{Flight}
use Rattle.term_core.specs.declared.term.Term.TheVariants.{Follower, Leader}
use Rattle.step_spec.specs.Act.{after_act}
use Rattle.step_spec.specs.Coherent.{IsCoherent}
use Rattle.step_spec.specs.Hear.{hear, hear_all, line, on_accept, on_accepted}
use Rattle.step_spec.specs.Message.{Accept, Accepted}
use Rattle.step_spec.specs.Folds.{after_acts, calls_by}
use Rattle.step_spec.specs.Propose.{answer, is_open, propose, tick}
use Rattle.step_spec.specs.State.{State, prefix_of, promised_in}
use Rattle.step_spec.specs.Step.{Answer, Hear, IsPlanned, Plan, Tick, step}
use Rattle.agreement.specs.Transition.{identity_of}
use Rattle.history.proofs.Asks.{busy, call_asked, is_open_then, minute, opened, sound, with_table}
use Rattle.due_set.specs.Table.{IsSound, Table}
use Rattle.synchronous_rounds.specs.Rounds.{IsAnswerTo, IsAnswerable, IsFreeNow}
use Rattle.synchronous_rounds.specs.Cluster.{Advice, ArePlanned, Cluster, HeardLetter, IsAdvised, events_at, cluster_round, calls_at, before_tick}
use Rattle.synchronous_rounds.specs.Flights.{IsAccepted, IsAsked, IsUnderWay, Proposal, Proposes, asked_vote}
use Rattle.synchronous_rounds.proofs.BeginLemmas.{ends, proposing}
use Rattle.synchronous_rounds.proofs.FreeLemmas.{free_next}
use Rattle.synchronous_rounds.proofs.NearLemmas.{begun_leads}
use Rattle.synchronous_rounds.proofs.StageLemmas.{led_alone_then}
use Rattle.synchronous_rounds.proofs.TickLemmas.{LeadsOn}
use Rattle.synchronous_rounds.proofs.CountLemmas.{few_alone, in_with}
use Rattle.synchronous_rounds.specs.LedAlone.{AreFrom, AreWithin, IsBehind, IsLeading, IsLedAlone, Progress}
use Rattle.due_set.proofs.Rising.{Contains-head as in_first}

-- ---- the replicas

-- a launch is open, and its start lies below the base
abbrev open_rows : List JobRow
open_rows = with_table (opened 0)

abbrev far : Progress
far = record { ballot = 16; table = busy; rows = open_rows; prefix = 1; base = 1 }

abbrev kept_with : ℕ → List Vote → Durable
kept_with tried votes = record { tried = tried; promised = Some 16; votes = votes; base = 1; rows = open_rows }

abbrev leader_with : List Vote → List Vote → Option Flight → State
leader_with votes best flight = record { kept = kept_with 2 votes; learned = []; term = Leader 16 best flight; seen = 16 }

abbrev follower_with : List Vote → State
follower_with votes = record { kept = kept_with 0 votes; learned = []; term = Follower None; seen = 16 }

-- the first of two, and the other
abbrev two : {A : Type 0} → A → A → ℕ → A
two first second zero = first
two first second (suc more) = second

abbrev plan_now : Plan
plan_now = record { rows = open_rows; intent = Call 0 (minute 0) Launch }

abbrev advice_now : ℕ → Advice
advice_now who = record { rows = open_rows; plan = plan_now }

-- what the launch table asks for, at the tick
planned_tick : (open_rows ≡ open_rows) × IsIntent busy open_rows (minute 0) (Call 0 (minute 0) Launch)
planned_tick = (refl, call_asked 0)

-- ---- without a flight

abbrev free_with : Option SchedRow → Cluster
free_with waits = record { replicas = two (leader_with [] [] None) (follower_with []); waits = two waits None; mails = λ who. [] }

led_alone_free : (waits : Option SchedRow) → IsLedAlone 2 0 16 1 (free_with waits)
led_alone_free waits = record {
  member = lit< tt;
  few = omega arith;
  more = omega arith;
  behind = behind;
  within = λ who below. tt;
  from = λ who below. tt;
}
  where
    behind : (who : ℕ) → who < 2 → (who ≡ 0 → ⊥) → IsBehind 16 1 ((free_with waits).replicas who)
    behind zero below apart = absurd (apart refl)
    behind (suc more) below apart = record { promised = omega arith; follows = tt; short = omega arith }

leading_free : IsLeading [] None far (leader_with [] [] None)
leading_free = record { is = refl; promised = refl; launch = refl; learned = refl; from_base = refl }

coherent_leader : IsCoherent (identity_of 2 0) (leader_with [] [] None)
coherent_leader = record { promised = omega arith; term = (record { promised = refl; member = refl; round = refl }, tt); votes = All-nil (λ vote. vote.ballot ≤ 16) }

coherent_follower : IsCoherent (identity_of 2 1) (follower_with [])
coherent_follower = record { promised = omega arith; term = tt; votes = All-nil (λ vote. vote.ballot ≤ 16) }

advised_free : IsAdvised 2 busy (minute 0) advice_now (free_with None)
advised_free = record { coherent = coherent; planned = planned }
  where
    coherent : (who : ℕ) → who < 2 → IsCoherent (identity_of 2 who) ((free_with None).replicas who)
    coherent zero below = coherent_leader
    coherent (suc zero) below = coherent_follower
    coherent (suc (suc more)) below = absurd (omega (arith, below))

    planned : (who : ℕ) → who < 2 → ArePlanned (identity_of 2 who) busy (events_at (minute 0) advice_now (free_with None) who) ((free_with None).replicas who)
    planned zero below = (planned_tick, tt)
    planned (suc more) below = (planned_tick, tt)

free_now : IsFreeNow 2 0 [] far (free_with None)
free_now = record { free = record { led_alone = led_alone_free None; leading = leading_free; sound = sound }; alone = refl }

-- ---- with an answer that waits

abbrev answer_row : SchedRow
answer_row = record { name = record { job = 0; at = minute 0 }; kind = Launch; now = record { 0 = minute 0 }; by = 0 }

answerable : IsAnswerable 2 0 [] far answer_row (free_with (Some answer_row))
unfolding votes_from
answerable = record {
  free = record { led_alone = led_alone_free (Some answer_row); leading = leading_free; sound = sound };
  waits = refl;
  unbound = refl;
  open_there = is_open_then 0;
}

abbrev ending : Entry
ending = End 0 (minute 0) Launch

-- the launch table stays what it is once the end is proposed
proposed : IsPlanned busy (after_acts (proposing (identity_of 2 0) far ending) (leader_with [] [] None)) (Tick (minute 0) plan_now)
unfolding propose after_act after_delta with_member
proposed = planned_tick

answered : IsPlanned busy (after_acts (step (identity_of 2 0) (Answer 0 (minute 0) Launch open_rows) (leader_with [] [] None)) (leader_with [] [] None)) (Tick (minute 0) plan_now)
unfolding step answer votes_from
answered =
    subst (λ acts. IsPlanned busy (after_acts acts (leader_with [] [] None)) (Tick (minute 0) plan_now))
    (sym (ends (identity_of 2 0) far [] ending (is_open 0 (minute 0) open_rows) (leader_with [] [] None) (is_open_then 0) refl leading_free)) proposed

advised_answer : IsAdvised 2 busy (minute 0) advice_now (free_with (Some answer_row))
advised_answer = record { coherent = advised_free.coherent; planned = planned }
  where
    planned : (who : ℕ) → who < 2 → ArePlanned (identity_of 2 who) busy (events_at (minute 0) advice_now (free_with (Some answer_row)) who) ((free_with (Some answer_row)).replicas who)
    planned zero below = (refl, (answered, tt))
    planned (suc more) below = (planned_tick, tt)

-- ---- with a flight

-- a vote of an earlier ballot, which binds the leader
abbrev old_vote : Vote
old_vote = record { slot = 1; ballot = 9; entry = Noop }

abbrev vote : Vote
vote = record { slot = 1; ballot = 16; entry = Noop }

abbrev flight : Flight
flight = new_flight 1 Noop 0

abbrev proposal : Proposal
proposal = record {
  self = identity_of 2 0;
  at = far;
  best = old_vote ∷ [];
  entry = Noop;
  later = open_rows;
  applies = inr (λ takes. takes, refl);
  waited = 0;
}

abbrev leader_now : State
leader_now = leader_with (vote ∷ []) (old_vote ∷ []) (Some flight)

-- the other replica with these votes; and the mails of the two
abbrev cluster_with : List Vote → List HeardLetter → List HeardLetter → Cluster
cluster_with votes mine others = record { replicas = two leader_now (follower_with votes); waits = λ who. None; mails = two mine others }

proposes_now : Proposes proposal flight leader_now
proposes_now = record {
  leading = record { is = refl; promised = refl; launch = refl; learned = refl; from_base = refl };
  flies = record {
    slot = refl;
    entry = refl;
    few = few_alone 2 0 (omega arith) (omega arith);
    own = in_with 0 0 0 (omega arith) (inl refl);
    waited = refl;
  };
}

needed : (vote : Vote) × (others : List Vote) × (votes_from 1 (old_vote ∷ []) ≡ vote ∷ others)
unfolding votes_from
needed = (old_vote, [], refl)

under_way : (votes : List Vote) (mine others : List HeardLetter) → AreWithin 16 1 mine → AreWithin 16 1 others → AreFrom 2 mine → AreFrom 2 others → IsUnderWay proposal flight (cluster_with votes mine others)
under_way votes mine others within within_others from from_others = record {
  led_alone = record { member = lit< tt; few = omega arith; more = omega arith; behind = behind; within = all_within; from = all_from };
  proposes = proposes_now;
  needed = inl needed;
  alone = refl;
  early = omega arith;
  sound = sound;
}
  where
    behind : (who : ℕ) → who < 2 → (who ≡ 0 → ⊥) → IsBehind 16 1 (two leader_now (follower_with votes) who)
    behind zero below apart = absurd (apart refl)
    behind (suc more) below apart = record { promised = omega arith; follows = tt; short = omega arith }

    all_within : (who : ℕ) → who < 2 → AreWithin 16 1 (two mine others who)
    all_within zero below = within
    all_within (suc more) below = within_others

    all_from : (who : ℕ) → who < 2 → AreFrom 2 (two mine others who)
    all_from zero below = from
    all_from (suc more) below = from_others

coherent_now : IsCoherent (identity_of 2 0) leader_now
unfolding vote_at
coherent_now = record {
  promised = omega arith;
  term = (record { promised = refl; member = refl; round = refl }, record { slot = refl; voted = refl });
  votes = All-cons (λ vote. vote.ballot ≤ 16) vote [] (omega arith) (All-nil (λ vote. vote.ballot ≤ 16));
}

-- the other is asked for its vote
abbrev asking : List HeardLetter
asking = record { from = 0; messages = Accept vote ∷ [] } ∷ []

abbrev asked_now : Cluster
asked_now = cluster_with [] [] asking

asked_under_way : IsUnderWay proposal flight asked_now
asked_under_way = under_way [] [] asking tt ((record { low = omega arith; below = tt }, tt), tt) tt (omega arith, tt)

is_asked : IsAsked 2 0 (asked_vote proposal) asked_now
is_asked zero below apart = absurd (apart refl)
is_asked (suc more) below apart = record { letter = record { from = 0; messages = Accept vote ∷ [] }; there = in_first _ []; is_from = refl; has = in_first (Accept vote) [] }

-- the acceptance is on its way to the leader
abbrev accepting : List HeardLetter
accepting = record { from = 1; messages = Accepted 16 1 ∷ [] } ∷ []

abbrev accepted_now : Cluster
accepted_now = cluster_with (vote ∷ []) accepting []

accepted_under_way : IsUnderWay proposal flight accepted_now
accepted_under_way = under_way (vote ∷ []) accepting [] ((record { low = omega arith; below = tt }, tt), tt) tt (omega arith, tt) tt

is_accepted : IsAccepted 2 0 16 1 accepted_now
is_accepted zero below apart = absurd (apart refl)
is_accepted (suc zero) below apart = record { letter = record { from = 1; messages = Accepted 16 1 ∷ [] }; there = in_first _ []; is_from = refl; has = in_first (Accepted 16 1) [] }
is_accepted (suc (suc more)) below apart = absurd (omega (arith, below))

coherent_voter : IsCoherent (identity_of 2 1) (follower_with (vote ∷ []))
coherent_voter = record { promised = omega arith; term = tt; votes = All-cons (λ vote. vote.ballot ≤ 16) vote [] (omega arith) (All-nil (λ vote. vote.ballot ≤ 16)) }

-- the follower votes, and its launch table stays
votes_then : IsPlanned busy (after_acts (step (identity_of 2 1) (Hear 0 (Accept vote ∷ [])) (follower_with [])) (follower_with [])) (Tick (minute 0) plan_now)
unfolding step hear_all hear line on_accept after_act after_delta vote_at
votes_then = planned_tick

-- the leader learns a no-op, and its launch table stays
learns_then : IsPlanned busy (after_acts (step (identity_of 2 0) (Hear 1 (Accepted 16 1 ∷ [])) leader_now) leader_now) (Tick (minute 0) plan_now)
unfolding step hear_all hear line on_accepted after_act after_delta with_member
learns_then = ((open_rows, inr (λ takes. takes, refl), refl), call_asked 0)

advised_asked : IsAdvised 2 busy (minute 0) advice_now asked_now
advised_asked = record { coherent = coherent; planned = planned }
  where
    coherent : (who : ℕ) → who < 2 → IsCoherent (identity_of 2 who) (asked_now.replicas who)
    coherent zero below = coherent_now
    coherent (suc zero) below = coherent_follower
    coherent (suc (suc more)) below = absurd (omega (arith, below))

    planned : (who : ℕ) → who < 2 → ArePlanned (identity_of 2 who) busy (events_at (minute 0) advice_now asked_now who) (asked_now.replicas who)
    planned zero below = (planned_tick, tt)
    planned (suc zero) below = (tt, (votes_then, tt))
    planned (suc (suc more)) below = absurd (omega (arith, below))

advised_accepted : IsAdvised 2 busy (minute 0) advice_now accepted_now
advised_accepted = record { coherent = coherent; planned = planned }
  where
    coherent : (who : ℕ) → who < 2 → IsCoherent (identity_of 2 who) (accepted_now.replicas who)
    coherent zero below = coherent_now
    coherent (suc zero) below = coherent_voter
    coherent (suc (suc more)) below = absurd (omega (arith, below))

    planned : (who : ℕ) → who < 2 → ArePlanned (identity_of 2 who) busy (events_at (minute 0) advice_now accepted_now who) (accepted_now.replicas who)
    planned zero below = (tt, (learns_then, tt))
    planned (suc more) below = (planned_tick, tt)

-- ---- that there are such

pub some_asked : (proposal : Proposal) × (flight : Flight) × (cluster : Cluster) × (now : ℤ) × (advice : ℕ → Advice) × IsUnderWay proposal flight cluster × IsAdvised proposal.self.members proposal.at.table now advice cluster × IsAsked proposal.self.members proposal.self.me (asked_vote proposal) cluster
some_asked = (proposal, flight, asked_now, minute 0, advice_now, asked_under_way, advised_asked, is_asked)

pub some_accepted : (proposal : Proposal) × (flight : Flight) × (cluster : Cluster) × (now : ℤ) × (advice : ℕ → Advice) × IsUnderWay proposal flight cluster × IsAdvised proposal.self.members proposal.at.table now advice cluster × IsAccepted proposal.self.members proposal.self.me proposal.at.ballot proposal.at.prefix cluster
some_accepted = (proposal, flight, accepted_now, minute 0, advice_now, accepted_under_way, advised_accepted, is_accepted)

pub some_answer : (members : ℕ) × (leader : ℕ) × (best : List Vote) × (at : Progress) × (row : SchedRow) × (cluster : Cluster) × (now : ℤ) × (advice : ℕ → Advice) × IsAnswerable members leader best at row cluster × IsAdvised members at.table now advice cluster
some_answer = (2, 0, [], far, answer_row, free_with (Some answer_row), minute 0, advice_now, answerable, advised_answer)

-- a leader that leads on has promised and learned no more
stays_so : (best : List Vote) (at : Progress) (state : State) → LeadsOn best at state → (promised_in state.kept ≤ at.ballot) × (prefix_of state ≤ at.prefix)
stays_so best at state on = (omega (arith, on.leading.promised), omega (arith, on.leading.learned))

pub some_leads_on : (members : ℕ) × (leader : ℕ) × (ballot : ℕ) × (prefix : ℕ) × (table : Table) × (now : ℤ) × (advice : ℕ → Advice) × (answers : ℕ → Option SchedRow) × (cluster : Cluster) × IsLedAlone members leader ballot prefix cluster × IsAdvised members table now advice cluster × (promised_in ((cluster_round members now advice answers cluster).replicas leader).kept ≤ ballot) × (prefix_of ((cluster_round members now advice answers cluster).replicas leader) ≤ prefix)
some_leads_on =
    let answers : ℕ → Option SchedRow = λ who. None in
    let next : Cluster = cluster_round 2 (minute 0) advice_now answers (free_with None) in
    let begins = free_next 2 0 [] far (minute 0) advice_now answers (free_with None) free_now advised_free in
    let after = stays_so [] far (next.replicas 0) (begun_leads 2 0 [] far (minute 0) advice_now (free_with None) next begins) in
    (2, 0, 16, 1, busy, minute 0, advice_now, answers, free_with None, led_alone_free None, advised_free, after.0, after.1)

-- the call of its tick
one_call : calls_at 2 (minute 0) advice_now (free_with None) 0 ≡ answer_row ∷ []
unfolding step tick calls_by votes_from
one_call = refl

pub some_answered : (members : ℕ) × (leader : ℕ) × (best : List Vote) × (at : Progress) × (now : ℤ) × (advice : ℕ → Advice) × (answers : ℕ → Option SchedRow) × (cluster : Cluster) × IsFreeNow members leader best at cluster × IsAdvised members at.table now advice cluster × IsAnswerTo (calls_at members now advice cluster leader) (answers leader)
some_answered =
    (2, 0, [], far, minute 0, advice_now, (λ who. Some answer_row), free_with None, free_now, advised_free, subst (λ rows. IsAnswerTo rows (Some answer_row)) (sym one_call) (answer_row, refl, refl))

-- it leads at its tick, and leads alone after the round
pub some_at_tick : (members : ℕ) × (leader : ℕ) × (best : List Vote) × (at : Progress) × (now : ℤ) × (advice : ℕ → Advice) × (answers : ℕ → Option SchedRow) × (cluster : Cluster) × IsLeading best None at (before_tick members advice cluster leader) × IsSound at.table × IsAdvised members at.table now advice cluster × IsAnswerTo (calls_at members now advice cluster leader) (answers leader) × IsLedAlone members leader at.ballot at.prefix (cluster_round members now advice answers cluster)
some_at_tick =
    let answers : ℕ → Option SchedRow = λ who. Some answer_row in
    let begins = free_next 2 0 [] far (minute 0) advice_now answers (free_with None) free_now advised_free in
    let on = begun_leads 2 0 [] far (minute 0) advice_now (free_with None) (cluster_round 2 (minute 0) advice_now answers (free_with None)) begins in (
      2,
      0,
      [],
      far,
      minute 0,
      advice_now,
      answers,
      free_with None,
      leading_free,
      sound,
      advised_free,
      subst (λ rows. IsAnswerTo rows (Some answer_row)) (sym one_call) (answer_row, refl, refl),
      led_alone_then 2 0 far far [] (minute 0) advice_now answers (free_with None) (led_alone_free None) advised_free refl (omega arith) on,
    )
