-- Two replicas over a table of one job, of which one has just campaigned.
use Rattle.std.proofs.Common.{◌≡◌, ℕ, zero, suc, ◌<◌, ◌≤◌, List, [], ◌∷◌, Option, None, Some, ℤ, refl, arith, lit<}
use Rattle.std.proofs.lemmas.List.Elements.{All-nil}
use Rattle.paxos_base.specs.Durable.{after_delta}
use Rattle.paxos_base.specs.Members.{only_member, with_member}
use Rattle.paxos_base.specs.Vote.{votes_from}
use Rattle.paxos_base.specs.declared.durable.Durable.{Durable}
use Rattle.paxos_base.specs.declared.entry.Kind.TheVariants.{Launch}
use Rattle.paxos_base.specs.declared.entry.Vote.{Vote}
use Rattle.paxos_base.specs.declared.rows.JobRow.{JobRow}
use Rattle.cluster_sched.specs.declared.row.SchedRow.{SchedRow}
use Rattle.due_set.specs.Table.{IsSound, Table}
use Rattle.launch_machine.specs.Answers.{IsIntent}
use Rattle.launch_machine.specs.declared.machine.Intent.TheVariants.{Call}
use Rattle.term_core.specs.declared.term.Term.TheVariants.{Candidate, Follower}
use Rattle.step_spec.specs.Act.{after_act}
use Rattle.step_spec.specs.Coherent.{IsCoherent}
use Rattle.step_spec.specs.Folds.{after_acts, sent_by}
use Rattle.step_spec.specs.Hear.{hear, hear_all, line, on_prepare, on_promise}
use Rattle.step_spec.specs.Message.{Prepare}
use Rattle.step_spec.specs.Propose.{tick}
use Rattle.step_spec.specs.State.{State, prefix_of, promised_in}
use Rattle.step_spec.specs.Step.{Hear, IsPlanned, Plan, Tick, step}
use Rattle.agreement.specs.Transition.{identity_of}
use Rattle.history.proofs.Asks.{busy, call_asked, minute, opened, sound, with_table}
use Rattle.synchronous_rounds.specs.Cluster.{Advice, ArePlanned, Cluster, HeardLetter, IsAdvised, cluster_round, events_at}
use Rattle.synchronous_rounds.specs.LedAlone.{Progress}
use Rattle.synchronous_rounds.specs.Again.{EndsWithCampaign, HasCampaignedAgain}
use Rattle.synchronous_rounds.specs.Campaign.{HasCampaigned, IsCandidate, IsOneOf}
use Rattle.synchronous_rounds.specs.Named.{AreNamed, IsNamedUpTo}
use Rattle.synchronous_rounds.proofs.TermLemmas.{sound_events}

-- ---- the replicas

-- a launch is open, and its start lies below the base
abbrev pub open_rows : List JobRow
open_rows = with_table (opened 0)

abbrev pub far : Progress
far = record { ballot = 16; table = busy; rows = open_rows; prefix = 1; base = 1 }

abbrev pub kept_with : (tried promised : ℕ) → Durable
kept_with tried promised = record { tried = tried; promised = Some promised; votes = []; base = 1; rows = open_rows }

abbrev pub candidate_now : State
candidate_now = record { kept = kept_with 2 16; learned = []; term = Candidate 16 1 (only_member 0) []; seen = 16 }

abbrev other_now : State
other_now = record { kept = kept_with 0 9; learned = []; term = Follower None; seen = 9 }

-- the first of two, and the other
abbrev pub two : {A : Type 0} → A → A → ℕ → A
two first second zero = first
two first second (suc more) = second

abbrev pub plan_now : Plan
plan_now = record { rows = open_rows; intent = Call 0 (minute 0) Launch }

abbrev pub advice_now : ℕ → Advice
advice_now who = record { rows = open_rows; plan = plan_now }

abbrev pub none_waits : ℕ → Option SchedRow
none_waits who = None

pub planned_tick : (open_rows ≡ open_rows) × IsIntent busy open_rows (minute 0) (Call 0 (minute 0) Launch)
planned_tick = (refl, call_asked 0)

abbrev pub asking : List HeardLetter
asking = record { from = 0; messages = Prepare 16 1 ∷ [] } ∷ []

abbrev cluster_now : Cluster
cluster_now = record { replicas = two candidate_now other_now; waits = none_waits; mails = two [] asking }

abbrev cluster_then : Cluster
cluster_then = cluster_round 2 (minute 0) advice_now none_waits cluster_now

-- ---- what holds of them

pub one_of_two : IsOneOf 2 0
one_of_two = record { member = lit< tt; few = omega arith; more = omega arith }

pub stands_now : IsCandidate [] far 0 candidate_now
stands_now = record { is = refl; promised = refl; launch = refl; learned = refl; from_base = refl }

campaigned : HasCampaigned 2 0 [] far cluster_now
campaigned = record { one = one_of_two; stands = stands_now; alone = refl; unread = refl; asked = asked; short = short; fresh = fresh }
  where
    asked : (who : ℕ) → who < 2 → (who ≡ 0 → ⊥) → cluster_now.mails who ≡ asking
    asked zero below apart = absurd (apart refl)
    asked (suc more) below apart = refl

    short : (who : ℕ) → who < 2 → prefix_of (cluster_now.replicas who) ≤ 1
    short zero below = omega arith
    short (suc more) below = omega arith

    fresh : (who : ℕ) → who < 2 → (who ≡ 0 → ⊥) → promised_in (cluster_now.replicas who).kept ≡ 16 → ⊥
    fresh zero below apart same = absurd (apart refl)
    fresh (suc more) below apart same = absurd (omega (arith, same))

campaigned_again : HasCampaignedAgain 2 0 9 [] far cluster_now
campaigned_again = record { one = one_of_two; above = omega arith; stands = stands_now; alone = refl; unheard = tt; asked = asked; low = low; short = short }
  where
    asked : (who : ℕ) → who < 2 → (who ≡ 0 → ⊥) → EndsWithCampaign 0 9 far (cluster_now.mails who)
    asked zero below apart = absurd (apart refl)
    asked (suc more) below apart = record { front = []; is = refl; within = tt }

    low : (who : ℕ) → who < 2 → (who ≡ 0 → ⊥) → promised_in (cluster_now.replicas who).kept ≤ 9
    low zero below apart = absurd (apart refl)
    low (suc more) below apart = omega arith

    short : (who : ℕ) → who < 2 → (who ≡ 0 → ⊥) → prefix_of (cluster_now.replicas who) ≤ 1
    short zero below apart = absurd (apart refl)
    short (suc more) below apart = omega arith

-- ---- the round, and the next

pub coherent_candidate : IsCoherent (identity_of 2 0) candidate_now
coherent_candidate = record { promised = omega arith; term = record { promised = refl; member = refl; round = refl }; votes = All-nil (λ vote. vote.ballot ≤ 16) }

coherent_now : (who : ℕ) → who < 2 → IsCoherent (identity_of 2 who) (cluster_now.replicas who)
coherent_now zero below = coherent_candidate
coherent_now (suc zero) below = record { promised = omega arith; term = tt; votes = All-nil (λ vote. vote.ballot ≤ 9) }
coherent_now (suc (suc more)) below = absurd (omega (arith, below))

-- the other promises, and its launch table stays
promises_then : IsPlanned busy (after_acts (step (identity_of 2 1) (Hear 0 (Prepare 16 1 ∷ [])) other_now) other_now) (Tick (minute 0) plan_now)
unfolding step hear_all hear line on_prepare after_act after_delta votes_from
promises_then = planned_tick

advised_now : IsAdvised 2 busy (minute 0) advice_now cluster_now
advised_now = record { coherent = coherent_now; planned = planned }
  where
    planned : (who : ℕ) → who < 2 → ArePlanned (identity_of 2 who) busy (events_at (minute 0) advice_now cluster_now who) (cluster_now.replicas who)
    planned zero below = (planned_tick, tt)
    planned (suc zero) below = (tt, (promises_then, tt))
    planned (suc (suc more)) below = absurd (omega (arith, below))

-- the candidate hears the promise and leads, and its launch table stays
leads_then : ArePlanned (identity_of 2 0) busy (events_at (minute 0) advice_now cluster_then 0) (cluster_then.replicas 0)
unfolding step hear_all hear line on_prepare on_promise after_act after_delta votes_from tick sent_by with_member
leads_then = (tt, (planned_tick, tt))

follows_then : ArePlanned (identity_of 2 1) busy (events_at (minute 0) advice_now cluster_then 1) (cluster_then.replicas 1)
unfolding step hear_all hear line on_prepare on_promise after_act after_delta votes_from tick sent_by with_member
follows_then = (planned_tick, tt)

advised_then : IsAdvised 2 busy (minute 0) advice_now cluster_then
advised_then = record { coherent = coherent; planned = planned }
  where
    coherent : (who : ℕ) → who < 2 → IsCoherent (identity_of 2 who) (cluster_then.replicas who)
    coherent who below = sound_events (identity_of 2 who) busy (events_at (minute 0) advice_now cluster_now who) (cluster_now.replicas who) (omega (arith, below)) (advised_now.coherent who below) (advised_now.planned who below)

    planned : (who : ℕ) → who < 2 → ArePlanned (identity_of 2 who) busy (events_at (minute 0) advice_now cluster_then who) (cluster_then.replicas who)
    planned zero below = leads_then
    planned (suc zero) below = follows_then
    planned (suc (suc more)) below = absurd (omega (arith, below))

-- no promise and no letter goes beyond the candidate's ballot
named_now : IsNamedUpTo 2 16 cluster_now
named_now = record { low = low; named = named }
  where
    low : (who : ℕ) → who < 2 → promised_in (cluster_now.replicas who).kept ≤ 16
    low zero below = omega arith
    low (suc more) below = omega arith

    named : (who : ℕ) → who < 2 → AreNamed 16 (cluster_now.mails who)
    named zero below = tt
    named (suc more) below = ((omega arith, tt), tt)

-- ---- that there are such

pub some_campaign : (members : ℕ) × (candidate : ℕ) × (best : List Vote) × (at : Progress) × (now : ℤ) × (advice : ℕ → Advice) × (answers : ℕ → Option SchedRow) × (cluster : Cluster) × (then_now : ℤ) × (then_advice : ℕ → Advice) × HasCampaigned members candidate best at cluster × IsAdvised members at.table now advice cluster × (answers candidate ≡ None) × IsAdvised members at.table then_now then_advice (cluster_round members now advice answers cluster)
some_campaign = (2, 0, [], far, minute 0, advice_now, none_waits, cluster_now, minute 0, advice_now, campaigned, advised_now, refl, advised_then)

pub some_second : (members : ℕ) × (candidate : ℕ) × (top : ℕ) × (best : List Vote) × (at : Progress) × (now : ℤ) × (advice : ℕ → Advice) × (answers : ℕ → Option SchedRow) × (cluster : Cluster) × (then_now : ℤ) × (then_advice : ℕ → Advice) × IsSound at.table × HasCampaignedAgain members candidate top best at cluster × IsAdvised members at.table now advice cluster × (answers candidate ≡ None) × IsAdvised members at.table then_now then_advice (cluster_round members now advice answers cluster)
some_second = (2, 0, 9, [], far, minute 0, advice_now, none_waits, cluster_now, minute 0, advice_now, sound, campaigned_again, advised_now, refl, advised_then)

pub some_named : (members : ℕ) × (top : ℕ) × (table : Table) × (now : ℤ) × (advice : ℕ → Advice) × (cluster : Cluster) × (members ≤ 7) × (2 ≤ members) × IsAdvised members table now advice cluster × IsNamedUpTo members top cluster
some_named = (2, 16, busy, minute 0, advice_now, cluster_now, omega arith, omega arith, advised_now, named_now)
