-- Two replicas of which one has just campaigned, and the other has promised more.
use Rattle.std.proofs.Common.{◌≡◌, ℕ, zero, suc, ◌<◌, ◌≤◌, List, [], ◌∷◌, Option, None, ℤ, refl, arith}
use Rattle.std.proofs.lemmas.List.Elements.{All-nil}
use Rattle.paxos_base.specs.Durable.{after_delta}
use Rattle.paxos_base.specs.declared.rows.JobRow.{JobRow}
use Rattle.paxos_base.specs.declared.entry.Vote.{Vote}
use Rattle.cluster_sched.specs.declared.row.SchedRow.{SchedRow}
use Rattle.term_core.specs.declared.term.Term.TheVariants.{Follower}
use Rattle.step_spec.specs.Act.{after_act}
use Rattle.step_spec.specs.Coherent.{IsCoherent}
use Rattle.step_spec.specs.Folds.{after_acts, sent_by}
use Rattle.step_spec.specs.Hear.{hear, hear_all, line, on_prepare}
use Rattle.step_spec.specs.May.{IsFollower}
use Rattle.step_spec.specs.Message.{Prepare}
use Rattle.step_spec.specs.Propose.{tick}
use Rattle.step_spec.specs.State.{State, prefix_of, promised_in}
use Rattle.step_spec.specs.Step.{Hear, IsLaunchTable, IsPlanned, Tick, step}
use Rattle.agreement.specs.Transition.{identity_of}
use Rattle.history.proofs.Asks.{busy, minute}
use Rattle.synchronous_rounds.specs.Cluster.{Advice, ArePlanned, Cluster, IsAdvised, cluster_round, events_at}
use Rattle.synchronous_rounds.specs.LedAlone.{Progress}
use Rattle.synchronous_rounds.specs.Campaign.{HasCampaigned, HasYielded}
use Rattle.synchronous_rounds.proofs.SomeCampaign.{advice_now, asking, candidate_now, coherent_candidate, far, kept_with, none_waits, one_of_two, open_rows, plan_now, planned_tick, stands_now, two}
use Rattle.synchronous_rounds.proofs.TermLemmas.{sound_events}

abbrev other_ahead : State
other_ahead = record { kept = kept_with 0 17; learned = []; term = Follower None; seen = 17 }

abbrev cluster_now : Cluster
cluster_now = record { replicas = two candidate_now other_ahead; waits = none_waits; mails = two [] asking }

abbrev cluster_then : Cluster
cluster_then = cluster_round 2 (minute 0) advice_now none_waits cluster_now

abbrev cluster_last : Cluster
cluster_last = cluster_round 2 (minute 0) advice_now none_waits cluster_then

campaigned : HasCampaigned 2 0 [] far cluster_now
campaigned = record { one = one_of_two; stands = stands_now; alone = refl; unread = refl; asked = asked; short = short; fresh = fresh }
  where
    asked : (who : ℕ) → who < 2 → (who ≡ 0 → ⊥) → cluster_now.mails who ≡ asking
    asked zero below apart = absurd (apart refl)
    asked (suc more) below apart = refl

    short : (who : ℕ) → who < 2 → prefix_of (cluster_now.replicas who) ≤ 1
    short zero below = omega arith
    short (suc more) below = omega arith

    fresh : (who : ℕ) → who < 2 → (who ≡ 0 → ⊥) → promised_in (cluster_now.replicas who).kept ≡ 16 → ⊥
    fresh zero below apart same = absurd (apart refl)
    fresh (suc more) below apart same = absurd (omega (arith, same))

coherent_now : (who : ℕ) → who < 2 → IsCoherent (identity_of 2 who) (cluster_now.replicas who)
coherent_now zero below = coherent_candidate
coherent_now (suc zero) below = record { promised = omega arith; term = tt; votes = All-nil (λ vote. vote.ballot ≤ 17) }
coherent_now (suc (suc more)) below = absurd (omega (arith, below))

-- the other refuses, and its launch table stays
refuses_then : IsPlanned busy (after_acts (step (identity_of 2 1) (Hear 0 (Prepare 16 1 ∷ [])) other_ahead) other_ahead) (Tick (minute 0) plan_now)
unfolding step hear_all hear line on_prepare after_act after_delta
refuses_then = planned_tick

advised_now : IsAdvised 2 busy (minute 0) advice_now cluster_now
advised_now = record { coherent = coherent_now; planned = planned }
  where
    planned : (who : ℕ) → who < 2 → ArePlanned (identity_of 2 who) busy (events_at (minute 0) advice_now cluster_now who) (cluster_now.replicas who)
    planned zero below = (planned_tick, tt)
    planned (suc zero) below = (tt, (refuses_then, tt))
    planned (suc (suc more)) below = absurd (omega (arith, below))

-- the candidate hears of the higher ballot, and its launch table stays
yields_planned : ArePlanned (identity_of 2 0) busy (events_at (minute 0) advice_now cluster_then 0) (cluster_then.replicas 0)
unfolding step hear_all hear line on_prepare after_act after_delta tick sent_by
yields_planned = (tt, (planned_tick, tt))

follows_planned : ArePlanned (identity_of 2 1) busy (events_at (minute 0) advice_now cluster_then 1) (cluster_then.replicas 1)
unfolding step hear_all hear line on_prepare after_act after_delta tick sent_by
follows_planned = (planned_tick, tt)

advised_then : IsAdvised 2 busy (minute 0) advice_now cluster_then
advised_then = record { coherent = coherent; planned = planned }
  where
    coherent : (who : ℕ) → who < 2 → IsCoherent (identity_of 2 who) (cluster_then.replicas who)
    coherent who below = sound_events (identity_of 2 who) busy (events_at (minute 0) advice_now cluster_now who) (cluster_now.replicas who) (omega (arith, below)) (advised_now.coherent who below) (advised_now.planned who below)

    planned : (who : ℕ) → who < 2 → ArePlanned (identity_of 2 who) busy (events_at (minute 0) advice_now cluster_then who) (cluster_then.replicas who)
    planned zero below = yields_planned
    planned (suc zero) below = follows_planned
    planned (suc (suc more)) below = absurd (omega (arith, below))

follows_last : IsFollower (cluster_last.replicas 0).term
unfolding step hear_all hear line on_prepare after_act after_delta tick sent_by
follows_last = tt

seen_last : (cluster_last.replicas 0).seen ≡ 17
unfolding step hear_all hear line on_prepare after_act after_delta tick sent_by
seen_last = refl

promised_then : promised_in (cluster_then.replicas 1).kept ≡ 17
unfolding step hear_all hear line on_prepare after_act after_delta tick sent_by
promised_then = refl

table_last : IsLaunchTable busy (cluster_last.replicas 0) open_rows
unfolding step hear_all hear line on_prepare after_act after_delta tick sent_by
table_last = refl

yielded_last : HasYielded 2 0 16 cluster_then cluster_last
yielded_last = record { follows = follows_last; higher = omega (arith, seen_last); seen = seen }
  where
    seen : (who : ℕ) → who < 2 → (who ≡ 0 → ⊥) → promised_in (cluster_then.replicas who).kept ≤ (cluster_last.replicas 0).seen
    seen zero below apart = absurd (apart refl)
    seen (suc zero) below apart = omega (arith, promised_then, seen_last)
    seen (suc (suc more)) below apart = absurd (omega (arith, below))

pub some_yield : (members : ℕ) × (candidate : ℕ) × (best : List Vote) × (at : Progress) × (rows : List JobRow) × (now : ℤ) × (advice : ℕ → Advice) × (answers : ℕ → Option SchedRow) × (cluster : Cluster) × HasCampaigned members candidate best at cluster × IsAdvised members at.table now advice cluster × IsAdvised members at.table now advice (cluster_round members now advice answers cluster) × HasYielded members candidate at.ballot (cluster_round members now advice answers cluster) (cluster_round members now advice answers (cluster_round members now advice answers cluster)) × (answers candidate ≡ None) × IsLaunchTable at.table ((cluster_round members now advice answers (cluster_round members now advice answers cluster)).replicas candidate) rows
some_yield = (2, 0, [], far, open_rows, minute 0, advice_now, none_waits, cluster_now, campaigned, advised_now, advised_then, yielded_last, refl, table_last)
