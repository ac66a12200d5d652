-- The second campaign wins.
use Rattle.std.proofs.Common.{◌≡◌, ℕ, ◌+◌, ◌<◌, ◌≤◌, List, Option, None, ℤ, refl, inl, inr, ◌⊎◌, arith}
use Rattle.std.proofs.lemmas.Bool.{cases_eq}
use Rattle.paxos_base.specs.declared.entry.Entry.{Entry}
use Rattle.paxos_base.specs.declared.entry.Vote.{Vote}
use Rattle.cluster_sched.specs.declared.row.SchedRow.{SchedRow}
use Rattle.due_set.specs.Table.{IsSound}
use Rattle.step_spec.specs.Message.{Known}
use Rattle.step_spec.specs.State.{prefix_of}
use Rattle.agreement.specs.Transition.{identity_of}
use Rattle.synchronous_rounds.specs.Cluster.{Advice, Cluster, IsAdvised, cluster_round}
use Rattle.synchronous_rounds.specs.Flights.{with_base}
use Rattle.synchronous_rounds.specs.LedAlone.{IsLedAlone, Occurs, Progress}
use Rattle.synchronous_rounds.proofs.LedAloneLemmas.{led_alone_by}
use Rattle.synchronous_rounds.specs.Again.{ComesToLeadAgain, HasCampaignedAgain, HaveAllPromised}
use Rattle.synchronous_rounds.proofs.CandidateLemmas.{Bid, Competes, Promised, all_lead, begins_alone, competes_mail}
use Rattle.synchronous_rounds.proofs.DecidedLemmas.{all_or_some, leads_alone}
use Rattle.synchronous_rounds.proofs.NextEntryLemmas.{ahead, may_learn_mail}
use Rattle.synchronous_rounds.proofs.PromiseLemmas.{third_round}

-- it has learned one entry more, and tells it
record IsAhead (candidate : ℕ) (at : Progress) (cluster : Cluster) (who : ℕ) : Type 0 where
  entry : Entry
  told : Occurs (cluster.mails candidate) who (Known at.prefix entry)

-- where all others have promised, the candidate leads after one more round
fourth_wins : (members candidate : ℕ) (best : List Vote) (at : Progress) (sound : IsSound at.table) (now : ℤ) (advice : ℕ → Advice) (answers : ℕ → Option SchedRow) (cluster : Cluster) → HaveAllPromised members candidate best at cluster → cluster.waits candidate ≡ None → IsAdvised members at.table now advice cluster → ((q : ℕ) → at.prefix ≤ q → ((who : ℕ) → who < members → (who ≡ candidate → ⊥) → prefix_of (cluster.replicas who) ≤ q) → IsLedAlone members candidate at.ballot q cluster) → ComesToLeadAgain members candidate at advice cluster (cluster_round members now advice answers cluster)
fourth_wins members candidate best at sound now advice answers cluster promised alone advised led_alone_if =
    elim (all_or_some members (λ who. (who ≡ candidate → ⊥) → prefix_of (cluster.replicas who) ≤ at.prefix) (IsAhead candidate at cluster) learned) [
      | inl caught_up ↦
          let led_alone = led_alone_if at.prefix (omega arith) caught_up in
          let competes = competes_mail bid (λ q. q ≡ candidate) (cluster.mails candidate) (cluster.replicas candidate) promised.one.few (led_alone.from candidate promised.one.member) (led_alone.within candidate promised.one.member) start in
          let leads = all_lead bid (λ q. (q ≡ candidate) ⊎ Promised bid (cluster.mails candidate) q) _ (omega (arith, promised.one.more)) promised.one.few all competes in
          record { later = at; ballot = refl; table = refl; leads = leads_alone members candidate at now advice answers cluster alone advised led_alone leads }
      | inr some ↦
          let led_alone = led_alone_if (at.prefix + 1) (omega arith) near in
          elim (may_learn_mail bid (λ q. q ≡ candidate) ⊥ sound (cluster.mails candidate) (cluster.replicas candidate) promised.one.few (led_alone.from candidate promised.one.member) (led_alone.within candidate promised.one.member) (inl (start, λ no. no))) [
            | inl early ↦ absurd (early.1 (inr (some.0, (some.2.entry, some.2.told))))
            | inr late ↦
                let later : Progress = (ahead bid late.0 late.1).at in
                let leads = all_lead (ahead bid late.0 late.1) (λ q. (q ≡ candidate) ⊎ Promised bid (cluster.mails candidate) q) _ (omega (arith, promised.one.more)) promised.one.few all late.2 in
                record { later = later; ballot = refl; table = refl; leads = leads_alone members candidate later now advice answers cluster alone advised led_alone leads }
          ]
    ]
  where
    bid : Bid
    bid = record { self = identity_of members candidate; at = at; first = at.prefix }

    start : Competes bid (λ q. q ≡ candidate) (cluster.replicas candidate)
    start = begins_alone bid best (cluster.replicas candidate) promised.one.more (omega (arith, promised.one.member, promised.one.few)) promised.stands

    all : (q : ℕ) → q < members → (q ≡ candidate) ⊎ Promised bid (cluster.mails candidate) q
    all q below = elim (cases_eq q candidate) [ inl same ↦ inl same | inr apart ↦ let mine = promised.promised q below apart in inr (mine.votes, mine.told) ]

    learned : (who : ℕ) → who < members → ((who ≡ candidate → ⊥) → prefix_of (cluster.replicas who) ≤ at.prefix) ⊎ IsAhead candidate at cluster who
    learned who below = elim (cases_eq who candidate) [
      | inl same ↦ inl (λ apart. absurd (apart same))
      | inr apart ↦ elim (promised.promised who below apart).learned [
        | inl less ↦ inl (λ again. less)
        | inr told ↦ inr (record { entry = told.0; told = told.1 })
      ]
    ]

    near : (who : ℕ) → who < members → (who ≡ candidate → ⊥) → prefix_of (cluster.replicas who) ≤ at.prefix + 1
    near who below apart = (promised.promised who below apart).behind.short

-- where all others have promised, the letters name no higher ballot, and tell no more than the others have learned
promised_led_alone : (members candidate : ℕ) (best : List Vote) (at : Progress) (now : ℤ) (advice : ℕ → Advice) (answers : ℕ → Option SchedRow) (cluster : Cluster) → IsAdvised members at.table now advice cluster → HaveAllPromised members candidate best at (cluster_round members now advice answers cluster) → (q : ℕ) → at.prefix ≤ q → ((who : ℕ) → who < members → (who ≡ candidate → ⊥) → prefix_of ((cluster_round members now advice answers cluster).replicas who) ≤ q) → IsLedAlone members candidate at.ballot q (cluster_round members now advice answers cluster)
promised_led_alone members candidate best at now advice answers cluster advised promised q up short =
    led_alone_by members candidate at.ballot q at.table now advice answers cluster promised.one.member promised.one.few promised.one.more advised
    (λ who below apart. let mine = (promised.promised who below apart).behind in record { promised = mine.promised; follows = mine.follows; short = short who below apart })
    (omega (arith, promised.stands.promised)) (omega (arith, promised.stands.learned, up))

-- the two rounds after a second campaign
pub second_wins : (members candidate top : ℕ) (best : List Vote) (at : Progress) (sound : IsSound at.table) (now then_now : ℤ) (advice then_advice : ℕ → Advice) (answers then_answers : ℕ → Option SchedRow) (cluster : Cluster) → HasCampaignedAgain members candidate top best at cluster → IsAdvised members at.table now advice cluster → answers candidate ≡ None → IsAdvised members at.table then_now then_advice (cluster_round members now advice answers cluster) → ComesToLeadAgain members candidate at then_advice (cluster_round members now advice answers cluster) (cluster_round members then_now then_advice then_answers (cluster_round members now advice answers cluster))
second_wins members candidate top best at sound now then_now advice then_advice answers then_answers cluster campaigned advised alone then_advised =
    let third = third_round members candidate top best at now advice answers cluster campaigned advised in
    let far : Progress = with_base third.0 at in
    let won = fourth_wins members candidate best far sound then_now then_advice then_answers (cluster_round members now advice answers cluster) third.1 alone then_advised (promised_led_alone members candidate best far now advice answers cluster advised third.1) in
    record { later = won.later; ballot = won.ballot; table = won.table; leads = won.leads }
