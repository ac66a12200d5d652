-- In the second round after a campaign the candidate leads, or follows and has seen all that was promised.
use Rattle.std.proofs.Common.{◌≡◌, ℕ, zero, suc, ◌<◌, ◌≤◌, List, [], ◌∷◌, ◌++◌, Option, None, ℤ, refl, sym, inl, inr, ◌⊎◌, arith, subst}
use Rattle.std.proofs.lemmas.Bool.{cases_eq}
use Rattle.paxos_base.specs.declared.entry.Vote.{Vote}
use Rattle.cluster_sched.specs.declared.row.SchedRow.{SchedRow}
use Rattle.due_set.specs.Table.{Table}
use Rattle.step_spec.specs.Coherent.{IsCoherent}
use Rattle.step_spec.specs.Folds.{after_acts}
use Rattle.step_spec.specs.May.{HasNoOther}
use Rattle.step_spec.specs.Message.{Nack}
use Rattle.step_spec.specs.State.{Identity, State, prefix_of, promised_in}
use Rattle.step_spec.specs.Step.{Event, Tick, step}
use Rattle.agreement.specs.Transition.{identity_of}
use Rattle.synchronous_rounds.specs.Cluster.{Advice, ArePlanned, Cluster, IsAdvised, after_events, answer_events, before_tick, cluster_round, hear_events}
use Rattle.synchronous_rounds.specs.Flights.{with_base}
use Rattle.synchronous_rounds.specs.LedAlone.{IsBehind, IsLeading, IsLedAlone, Occurs, Progress}
use Rattle.synchronous_rounds.proofs.RoundLemmas.{round_after}
use Rattle.synchronous_rounds.proofs.LedAloneLemmas.{plain_mail, led_alone_by, led_alone_next}
use Rattle.synchronous_rounds.specs.Campaign.{ComesToLead, HasCampaigned, HasPromised, HasRefused, HasYielded, HaveAllAnswered}
use Rattle.synchronous_rounds.proofs.AnswerLemmas.{first_answered}
use Rattle.synchronous_rounds.proofs.CandidateLemmas.{Bid, Promised, all_lead, begins_alone, competes_mail}
use Rattle.synchronous_rounds.proofs.ReplyLemmas.{tick_steady}
use Rattle.synchronous_rounds.proofs.TermLemmas.{Yields, all_go_on, mail_yields, sound_events}

-- of so many, each of which has one or the other, all have the one or some has the other
pub all_or_some : (n : ℕ) (P Q : ℕ → Type 0) → ((q : ℕ) → q < n → P q ⊎ Q q) → ((q : ℕ) → q < n → P q) ⊎ ((q : ℕ) × (q < n) × Q q)
all_or_some zero P Q each = inl (λ q below. absurd (omega (arith, below)))
all_or_some (suc n) P Q each = elim (all_or_some n P Q (λ q below. each q (omega (arith, below)))) [
  | inr some ↦ inr (some.0, omega (arith, some.1), some.2)
  | inl all ↦ elim (each n (omega arith)) [
    | inr other ↦ inr (n, omega arith, other)
    | inl one ↦ inl (λ q below. elim (cases_eq n q) [ inl same ↦ subst P same one | inr apart ↦ all q (omega (arith, below, apart)) ])
  ]
]

-- ---- the candidate's part of a round in which no answer waits for it

-- as its clock ticks it has heard its mail alone
pub mail_alone : (members : ℕ) (advice : ℕ → Advice) (cluster : Cluster) (who : ℕ) → cluster.waits who ≡ None → before_tick members advice cluster who ≡ after_events (identity_of members who) (hear_events (cluster.mails who)) (cluster.replicas who)
mail_alone members advice cluster who alone = rw alone refl

pub planned_alone : (members : ℕ) (table : Table) (now : ℤ) (advice : ℕ → Advice) (cluster : Cluster) (who : ℕ) → who < members → cluster.waits who ≡ None → IsAdvised members table now advice cluster → ArePlanned (identity_of members who) table (hear_events (cluster.mails who) ++ Tick now (advice who).plan ∷ []) (cluster.replicas who)
planned_alone members table now advice cluster who below alone advised =
    subst (λ w. ArePlanned (identity_of members who) table (answer_events w (advice who).rows ++ (hear_events (cluster.mails who) ++ Tick now (advice who).plan ∷ [])) (cluster.replicas who)) alone (advised.planned who below)

-- it is coherent as its clock ticks
pub planned_front : (self : Identity) (table : Table) (xs ys : List Event) (state : State) → ArePlanned self table (xs ++ ys) state → ArePlanned self table xs state
planned_front self table [] ys state planned = tt
planned_front self table (x ∷ xs) ys state planned = (planned.0, planned_front self table xs ys (after_acts (step self x state) state) planned.1)

-- what it has promised and learned as its clock ticks stays so
pub steady_then : (members : ℕ) (table : Table) (now : ℤ) (advice : ℕ → Advice) (answers : ℕ → Option SchedRow) (cluster : Cluster) (who : ℕ) → who < members → members ≤ 7 → 2 ≤ members → cluster.waits who ≡ None → IsAdvised members table now advice cluster → (promised_in ((cluster_round members now advice answers cluster).replicas who).kept ≡ promised_in (before_tick members advice cluster who).kept) × (prefix_of ((cluster_round members now advice answers cluster).replicas who) ≡ prefix_of (before_tick members advice cluster who))
steady_then members table now advice answers cluster who below few more alone advised =
    let self = identity_of members who in
    let before = before_tick members advice cluster who in
    let tick = Tick now (advice who).plan in
    let planned = planned_front self table (hear_events (cluster.mails who)) (tick ∷ []) (cluster.replicas who) (planned_alone members table now advice cluster who below alone advised) in
    let sound : IsCoherent self before = subst (λ s. IsCoherent self s) (sym (mail_alone members advice cluster who alone)) (sound_events self table (hear_events (cluster.mails who)) (cluster.replicas who) (omega (arith, below, few)) (advised.coherent who below) planned) in
    let steady = tick_steady self now (advice who).plan before more (omega (arith, below, few)) sound in
    let after = round_after members now advice answers cluster who in
    (subst (λ s. promised_in s.kept ≡ promised_in before.kept) (sym after) steady.promised, subst (λ s. prefix_of s ≡ prefix_of before) (sym after) steady.prefix)

-- a mail that names a higher ballot has it follow after the round
round_yields : (members : ℕ) (table : Table) (b from other : ℕ) (now : ℤ) (advice : ℕ → Advice) (answers : ℕ → Option SchedRow) (cluster : Cluster) (who : ℕ) → who < members → members ≤ 7 → cluster.waits who ≡ None → IsAdvised members table now advice cluster → b < other → HasNoOther b (cluster.replicas who).term → Occurs (cluster.mails who) from (Nack b other) → Yields other ((cluster_round members now advice answers cluster).replicas who)
round_yields members table b from other now advice answers cluster who below few alone advised above none told =
    let self = identity_of members who in
    let events = hear_events (cluster.mails who) ++ Tick now (advice who).plan ∷ [] in
    let on = all_go_on self table events (cluster.replicas who) (omega (arith, below, few)) (plain_mail now (advice who).plan (cluster.mails who)) (advised.coherent who below) (planned_alone members table now advice cluster who below alone advised) in
    rw alone (mail_yields self b from (Nack b other) (cluster.mails who) (Tick now (advice who).plan ∷ []) (cluster.replicas who) above on none told)

-- ---- the round

-- where all others have promised, nobody has learned or promised more, and the mails are within
first_led_alone : (members candidate : ℕ) (best : List Vote) (at : Progress) (now : ℤ) (advice : ℕ → Advice) (answers : ℕ → Option SchedRow) (cluster : Cluster) → IsAdvised members at.table now advice cluster → HaveAllAnswered members candidate best at (cluster_round members now advice answers cluster) → ((who : ℕ) → who < members → (who ≡ candidate → ⊥) → IsBehind at.ballot at.prefix ((cluster_round members now advice answers cluster).replicas who)) → IsLedAlone members candidate at.ballot at.prefix (cluster_round members now advice answers cluster)
first_led_alone members candidate best at now advice answers cluster advised answered behind =
    led_alone_by members candidate at.ballot at.prefix at.table now advice answers cluster answered.one.member answered.one.few answered.one.more advised behind
    (omega (arith, answered.stands.promised)) (omega (arith, answered.stands.learned))

-- one that leads as its clock ticks leads alone after the round
pub leads_alone : (members leader : ℕ) (at : Progress) (now : ℤ) (advice : ℕ → Advice) (answers : ℕ → Option SchedRow) (cluster : Cluster) → cluster.waits leader ≡ None → IsAdvised members at.table now advice cluster → IsLedAlone members leader at.ballot at.prefix cluster → (best : List Vote) × IsLeading best None at (after_events (identity_of members leader) (hear_events (cluster.mails leader)) (cluster.replicas leader)) → ComesToLead members leader at advice cluster (cluster_round members now advice answers cluster)
leads_alone members leader at now advice answers cluster alone advised led_alone leads =
    let leading : IsLeading leads.0 None at (before_tick members advice cluster leader) = subst (λ s. IsLeading leads.0 None at s) (sym (mail_alone members advice cluster leader alone)) leads.1 in
    let steady = steady_then members at.table now advice answers cluster leader led_alone.member led_alone.few led_alone.more alone advised in
    record {
      best = leads.0;
      leading = leading;
      led_alone = led_alone_next members leader at.ballot at.prefix at.prefix at.table now advice answers cluster led_alone advised (omega arith) (omega (arith, steady.0, leading.promised)) (omega (arith, steady.1, leading.learned));
    }

-- an answer is a promise, or names a higher ballot
abbrev HasPromisedTo : (candidate : ℕ) → Progress → Cluster → ℕ → Type 0
HasPromisedTo candidate at cluster who = (who ≡ candidate → ⊥) → HasPromised who at.ballot at.prefix (cluster.mails candidate) (cluster.replicas who)

abbrev HasRefusedTo : (candidate : ℕ) → Progress → Cluster → ℕ → Type 0
HasRefusedTo candidate at cluster who = (who ≡ candidate → ⊥) × HasRefused who at.ballot at.prefix (cluster.mails candidate) (cluster.replicas who)

answer_cases : (members candidate : ℕ) (best : List Vote) (at : Progress) (cluster : Cluster) → HaveAllAnswered members candidate best at cluster → (who : ℕ) → who < members → HasPromisedTo candidate at cluster who ⊎ HasRefusedTo candidate at cluster who
answer_cases members candidate best at cluster answered who below = elim (cases_eq who candidate) [
  | inl same ↦ inl (λ apart. absurd (apart same))
  | inr apart ↦ elim (answered.answered who below apart) [ inl promised ↦ inl (λ again. promised) | inr refused ↦ inr (apart, refused) ]
]

-- the round in which it hears the answers
second_round_of : (members candidate : ℕ) (best : List Vote) (at : Progress) (now : ℤ) (advice : ℕ → Advice) (answers : ℕ → Option SchedRow) (cluster : Cluster) → HaveAllAnswered members candidate best at cluster → cluster.waits candidate ≡ None → IsAdvised members at.table now advice cluster → (((who : ℕ) → who < members → (who ≡ candidate → ⊥) → IsBehind at.ballot at.prefix (cluster.replicas who)) → IsLedAlone members candidate at.ballot at.prefix cluster) → ComesToLead members candidate at advice cluster (cluster_round members now advice answers cluster) ⊎ HasYielded members candidate at.ballot cluster (cluster_round members now advice answers cluster)
second_round_of members candidate best at now advice answers cluster answered alone advised led_alone_if =
    elim (all_or_some members (HasPromisedTo candidate at cluster) (HasRefusedTo candidate at cluster) (answer_cases members candidate best at cluster answered)) [
      | inl all ↦ inl (leads_alone members candidate at now advice answers cluster alone advised (led_alone_if (λ who below apart. (all who below apart).behind))
          (leads all (led_alone_if (λ who below apart. (all who below apart).behind))))
      | inr some ↦
          let first = yields some.0 some.2.1 in
          inr (record { follows = first.follows; higher = omega (arith, first.seen, some.2.1.higher); seen = λ who below apart. seen (promised_in (cluster.replicas some.0).kept) some.2.1.higher first who below apart })
    ]
  where
    next : Cluster
    next = cluster_round members now advice answers cluster

    bid : Bid
    bid = record { self = identity_of members candidate; at = at; first = at.prefix }

    none : HasNoOther at.ballot (cluster.replicas candidate).term
    none = subst (λ term. HasNoOther at.ballot term) (sym answered.stands.is) refl

    yields : (who : ℕ) → (refused : HasRefused who at.ballot at.prefix (cluster.mails candidate) (cluster.replicas who)) → Yields (promised_in (cluster.replicas who).kept) (next.replicas candidate)
    yields who refused = round_yields members at.table at.ballot who (promised_in (cluster.replicas who).kept) now advice answers cluster candidate answered.one.member answered.one.few alone advised refused.higher none refused.told

    seen : (other : ℕ) → at.ballot < other → Yields other (next.replicas candidate) → (who : ℕ) → who < members → (who ≡ candidate → ⊥) → promised_in (cluster.replicas who).kept ≤ (next.replicas candidate).seen
    seen other above first who below apart = elim (answered.answered who below apart) [
      | inl promised ↦ omega (arith, promised.promised, above, first.seen)
      | inr refused ↦ let own = yields who refused in own.seen
    ]

    leads : ((who : ℕ) → who < members → HasPromisedTo candidate at cluster who) → IsLedAlone members candidate at.ballot at.prefix cluster → (best : List Vote) × IsLeading best None at (after_events (identity_of members candidate) (hear_events (cluster.mails candidate)) (cluster.replicas candidate))
    leads all led_alone =
        let start = begins_alone bid best (cluster.replicas candidate) answered.one.more (omega (arith, answered.one.member, answered.one.few)) answered.stands in
        let heard = competes_mail bid (λ q. q ≡ candidate) (cluster.mails candidate) (cluster.replicas candidate) answered.one.few (led_alone.from candidate answered.one.member) (led_alone.within candidate answered.one.member) start in
        all_lead bid (λ q. (q ≡ candidate) ⊎ Promised bid (cluster.mails candidate) q) _ (omega (arith, answered.one.more)) answered.one.few (counted all) heard
      where
        counted : ((who : ℕ) → who < members → HasPromisedTo candidate at cluster who) → (q : ℕ) → q < members → (q ≡ candidate) ⊎ Promised bid (cluster.mails candidate) q
        counted all q below = elim (cases_eq q candidate) [ inl same ↦ inl same | inr apart ↦ let mine = all q below apart in inr (mine.votes, mine.told) ]

-- the two rounds after a campaign
pub second_decides : (members candidate : ℕ) (best : List Vote) (at : Progress) (now then_now : ℤ) (advice then_advice : ℕ → Advice) (answers then_answers : ℕ → Option SchedRow) (cluster : Cluster) → HasCampaigned members candidate best at cluster → IsAdvised members at.table now advice cluster → answers candidate ≡ None → IsAdvised members at.table then_now then_advice (cluster_round members now advice answers cluster) → ((base : ℕ) × ComesToLead members candidate (with_base base at) then_advice (cluster_round members now advice answers cluster) (cluster_round members then_now then_advice then_answers (cluster_round members now advice answers cluster))) ⊎ HasYielded members candidate at.ballot (cluster_round members now advice answers cluster) (cluster_round members then_now then_advice then_answers (cluster_round members now advice answers cluster))
second_decides members candidate best at now then_now advice then_advice answers then_answers cluster campaigned advised alone then_advised =
    let first = first_answered members candidate best at now advice answers cluster campaigned advised in
    let far : Progress = with_base first.0 at in
    elim (second_round_of members candidate best far then_now then_advice then_answers (cluster_round members now advice answers cluster) first.1 alone then_advised
    (λ behind. first_led_alone members candidate best far now advice answers cluster advised first.1 behind)) [
      | inl leads ↦ inl (first.0, leads)
      | inr yields ↦ inr yields
    ]
