-- After the two rounds after a campaign no replica has learned more than the candidate had, and none has promised more than after the
-- first.
use Rattle.std.proofs.Common.{◌≡◌, ℕ, ◌+◌, ◌<◌, ◌≤◌, List, [], ◌∷◌, ◌++◌, Option, None, Some, ℤ, sym, inl, inr, arith, subst}
use Rattle.std.specs.List.{AllByRecursion, range_with_len}
use Rattle.std.proofs.lemmas.Bool.{cases_eq}
use Rattle.paxos_base.specs.declared.entry.Vote.{Vote}
use Rattle.paxos_base.specs.declared.rows.JobRow.{JobRow}
use Rattle.cluster_sched.specs.declared.row.SchedRow.{SchedRow}
use Rattle.due_set.specs.Table.{Table}
use Rattle.step_spec.specs.Coherent.{IsCoherent}
use Rattle.step_spec.specs.State.{Identity, State, prefix_of, promised_in}
use Rattle.step_spec.specs.Step.{Event, Tick}
use Rattle.agreement.specs.Transition.{identity_of}
use Rattle.synchronous_rounds.specs.Cluster.{Advice, Cluster, HeardLetter, IsAdvised, after_events, answer_events, before_tick, cluster_round, events_at, hear_events, letters_to}
use Rattle.synchronous_rounds.specs.LedAlone.{AreWithin, Progress, StaysWithin}
use Rattle.synchronous_rounds.proofs.Lists.{all_flat, planned_behind}
use Rattle.synchronous_rounds.proofs.RoundLemmas.{round_after, ticked}
use Rattle.synchronous_rounds.proofs.LedAloneLemmas.{plain_round}
use Rattle.synchronous_rounds.proofs.SendLemmas.{letters_within}
use Rattle.synchronous_rounds.specs.Again.{IsBounded}
use Rattle.synchronous_rounds.specs.Campaign.{HasCampaigned}
use Rattle.synchronous_rounds.proofs.AnswerLemmas.{first_answered}
use Rattle.synchronous_rounds.proofs.BoundLemmas.{AllSendNone, AreNoAcceptances, IsNoAcceptance, IsShort, campaign_sends_none, letters_none, short_mail, tick_sends_none}
use Rattle.synchronous_rounds.proofs.DecidedLemmas.{planned_front}
use Rattle.synchronous_rounds.proofs.ReplyLemmas.{answers_steady, tick_steady}
use Rattle.synchronous_rounds.proofs.TermLemmas.{sound_events}
use Rattle.step_spec.proofs.OutLemmas.{range_below}

-- ---- mails, by what all come to

mails_within : (members b q : ℕ) (table : Table) (now : ℤ) (advice : ℕ → Advice) (answers : ℕ → Option SchedRow) (cluster : Cluster) → members ≤ 7 → IsAdvised members table now advice cluster → ((who : ℕ) → who < members → IsShort b q ((cluster_round members now advice answers cluster).replicas who)) → (to : ℕ) → AreWithin b q ((cluster_round members now advice answers cluster).mails to)
mails_within members b q table now advice answers cluster few advised short to =
    all_flat (λ letter. AllByRecursion (StaysWithin b q) letter.messages) letters (range_with_len 0 members) (λ other has. within other (range_below 0 members other has))
  where
    letters : ℕ → List HeardLetter
    letters other = letters_to (identity_of members other) to (events_at now advice cluster other) (cluster.replicas other)

    within : (other : ℕ) → other < 0 + members → AreWithin b q (letters other)
    within other below =
        let mine : other < members = omega (arith, below) in
        let are = letters_within b q (identity_of members other) table to (events_at now advice cluster other) (cluster.replicas other) (omega (arith, mine, few)) (plain_round now (advice other) (cluster.waits other) (cluster.mails other)) (advised.coherent other mine) (advised.planned other mine) in
        let there = short other mine in
        are.within there.low there.short

-- in the round after a campaign none accepts anything
mails_none : (members candidate : ℕ) (best : List Vote) (at : Progress) (now : ℤ) (advice : ℕ → Advice) (answers : ℕ → Option SchedRow) (cluster : Cluster) → HasCampaigned members candidate best at cluster → (to : ℕ) → AreNoAcceptances ((cluster_round members now advice answers cluster).mails to)
mails_none members candidate best at now advice answers cluster campaigned to =
    all_flat (λ letter. AllByRecursion IsNoAcceptance letter.messages) letters (range_with_len 0 members) (λ other has. none other (range_below 0 members other has))
  where
    letters : ℕ → List HeardLetter
    letters other = letters_to (identity_of members other) to (events_at now advice cluster other) (cluster.replicas other)

    sends : (other : ℕ) → other < members → AllSendNone (identity_of members other) (events_at now advice cluster other) (cluster.replicas other)
    sends other mine = elim (cases_eq other candidate) [
      | inl same ↦
          let unread = subst (λ q. cluster.mails q ≡ []) (sym same) campaigned.unread in
          subst (λ mail. AllSendNone (identity_of members other) (answer_events (cluster.waits other) (advice other).rows ++ (hear_events mail ++ Tick now (advice other).plan ∷ [])) (cluster.replicas other)) (sym unread)
          (tick_sends_none (identity_of members other) now (advice other).plan (cluster.waits other) (advice other).rows (cluster.replicas other))
      | inr apart ↦
          subst (λ mail. AllSendNone (identity_of members other) (answer_events (cluster.waits other) (advice other).rows ++ (hear_events mail ++ Tick now (advice other).plan ∷ [])) (cluster.replicas other)) (sym (campaigned.asked other mine apart))
          (campaign_sends_none (identity_of members other) candidate at.ballot at.prefix now (advice other).plan (cluster.waits other) (advice other).rows (cluster.replicas other))
    ]

    none : (other : ℕ) → other < 0 + members → AreNoAcceptances (letters other)
    none other below = letters_none (identity_of members other) to (events_at now advice cluster other) (cluster.replicas other) (sends other (omega (arith, below)))

-- ---- a round in which none hears an acceptance

short_answer : (self : Identity) (top p : ℕ) (waits : Option SchedRow) (rows : List JobRow) (state : State) → 2 ≤ self.members → self.me < 8 → IsCoherent self state → IsShort top p state → IsShort top p (after_events self (answer_events waits rows) state)
short_answer self top p None rows state more small sound short = short
short_answer self top p (Some row) rows state more small sound short =
    let steady = answers_steady self row rows state more small sound in
    record { low = omega (arith, steady.promised, short.low); short = omega (arith, steady.prefix, short.short) }

short_round : (members top p : ℕ) (table : Table) (now : ℤ) (advice : ℕ → Advice) (answers : ℕ → Option SchedRow) (cluster : Cluster) (who : ℕ) → who < members → members ≤ 7 → 2 ≤ members → IsAdvised members table now advice cluster → AreWithin top p (cluster.mails who) → AreNoAcceptances (cluster.mails who) → IsShort top p (cluster.replicas who) → IsShort top p ((cluster_round members now advice answers cluster).replicas who)
short_round members top p table now advice answers cluster who below few more advised within none short =
    let self = identity_of members who in
    let small : who < 8 = omega (arith, below, few) in
    let front = answer_events (cluster.waits who) (advice who).rows in
    let mail = hear_events (cluster.mails who) in
    let tick : Event = Tick now (advice who).plan in
    let state = cluster.replicas who in
    let middle = after_events self front state in
    let before = before_tick members advice cluster who in
    let planned = advised.planned who below in
    let rest = planned_behind self table front (mail ++ tick ∷ []) state planned in
    let fine = sound_events self table front state small (advised.coherent who below) (planned_front self table front (mail ++ tick ∷ []) state planned) in
    let sound : IsCoherent self before = subst (λ s. IsCoherent self s) (sym (ticked members advice cluster who)) (sound_events self table mail middle small fine (planned_front self table mail (tick ∷ []) middle rest)) in
    let heard : IsShort top p before = subst (λ s. IsShort top p s) (sym (ticked members advice cluster who)) (short_mail self top p (cluster.mails who) middle within none (short_answer self top p (cluster.waits who) (advice who).rows state more small (advised.coherent who below) short)) in
    let steady = tick_steady self now (advice who).plan before more small sound in
    subst (λ s. IsShort top p s) (sym (round_after members now advice answers cluster who)) (record { low = omega (arith, steady.promised, heard.low); short = omega (arith, steady.prefix, heard.short) })

-- ---- the two rounds

-- none has learned more than the candidate after the first
first_short : (members candidate : ℕ) (best : List Vote) (at : Progress) (now : ℤ) (advice : ℕ → Advice) (answers : ℕ → Option SchedRow) (cluster : Cluster) → HasCampaigned members candidate best at cluster → IsAdvised members at.table now advice cluster → (who : ℕ) → who < members → prefix_of ((cluster_round members now advice answers cluster).replicas who) ≤ at.prefix
first_short members candidate best at now advice answers cluster campaigned advised who below =
    let first = (first_answered members candidate best at now advice answers cluster campaigned advised).1 in
    elim (cases_eq who candidate) [
      | inl same ↦ subst (λ q. prefix_of ((cluster_round members now advice answers cluster).replicas q) ≤ at.prefix) (sym same) (omega (arith, first.stands.learned))
      | inr apart ↦ elim (first.answered who below apart) [ inl promised ↦ promised.behind.short | inr refused ↦ refused.short ]
    ]

pub second_bounded : (members candidate top : ℕ) (best : List Vote) (at : Progress) (now then_now : ℤ) (advice then_advice : ℕ → Advice) (answers then_answers : ℕ → Option SchedRow) (cluster : Cluster) → HasCampaigned members candidate best at cluster → IsAdvised members at.table now advice cluster → IsAdvised members at.table then_now then_advice (cluster_round members now advice answers cluster) → ((who : ℕ) → who < members → promised_in ((cluster_round members now advice answers cluster).replicas who).kept ≤ top) → IsBounded members top at.prefix (cluster_round members then_now then_advice then_answers (cluster_round members now advice answers cluster))
second_bounded members candidate top best at now then_now advice then_advice answers then_answers cluster campaigned advised then_advised low = record {
  low = λ who below. (shorts who below).low;
  short = λ who below. (shorts who below).short;
  within = λ who below. mails_within members top at.prefix at.table then_now then_advice then_answers next campaigned.one.few then_advised shorts who;
}
  where
    next : Cluster
    next = cluster_round members now advice answers cluster

    first : (who : ℕ) → who < members → IsShort top at.prefix (next.replicas who)
    first who below = record { low = low who below; short = first_short members candidate best at now advice answers cluster campaigned advised who below }

    shorts : (who : ℕ) → who < members → IsShort top at.prefix ((cluster_round members then_now then_advice then_answers next).replicas who)
    shorts who below = short_round members top at.prefix at.table then_now then_advice then_answers next who below campaigned.one.few campaigned.one.more then_advised
        (mails_within members top at.prefix at.table now advice answers cluster campaigned.one.few advised first who) (mails_none members candidate best at now advice answers cluster campaigned who) (first who below)
