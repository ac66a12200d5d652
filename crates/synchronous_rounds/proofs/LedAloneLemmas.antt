-- One leads alone still, after a round.
use Rattle.std.proofs.Common.{◌≡◌, ℕ, ◌+◌, ◌<◌, ◌≤◌, List, [], ◌∷◌, ◌++◌, Option, None, Some, ℤ, sym, inl, inr, arith, subst}
use Rattle.std.specs.List.{AllByRecursion, range_with_len}
use Rattle.std.proofs.lemmas.Bool.{cases_eq}
use Rattle.cluster_sched.specs.declared.row.SchedRow.{SchedRow}
use Rattle.due_set.specs.Table.{Table}
use Rattle.step_spec.specs.State.{State, prefix_of, promised_in}
use Rattle.step_spec.specs.Step.{Tick, Plan}
use Rattle.agreement.specs.Transition.{identity_of}
use Rattle.synchronous_rounds.specs.Cluster.{Advice, Cluster, IsAdvised, HeardLetter, cluster_round, events_at, events_of, hear_events, letters_to}
use Rattle.synchronous_rounds.specs.LedAlone.{AreWithin, IsBehind, IsLedAlone, StaysWithin}
use Rattle.synchronous_rounds.proofs.FollowerLemmas.{behind_round}
use Rattle.synchronous_rounds.proofs.Lists.{all_flat}
use Rattle.synchronous_rounds.proofs.SendLemmas.{IsPlain, letters_from, letters_within}
use Rattle.step_spec.proofs.OutLemmas.{range_below}

-- no event of a round is a campaign
pub plain_mail : (now : ℤ) (plan : Plan) (mail : List HeardLetter) → AllByRecursion IsPlain (hear_events mail ++ Tick now plan ∷ [])
plain_mail now plan [] = (tt, tt)
plain_mail now plan (letter ∷ mail) = (tt, plain_mail now plan mail)

pub plain_round : (now : ℤ) (advice : Advice) (waits : Option SchedRow) (mail : List HeardLetter) → AllByRecursion IsPlain (events_of now advice waits mail)
plain_round now advice None mail = plain_mail now advice.plan mail
plain_round now advice (Some row) mail = (tt, plain_mail now advice.plan mail)

-- the others follow still
behind_next : (members c ballot prefix : ℕ) (now : ℤ) (advice : ℕ → Advice) (answers : ℕ → Option SchedRow) (cluster : Cluster) → IsLedAlone members c ballot prefix cluster → (who : ℕ) → who < members → (who ≡ c → ⊥) → IsBehind ballot prefix ((cluster_round members now advice answers cluster).replicas who)
behind_next members c ballot prefix now advice answers cluster led_alone who below other =
    behind_round (identity_of members who) ballot prefix now (advice who).plan (cluster.waits who) (advice who).rows (cluster.mails who) (cluster.replicas who) (led_alone.within who below) (led_alone.behind who below other)

behind_more : (b p q : ℕ) (state : State) → p ≤ q → IsBehind b p state → IsBehind b q state
behind_more b p q state more behind = record { promised = behind.promised; follows = behind.follows; short = omega (arith, behind.short, more) }

-- one leads alone where the others follow, and it has promised and learned no more than this
pub led_alone_by : (members c b q : ℕ) (table : Table) (now : ℤ) (advice : ℕ → Advice) (answers : ℕ → Option SchedRow) (cluster : Cluster) → c < members → members ≤ 7 → 2 ≤ members → IsAdvised members table now advice cluster → ((who : ℕ) → who < members → (who ≡ c → ⊥) → IsBehind b q ((cluster_round members now advice answers cluster).replicas who)) → promised_in ((cluster_round members now advice answers cluster).replicas c).kept ≤ b → prefix_of ((cluster_round members now advice answers cluster).replicas c) ≤ q → IsLedAlone members c b q (cluster_round members now advice answers cluster)
led_alone_by members c b q table now advice answers cluster member few more advised behind low short = record {
  member = member;
  few = few;
  more = more;
  behind = behind;
  within = λ who below. all_flat (λ letter. AllByRecursion (StaysWithin b q) letter.messages) (letters who) (range_with_len 0 members) (λ other has. within who other (range_below 0 members other has));
  from = λ who below. all_flat (λ letter. letter.from < members) (letters who) (range_with_len 0 members) (λ other has. letters_from members (identity_of members other) who (events_at now advice cluster other) (cluster.replicas other) (omega (arith, range_below 0 members other has)));
}
  where
    next : Cluster
    next = cluster_round members now advice answers cluster

    letters : ℕ → ℕ → List HeardLetter
    letters who other = letters_to (identity_of members other) who (events_at now advice cluster other) (cluster.replicas other)

    within : (who other : ℕ) → other < 0 + members → AreWithin b q (letters who other)
    within who other below =
        let mine : other < members = omega (arith, below) in
        let plain = plain_round now (advice other) (cluster.waits other) (cluster.mails other) in
        let are = letters_within b q (identity_of members other) table who (events_at now advice cluster other) (cluster.replicas other) (omega (arith, mine, few)) plain (advised.coherent other mine) (advised.planned other mine) in
        elim (cases_eq other c) [
          | inl same ↦ are.within (subst (λ r. promised_in (next.replicas r).kept ≤ b) (sym same) low) (subst (λ r. prefix_of (next.replicas r) ≤ q) (sym same) short)
          | inr apart ↦ let there = behind other mine apart in are.within there.promised there.short
        ]

pub led_alone_next : (members c b p q : ℕ) (table : Table) (now : ℤ) (advice : ℕ → Advice) (answers : ℕ → Option SchedRow) (cluster : Cluster) → IsLedAlone members c b p cluster → IsAdvised members table now advice cluster → p ≤ q → promised_in ((cluster_round members now advice answers cluster).replicas c).kept ≤ b → prefix_of ((cluster_round members now advice answers cluster).replicas c) ≤ q → IsLedAlone members c b q (cluster_round members now advice answers cluster)
led_alone_next members c b p q table now advice answers cluster led_alone advised more low short =
    led_alone_by members c b q table now advice answers cluster led_alone.member led_alone.few led_alone.more advised
    (λ who below other. behind_more b p q ((cluster_round members now advice answers cluster).replicas who) more (behind_next members c b p now advice answers cluster led_alone who below other)) low short
