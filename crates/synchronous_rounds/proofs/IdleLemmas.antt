-- A leader that is idle stays so, and then all come to know what it knows.
use Rattle.std.proofs.Common.{◌≡◌, ℕ, ◌<◌, List, [], ◌∷◌, ◌++◌, Option, None, Some, ℤ, refl, sym, ap, ◌∙◌, inl, inr, ◌⊎◌, arith, subst}
use Rattle.std.proofs.lemmas.Bool.{cases_Bool, cases_eq}
use Rattle.paxos_base.specs.Vote.{votes_from}
use Rattle.paxos_base.specs.declared.entry.Vote.{Vote}
use Rattle.cluster_sched.specs.declared.row.SchedRow.{SchedRow}
use Rattle.due_set.specs.Table.{Table}
use Rattle.paxos_base.specs.declared.rows.JobRow.{JobRow}
use Rattle.launch_machine.specs.Answers.{IsIntent}
use Rattle.launch_machine.specs.declared.machine.Intent.{Intent}
use Rattle.launch_machine.specs.declared.machine.Intent.TheVariants.{Call, Start, Adopt, Rest}
use Rattle.launch_machine.proofs.ClerkLemmas.{AppliesAll-same}
use Rattle.term_core.specs.declared.term.Term.TheVariants.{Leader}
use Rattle.step_spec.specs.Act.{Send}
use Rattle.step_spec.specs.Folds.{after_acts}
use Rattle.step_spec.specs.Message.{Lead, Others}
use Rattle.step_spec.specs.Propose.{follow_intent, is_long, lead_on, tick_of}
use Rattle.step_spec.specs.State.{Identity, State, prefix_of}
use Rattle.step_spec.specs.Step.{IsLaunchTable, Plan, step}
use Rattle.agreement.specs.Transition.{identity_of}
use Rattle.synchronous_rounds.specs.Begins.{Begins, calls, proposes, rebases, rests, HasRebased, HasIdled}
use Rattle.synchronous_rounds.specs.Cluster.{Advice, Cluster, IsAdvised, after_events, answer_events, before_tick, calls_at, cluster_round, hear_events}
use Rattle.synchronous_rounds.specs.Flights.{with_base}
use Rattle.synchronous_rounds.specs.Rounds.{IsAnswerTo, StaysFree}
use Rattle.synchronous_rounds.specs.LedAlone.{IsLeading, Progress}
use Rattle.synchronous_rounds.proofs.FreeLemmas.{free_next}
use Rattle.synchronous_rounds.proofs.LeaderLemmas.{free_mail}
use Rattle.synchronous_rounds.proofs.OutcomeLemmas.{saying_stays, short_tick}
use Rattle.synchronous_rounds.proofs.RoundLemmas.{round_after, round_planned}
use Rattle.synchronous_rounds.proofs.StageLemmas.{led_alone_then}
use Rattle.synchronous_rounds.proofs.TickLemmas.{holds_rebased}
use Rattle.synchronous_rounds.specs.CatchUp.{AreFiveRounds, HaveCaughtUp, AreTold, HasSaidToAll, HaveAsked, IsIdle, IsRoundAt}
use Rattle.synchronous_rounds.proofs.AskLemmas.{asked_next}
use Rattle.synchronous_rounds.proofs.LearnLemmas.{learned_next, caught_up_still}
use Rattle.synchronous_rounds.proofs.TellLemmas.{told_next}
use Rattle.step_spec.proofs.DeltaLemmas.{tick-long}

-- ---- the leader

-- where the launch table asks for nothing, it asks for nothing else
rests_only : (table : Table) (rows : List JobRow) (now : ℤ) (wanted : Intent) → IsIntent table rows now Rest → IsIntent table rows now wanted → wanted ≡ Rest
rests_only table rows now (Call job instant kind) (no_call, no_start, no_table) (first, is) = absurd (no_call job instant first.may)
rests_only table rows now (Start job instant) (no_call, no_start, no_table) (none, first) = absurd (no_start job instant first.takes)
rests_only table rows now (Adopt version) (no_call, no_start, no_table) (none, takes) = absurd (no_table version takes)
rests_only table rows now Rest resting wanted = refl

-- a leader that is idle says so at its tick
says_lead : (self : Identity) (best : List Vote) (at : Progress) (now : ℤ) (wanted : Intent) (state : State) → IsLeading best None at state → votes_from at.prefix best ≡ [] → wanted ≡ Rest → tick_of self now wanted state state.term ≡ Send Others (Lead at.ballot at.prefix) ∷ []
says_lead self best at now wanted state leading unbound rest =
    ap (λ t. tick_of self now wanted state t) leading.is
    ∙ (ap (λ bound. lead_on self now wanted at.ballot best state bound) (ap (λ k. votes_from k best) leading.learned ∙ unbound)
    ∙ (ap (λ some. follow_intent self now some at.ballot best state) rest
    ∙ ap (λ k. Send Others (Lead at.ballot k) ∷ []) leading.learned))

-- it is idle in the round, or its base rises
pub idle_begins : (members leader : ℕ) (best : List Vote) (at : Progress) (now : ℤ) (advice : ℕ → Advice) (answers : ℕ → Option SchedRow) (cluster : Cluster) → IsIdle members leader best at now cluster → IsAdvised members at.table now advice cluster → HasIdled members leader best at now advice cluster (cluster_round members now advice answers cluster) ⊎ HasRebased members leader best at now advice cluster (cluster_round members now advice answers cluster)
unfolding step
idle_begins members leader best at now advice answers cluster idle advised = go (free_next members leader best at now advice answers cluster idle.free advised)
  where
    self : Identity
    self = identity_of members leader

    plan : Plan
    plan = (advice leader).plan

    state : State
    state = before_tick members advice cluster leader

    next : Cluster
    next = cluster_round members now advice answers cluster

    member : leader < members
    member = idle.free.free.led_alone.member

    leading : IsLeading best None at state
    leading = subst (λ waits. IsLeading best None at (after_events self (answer_events waits (advice leader).rows ++ hear_events (cluster.mails leader)) (cluster.replicas leader))) (sym idle.free.alone)
        (free_mail self best at at.prefix (cluster.mails leader) (cluster.replicas leader) (omega arith) (idle.free.free.led_alone.within leader member) idle.free.free.leading)

    planned : IsLaunchTable at.table state plan.rows × IsIntent at.table plan.rows now plan.intent
    planned = round_planned members at.table now advice cluster leader member advised

    wants : plan.intent ≡ Rest
    wants = rests_only at.table at.rows now plan.intent idle.rests
        (subst (λ rows. IsIntent at.table rows now plan.intent) (AppliesAll-same at.table state.kept.rows state.learned plan.rows at.rows planned.0 leading.launch) planned.1)

    term_is : (next.replicas leader).term ≡ Leader at.ballot best None
    term_is = ap (λ s. s.term) (round_after members now advice answers cluster leader) ∙ elim (cases_Bool (is_long state)) [
      | inl long ↦
          ap (λ some. (after_acts some state).term) (tick-long self now plan.rows plan.intent state long)
          ∙ (holds_rebased (Leader at.ballot best None) at plan.rows state leading planned.0 refl).is
      | inr short ↦
          ap (λ some. (after_acts some state).term) (short_tick self now plan.rows plan.intent state short ∙ says_lead self best at now plan.intent state leading idle.unbound wants)
          ∙ (ap (λ s. s.term) (saying_stays (Lead at.ballot at.prefix) state) ∙ leading.is)
    ]

    go : Begins members leader best at now advice cluster next → HasIdled members leader best at now advice cluster next ⊎ HasRebased members leader best at now advice cluster next
    go (proposes it) = absurd (let no : Leader at.ballot best (Some it.flight) ≡ Leader at.ballot best None = sym it.proposes.leading.is ∙ term_is in cc)
    go (rebases it) = inr it
    go (calls it) = absurd (let no : Call it.row.name.job it.row.name.at it.row.kind ≡ Rest = sym it.asked ∙ wants in cc)
    go (rests it) = inl it

-- it leads alone still, and is idle
idle_still : (members leader : ℕ) (best : List Vote) (at : Progress) (base : ℕ) (now : ℤ) (advice : ℕ → Advice) (answers : ℕ → Option SchedRow) (cluster : Cluster) → IsIdle members leader best at now cluster → IsAdvised members at.table now advice cluster → IsAnswerTo (calls_at members now advice cluster leader) (answers leader) → calls_at members now advice cluster leader ≡ [] → IsLeading best None (with_base base at) ((cluster_round members now advice answers cluster).replicas leader) → IsIdle members leader best (with_base base at) now (cluster_round members now advice answers cluster)
idle_still members leader best at base now advice answers cluster idle advised answered uncalled leading = record {
  free = record {
    free = record {
      led_alone = led_alone_then members leader at at best now advice answers cluster idle.free.free.led_alone advised refl (omega arith) (record { flight = None; base = base; leading = leading });
      leading = leading;
      sound = idle.free.free.sound;
    };
    alone = subst (λ rows. IsAnswerTo rows (answers leader)) uncalled answered;
  };
  unbound = idle.unbound;
  rests = idle.rests;
}

pub idle_round : (members leader : ℕ) (best : List Vote) (at : Progress) (now : ℤ) (cluster next : Cluster) → IsIdle members leader best at now cluster → IsRoundAt members leader at.table now cluster next → (base : ℕ) × IsIdle members leader best (with_base base at) now next
idle_round members leader best at now cluster next idle round =
    subst (λ after. (base : ℕ) × IsIdle members leader best (with_base base at) now after) (sym round.is)
    (elim (idle_begins members leader best at now round.advice round.answers cluster idle round.advised) [
      | inl rested ↦ (at.base, idle_still members leader best at at.base now round.advice round.answers cluster idle round.advised round.answered rested.uncalled rested.leading)
      | inr rebased ↦ (at.prefix, idle_still members leader best at at.prefix now round.advice round.answers cluster idle round.advised round.answered rebased.uncalled rebased.leading)
    ])

-- it says so, or its base rises
pub idle_says : (members leader : ℕ) (best : List Vote) (at : Progress) (now : ℤ) (advice : ℕ → Advice) (answers : ℕ → Option SchedRow) (cluster : Cluster) → IsIdle members leader best at now cluster → IsAdvised members at.table now advice cluster → HasSaidToAll members leader at.ballot at.prefix (cluster_round members now advice answers cluster) ⊎ HasRebased members leader best at now advice cluster (cluster_round members now advice answers cluster)
idle_says members leader best at now advice answers cluster idle advised =
    elim (idle_begins members leader best at now advice answers cluster idle advised) [ inl rested ↦ inl rested.told | inr rebased ↦ inr rebased ]

-- one that has been idle in a round
pub rested_idle : (members leader : ℕ) (best : List Vote) (at : Progress) (now : ℤ) (advice : ℕ → Advice) (cluster next : Cluster) → StaysFree members leader best at now advice cluster next → IsIdle members leader best at now next × HasSaidToAll members leader at.ballot at.prefix next
rested_idle members leader best at now advice cluster next stays =
    (record { free = stays.free; unbound = stays.rested.free; rests = stays.rested.rests }, stays.rested.told)

-- ---- all

-- what holds of the others, but the leader
abbrev OthersCaughtUp : (members leader prefix : ℕ) → Cluster → Type 0
OthersCaughtUp members leader prefix cluster = (who : ℕ) → who < members → (who ≡ leader → ⊥) → prefix_of (cluster.replicas who) ≡ prefix

-- it has said so: three rounds later the others have learned as much
said_caught_up : (members leader : ℕ) (best : List Vote) (at : Progress) (now : ℤ) (one two three four : Cluster) → IsIdle members leader best at now one → HasSaidToAll members leader at.ballot at.prefix one → IsRoundAt members leader at.table now one two → IsRoundAt members leader at.table now two three → IsRoundAt members leader at.table now three four → OthersCaughtUp members leader at.prefix four
said_caught_up members leader best at now one two three four idle said first second third =
    let idle_two = idle_round members leader best at now one two idle first in
    let idle_three = idle_round members leader best (with_base idle_two.0 at) now two three idle_two.1 second in
    let asked = subst (λ cluster. HaveAsked members leader at.prefix cluster) (sym first.is) (asked_next members leader at.ballot at.prefix now first.advice first.answers one idle.free.free.led_alone said) in
    let told = subst (λ cluster. AreTold members leader at.prefix cluster) (sym second.is) (told_next members leader best (with_base idle_two.0 at) now second.advice second.answers two idle_two.1.free asked) in
    subst (λ cluster. OthersCaughtUp members leader at.prefix cluster) (sym third.is)
    (λ who below apart. learned_next members leader at.ballot at.prefix now third.advice third.answers three who idle_three.1.free.free.led_alone told below apart)

-- five rounds of a leader that is idle
four_idle : (members leader : ℕ) (best : List Vote) (at : Progress) (now : ℤ) (cluster five : Cluster) → IsIdle members leader best at now cluster → (rounds : AreFiveRounds members leader at.table now cluster five) → (base : ℕ) × IsIdle members leader best (with_base base at) now rounds.four
four_idle members leader best at now cluster five idle rounds =
    let a = idle_round members leader best at now cluster rounds.one idle rounds.first in
    let b = idle_round members leader best (with_base a.0 at) now rounds.one rounds.two a.1 rounds.second in
    let c = idle_round members leader best (with_base b.0 at) now rounds.two rounds.three b.1 rounds.third in
    idle_round members leader best (with_base c.0 at) now rounds.three rounds.four c.1 rounds.fourth

pub five_idle : (members leader : ℕ) (best : List Vote) (at : Progress) (now : ℤ) (cluster five : Cluster) → IsIdle members leader best at now cluster → AreFiveRounds members leader at.table now cluster five → (base : ℕ) × IsIdle members leader best (with_base base at) now five
five_idle members leader best at now cluster five idle rounds =
    let before = four_idle members leader best at now cluster five idle rounds in
    idle_round members leader best (with_base before.0 at) now rounds.four five before.1 rounds.fifth

pub all_caught_up : (members leader : ℕ) (best : List Vote) (at : Progress) (now : ℤ) (cluster five : Cluster) → IsIdle members leader best at now cluster → AreFiveRounds members leader at.table now cluster five → HaveCaughtUp members at.prefix five
all_caught_up members leader best at now cluster five idle rounds = caught_up
  where
    idle_four : (base : ℕ) × IsIdle members leader best (with_base base at) now rounds.four
    idle_four = four_idle members leader best at now cluster five idle rounds

    idle_five : (base : ℕ) × IsIdle members leader best (with_base base at) now five
    idle_five = five_idle members leader best at now cluster five idle rounds

    -- it says so in the first round
    at_once : HasSaidToAll members leader at.ballot at.prefix rounds.one → OthersCaughtUp members leader at.prefix five
    at_once said =
        let idle_one = idle_round members leader best at now cluster rounds.one idle rounds.first in
        let caught_up = said_caught_up members leader best (with_base idle_one.0 at) now rounds.one rounds.two rounds.three rounds.four idle_one.1 said rounds.second rounds.third rounds.fourth in
        subst (λ after. OthersCaughtUp members leader at.prefix after) (sym rounds.fifth.is)
        (λ who below apart. caught_up_still members leader at.ballot at.prefix now rounds.fifth.advice rounds.fifth.answers rounds.four who idle_four.1.free.free.led_alone below apart (caught_up who below apart))

    -- its base rises in the first round, and it says so in the second
    rebased_first : IsIdle members leader best (with_base at.prefix at) now rounds.one → OthersCaughtUp members leader at.prefix five
    rebased_first idle_one =
        let idle_two = idle_round members leader best (with_base at.prefix at) now rounds.one rounds.two idle_one rounds.second in
        let said : HasSaidToAll members leader at.ballot at.prefix (cluster_round members now rounds.second.advice rounds.second.answers rounds.one) = elim (idle_says members leader best (with_base at.prefix at) now rounds.second.advice rounds.second.answers rounds.one idle_one rounds.second.advised) [
          | inl said ↦ said
          | inr again ↦ absurd (omega (arith, again.due))
        ] in
        said_caught_up members leader best (with_base idle_two.0 at) now rounds.two rounds.three rounds.four five idle_two.1 (subst (λ after. HasSaidToAll members leader at.ballot at.prefix after) (sym rounds.second.is) said) rounds.third rounds.fourth rounds.fifth

    others : OthersCaughtUp members leader at.prefix five
    others = elim (idle_begins members leader best at now rounds.first.advice rounds.first.answers cluster idle rounds.first.advised) [
      | inl rested ↦ at_once (subst (λ after. HasSaidToAll members leader at.ballot at.prefix after) (sym rounds.first.is) rested.told)
      | inr rebased ↦ rebased_first (subst (λ after. IsIdle members leader best (with_base at.prefix at) now after) (sym rounds.first.is)
          (idle_still members leader best at at.prefix now rounds.first.advice rounds.first.answers cluster idle rounds.first.advised rounds.first.answered rebased.uncalled rebased.leading))
    ]

    caught_up : HaveCaughtUp members at.prefix five
    caught_up who below = elim (cases_eq who leader) [
      | inl same ↦ subst (λ q. prefix_of (five.replicas q) ≡ at.prefix) (sym same) idle_five.1.free.free.leading.learned
      | inr apart ↦ others who below apart
    ]
