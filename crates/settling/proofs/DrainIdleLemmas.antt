-- One that leads alone and is idle, round by round, and when that is quiet.
use Rattle.std.proofs.Common.{◌≡◌, ℕ, zero, suc, ◌<◌, ◌≤◌, List, [], None, Some, ℤ, refl, sym, ap, ◌∙◌, inl, inr, arith, subst}
use Rattle.std.proofs.lemmas.Bool.{cases_eq}
use Rattle.paxos_base.specs.Vote.{votes_from}
use Rattle.paxos_base.specs.declared.entry.Entry.{Entry}
use Rattle.paxos_base.specs.declared.entry.Vote.{Vote}
use Rattle.due_set.specs.Table.{Table}
use Rattle.launch_machine.specs.Answers.{IsIntent}
use Rattle.launch_machine.specs.Clerk.{first_rows, table_size}
use Rattle.launch_machine.specs.declared.machine.Intent.TheVariants.{Rest}
use Rattle.launch_machine.proofs.ClerkLemmas.{AppliesAll-same}
use Rattle.step_spec.specs.State.{State, prefix_of, promised_in}
use Rattle.agreement.specs.Log.{IsLog}
use Rattle.history.specs.Book.{Row, standing_after, votes_in}
use Rattle.history.specs.Legal.{IsLegal}
use Rattle.synchronous_rounds.specs.Cluster.{Cluster, IsAdvised, cluster_round}
use Rattle.synchronous_rounds.specs.Flights.{with_base}
use Rattle.synchronous_rounds.specs.Rounds.{Stage, accepted, answer, asked, free}
use Rattle.synchronous_rounds.specs.LedAlone.{IsLedAlone, Progress}
use Rattle.script_semantics.specs.Settling.{AsksNothing, IsFreeTerm, IsQuiet}
use Rattle.script_semantics.specs.Situation.{Situation}
use Rattle.synchronous_rounds.specs.CatchUp.{AreFiveRounds, HaveCaughtUp, IsIdle, IsRoundAt}
use Rattle.settling.specs.Quiet.{EndsQuietly, HasPromisedMost}
use Rattle.synchronous_rounds.proofs.IdleLemmas.{all_caught_up, idle_round}
use Rattle.settling.specs.Leads.{GoesDrainRound, LeadsAlone}
use Rattle.settling.specs.Rounds.{StandsForRound}
use Rattle.settling.specs.Stands.{StandsForCluster}
use Rattle.settling.proofs.ClusterLemmas.{round_is_synchronous}
use Rattle.settling.specs.Drain.{IsIdleFor}
use Rattle.settling.specs.Idle.{HaveCaughtUpWith, IsIdleAt}
use Rattle.settling.proofs.DrainLeadLemmas.{free_rests, goes_round, stage_leads, stage_led_alone}

-- ---- idle in a situation, idle in rounds

idle_at : (members who : ℕ) (best : List Vote) (far : Progress) (now : ℤ) (cluster : Cluster) → IsFreeTerm (prefix_of (cluster.replicas who)) (cluster.replicas who).term → cluster.waits who ≡ None → AsksNothing far.table now (cluster.replicas who) → Stage members who best far cluster → IsIdle members who best far now cluster
idle_at members who best far now cluster unbound alone asks stage = go stage
  where
    state : State
    state = cluster.replicas who

    go : Stage members who best far cluster → IsIdle members who best far now cluster
    go (free it) =
        let leading = it.free.leading in
        let here : votes_from (prefix_of state) best ≡ [] = subst (λ t. IsFreeTerm (prefix_of state) t) leading.is unbound in
        record {
          free = it;
          unbound = sym (ap (λ k. votes_from k best) leading.learned) ∙ here;
          rests = subst (λ rows. IsIntent far.table rows now Rest)
              (AppliesAll-same far.table state.kept.rows state.learned asks.rows far.rows asks.rows_are leading.launch) asks.rests;
        }
    go (answer row it) = absurd (let no : Some row ≡ None = sym it.waits ∙ alone in cc)
    go (asked entry waited flight low it waits) = absurd (subst (λ t. IsFreeTerm (prefix_of state) t) it.proposes.leading.is unbound)
    go (accepted entry waited flight it has) = absurd (subst (λ t. IsFreeTerm (prefix_of state) t) it.proposes.leading.is unbound)

alone_idle : (members : ℕ) (table : Table) (who : ℕ) (at : ℤ) (situation : Situation) → (alone : LeadsAlone members table who situation) → IsIdleAt table who at situation → IsIdle members who alone.best alone.at at alone.cluster
alone_idle members table who at situation alone rest =
    let member = (stage_led_alone members who alone.best alone.at alone.cluster alone.stage).member in
    let same : situation.standing.replicas who ≡ alone.cluster.replicas who = sym (alone.stands.replicas who member) in
    idle_at members who alone.best alone.at at alone.cluster
    (subst (λ (s : State). IsFreeTerm (prefix_of s) s.term) same rest.free)
    (alone.stands.waits who member ∙ rest.answered)
    (subst (λ t. AsksNothing t at (alone.cluster.replicas who)) (sym alone.over) (subst (λ s. AsksNothing table at s) same rest.rests))
    alone.stage

-- ---- rounds

-- so many of them, one after another
abbrev AreRoundsAt : ℕ → (members who : ℕ) → Table → (now : ℤ) → (first last : Cluster) → Type 0
AreRoundsAt zero members who table now first last = last ≡ first
AreRoundsAt (suc more) members who table now first last =
    (middle : Cluster) × AreRoundsAt more members who table now first middle × IsRoundAt members who table now middle last

-- it has been idle for so many rounds, and the situation stands for what they come to
record HasBeenIdleFor (rounds members : ℕ) (table : Table) (who : ℕ) (at : ℤ) (situation : Situation) : Type 0 where
  best : List Vote
  far : Progress
  over : far.table ≡ table
  first : Cluster
  was : IsIdle members who best far at first
  last : Cluster
  are : AreRoundsAt rounds members who far.table at first last
  base : ℕ
  is : IsIdle members who best (with_base base far) at last
  stands : StandsForCluster members (table_size table) situation last

still_alone : (rounds members : ℕ) (table : Table) (who : ℕ) (at : ℤ) (situation : Situation) → HasBeenIdleFor rounds members table who at situation → LeadsAlone members table who situation
still_alone rounds members table who at situation has =
    record { cluster = has.last; best = has.best; at = with_base has.base has.far; over = has.over; stands = has.stands; stage = free has.is.free }

rested_on : (rounds members : ℕ) (table : Table) (who : ℕ) (at : ℤ) (book rows : List Row) (situation after : Situation) → HasBeenIdleFor rounds members table who at situation → GoesDrainRound members table who at book rows situation after → HasBeenIdleFor (suc rounds) members table who at after
rested_on rounds members table who at book rows situation after has goes =
    record {
      best = has.best;
      far = has.far;
      over = has.over;
      first = has.first;
      was = has.was;
      last = next;
      are = (has.last, has.are, here);
      base = still.0;
      is = still.1;
      stands = round.stands;
    }
  where
    round : StandsForRound members table at has.last after
    round =
        round_is_synchronous members table at book rows situation after has.last
        (goes_round members table who at book rows situation after (still_alone rounds members table who at situation has) goes) has.stands

    next : Cluster
    next = cluster_round members at round.advice round.answers has.last

    here : IsRoundAt members who has.far.table at has.last next
    here = record {
      advice = round.advice;
      answers = round.answers;
      advised = subst (λ t. IsAdvised members t at round.advice has.last) (sym has.over) round.advised;
      answered = round.answered who has.is.free.free.led_alone.member;
      is = refl;
    }

    still : (base : ℕ) × IsIdle members who has.best (with_base base has.far) at next
    still = idle_round members who has.best (with_base has.base has.far) at has.last next has.is here

rested_for : (rounds members : ℕ) (table : Table) (who : ℕ) (at : ℤ) (situation : Situation) → IsIdleFor rounds members table who at situation → HasBeenIdleFor rounds members table who at situation
rested_for zero members table who at situation (alone, rest) =
    let idle = alone_idle members table who at situation alone rest in
    record {
      best = alone.best;
      far = alone.at;
      over = alone.over;
      first = alone.cluster;
      was = idle;
      last = alone.cluster;
      are = refl;
      base = alone.at.base;
      is = idle;
      stands = alone.stands;
    }
rested_for (suc more) members table who at situation (book, rows, before, rests, goes) =
    rested_on more members table who at book rows before situation (rested_for more members table who at before rests) goes

-- ---- what it comes to

pub rests_alone : (rounds members : ℕ) (table : Table) (who : ℕ) (at : ℤ) (situation : Situation) → IsIdleFor rounds members table who at situation → LeadsAlone members table who situation
rests_alone rounds members table who at situation rests =
    still_alone rounds members table who at situation (rested_for rounds members table who at situation rests)

pub rests_still : (rounds members : ℕ) (table : Table) (who : ℕ) (at : ℤ) (situation : Situation) → IsIdleFor rounds members table who at situation → IsIdleAt table who at situation
rests_still rounds members table who at situation rests =
    let has = rested_for rounds members table who at situation rests in
    free_rests members table who has.best (with_base has.base has.far) at has.last situation has.over has.stands has.is.free has.is.unbound has.is.rests

pub quiet_of : (members : ℕ) (table : Table) (who : ℕ) (at : ℤ) (situation : Situation) → IsIdleAt table who at situation → HaveCaughtUpWith members who situation → IsQuiet members table who at situation
quiet_of members table who at situation rest caught_up = record { free = rest.free; answered = rest.answered; rests = rest.rests; caught_up = caught_up }

pub rest_of : (members : ℕ) (table : Table) (who : ℕ) (at : ℤ) (situation : Situation) → IsQuiet members table who at situation → IsIdleAt table who at situation
rest_of members table who at situation quiet = record { free = quiet.free; answered = quiet.answered; rests = quiet.rests }

five_rounds : (members who : ℕ) (table : Table) (now : ℤ) (first last : Cluster) → AreRoundsAt 5 members who table now first last → AreFiveRounds members who table now first last
five_rounds members who table now first last (four, (three, (two, (one, (none, same, a), b), c), d), e) = record {
  one = one;
  two = two;
  three = three;
  four = four;
  first = subst (λ cluster. IsRoundAt members who table now cluster one) same a;
  second = b;
  third = c;
  fourth = d;
  fifth = e;
}

pub rests_quietly : (members : ℕ) (table : Table) (who : ℕ) (at : ℤ) (situation : Situation) → IsIdleFor 5 members table who at situation → IsQuiet members table who at situation
rests_quietly members table who at situation rests =
    let has = rested_for 5 members table who at situation rests in
    let caught_up : HaveCaughtUp members has.far.prefix has.last =
    all_caught_up members who has.best has.far at has.first has.last has.was (five_rounds members who has.far.table at has.first has.last has.are) in
    let learned : (other : ℕ) → other < members → prefix_of (situation.standing.replicas other) ≡ has.far.prefix =
    λ other below. ap prefix_of (sym (has.stands.replicas other below)) ∙ caught_up other below in
    quiet_of members table who at situation (rests_still 5 members table who at situation rests)
    (λ other below. learned other below ∙ sym (learned who has.is.free.free.led_alone.member))

-- ---- the end

most_promised : (members : ℕ) (table : Table) (who : ℕ) (situation : Situation) → LeadsAlone members table who situation → HasPromisedMost members who situation
most_promised members table who situation alone other below = elim (cases_eq other who) [
  | inl same ↦ subst (λ one. promised_in (situation.standing.replicas one).kept ≤ promised_in (situation.standing.replicas who).kept) (sym same) (omega arith)
  | inr apart ↦
      let leading = (stage_leads members who alone.best alone.at alone.cluster alone.stage).1 in
      let own : promised_in (situation.standing.replicas who).kept ≡ alone.at.ballot = ap (λ (s : State). promised_in s.kept) (sym (alone.stands.replicas who led_alone.member)) ∙ leading.promised in
      let low = (led_alone.behind other below apart).promised in
      let same : promised_in (alone.cluster.replicas other).kept ≡ promised_in (situation.standing.replicas other).kept = ap (λ (s : State). promised_in s.kept) (alone.stands.replicas other below) in
      omega (arith, own, low, same)
]
  where
    led_alone : IsLedAlone members who alone.at.ballot alone.at.prefix alone.cluster
    led_alone = stage_led_alone members who alone.best alone.at alone.cluster alone.stage

pub ends_quietly : (members : ℕ) (table : Table) (who : ℕ) (at : ℤ) (book : List Row) (situation : Situation) (log : List Entry) → IsLegal members table book → situation.standing ≡ standing_after members (first_rows table) book → LeadsAlone members table who situation → IsQuiet members table who at situation → IsLog members (votes_in book) log → EndsQuietly members table book who at situation log
ends_quietly members table who at book situation log legal standing alone quiet is_log =
    let led_alone = stage_led_alone members who alone.best alone.at alone.cluster alone.stage in
    record {
      few = led_alone.few;
      legal = legal;
      standing = standing;
      member = led_alone.member;
      quiet = quiet;
      most = most_promised members table who situation alone;
      is_log = is_log;
    }
