-- A round of a drain where one replica leads alone: a round and no more, which brings it nearer to being idle.
use Rattle.std.proofs.Common.{◌≡◌, ℕ, ◌-◌, ◌<◌, List, [], ◌++◌, append-nil, length, Option, None, Some, ℤ, sym, ap, ◌∙◌, inl, inr, ◌⊎◌, arith, subst}
use Rattle.std.specs.List.{filter, range_with_len, slice_get}
use Rattle.std.proofs.Math.Path.{fun_ext}
use Rattle.paxos_base.specs.Vote.{votes_from}
use Rattle.paxos_base.specs.declared.entry.Vote.{Vote}
use Rattle.paxos_base.specs.declared.rows.JobRow.{JobRow}
use Rattle.cluster_sched.specs.declared.row.SchedRow.{SchedRow}
use Rattle.due_set.specs.Table.{Table}
use Rattle.launch_machine.specs.Answers.{IsIntent}
use Rattle.launch_machine.specs.Clerk.{first_rows, table_size}
use Rattle.launch_machine.specs.declared.machine.Intent.TheVariants.{Rest}
use Rattle.launch_machine.proofs.ClerkLemmas.{AppliesAll-same}
use Rattle.term_core.specs.Term.{best_votes}
use Rattle.term_core.specs.declared.flight.Flight.{Flight}
use Rattle.step_spec.specs.State.{State, prefix_of}
use Rattle.step_spec.specs.Step.{IsLaunchTable}
use Rattle.history.specs.Book.{Row, standing_after}
use Rattle.synchronous_rounds.specs.Cluster.{Cluster, IsAdvised, cluster_round}
use Rattle.synchronous_rounds.specs.Measure.{rounds_left}
use Rattle.synchronous_rounds.specs.Rounds.{ComesNearer, IsFreeNow, Stage, accepted, answer, asked, free}
use Rattle.synchronous_rounds.specs.LedAlone.{IsLeading, IsLedAlone, Progress}
use Rattle.synchronous_rounds.proofs.StageLemmas.{stage_next}
use Rattle.script_semantics.specs.Parts.{Then}
use Rattle.script_semantics.specs.Round.{IsRound}
use Rattle.script_semantics.specs.Settling.{AsksNothing, IsFreeTerm, campaign_tasks}
use Rattle.script_semantics.specs.Situation.{Performs, Situation, after_turns, delivered, letters_for, reaches}
use Rattle.settling.specs.Leads.{GoesDrainRound, LeadsAlone}
use Rattle.settling.specs.Rounds.{GoesRound, StandsForRound}
use Rattle.settling.specs.Stands.{StandsForCluster}
use Rattle.settling.proofs.BookLemmas.{stand_after}
use Rattle.settling.proofs.ClusterLemmas.{round_is_synchronous}
use Rattle.settling.specs.Drain.{HasFewerLeft}
use Rattle.settling.specs.Idle.{IsIdleAt, left_of}

-- ---- a stage

-- one leads alone at each stage
pub stage_led_alone : (members leader : ℕ) (best : List Vote) (at : Progress) (cluster : Cluster) → Stage members leader best at cluster → IsLedAlone members leader at.ballot at.prefix cluster
stage_led_alone members leader best at cluster (free it) = it.free.led_alone
stage_led_alone members leader best at cluster (answer row it) = it.free.led_alone
stage_led_alone members leader best at cluster (asked entry waited flight low it asks) = it.led_alone
stage_led_alone members leader best at cluster (accepted entry waited flight it has) = it.led_alone

pub stage_leads : (members leader : ℕ) (best : List Vote) (at : Progress) (cluster : Cluster) → Stage members leader best at cluster → (flight : Option Flight) × IsLeading best flight at (cluster.replicas leader)
stage_leads members leader best at cluster (free it) = (None, it.free.leading)
stage_leads members leader best at cluster (answer row it) = (None, it.free.leading)
stage_leads members leader best at cluster (asked entry waited flight low it asks) = (Some flight, it.proposes.leading)
stage_leads members leader best at cluster (accepted entry waited flight it has) = (Some flight, it.proposes.leading)

pub alone_has_table : (members : ℕ) (table : Table) (who : ℕ) (situation : Situation) → LeadsAlone members table who situation → (rows : List JobRow) × IsLaunchTable table (situation.standing.replicas who) rows
alone_has_table members table who situation alone =
    let member = (stage_led_alone members who alone.best alone.at alone.cluster alone.stage).member in
    let leading = (stage_leads members who alone.best alone.at alone.cluster alone.stage).1 in (
      alone.at.rows,
      subst (λ state. IsLaunchTable table state alone.at.rows) (alone.stands.replicas who member)
          (subst (λ t. IsLaunchTable t (alone.cluster.replicas who) alone.at.rows) alone.over leading.launch),
    )

-- ---- nobody stands for leader

none_posted : (situation : Situation) (who : ℕ) → letters_for situation (length situation.standing.posted) who ≡ []
none_posted situation who =
    let posted = situation.standing.posted in
    let none : length posted - length posted ≡ 0 = omega arith in
    ap (λ count. filter (λ number. reaches situation who (slice_get posted number)) (range_with_len (length posted) count)) none

-- where nobody has a turn, nothing changes
pub delivers_none : (situation : Situation) → delivered (length situation.standing.posted) situation ≡ situation
delivers_none situation =
    ap (λ (mails : ℕ → List ℕ). record situation { mails = mails })
    (fun_ext (λ who. ap (λ list. situation.mails who ++ list) (none_posted situation who) ∙ append-nil (situation.mails who)))

pub goes_round : (members : ℕ) (table : Table) (who : ℕ) (at : ℤ) (book rows : List Row) (situation after : Situation) → LeadsAlone members table who situation → GoesDrainRound members table who at book rows situation after → GoesRound members table at book rows situation after
goes_round members table who at book rows situation after alone goes = record {
  few = goes.few;
  sound = goes.sound;
  within = goes.within;
  legal = goes.legal;
  standing = goes.standing;
  faultless = goes.faultless;
  round = subst (λ list. IsRound members table.window at situation list after) (sym back)
      (subst (λ (here : Situation). IsRound members table.window at here parts.back after) middle parts.two);
  limits = goes.limits;
}
  where
    parts : Then (λ here some there. Performs members (campaign_tasks who (here.standing.replicas who).term) here some there) (IsRound members table.window at) situation rows after
    parts = goes.round

    member : who < members
    member = (stage_led_alone members who alone.best alone.at alone.cluster alone.stage).member

    none : campaign_tasks who (situation.standing.replicas who).term ≡ []
    none =
        ap (λ (state : State). campaign_tasks who state.term) (sym (alone.stands.replicas who member))
        ∙ ap (campaign_tasks who) (stage_leads members who alone.best alone.at alone.cluster alone.stage).1.is

    nobody : Performs members [] situation parts.front parts.middle
    nobody = subst (λ tasks. Performs members tasks situation parts.front parts.middle) none parts.one

    front : parts.front ≡ []
    front = nobody.turns

    back : rows ≡ parts.back
    back = parts.parts ∙ ap (λ list. list ++ parts.back) front

    middle : parts.middle ≡ situation
    middle =
        nobody.is ∙ ap (λ list. delivered (length situation.standing.posted) (after_turns members situation list)) front
        ∙ delivers_none situation

pub round_stands : (members : ℕ) (table : Table) (at : ℤ) (book rows : List Row) (situation after : Situation) → GoesRound members table at book rows situation after → after.standing ≡ standing_after members (first_rows table) (book ++ rows)
round_stands members table at book rows situation after goes =
    ap (λ (s : Situation). s.standing) goes.round.is ∙ stand_after members table book rows situation goes.standing

-- ---- a round

-- fewer rounds are left, by launch tables of two replicas
abbrev Fewer : Table → Option SchedRow → State → Option SchedRow → State → Type 0
Fewer table waits state next_waits next =
    (old new : List JobRow) → IsLaunchTable table state old → IsLaunchTable table next new
    → left_of table new next_waits next < left_of table old waits state

-- what is left to a leader, by the votes that bind it
left_is : (table : Table) (best : List Vote) (at : Progress) (flight : Option Flight) (rows : List JobRow) (waits : Option SchedRow) (state : State) → IsLeading best flight at state → IsLaunchTable at.table state rows → left_of table rows waits state ≡ rounds_left table at.rows best waits state
left_is table best at flight rows waits state leading launch =
    ap (λ votes. rounds_left table rows votes waits state) (ap best_votes leading.is)
    ∙ ap (λ some. rounds_left table some best waits state) (AppliesAll-same at.table state.kept.rows state.learned rows at.rows launch leading.launch)

fewer_left : (best : List Vote) (at later : Progress) (flight next_flight : Option Flight) (waits next_waits : Option SchedRow) (state next : State) → IsLeading best flight at state → IsLeading best next_flight later next → later.table ≡ at.table
    → rounds_left at.table later.rows best next_waits next < rounds_left at.table at.rows best waits state
    → Fewer at.table waits state next_waits next
fewer_left best at later flight next_flight waits next_waits state next leading leads_on same less old new is_old is_new =
    let before = left_is at.table best at flight old waits state leading is_old in
    let after = left_is at.table best later next_flight new next_waits next leads_on (subst (λ t. IsLaunchTable t next new) (sym same) is_new) in
    subst (λ k. k < left_of at.table old waits state) (sym after)
    (subst (λ k. rounds_left at.table later.rows best next_waits next < k) (sym before) less)

-- ---- idle

pub free_rests : (members : ℕ) (table : Table) (who : ℕ) (best : List Vote) (far : Progress) (now : ℤ) (cluster : Cluster) (situation : Situation) → far.table ≡ table → StandsForCluster members (table_size table) situation cluster → IsFreeNow members who best far cluster → votes_from far.prefix best ≡ [] → IsIntent far.table far.rows now Rest → IsIdleAt table who now situation
free_rests members table who best far now cluster situation over stands it unbound rests =
    let member = it.free.led_alone.member in
    let leading = it.free.leading in
    let same : cluster.replicas who ≡ situation.standing.replicas who = stands.replicas who member in
    let state = cluster.replicas who in
    record {
      free = subst (λ (s : State). IsFreeTerm (prefix_of s) s.term) same
          (subst (λ t. IsFreeTerm (prefix_of state) t) (sym leading.is) (ap (λ k. votes_from k best) leading.learned ∙ unbound));
      answered = sym (stands.waits who member) ∙ it.alone;
      rests = subst (λ s. AsksNothing table now s) same
          (subst (λ t. AsksNothing t now state) over (record { rows = far.rows; rows_are = leading.launch; rests = rests }));
    }

-- ---- a round

-- it leads alone after it, and was idle before it, or fewer are left
pub record HasDrained (members : ℕ) (table : Table) (who : ℕ) (at : ℤ) (situation after : Situation) : Type 0 where
  pub alone : LeadsAlone members table who after
  pub nearer : IsIdleAt table who at situation ⊎ HasFewerLeft table who situation after

pub drained : (members : ℕ) (table : Table) (who : ℕ) (at : ℤ) (book rows : List Row) (situation after : Situation) → LeadsAlone members table who situation → GoesRound members table at book rows situation after → HasDrained members table who at situation after
drained members table who at book rows situation after alone goes =
    elim (stage_next members who best far at round.advice round.answers cluster alone.stage advised (round.answered who member)) [
      | inl near ↦ record {
        alone = record { cluster = next; best = best; at = near.later; over = near.table ∙ alone.over; stands = round.stands; stage = near.stage };
        nearer = inr (fewer near);
      }
      | inr stays ↦ record {
        alone = record { cluster = next; best = best; at = far; over = alone.over; stands = round.stands; stage = free stays.free };
        nearer = inl (free_rests members table who best far at cluster situation alone.over alone.stands stays.was stays.rested.free stays.rested.rests);
      }
    ]
  where
    cluster : Cluster
    cluster = alone.cluster

    best : List Vote
    best = alone.best

    far : Progress
    far = alone.at

    round : StandsForRound members table at cluster after
    round = round_is_synchronous members table at book rows situation after cluster goes alone.stands

    next : Cluster
    next = cluster_round members at round.advice round.answers cluster

    member : who < members
    member = (stage_led_alone members who best far cluster alone.stage).member

    advised : IsAdvised members far.table at round.advice cluster
    advised = subst (λ t. IsAdvised members t at round.advice cluster) (sym alone.over) round.advised

    leading : (flight : Option Flight) × IsLeading best flight far (cluster.replicas who)
    leading = stage_leads members who best far cluster alone.stage

    fewer : ComesNearer members who best far cluster next → HasFewerLeft table who situation after
    fewer near =
        let leads_on = stage_leads members who best near.later next near.stage in
        let less = fewer_left best far near.later leading.0 leads_on.0 (cluster.waits who) (next.waits who) (cluster.replicas who) (next.replicas who)
        leading.1 leads_on.1 near.table near.nearer.nearer in
        subst (λ t. HasFewerLeft t who situation after) alone.over
        (subst (λ s. Fewer far.table (situation.standing.waits who) (situation.standing.replicas who) (after.standing.waits who) s) (round.stands.replicas who member)
        (subst (λ w. Fewer far.table (situation.standing.waits who) (situation.standing.replicas who) w (next.replicas who)) (round.stands.waits who member)
        (subst (λ s. Fewer far.table (situation.standing.waits who) s (next.waits who) (next.replicas who)) (alone.stands.replicas who member)
        (subst (λ w. Fewer far.table w (cluster.replicas who) (next.waits who) (next.replicas who)) (alone.stands.waits who member) less))))
