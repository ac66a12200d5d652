-- What a campaign and the rounds of a drain make of a legal book of one replica.
use Rattle.std.proofs.Common.{◌≡◌, ℕ, zero, suc, ◌-◌, ◌<◌, List, [], ◌∷◌, ◌++◌, append-nil, length, Option, None, Some, ℤ, refl, sym, ap, ◌∙◌, inl, inr, ◌⊎◌, arith, subst}
use Rattle.std.specs.List.{AllZip, filter, range_with_len, slice_get}
use Rattle.paxos_base.specs.declared.rows.TableSize.{TableSize}
use Rattle.paxos_base.specs.Vote.{votes_from}
use Rattle.paxos_base.specs.declared.rows.JobRow.{JobRow}
use Rattle.paxos_base.specs.declared.entry.Vote.{Vote}
use Rattle.cluster_sched.specs.declared.row.SchedRow.{SchedRow}
use Rattle.due_set.specs.Table.{IsSound, Table}
use Rattle.launch_machine.specs.Answers.{IsIntent}
use Rattle.launch_machine.specs.Clerk.{first_rows, table_size}
use Rattle.launch_machine.specs.declared.machine.Intent.TheVariants as intent
use Rattle.launch_machine.proofs.ClerkLemmas.{AppliesAll-same}
use Rattle.launch_machine.proofs.ExistLemmas.{all_applied}
use Rattle.term_core.specs.Term.{best_votes}
use Rattle.term_core.specs.declared.term.Term.TheVariants.{Leader}
use Rattle.step_spec.specs.Folds.{calls_of, letter_of, sent_to}
use Rattle.step_spec.specs.Letters.{IsSpelled}
use Rattle.step_spec.specs.State.{State, prefix_of}
use Rattle.step_spec.specs.Step.{IsLaunchTable, step}
use Rattle.step_spec.specs.Step as told
use Rattle.step_spec.specs.declared.out.OutLetter.{OutLetter}
use Rattle.history.specs.Book.{PostedLetter, Row, after_row, standing_after}
use Rattle.history.specs.Legal.{IsMade, MayFollow}
use Rattle.history.specs.declared.turn.CallRow.{CallRow}
use Rattle.history.specs.declared.turn.Cause.TheVariants.{Campaign}
use Rattle.history.specs.declared.turn.Turn.TheVariants.{Did}
use Rattle.history.proofs.Turns.{AllFollow, all_follow}
use Rattle.synchronous_rounds.specs.Cluster.{Cluster, IsAdvised, cluster_round}
use Rattle.synchronous_rounds.specs.Flights.{with_base}
use Rattle.synchronous_rounds.specs.Measure.{rounds_left}
use Rattle.synchronous_rounds.specs.LedAlone.{IsLeading, Progress}
use Rattle.script_semantics.specs.Round.{IsRound}
use Rattle.script_semantics.specs.Settling.{IsFreeTerm, campaign_tasks}
use Rattle.script_semantics.specs.Situation.{AreTurnsFor, Do, Performs, Situation, after_turn, after_turns, delivered, letters_for, reaches}
use Rattle.settling.specs.Leads.{GoesDrainRound}
use Rattle.settling.specs.Rounds.{GoesRound, IsFaultless, StandsForRound}
use Rattle.settling.specs.Stands.{IsLetterAt, StandsForCluster}
use Rattle.settling.proofs.BookLemmas.{stand_after}
use Rattle.settling.proofs.ClusterLemmas.{round_is_synchronous, round_leaves_no_fault}
use Rattle.settling.specs.Campaigns.{GoesCampaign}
use Rattle.settling.specs.Drain.{HasFewerLeft}
use Rattle.settling.specs.Idle.{IsIdleAt}
use Rattle.settling.proofs.DrainLeadLemmas.{delivers_none}
use Rattle.settling.specs.Alone.{LeadsItself}
use Rattle.settling.proofs.NextLemmas.{LeadsOn, StaysSo}
use Rattle.settling.proofs.AloneRoundLemmas.{round_alone, round_stays, unheard}
use Rattle.settling.proofs.StepLemmas.{alone, campaign_leads, campaign_term, campaigned, uncalled_campaign, untold_campaign}

-- no letter joins a mail where none was posted
none_join : (situation : Situation) (first who : ℕ) → length situation.standing.posted ≡ first → letters_for situation first who ≡ []
none_join situation first who same =
    let none : length situation.standing.posted - first ≡ 0 = omega (arith, same) in
    ap (λ count. filter (λ number. reaches situation who (slice_get situation.standing.posted number)) (range_with_len first count)) none

-- ---- a campaign

-- the turn of a campaign
record CampaignTurn (situation : Situation) (rows : List Row) : Type 0 where
  row : Row
  is : rows ≡ row ∷ []
  turn : row.turn ≡ Did 0 Campaign None
  event : row.event ≡ told.Campaign
  letters : row.letters ≡ []

-- no call was asked for, so none was made
none_made : (held calls : List SchedRow) (made : Option CallRow) → calls ≡ [] → IsMade held calls made → made ≡ None
none_made held calls made none is = subst (λ list. IsMade held list made) none is

-- nothing was said, so no letter was sent
none_sent : (letters : List OutLetter) → AllZip (IsSpelled 1 0) [] letters → letters ≡ []
none_sent [] zips = refl
none_sent (letter ∷ letters) zips = absurd zips

campaign_turn : (table : Table) (situation : Situation) (rows : List Row) → AreTurnsFor 1 situation (Do 0 Campaign ∷ []) rows → AllFollow 1 table situation.standing rows
    → CampaignTurn situation rows
campaign_turn table situation [] turns follow = absurd cc
campaign_turn table situation (row ∷ rows) turns follow =
    let may : MayFollow 1 table situation.standing (Did 0 Campaign turns.0.made) row = subst (λ turn. MayFollow 1 table situation.standing turn row) turns.0.is follow.0 in
    let event : row.event ≡ told.Campaign = may.0.event_of in
    let state : State = situation.standing.replicas 0 in
    let uncalled : calls_of (step alone row.event state) ≡ [] = ap (λ e. calls_of (step alone e state)) event ∙ uncalled_campaign state in
    let untold : sent_to 0 0 (step alone row.event state) ≡ [] = ap (λ e. sent_to 0 0 (step alone e state)) event ∙ untold_campaign state in
    let made : turns.0.made ≡ None = none_made situation.standing.held (calls_of (step alone row.event state)) turns.0.made uncalled may.1.call in
    record {
      row = row;
      is = ap (λ list. row ∷ list) turns.1;
      turn = turns.0.is ∙ ap (λ call. Did 0 Campaign call) made;
      event = event;
      letters = none_sent row.letters (subst (λ messages. AllZip (IsSpelled 1 0) (letter_of 0 messages ++ []) row.letters) untold may.1.letters);
    }

-- the situation after it
abbrev after_campaign : Situation → Row → Situation
after_campaign situation row =
    delivered (length situation.standing.posted) (after_turn 1 situation (record row { turn = Did 0 Campaign None; event = told.Campaign; letters = [] }))

came_to : (table : Table) (at : ℤ) (book rows : List Row) (situation after : Situation) → GoesCampaign 1 table 0 at book rows situation after
    → (row : Row) × (after ≡ after_campaign situation row)
came_to table at book rows situation after goes =
    let first = length situation.standing.posted in
    let one = campaign_turn table situation rows goes.round.turns (subst (λ standing. AllFollow 1 table standing rows) (sym goes.standing) (all_follow 1 table book rows goes.legal)) in (
      one.row,
      goes.round.is
          ∙ (ap (λ list. delivered first (after_turns 1 situation list)) one.is
          ∙ (ap (λ turn. delivered first (after_turn 1 situation (record one.row { turn = turn }))) one.turn
          ∙ (ap (λ event. delivered first (after_turn 1 situation (record one.row { turn = Did 0 Campaign None; event = event }))) one.event
          ∙ ap (λ letters. delivered first (after_turn 1 situation (record one.row { turn = Did 0 Campaign None; event = told.Campaign; letters = letters }))) one.letters))),
    )

leads_after : (table : Table) → IsSound table → (situation : Situation) (row : Row) → situation.mails 0 ≡ [] → LeadsItself table (after_campaign situation row)
unfolding after_row
leads_after table sound situation row none =
    let state : State = situation.standing.replicas 0 in
    let launch = all_applied table sound state.kept.rows state.learned in
    record {
      best = votes_from (prefix_of state) state.kept.votes;
      at = campaigned table launch.0 state;
      over = refl;
      leading = campaign_leads table launch.0 state launch.1;
      answers = tt;
      unheard = ap (λ list. list ++ letters_for (after_turn 1 situation (record row { turn = Did 0 Campaign None; event = told.Campaign; letters = [] })) (length situation.standing.posted) 0) none
          ∙ none_join (after_turn 1 situation (record row { turn = Did 0 Campaign None; event = told.Campaign; letters = [] })) (length situation.standing.posted) 0
          (ap length (append-nil situation.standing.posted));
    }

pub campaign_is_won : (table : Table) (at : ℤ) (book rows : List Row) (situation after : Situation) → GoesCampaign 1 table 0 at book rows situation after
    → situation.mails 0 ≡ [] → LeadsItself table after
campaign_is_won table at book rows situation after goes none =
    let came = came_to table at book rows situation after goes in
    subst (λ s. LeadsItself table s) (sym came.1) (leads_after table goes.sound situation came.0 none)

no_fault_there : (situation : Situation) (row : Row) → IsFaultless 1 situation → IsFaultless 1 (after_campaign situation row)
unfolding after_row
no_fault_there situation row faultless =
    record { runs = faultless.runs; uncut = faultless.uncut; right = faultless.right; done = faultless.done }

pub campaign_leaves_no_fault : (table : Table) (at : ℤ) (book rows : List Row) (situation after : Situation) → GoesCampaign 1 table 0 at book rows situation after
    → IsFaultless 1 after
campaign_leaves_no_fault table at book rows situation after goes =
    let came = came_to table at book rows situation after goes in
    subst (λ s. IsFaultless 1 s) (sym came.1) (no_fault_there situation came.0 goes.faultless)

bound_there : (situation : Situation) (row : Row)
    → best_votes ((after_campaign situation row).standing.replicas 0).term ≡ votes_from (prefix_of (situation.standing.replicas 0)) (situation.standing.replicas 0).kept.votes
unfolding after_row
bound_there situation row =
    let state : State = situation.standing.replicas 0 in
    ap best_votes (campaign_term state)

pub campaign_binds : (table : Table) (at : ℤ) (book rows : List Row) (situation after : Situation) → GoesCampaign 1 table 0 at book rows situation after
    → best_votes (after.standing.replicas 0).term ≡ votes_from (prefix_of (situation.standing.replicas 0)) (situation.standing.replicas 0).kept.votes
campaign_binds table at book rows situation after goes =
    let came = came_to table at book rows situation after goes in
    ap (λ (s : Situation). best_votes (s.standing.replicas 0).term) came.1 ∙ bound_there situation came.0

none_waits : (situation : Situation) (row : Row) → (after_campaign situation row).standing.waits 0 ≡ None
unfolding after_row
none_waits situation row = refl

pub campaign_drops : (table : Table) (at : ℤ) (book rows : List Row) (situation after : Situation) → GoesCampaign 1 table 0 at book rows situation after
    → after.standing.waits 0 ≡ None
campaign_drops table at book rows situation after goes =
    let came = came_to table at book rows situation after goes in
    ap (λ (s : Situation). s.standing.waits 0) came.1 ∙ none_waits situation came.0

pub campaign_stands : (table : Table) (at : ℤ) (book rows : List Row) (situation after : Situation) → GoesCampaign 1 table 0 at book rows situation after
    → after.standing ≡ standing_after 1 (first_rows table) (book ++ rows)
campaign_stands table at book rows situation after goes =
    ap (λ (s : Situation). s.standing) goes.round.is ∙ stand_after 1 table book rows situation goes.standing

-- ---- a round of a drain

-- a leader has no turn for a campaign
pub drain_is_round : (table : Table) (at : ℤ) (book rows : List Row) (situation after : Situation) → LeadsItself table situation → GoesDrainRound 1 table 0 at book rows situation after
    → GoesRound 1 table at book rows situation after
drain_is_round table at book rows situation after leads goes =
    let first = length situation.standing.posted in
    let parts = goes.round in
    let idle : Performs 1 [] situation parts.front parts.middle = subst (λ term. Performs 1 (campaign_tasks 0 term) situation parts.front parts.middle) leads.leading.is parts.one in
    let none : parts.front ≡ [] = idle.turns in
    let is : parts.middle ≡ situation = idle.is ∙ (ap (λ list. delivered first (after_turns 1 situation list)) none ∙ delivers_none situation) in
    let rows_are : rows ≡ parts.back = parts.parts ∙ ap (λ list. list ++ parts.back) none in
    record {
      few = goes.few;
      sound = goes.sound;
      within = goes.within;
      legal = goes.legal;
      standing = goes.standing;
      faultless = goes.faultless;
      round = subst (λ list. IsRound 1 table.window at situation list after) (sym rows_are)
          (subst (λ (here : Situation). IsRound 1 table.window at here parts.back after) is parts.two);
      limits = goes.limits;
    }

pub drain_stands : (table : Table) (at : ℤ) (book rows : List Row) (situation after : Situation) → LeadsItself table situation → GoesDrainRound 1 table 0 at book rows situation after
    → after.standing ≡ standing_after 1 (first_rows table) (book ++ rows)
drain_stands table at book rows situation after leads goes =
    let round = drain_is_round table at book rows situation after leads goes in
    ap (λ (s : Situation). s.standing) round.round.is ∙ stand_after 1 table book rows situation goes.standing

-- the situation stands for its replica without a letter, and the answer that waits for it
stands_alone : (table : Table) (situation : Situation) (waits : Option SchedRow) → situation.standing.waits 0 ≡ waits → situation.mails 0 ≡ []
    → StandsForCluster 1 (table_size table) situation (unheard situation.standing.replicas waits)
stands_alone table situation waits same none = record {
  replicas = λ who below. refl;
  waits = λ who below. waits_there who below;
  mails = λ who below. mail_there who below;
}
  where
    waits_there : (who : ℕ) → who < 1 → waits ≡ situation.standing.waits who
    waits_there zero below = sym same
    waits_there (suc more) below = absurd (omega (arith, below))

    mail_there : (who : ℕ) → who < 1 → AllZip (IsLetterAt 1 (table_size table) situation.standing.posted who) (situation.mails who) []
    mail_there zero below = subst (λ list. AllZip (IsLetterAt 1 (table_size table) situation.standing.posted 0) list []) (sym none) tt
    mail_there (suc more) below = absurd (omega (arith, below))

no_letters : (posted : List PostedLetter) (size : TableSize) (numbers : List ℕ) → AllZip (IsLetterAt 1 size posted 0) numbers [] → numbers ≡ []
no_letters posted size [] zips = refl
no_letters posted size (number ∷ numbers) zips = absurd zips

-- The situation after the round: how the replica leads on, or that it stays so.
record CameTo (table : Table) (at : ℤ) (situation after : Situation) (leads : LeadsItself table situation) : Type 0 where
  on : LeadsOn leads.best leads.at at (situation.standing.waits 0) (situation.standing.replicas 0) (after.standing.waits 0) (after.standing.replicas 0)
  unheard_then : after.mails 0 ≡ []
  stays : situation.standing.waits 0 ≡ None → votes_from leads.at.prefix leads.best ≡ [] → IsIntent leads.at.table leads.at.rows at intent.Rest
      → StaysSo leads.best leads.at (after.standing.waits 0) (after.standing.replicas 0)
  faultless : IsFaultless 1 after

rest_stays : (table : Table) (at : ℤ) (situation after : Situation) (leads : LeadsItself table situation) (waits : Option SchedRow) → waits ≡ None → votes_from leads.at.prefix leads.best ≡ []
    → IsIntent leads.at.table leads.at.rows at intent.Rest → StandsForRound 1 table at (unheard situation.standing.replicas waits) after
    → StaysSo leads.best leads.at (after.standing.waits 0) (after.standing.replicas 0)
rest_stays table at situation after leads None none unbound rests one =
    let before : Cluster = unheard situation.standing.replicas None in
    let advised : IsAdvised 1 leads.at.table at one.advice before = subst (λ t. IsAdvised 1 t at one.advice before) (sym leads.over) one.advised in
    let stays = round_stays leads.best leads.at at situation.standing.replicas one.advice one.answers leads.leading unbound rests advised (one.answered 0 (omega arith)) in
    subst (λ w. StaysSo leads.best leads.at w (after.standing.replicas 0)) (one.stands.waits 0 (omega arith))
    (subst (λ s. StaysSo leads.best leads.at (one.answers 0) s) (one.stands.replicas 0 (omega arith)) stays)
rest_stays table at situation after leads (Some row) none unbound rests one = absurd cc

round_comes_to : (table : Table) (at : ℤ) (book rows : List Row) (situation after : Situation) (leads : LeadsItself table situation) → GoesDrainRound 1 table 0 at book rows situation after
    → CameTo table at situation after leads
round_comes_to table at book rows situation after leads goes =
    let state : State = situation.standing.replicas 0 in
    let waits : Option SchedRow = situation.standing.waits 0 in
    let before : Cluster = unheard situation.standing.replicas waits in
    let round = drain_is_round table at book rows situation after leads goes in
    let stands : StandsForCluster 1 (table_size table) situation before = stands_alone table situation waits refl leads.unheard in
    let one : StandsForRound 1 table at before after = round_is_synchronous 1 table at book rows situation after before round stands in
    let next : Cluster = cluster_round 1 at one.advice one.answers before in
    let advised : IsAdvised 1 leads.at.table at one.advice before = subst (λ t. IsAdvised 1 t at one.advice before) (sym leads.over) one.advised in
    let sound : IsSound leads.at.table = subst IsSound (sym leads.over) goes.sound in
    let went = round_alone leads.best leads.at sound at waits situation.standing.replicas one.advice one.answers leads.leading leads.answers advised (one.answered 0 (omega arith)) in
    let replica_then : next.replicas 0 ≡ after.standing.replicas 0 = one.stands.replicas 0 (omega arith) in
    let waits_then : one.answers 0 ≡ after.standing.waits 0 = one.stands.waits 0 (omega arith) in
    record {
      on = subst (λ w. LeadsOn leads.best leads.at at waits state w (after.standing.replicas 0)) waits_then
          (subst (λ s. LeadsOn leads.best leads.at at waits state (one.answers 0) s) replica_then went.on);
      unheard_then = no_letters after.standing.posted (table_size table) (after.mails 0)
          (subst (λ list. AllZip (IsLetterAt 1 (table_size table) after.standing.posted 0) (after.mails 0) list) went.unheard_then (one.stands.mails 0 (omega arith)));
      stays = λ none unbound rests. rest_stays table at situation after leads waits none unbound rests one;
      faultless = round_leaves_no_fault 1 table at book rows situation after before round stands;
    }

-- ---- what it says

-- one that leads so, bound by no vote, is free
free_at : (at : Progress) (best : List Vote) (state : State) → votes_from at.prefix best ≡ [] → IsLeading best None at state → IsFreeTerm (prefix_of state) state.term
free_at at best state unbound leading =
    subst (λ t. IsFreeTerm (prefix_of state) t) (sym leading.is) (ap (λ k. votes_from k best) leading.learned ∙ unbound)

pub round_leads : (table : Table) (at : ℤ) (book rows : List Row) (situation after : Situation) → LeadsItself table situation → GoesDrainRound 1 table 0 at book rows situation after
    → LeadsItself table after
round_leads table at book rows situation after leads goes =
    let came = round_comes_to table at book rows situation after leads goes in
    record {
      best = leads.best;
      at = came.on.later;
      over = came.on.over ∙ leads.over;
      leading = came.on.leading;
      answers = came.on.answers;
      unheard = came.unheard_then;
    }

pub round_brings_nearer : (table : Table) (at : ℤ) (book rows : List Row) (situation after : Situation) → LeadsItself table situation → GoesDrainRound 1 table 0 at book rows situation after
    → IsIdleAt table 0 at situation ⊎ HasFewerLeft table 0 situation after
round_brings_nearer table at book rows situation after leads goes =
    elim came.on.comes [
      | inl less ↦ inr (λ before later before_is later_is. fewer less before later before_is later_is)
      | inr (nothing, same) ↦ inl (record {
        free = free_at leads.at leads.best (situation.standing.replicas 0) nothing.unbound leads.leading;
        answered = nothing.answered;
        rests = record {
          rows = leads.at.rows;
          rows_are = subst (λ t. IsLaunchTable t (situation.standing.replicas 0) leads.at.rows) leads.over leads.leading.launch;
          rests = subst (λ t. IsIntent t leads.at.rows at intent.Rest) leads.over nothing.rests;
        };
      })
    ]
  where
    came : CameTo table at situation after leads
    came = round_comes_to table at book rows situation after leads goes

    fewer : rounds_left leads.at.table came.on.later.rows leads.best (after.standing.waits 0) (after.standing.replicas 0)
        < rounds_left leads.at.table leads.at.rows leads.best (situation.standing.waits 0) (situation.standing.replicas 0)
        → HasFewerLeft table 0 situation after
    fewer less before later before_is later_is =
        let old : State = situation.standing.replicas 0 in
        let new : State = after.standing.replicas 0 in
        let rows_before : before ≡ leads.at.rows = AppliesAll-same table old.kept.rows old.learned before leads.at.rows before_is (subst (λ t. IsLaunchTable t old leads.at.rows) leads.over leads.leading.launch) in
        let rows_later : later ≡ came.on.later.rows = AppliesAll-same table new.kept.rows new.learned later came.on.later.rows later_is
        (subst (λ t. IsLaunchTable t new came.on.later.rows) (came.on.over ∙ leads.over) came.on.leading.launch) in
        let best_before : best_votes old.term ≡ leads.best = ap best_votes leads.leading.is in
        let best_later : best_votes new.term ≡ leads.best = ap best_votes came.on.leading.is in
        subst (λ b. rounds_left table later b (after.standing.waits 0) new < rounds_left table before (best_votes old.term) (situation.standing.waits 0) old) (sym best_later)
        (subst (λ b. rounds_left table later leads.best (after.standing.waits 0) new < rounds_left table before b (situation.standing.waits 0) old) (sym best_before)
        (subst (λ list. rounds_left table list leads.best (after.standing.waits 0) new < rounds_left table before leads.best (situation.standing.waits 0) old) (sym rows_later)
        (subst (λ list. rounds_left table came.on.later.rows leads.best (after.standing.waits 0) new < rounds_left table list leads.best (situation.standing.waits 0) old) (sym rows_before)
        (subst (λ t. rounds_left t came.on.later.rows leads.best (after.standing.waits 0) new < rounds_left t leads.at.rows leads.best (situation.standing.waits 0) old) leads.over less))))

pub rest_goes_on : (table : Table) (at : ℤ) (book rows : List Row) (situation after : Situation) → LeadsItself table situation → GoesDrainRound 1 table 0 at book rows situation after
    → IsIdleAt table 0 at situation → IsIdleAt table 0 at after
rest_goes_on table at book rows situation after leads goes rest = record {
  free = free_at (with_base stays.base leads.at) leads.best (after.standing.replicas 0) unbound stays.leading;
  answered = stays.uncalled;
  rests = record {
    rows = leads.at.rows;
    rows_are = subst (λ t. IsLaunchTable t (after.standing.replicas 0) leads.at.rows) leads.over stays.leading.launch;
    rests = subst (λ t. IsIntent t leads.at.rows at intent.Rest) leads.over rests;
  };
}
  where
    state : State
    state = situation.standing.replicas 0

    unbound : votes_from leads.at.prefix leads.best ≡ []
    unbound =
        let here : IsFreeTerm (prefix_of state) (Leader leads.at.ballot leads.best None) = subst (λ t. IsFreeTerm (prefix_of state) t) leads.leading.is rest.free in
        ap (λ k. votes_from k leads.best) (sym leads.leading.learned) ∙ here

    rests : IsIntent leads.at.table leads.at.rows at intent.Rest
    rests =
        let same = AppliesAll-same table state.kept.rows state.learned rest.rests.rows leads.at.rows rest.rests.rows_are (subst (λ t. IsLaunchTable t state leads.at.rows) leads.over leads.leading.launch) in
        subst (λ t. IsIntent t leads.at.rows at intent.Rest) (sym leads.over) (subst (λ list. IsIntent table list at intent.Rest) same rest.rests.rests)

    stays : StaysSo leads.best leads.at (after.standing.waits 0) (after.standing.replicas 0)
    stays = (round_comes_to table at book rows situation after leads goes).stays rest.answered unbound rests

pub round_leaves_right : (table : Table) (at : ℤ) (book rows : List Row) (situation after : Situation) → LeadsItself table situation → GoesDrainRound 1 table 0 at book rows situation after
    → IsFaultless 1 after
round_leaves_right table at book rows situation after leads goes = (round_comes_to table at book rows situation after leads goes).faultless

pub has_table : (table : Table) (situation : Situation) → LeadsItself table situation → (rows : List JobRow) × IsLaunchTable table (situation.standing.replicas 0) rows
has_table table situation leads =
    (leads.at.rows, subst (λ t. IsLaunchTable t (situation.standing.replicas 0) leads.at.rows) leads.over leads.leading.launch)
