-- The campaign of one replica in a legal book is a campaign between two synchronous rounds.
use Rattle.std.proofs.Common.{◌≡◌, ℕ, ◌<◌, ◌≤◌, Option, None, List, [], ◌∷◌, ◌++◌, append-nil, length, ℤ, refl, sym, ap, ◌∙◌, inl, inr, arith, subst}
use Rattle.std.specs.List.{AllZip, filter}
use Rattle.std.proofs.lemmas.Bool.{cases_eq, eq-eqb, ne_eqb}
use Rattle.due_set.specs.Table.{Table}
use Rattle.launch_machine.specs.Clerk.{first_rows, table_size}
use Rattle.cluster_sched.specs.declared.row.SchedRow.{SchedRow}
use Rattle.step_spec.specs.Folds.{after_acts, calls_by, calls_of, sent_to}
use Rattle.step_spec.specs.Propose.{campaign}
use Rattle.step_spec.specs.State.{Identity, State}
use Rattle.step_spec.specs.Step.{step}
use Rattle.step_spec.specs.Step as told
use Rattle.agreement.specs.Transition.{identity_of}
use Rattle.history.specs.Book.{PostedLetter, Row, Standing, after_row, standing_after}
use Rattle.history.specs.Legal.{IsMade, MayFollow, TakesTurn}
use Rattle.history.specs.declared.turn.CallRow.{CallRow}
use Rattle.history.specs.declared.turn.Cause.TheVariants.{Campaign}
use Rattle.history.specs.declared.turn.Turn.TheVariants.{Did}
use Rattle.history.proofs.Standings.{waits_none}
use Rattle.history.proofs.Turns.{AllFollow, all_follow}
use Rattle.synchronous_rounds.specs.Cluster.{Cluster, letter_from}
use Rattle.synchronous_rounds.proofs.CountLemmas.{few_alone}
use Rattle.synchronous_rounds.specs.Made.{after_campaign, campaign_acts}
use Rattle.script_semantics.specs.Situation.{AreTurnsFor, Does, Situation, Do, after_turn, after_turns, delivered, letters_for, mails_after}
use Rattle.settling.specs.Rounds.{IsFaultless, IsWithinBounds}
use Rattle.settling.specs.Stands.{IsHeardLike, IsLetterAt, StandsForCluster}
use Rattle.settling.proofs.BookLemmas.{letters_are_whole, stand_after}
use Rattle.settling.proofs.DeliverLemmas.{letters_join}
use Rattle.settling.proofs.PartLemmas.{zip_posted}
use Rattle.settling.proofs.PassLemmas.{Passes, turn_passes, whole_right, zip_append}
use Rattle.settling.proofs.PostLemmas.{AreWhole, is_to}
use Rattle.settling.specs.Campaigns.{GoesCampaign, unanswered}

-- ---- the turn

-- The turn of a campaign: of whom it is, what it passes, and that the answer that waited is lost.
record CampaignTurn (members : ℕ) (table : Table) (who : ℕ) (situation : Situation) (rows : List Row) : Type 0 where
  later : Situation
  is : after_turns members situation rows ≡ later
  member : who < members
  passes : Passes members table (table_size table) who (told.Campaign ∷ []) situation later
  waits : later.standing.waits who ≡ None
  mails : (q : ℕ) → later.mails q ≡ situation.mails q

no_call : (self : Identity) (state : State) → 2 ≤ self.members → self.me < 8 → calls_of (step self told.Campaign state) ≡ []
unfolding step campaign calls_by
no_call self state more small = rw (few_alone self.members self.me more small) refl

none_made : (held : List SchedRow) (made : Option CallRow) (calls : List SchedRow) → calls ≡ [] → IsMade held calls made → made ≡ None
none_made held made calls none is = subst (λ calls. IsMade held calls made) none is

campaign_turn : (members : ℕ) (table : Table) (who : ℕ) (situation : Situation) (rows : List Row) → 2 ≤ members → members ≤ 7
    → AreTurnsFor members situation (Do who Campaign ∷ []) rows
    → ((row : Row) (later : List Row) → rows ≡ row ∷ later → MayFollow members table situation.standing row.turn row)
    → CampaignTurn members table who situation rows
campaign_turn members table who situation [] more few turns follow = absurd cc
campaign_turn members table who situation (row ∷ rows) more few turns follow = record {
  later = after_turn members situation row;
  is = ap (λ list. after_turns members (after_turn members situation row) list) turns.1;
  member = takes.member;
  passes = subst (λ e. Passes members table (table_size table) who (e ∷ []) situation (after_turn members situation row)) takes.event_of
      (turn_passes members table (table_size table) who Campaign does.made situation row does.is (follow row rows refl));
  waits =
      ap (λ turn. (after_row members situation.standing turn row.event row.letters).waits who) does.is
      ∙ ap (λ made. (after_row members situation.standing (Did who Campaign made) row.event row.letters).waits who) made
      ∙ waits_none members situation.standing who Campaign row.event row.letters;
  mails = λ q. ap (λ turn. mails_after turn situation.mails q) does.is;
}
  where
    does : Does situation.fates who Campaign row.turn
    does = turns.0

    may : MayFollow members table situation.standing (Did who Campaign does.made) row
    may = subst (λ turn. MayFollow members table situation.standing turn row) does.is (follow row rows refl)

    takes : TakesTurn members table situation.standing who Campaign row.event
    takes = may.0

    made : does.made ≡ None
    made =
        none_made situation.standing.held does.made _
        (ap (λ e. calls_of (step (identity_of members who) e (situation.standing.replicas who))) takes.event_of
        ∙ no_call (identity_of members who) (situation.standing.replicas who) more (omega (arith, takes.member, few)))
        may.1.call

-- ---- what it leaves

follows : (members : ℕ) (table : Table) (who : ℕ) (at : ℤ) (book rows : List Row) (situation after : Situation) → GoesCampaign members table who at book rows situation after
    → (row : Row) (later : List Row) → rows ≡ row ∷ later → MayFollow members table situation.standing row.turn row
follows members table who at book rows situation after goes row later is =
    (subst (λ (s : Standing). MayFollow members table s row.turn row) (sym goes.standing)
    (subst (λ list. AllFollow members table (standing_after members (first_rows table) book) list) is (all_follow members table book rows goes.legal)).0)

turn_of_campaign : (members : ℕ) (table : Table) (who : ℕ) (at : ℤ) (book rows : List Row) (situation after : Situation) → 2 ≤ members → GoesCampaign members table who at book rows situation after
    → CampaignTurn members table who situation rows
turn_of_campaign members table who at book rows situation after more goes =
    campaign_turn members table who situation rows more goes.few goes.round.turns (follows members table who at book rows situation after goes)

-- what was posted in the turn is heard whole
posted_whole : (members : ℕ) (table : Table) (who : ℕ) (at : ℤ) (book rows : List Row) (situation after : Situation) (more : List PostedLetter) → GoesCampaign members table who at book rows situation after
    → (after_turns members situation rows).standing.posted ≡ situation.standing.posted ++ more → AreWhole members (table_size table) more
posted_whole members table who at book rows situation after more goes posted =
    let size = table_size table in
    let all = (standing_after members (first_rows table) (book ++ rows)).posted in
    let stood : (after_turns members situation rows).standing ≡ standing_after members (first_rows table) (book ++ rows) = stand_after members table book rows situation goes.standing in
    let same : after.standing.posted ≡ all = ap (λ (s : Situation). s.standing.posted) goes.round.is ∙ ap (λ (s : Standing). s.posted) stood in
    let parts : all ≡ situation.standing.posted ++ more = ap (λ (s : Standing). s.posted) (sym stood) ∙ posted in
    let whole = letters_are_whole members table (book ++ rows) goes.few goes.sound goes.legal (subst (λ list. IsWithinBounds (book ++ rows) list) same goes.limits) in
    whole_right members size situation.standing.posted more (subst (λ list. AreWhole members size list) parts whole)

pub campaign_leaves_no_fault : (members : ℕ) (table : Table) (who : ℕ) (at : ℤ) (book rows : List Row) (situation after : Situation) → 2 ≤ members → GoesCampaign members table who at book rows situation after
    → IsFaultless members after
campaign_leaves_no_fault members table who at book rows situation after more goes =
    let turn = turn_of_campaign members table who at book rows situation after more goes in
    let is : after ≡ delivered (length situation.standing.posted) turn.later = goes.round.is ∙ ap (λ (s : Situation). delivered (length situation.standing.posted) s) turn.is in
    record {
      runs = λ q member. ap (λ (s : Situation). s.standing.runs q) is ∙ ap (λ runs. runs q) turn.passes.runs ∙ goes.faultless.runs q member;
      uncut = ap (λ (s : Situation). s.cuts) is ∙ turn.passes.cuts ∙ goes.faultless.uncut;
      right = λ q member. ap (λ (s : Situation). s.skews q) is ∙ ap (λ skews. skews q) turn.passes.skews ∙ goes.faultless.right q member;
      done = λ q member. ap (λ (s : Situation). s.fates q) is ∙ turn.passes.done q (goes.faultless.done q member);
    }

-- the mails after it
mails_then : (members : ℕ) (table : Table) (who : ℕ) (at : ℤ) (book rows : List Row) (situation after : Situation) (cluster : Cluster) → GoesCampaign members table who at book rows situation after
    → StandsForCluster members (table_size table) situation cluster → (turn : CampaignTurn members table who situation rows) → (q : ℕ) → q < members
    → AllZip (IsLetterAt members (table_size table) after.standing.posted q) (after.mails q) ((after_campaign members who (unanswered who cluster)).mails q)
mails_then members table who at book rows situation after cluster goes there turn q below =
    let size = table_size table in
    let first = length situation.standing.posted in
    let is : after ≡ delivered first turn.later = goes.round.is ∙ ap (λ (s : Situation). delivered first s) turn.is in
    let whole = posted_whole members table who at book rows situation after turn.passes.more goes (ap (λ (s : Situation). s.standing.posted) turn.is ∙ turn.passes.posted) in
    let said = letter_from who (sent_to who q (step (identity_of members who) told.Campaign (situation.standing.replicas who))) in
    let state : situation.standing.replicas who ≡ cluster.replicas who = sym (there.replicas who turn.member) in
    let heard : AllZip (IsHeardLike members size) (filter (is_to q) turn.passes.more) said =
    subst (λ list. AllZip (IsHeardLike members size) (filter (is_to q) turn.passes.more) list) (append-nil said) (turn.passes.letters whole q below) in
    let joined = letters_join members size turn.later situation.standing.posted turn.passes.more q said turn.passes.posted
    (ap (λ runs. runs q) turn.passes.runs ∙ goes.faultless.runs q below) (turn.passes.cuts ∙ goes.faultless.uncut) heard in
    let old : AllZip (IsLetterAt members size turn.later.standing.posted q) (turn.later.mails q) (cluster.mails q) =
    subst (λ list. AllZip (IsLetterAt members size turn.later.standing.posted q) list (cluster.mails q)) (sym (turn.mails q))
    (subst (λ posted. AllZip (IsLetterAt members size posted q) (situation.mails q) (cluster.mails q)) (sym turn.passes.posted)
    (zip_posted members size situation.standing.posted turn.passes.more q (situation.mails q) (cluster.mails q) (there.mails q below))) in
    let all = zip_append (IsLetterAt members size turn.later.standing.posted q) (turn.later.mails q) (cluster.mails q) (letters_for turn.later first q) said old joined in
    subst (λ (s : Situation). AllZip (IsLetterAt members size s.standing.posted q) (s.mails q) ((after_campaign members who (unanswered who cluster)).mails q)) (sym is)
    (subst (λ (s : State). AllZip (IsLetterAt members size turn.later.standing.posted q) (turn.later.mails q ++ letters_for turn.later first q)
    (cluster.mails q ++ letter_from who (sent_to who q (step (identity_of members who) told.Campaign s)))) state all)

-- what stands after it is what the campaign makes of what stood before, but for the answer that waited
pub campaign_stands : (members : ℕ) (table : Table) (who : ℕ) (at : ℤ) (book rows : List Row) (situation after : Situation) (cluster : Cluster) → 2 ≤ members → GoesCampaign members table who at book rows situation after
    → StandsForCluster members (table_size table) situation cluster → StandsForCluster members (table_size table) after (after_campaign members who (unanswered who cluster))
campaign_stands members table who at book rows situation after cluster more goes there = record {
  replicas = replicas;
  waits = waits;
  mails = λ q below. mails_then members table who at book rows situation after cluster goes there turn q below;
}
  where
    turn : CampaignTurn members table who situation rows
    turn = turn_of_campaign members table who at book rows situation after more goes

    is : after.standing ≡ turn.later.standing
    is = ap (λ (s : Situation). s.standing) (goes.round.is ∙ ap (λ (s : Situation). delivered (length situation.standing.posted) s) turn.is)

    mine : after_acts (campaign_acts members who cluster) (cluster.replicas who) ≡ turn.later.standing.replicas who
    mine =
        ap (λ (s : State). after_acts (step (identity_of members who) told.Campaign s) s) (there.replicas who turn.member)
        ∙ sym turn.passes.replica

    replicas : (q : ℕ) → q < members → (after_campaign members who (unanswered who cluster)).replicas q ≡ after.standing.replicas q
    replicas q below = elim (cases_eq q who) [
      | inl same ↦ rw (eq-eqb q who same) (mine ∙ ap turn.later.standing.replicas (sym same) ∙ ap (λ (s : Standing). s.replicas q) (sym is))
      | inr apart ↦ rw (ne_eqb q who apart) (there.replicas q below ∙ sym (turn.passes.others q apart) ∙ ap (λ (s : Standing). s.replicas q) (sym is))
    ]

    waits : (q : ℕ) → q < members → (after_campaign members who (unanswered who cluster)).waits q ≡ after.standing.waits q
    waits q below = elim (cases_eq q who) [
      | inl same ↦ rw (eq-eqb q who same) (sym turn.waits ∙ ap turn.later.standing.waits (sym same) ∙ ap (λ (s : Standing). s.waits q) (sym is))
      | inr apart ↦ rw (ne_eqb q who apart) (there.waits q below ∙ sym (turn.passes.waits q apart) ∙ ap (λ (s : Standing). s.waits q) (sym is))
    ]
