-- What the steps of a replica come to that is a cluster by itself: what it proposes it has learned within the step.
use Rattle.std.proofs.Common.{◌≡◌, ℕ, ◌+◌, ◌<◌, true, List, [], ◌∷◌, ◌++◌, length, None, Some, refl, ap, ◌∙◌, arith, length-append}
use Rattle.std.proofs.lemmas.Bool.{lt-ltb}
use Rattle.paxos_base.specs.Durable.{after_delta}
use Rattle.paxos_base.specs.Members.{has_majority, only_member, with_member}
use Rattle.paxos_base.specs.Vote.{votes_from}
use Rattle.paxos_base.specs.declared.entry.Entry.{Entry}
use Rattle.paxos_base.specs.declared.entry.Vote.{Vote}
use Rattle.paxos_base.specs.declared.rows.JobRow.{JobRow}
use Rattle.cluster_sched.specs.declared.row.SchedRow.{SchedRow}
use Rattle.due_set.specs.Table.{IsSound, Table}
use Rattle.launch_machine.proofs.ClerkLemmas.{AppliesAll-push}
use Rattle.term_core.specs.Term.{after_advance, after_proposal, new_flight}
use Rattle.term_core.specs.declared.term.Term.TheVariants.{Leader}
use Rattle.step_spec.specs.Act.{Call, Learn, Propose, Rebase, Send, Stand, TakeLead, after_act}
use Rattle.step_spec.specs.Folds.{after_acts, calls_by, calls_of, sent_by, sent_to}
use Rattle.step_spec.specs.Message.{Accept, Known, Lead, Others, Prepare}
use Rattle.step_spec.specs.Propose.{campaign, next_ballot, propose}
use Rattle.step_spec.specs.State.{Identity, State, prefix_of}
use Rattle.step_spec.specs.Step.{Campaign, IsLaunchTable, step}
use Rattle.agreement.specs.Transition.{identity_of}
use Rattle.agreement.specs.Agree.{vote_for}
use Rattle.synchronous_rounds.specs.Begins.{proposal_of}
use Rattle.synchronous_rounds.specs.Flights.{learned_by}
use Rattle.synchronous_rounds.specs.LedAlone.{IsLeading, Progress}
use Rattle.synchronous_rounds.proofs.BeginLemmas.{next_entry, proposing}

-- who it is
abbrev pub alone : Identity
alone = identity_of 1 0

-- it is a majority by itself
enough_alone : has_majority 1 (only_member 0) ≡ true
unfolding with_member
enough_alone = refl

-- ---- a campaign

pub campaign_alone : (state : State) → step alone Campaign state ≡ Stand 0 (next_ballot 0 state) ∷ Send Others (Prepare (next_ballot 0 state) (prefix_of state)) ∷ TakeLead ∷ []
unfolding step campaign
campaign_alone state = rw enough_alone refl

-- how far it is after its campaign, with that launch table
abbrev pub campaigned : Table → List JobRow → State → Progress
campaigned table rows state =
    record { ballot = next_ballot 0 state; table = table; rows = rows; prefix = prefix_of state; base = state.kept.base }

pub campaign_leads : (table : Table) (rows : List JobRow) (state : State) → IsLaunchTable table state rows
    → IsLeading (votes_from (prefix_of state) state.kept.votes) None (campaigned table rows state) (after_acts (step alone Campaign state) state)
unfolding after_act after_delta
campaign_leads table rows state launch =
    rw (campaign_alone state) (record { is = refl; promised = refl; launch = launch; learned = refl; from_base = refl })

-- it leads, bound by its own votes
pub campaign_term : (state : State) → (after_acts (step alone Campaign state) state).term ≡ Leader (next_ballot 0 state) (votes_from (prefix_of state) state.kept.votes) None
unfolding after_act after_delta
campaign_term state = rw (campaign_alone state) refl

-- ---- a proposal

pub proposing_alone : (at : Progress) (entry : Entry)
    → proposing alone at entry ≡ Propose 0 (vote_for at.prefix at.ballot entry) ∷ Send Others (Accept (vote_for at.prefix at.ballot entry)) ∷ Learn at.prefix entry ∷ Send Others (Known at.prefix entry) ∷ []
unfolding propose
proposing_alone at entry = rw enough_alone refl

-- it has learned what it proposed, and has no flight
pub learns_it : (at : Progress) (best : List Vote) (sound : IsSound at.table) (entry : Entry) (state : State) → IsLeading best None at state
    → IsLeading best None (learned_by (proposal_of alone best at (next_entry at sound entry) 0)) (after_acts (proposing alone at entry) state)
unfolding after_act after_delta
learns_it at best sound entry state leading =
    rw (proposing_alone at entry) (record {
      is = ap (λ t. after_advance (prefix_of state + 1) (after_proposal at.prefix entry 0 t)) leading.is ∙ over;
      promised = refl;
      launch = AppliesAll-push at.table state.kept.rows state.learned entry at.rows (next_entry at sound entry).later leading.launch (next_entry at sound entry).applies;
      learned = longer;
      from_base = leading.from_base;
    })
  where
    over : after_advance (prefix_of state + 1) (Leader at.ballot best (Some (new_flight at.prefix entry 0))) ≡ Leader at.ballot best None
    over =
        let here = leading.learned in
        let behind : at.prefix < prefix_of state + 1 = omega (arith, here) in
        rw (lt-ltb at.prefix (prefix_of state + 1) behind) refl

    longer : state.kept.base + length (state.learned ++ entry ∷ []) ≡ at.prefix + 1
    longer =
        let one = length-append state.learned (entry ∷ []) in
        let here = leading.learned in
        omega (arith, one, here)

-- ---- what acts ask for and tell

pub uncalled_proposal : (at : Progress) (entry : Entry) → calls_of (proposing alone at entry) ≡ []
unfolding calls_by
uncalled_proposal at entry = rw (proposing_alone at entry) refl

pub untold_proposal : (at : Progress) (entry : Entry) → sent_to 0 0 (proposing alone at entry) ≡ []
unfolding sent_by
untold_proposal at entry = rw (proposing_alone at entry) refl

pub uncalled_lead : (ballot slot : ℕ) → calls_of (Send Others (Lead ballot slot) ∷ []) ≡ []
unfolding calls_by
uncalled_lead ballot slot = refl

pub untold_lead : (ballot slot : ℕ) → sent_to 0 0 (Send Others (Lead ballot slot) ∷ []) ≡ []
unfolding sent_by
untold_lead ballot slot = refl

pub untold_call : (row : SchedRow) → sent_to 0 0 (Call row ∷ []) ≡ []
unfolding sent_by
untold_call row = refl

pub untold_rebase : (slot : ℕ) (rows : List JobRow) → sent_to 0 0 (Rebase slot rows ∷ []) ≡ []
unfolding sent_by
untold_rebase slot rows = refl

pub uncalled_campaign : (state : State) → calls_of (step alone Campaign state) ≡ []
unfolding calls_by
uncalled_campaign state = rw (campaign_alone state) refl

pub untold_campaign : (state : State) → sent_to 0 0 (step alone Campaign state) ≡ []
unfolding sent_by
untold_campaign state = rw (campaign_alone state) refl
