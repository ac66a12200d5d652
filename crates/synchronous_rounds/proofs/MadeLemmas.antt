-- A replica that campaigns is a candidate in a ballot above all that it has seen, and its campaign is the last letter of each mail.
use Rattle.std.proofs.Common.{◌≡◌, ℕ, ◌<◌, ◌≤◌, List, [], ◌∷◌, ◌++◌, None, refl, sym, ap, ◌∙◌, inl, inr, arith, subst, append-nil}
use Rattle.std.proofs.Math.Nat.{le-max_right}
use Rattle.std.proofs.lemmas.Bool.{cases_eq, eq-eqb, ne_eqb}
use Rattle.paxos_base.specs.Ballot.{round_of}
use Rattle.paxos_base.specs.Durable.{after_delta}
use Rattle.paxos_base.specs.declared.rows.JobRow.{JobRow}
use Rattle.due_set.specs.Table.{Table}
use Rattle.step_spec.specs.Act.{Act, Send, Stand, after_act}
use Rattle.step_spec.specs.Folds.{after_acts, sent_by, sent_to}
use Rattle.step_spec.specs.Message.{Others, Prepare}
use Rattle.step_spec.specs.Propose.{campaign, next_ballot}
use Rattle.step_spec.specs.State.{Identity, State, prefix_of, promised_in}
use Rattle.step_spec.specs.Step.{Campaign, IsLaunchTable, step}
use Rattle.agreement.specs.Transition.{identity_of}
use Rattle.synchronous_rounds.specs.Cluster.{Cluster, HeardLetter, letter_from}
use Rattle.synchronous_rounds.specs.LedAlone.{AreWithin}
use Rattle.synchronous_rounds.proofs.CountLemmas.{few_alone}
use Rattle.synchronous_rounds.specs.Again.{HasCampaignedAgain, IsBounded}
use Rattle.synchronous_rounds.specs.Campaign.{HasCampaigned, IsCandidate, IsOneOf}
use Rattle.synchronous_rounds.specs.Made.{after_campaign, campaigned_at, own_votes}

-- ---- its acts

abbrev stands_and_asks : (me : ℕ) → State → List Act
stands_and_asks me state = Stand me (next_ballot me state) ∷ Send Others (Prepare (next_ballot me state) (prefix_of state)) ∷ []

acts_are : (self : Identity) (state : State) → 2 ≤ self.members → self.me < 8 → step self Campaign state ≡ stands_and_asks self.me state
unfolding step campaign
acts_are self state more small = rw (few_alone self.members self.me more small) refl

stands_then : (table : Table) (rows : List JobRow) (me : ℕ) (state : State) → IsLaunchTable table state rows → IsCandidate (own_votes state) (campaigned_at table rows me state) me (after_acts (stands_and_asks me state) state)
unfolding after_act after_delta
stands_then table rows me state launch = record { is = refl; promised = refl; launch = launch; learned = refl; from_base = refl }

asks_other : (me who : ℕ) (state : State) → (who ≡ me → ⊥) → sent_to me who (stands_and_asks me state) ≡ Prepare (next_ballot me state) (prefix_of state) ∷ []
unfolding sent_by
asks_other me who state apart = rw (ne_eqb who me apart) refl

asks_itself : (me : ℕ) (state : State) → sent_to me me (stands_and_asks me state) ≡ []
unfolding sent_by
asks_itself me state = rw (eq-eqb me me refl) refl

above_seen : (me : ℕ) (state : State) → state.seen < next_ballot me state
above_seen me state = let least = le-max_right state.kept.tried (round_of state.seen) in omega (arith, least)

-- ---- the replicas then

others_stay : (members candidate : ℕ) (cluster : Cluster) (who : ℕ) → (who ≡ candidate → ⊥) → (after_campaign members candidate cluster).replicas who ≡ cluster.replicas who
others_stay members candidate cluster who apart = rw (ne_eqb who candidate apart) refl

candidate_stands : (members candidate : ℕ) (table : Table) (rows : List JobRow) (cluster : Cluster) → IsOneOf members candidate → IsLaunchTable table (cluster.replicas candidate) rows → IsCandidate (own_votes (cluster.replicas candidate)) (campaigned_at table rows candidate (cluster.replicas candidate)) candidate ((after_campaign members candidate cluster).replicas candidate)
candidate_stands members candidate table rows cluster one launch =
    rw (eq-eqb candidate candidate refl)
    (subst (λ acts. IsCandidate (own_votes (cluster.replicas candidate)) (campaigned_at table rows candidate (cluster.replicas candidate)) candidate (after_acts acts (cluster.replicas candidate)))
    (sym (acts_are (identity_of members candidate) (cluster.replicas candidate) one.more (omega (arith, one.member, one.few))))
    (stands_then table rows candidate (cluster.replicas candidate) launch))

mail_of_other : (members candidate : ℕ) (cluster : Cluster) (who : ℕ) → IsOneOf members candidate → (who ≡ candidate → ⊥) → (after_campaign members candidate cluster).mails who ≡ cluster.mails who ++ record { from = candidate; messages = Prepare (next_ballot candidate (cluster.replicas candidate)) (prefix_of (cluster.replicas candidate)) ∷ [] } ∷ []
mail_of_other members candidate cluster who one apart =
    ap (λ acts. cluster.mails who ++ letter_from candidate (sent_to candidate who acts)) (acts_are (identity_of members candidate) (cluster.replicas candidate) one.more (omega (arith, one.member, one.few)))
    ∙ ap (λ messages. cluster.mails who ++ letter_from candidate messages) (asks_other candidate who (cluster.replicas candidate) apart)

mail_of_itself : (members candidate : ℕ) (cluster : Cluster) → IsOneOf members candidate → (after_campaign members candidate cluster).mails candidate ≡ cluster.mails candidate
mail_of_itself members candidate cluster one =
    ap (λ acts. cluster.mails candidate ++ letter_from candidate (sent_to candidate candidate acts)) (acts_are (identity_of members candidate) (cluster.replicas candidate) one.more (omega (arith, one.member, one.few)))
    ∙ (ap (λ messages. cluster.mails candidate ++ letter_from candidate messages) (asks_itself candidate (cluster.replicas candidate)) ∙ append-nil (cluster.mails candidate))

-- ---- the two campaigns

pub first_made : (members candidate : ℕ) (table : Table) (rows : List JobRow) (cluster : Cluster) → IsOneOf members candidate → cluster.waits candidate ≡ None → ((who : ℕ) → who < members → cluster.mails who ≡ []) → ((who : ℕ) → who < members → prefix_of (cluster.replicas who) ≤ prefix_of (cluster.replicas candidate)) → ((who : ℕ) → who < members → (who ≡ candidate → ⊥) → promised_in (cluster.replicas who).kept ≡ next_ballot candidate (cluster.replicas candidate) → ⊥) → IsLaunchTable table (cluster.replicas candidate) rows → HasCampaigned members candidate (own_votes (cluster.replicas candidate)) (campaigned_at table rows candidate (cluster.replicas candidate)) (after_campaign members candidate cluster)
first_made members candidate table rows cluster one alone empty short fresh launch = record {
  one = one;
  stands = stands;
  alone = alone;
  unread = mail_of_itself members candidate cluster one ∙ empty candidate one.member;
  asked = λ who below apart. mail_of_other members candidate cluster who one apart ∙ ap (λ mail. mail ++ letter) (empty who below);
  short = λ who below. elim (cases_eq who candidate) [
    | inl same ↦ subst (λ q. prefix_of ((after_campaign members candidate cluster).replicas q) ≤ prefix_of (cluster.replicas candidate)) (sym same) (omega (arith, stands.learned))
    | inr apart ↦ subst (λ s. prefix_of s ≤ prefix_of (cluster.replicas candidate)) (sym (others_stay members candidate cluster who apart)) (short who below)
  ];
  fresh = λ who below apart. subst (λ s. promised_in s.kept ≡ next_ballot candidate (cluster.replicas candidate) → ⊥) (sym (others_stay members candidate cluster who apart)) (fresh who below apart);
}
  where
    letter : List HeardLetter
    letter = record { from = candidate; messages = Prepare (next_ballot candidate (cluster.replicas candidate)) (prefix_of (cluster.replicas candidate)) ∷ [] } ∷ []

    stands : IsCandidate (own_votes (cluster.replicas candidate)) (campaigned_at table rows candidate (cluster.replicas candidate)) candidate ((after_campaign members candidate cluster).replicas candidate)
    stands = candidate_stands members candidate table rows cluster one launch

pub again_made : (members candidate top : ℕ) (table : Table) (rows : List JobRow) (cluster : Cluster) → IsOneOf members candidate → cluster.waits candidate ≡ None → IsBounded members top (prefix_of (cluster.replicas candidate)) cluster → top ≤ (cluster.replicas candidate).seen → IsLaunchTable table (cluster.replicas candidate) rows → HasCampaignedAgain members candidate top (own_votes (cluster.replicas candidate)) (campaigned_at table rows candidate (cluster.replicas candidate)) (after_campaign members candidate cluster)
again_made members candidate top table rows cluster one alone bounded seen launch = record {
  one = one;
  above = let high = above_seen candidate (cluster.replicas candidate) in omega (arith, high, seen);
  stands = candidate_stands members candidate table rows cluster one launch;
  alone = alone;
  unheard = subst (λ mail. AreWithin top (prefix_of (cluster.replicas candidate)) mail) (sym (mail_of_itself members candidate cluster one)) (bounded.within candidate one.member);
  asked = λ who below apart. record { front = cluster.mails who; is = mail_of_other members candidate cluster who one apart; within = bounded.within who below };
  low = λ who below apart. subst (λ s. promised_in s.kept ≤ top) (sym (others_stay members candidate cluster who apart)) (bounded.low who below);
  short = λ who below apart. subst (λ s. prefix_of s ≤ prefix_of (cluster.replicas candidate)) (sym (others_stay members candidate cluster who apart)) (bounded.short who below);
}
