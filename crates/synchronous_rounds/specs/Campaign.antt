-- A campaign of one that has learned no less than any other, and what comes of it in the two rounds after it.
-- Source: "Paxos Made Simple", sections 2.2 and 2.4.
use Rattle.std.specs.Prelude.{◌≡◌, ◌⊎◌, ℕ, ◌<◌, ◌≤◌, List, [], ◌∷◌, None}
use Rattle.paxos_base.specs.Members.{only_member}
use Rattle.paxos_base.specs.declared.entry.Vote.{Vote}
use Rattle.term_core.specs.declared.term.Term.TheVariants.{Candidate}
use Rattle.step_spec.specs.May.{IsFollower}
use Rattle.step_spec.specs.Message.{Prepare, Promise, Nack}
use Rattle.step_spec.specs.State.{State, prefix_of, promised_in}
use Rattle.synchronous_rounds.specs.Cluster.{Advice, Cluster, HeardLetter, before_tick}
use Rattle.synchronous_rounds.specs.LedAlone.{IsBehind, IsHolding, IsLeading, IsLedAlone, Occurs, Progress}

-- so many replicas as a cluster may have, and more than one, and this is one of them
pub record IsOneOf (members who : ℕ) : Type 0 where
  pub member : who < members
  pub few : members ≤ 7
  pub more : 2 ≤ members

-- the replica is a candidate that was so far when it campaigned, and that no other has promised yet
abbrev pub IsCandidate : List Vote → Progress → (me : ℕ) → State → Type 0
IsCandidate best at me state = IsHolding (Candidate at.ballot at.prefix (only_member me) best) at state

-- A replica has just campaigned, in a ballot that no other has promised. None has learned more, its campaign is the one letter on
-- its way to each other, and there is none to it.
pub record HasCampaigned (members candidate : ℕ) (best : List Vote) (at : Progress) (cluster : Cluster) : Type 0 where
  pub one : IsOneOf members candidate
  pub stands : IsCandidate best at candidate (cluster.replicas candidate)
  pub alone : cluster.waits candidate ≡ None
  pub unread : cluster.mails candidate ≡ []
  pub asked : (who : ℕ) → who < members → (who ≡ candidate → ⊥)
      → cluster.mails who ≡ record { from = candidate; messages = Prepare at.ballot at.prefix ∷ [] } ∷ []
  pub short : (who : ℕ) → who < members → prefix_of (cluster.replicas who) ≤ at.prefix
  pub fresh : (who : ℕ) → who < members → (who ≡ candidate → ⊥) → promised_in (cluster.replicas who).kept ≡ at.ballot → ⊥

-- ---- what a replica answers to a campaign

-- it has promised the ballot and follows, has learned no more than the candidate, and its promise is in the candidate's mail
pub record HasPromised (me ballot prefix : ℕ) (mail : List HeardLetter) (state : State) : Type 0 where
  pub promised : promised_in state.kept ≡ ballot
  pub behind : IsBehind ballot prefix state
  pub votes : List Vote
  pub told : Occurs mail me (Promise ballot prefix votes)

-- it has promised a higher ballot, which it names to the candidate, and has learned no more
pub record HasRefused (me ballot prefix : ℕ) (mail : List HeardLetter) (state : State) : Type 0 where
  pub higher : ballot < promised_in state.kept
  pub short : prefix_of state ≤ prefix
  pub told : Occurs mail me (Nack ballot (promised_in state.kept))

-- All others have answered the campaign, and the candidate has heard none of them yet.
pub record HaveAllAnswered (members candidate : ℕ) (best : List Vote) (at : Progress) (cluster : Cluster) : Type 0 where
  pub one : IsOneOf members candidate
  pub stands : IsCandidate best at candidate (cluster.replicas candidate)
  pub answered : (who : ℕ) → who < members → (who ≡ candidate → ⊥)
      → HasPromised who at.ballot at.prefix (cluster.mails candidate) (cluster.replicas who)
      ⊎ HasRefused who at.ballot at.prefix (cluster.mails candidate) (cluster.replicas who)

-- ---- what becomes of the candidate

-- It leads once it has heard its mail, bound by some votes and without a flight, and leads alone after the round.
pub record ComesToLead (members leader : ℕ) (at : Progress) (advice : ℕ → Advice) (cluster next : Cluster) : Type 0 where
  pub best : List Vote
  pub leading : IsLeading best None at (before_tick members advice cluster leader)
  pub led_alone : IsLedAlone members leader at.ballot at.prefix next

-- It follows after the round, and has seen a ballot above its own, and each ballot that another had promised before it.
pub record HasYielded (members candidate ballot : ℕ) (cluster next : Cluster) : Type 0 where
  pub follows : IsFollower (next.replicas candidate).term
  pub higher : ballot < (next.replicas candidate).seen
  pub seen : (who : ℕ) → who < members → (who ≡ candidate → ⊥) → promised_in (cluster.replicas who).kept ≤ (next.replicas candidate).seen
