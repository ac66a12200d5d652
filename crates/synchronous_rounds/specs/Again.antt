-- A second campaign, in a ballot above each that was promised or named, and what comes of it in the two rounds after it.
-- Source: "Paxos Made Simple", sections 2.2 and 2.4.
use Rattle.std.specs.Prelude.{◌≡◌, ◌⊎◌, ℕ, ◌+◌, ◌<◌, ◌≤◌, List, [], ◌∷◌, ◌++◌, None}
use Rattle.paxos_base.specs.declared.entry.Entry.{Entry}
use Rattle.paxos_base.specs.declared.entry.Vote.{Vote}
use Rattle.step_spec.specs.Message.{Prepare, Promise, Known}
use Rattle.step_spec.specs.State.{State, prefix_of, promised_in}
use Rattle.synchronous_rounds.specs.Cluster.{Advice, Cluster, HeardLetter}
use Rattle.synchronous_rounds.specs.LedAlone.{AreWithin, IsBehind, Occurs, Progress}
use Rattle.synchronous_rounds.specs.Campaign.{ComesToLead, IsCandidate, IsOneOf}

-- No replica has promised a ballot above `top`, or has learned an entry that isn't below the prefix, and no letter names such a ballot or
-- tells such an entry.
pub record IsBounded (members top prefix : ℕ) (cluster : Cluster) : Type 0 where
  pub low : (who : ℕ) → who < members → promised_in (cluster.replicas who).kept ≤ top
  pub short : (who : ℕ) → who < members → prefix_of (cluster.replicas who) ≤ prefix
  pub within : (who : ℕ) → who < members → AreWithin top prefix (cluster.mails who)

-- the mail ends with the campaign, and the letters before it name no ballot above `top`, and tell entries below the candidate's prefix
-- alone
pub record EndsWithCampaign (candidate top : ℕ) (at : Progress) (mail : List HeardLetter) : Type 0 where
  pub front : List HeardLetter
  pub is : mail ≡ front ++ record { from = candidate; messages = Prepare at.ballot at.prefix ∷ [] } ∷ []
  pub within : AreWithin top at.prefix front

-- A replica has just campaigned in a ballot above `top`. No other has promised a ballot above `top`, and no letter before the campaign
-- names one; none has learned more than it.
pub record HasCampaignedAgain (members candidate top : ℕ) (best : List Vote) (at : Progress) (cluster : Cluster) : Type 0 where
  pub one : IsOneOf members candidate
  pub above : top < at.ballot
  pub stands : IsCandidate best at candidate (cluster.replicas candidate)
  pub alone : cluster.waits candidate ≡ None
  pub unheard : AreWithin top at.prefix (cluster.mails candidate)
  pub asked : (who : ℕ) → who < members → (who ≡ candidate → ⊥) → EndsWithCampaign candidate top at (cluster.mails who)
  pub low : (who : ℕ) → who < members → (who ≡ candidate → ⊥) → promised_in (cluster.replicas who).kept ≤ top
  pub short : (who : ℕ) → who < members → (who ≡ candidate → ⊥) → prefix_of (cluster.replicas who) ≤ at.prefix

-- A replica has promised the ballot and follows, and says so to the candidate. It has learned no more than the candidate, or one entry
-- more, which it tells.
pub record HasPromisedAgain (me ballot prefix : ℕ) (mail : List HeardLetter) (state : State) : Type 0 where
  pub promised : promised_in state.kept ≡ ballot
  pub behind : IsBehind ballot (prefix + 1) state
  pub votes : List Vote
  pub told : Occurs mail me (Promise ballot prefix votes)
  pub learned : (prefix_of state ≤ prefix) ⊎ ((entry : Entry) × Occurs mail me (Known prefix entry))

-- All others have promised, and the candidate has heard none of them yet.
pub record HaveAllPromised (members candidate : ℕ) (best : List Vote) (at : Progress) (cluster : Cluster) : Type 0 where
  pub one : IsOneOf members candidate
  pub stands : IsCandidate best at candidate (cluster.replicas candidate)
  pub promised : (who : ℕ) → who < members → (who ≡ candidate → ⊥)
      → HasPromisedAgain who at.ballot at.prefix (cluster.mails candidate) (cluster.replicas who)

-- It comes to lead in its ballot, with the table of jobs that all have.
pub record ComesToLeadAgain (members leader : ℕ) (at : Progress) (advice : ℕ → Advice) (cluster next : Cluster) : Type 0 where
  pub later : Progress
  pub ballot : later.ballot ≡ at.ballot
  pub table : later.table ≡ at.table
  pub leads : ComesToLead members leader later advice cluster next
