-- What a promise tells, and what a candidate and a leader have heard ("Paxos Made Simple", section 2.2: a majority none of
-- whose members votes below the ballot any more, and the highest votes that they have cast).
use Rattle.std.proofs.Common.{ℕ, ◌<◌, ◌≤◌, List, IsTrue}
use Rattle.std.specs.List.{Contains}
use Rattle.paxos_base.specs.Members.{AllBelow, HasMember, has_majority}
use Rattle.paxos_base.specs.Vote.{vote_at}
use Rattle.paxos_base.specs.declared.entry.Vote.{Vote}
use Rattle.term_core.specs.declared.term.Term.{Term}
use Rattle.term_core.specs.declared.term.Term.TheVariants.{Follower, Candidate, Leader}
use Rattle.step_spec.specs.Message.{Promise}
use Rattle.step_spec.specs.State.{prefix_of, promised_in}
use Rattle.step_spec.specs.May.{HasSaid}
use Rattle.agreement.specs.Agree.{HasCast}
use Rattle.agreement.specs.World.{CastVote, World}
use Rattle.agreement.proofs.Growing.{IsLater}

-- the replica votes in no ballot below this one any more, and these votes tell each that it has cast from the slot on
pub record Heeds (cast : List CastVote) (promised q ballot first : ℕ) (votes : List Vote) : Type 0 where
  pub promised_it : ballot ≤ promised
  pub tells : (vote : Vote) → HasCast cast q vote → first ≤ vote.slot → vote.ballot < ballot → IsLater (vote_at vote.slot votes) vote.ballot

-- each of the votes was cast by some replica, below the ballot
abbrev pub AreBacked : List CastVote → (ballot : ℕ) → List Vote → Type 0
AreBacked cast ballot votes = (vote : Vote) → Contains votes vote → (q : ℕ) × HasCast cast q vote × (vote.ballot < ballot)

-- those that were heard heed the ballot, and the best votes are the highest that they have cast
pub record IsRallied (n : ℕ) (w : World) (prefix ballot first heard : ℕ) (best : List Vote) : Type 0 where
  pub up : first ≤ prefix
  pub below : AllBelow n heard
  pub each : (m : ℕ) → HasMember heard m → Heeds w.cast (promised_in (w.replicas m).kept) m ballot first best
  pub backed : AreBacked w.cast ballot best

-- the same of those that have made a leader
pub record IsLed (n : ℕ) (w : World) (prefix ballot : ℕ) (best : List Vote) : Type 0 where
  pub heard : ℕ
  pub first : ℕ
  pub majority : IsTrue (has_majority n heard)
  pub rallied : IsRallied n w prefix ballot first heard best

-- what a term has heard
abbrev pub HasHeard : ℕ → World → (prefix : ℕ) → Term → Type 0
HasHeard n w prefix (Follower ended) = Unit {0}
HasHeard n w prefix (Candidate ballot first heard best) = IsRallied n w prefix ballot first heard best
HasHeard n w prefix (Leader ballot best flight) = IsLed n w prefix ballot best

-- a promise holds
pub record IsPromised (w : World) (q ballot first : ℕ) (votes : List Vote) : Type 0 where
  pub heeds : Heeds w.cast (promised_in (w.replicas q).kept) q ballot first votes
  pub backed : AreBacked w.cast ballot votes

pub record Told (n : ℕ) (w : World) : Type 0 where
  pub promises : (q ballot first : ℕ) (votes : List Vote) → HasSaid w.said q (Promise ballot first votes) → IsPromised w q ballot first votes
  pub terms : (q : ℕ) → q < n → HasHeard n w (prefix_of (w.replicas q)) (w.replicas q).term
