-- An acceptor ("Paxos Made Simple", section 2.2) for the slots of a log.
use Rattle.std.specs.Prelude.{◌≡◌, ℕ, Option, List, IsSomeAnd}
use Rattle.paxos_base.specs.declared.entry.Vote.{Vote}
use Rattle.paxos_base.specs.declared.durable.Delta.{Delta}
use Rattle.paxos_base.specs.declared.durable.Delta.TheVariants.{Tried, Promised, Voted, Base}
use Rattle.paxos_base.specs.declared.durable.Durable.{Durable}
use Rattle.paxos_base.specs.Vote.{vote_at}

-- what an acceptor has promised and voted for, where it begins, and for how many more votes it has room
pub record AcceptorState : Type 0 where
  pub promised : Option ℕ
  pub votes : List Vote
  pub base : ℕ
  pub spare : ℕ

-- the vote at a slot was cast in a ballot
abbrev pub HasVoted : AcceptorState → ℕ → ℕ → Type 0
HasVoted acceptor slot ballot = IsSomeAnd (vote_at slot acceptor.votes) (λ vote. vote.ballot ≡ ballot)

-- an acceptor's part of what its replica keeps on its disk
pub record IsPart (acceptor : AcceptorState) (durable : Durable) : Type 0 where
  pub promised : acceptor.promised ≡ durable.promised
  pub votes : acceptor.votes ≡ durable.votes
  pub base : acceptor.base ≡ durable.base

-- one acceptor is as another, but for the room that it has
pub record IsSameAcceptor (one other : AcceptorState) : Type 0 where
  pub promised : one.promised ≡ other.promised
  pub votes : one.votes ≡ other.votes
  pub base : one.base ≡ other.base

-- for how many more votes a change needs room
abbrev pub new_votes_in : Delta → ℕ
new_votes_in (Tried ballot) = 0
new_votes_in (Promised ballot) = 0
new_votes_in (Voted vote) = 1
new_votes_in (Base slot rows) = 0
