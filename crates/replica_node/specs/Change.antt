-- Whether what a replica keeps shows a change that it may have kept. Private functions alone cite it.
use Rattle.std.specs.Prelude.{◌≡◌, ◌⊎◌, Option, None, Some}
use Rattle.paxos_base.specs.Ballot.{round_of}
use Rattle.paxos_base.specs.Vote.{vote_at}
use Rattle.paxos_base.specs.declared.durable.Delta.{Delta}
use Rattle.paxos_base.specs.declared.durable.Delta.TheVariants.{Tried, Promised, Voted, Base}
use Rattle.paxos_base.specs.declared.durable.Durable.{Durable}

-- What is kept has what the change sets: its round, its promise, its vote, or its base. A change that may follow what is kept sets
-- something else than is there.
abbrev pub ShowsChange : Delta → Durable → Type 0
ShowsChange (Tried ballot) kept = kept.tried ≡ round_of ballot
ShowsChange (Promised ballot) kept = kept.promised ≡ Some ballot
ShowsChange (Voted vote) kept = (kept.promised ≡ Some vote.ballot) × (vote_at vote.slot kept.votes ≡ Some vote)
ShowsChange (Base slot rows) kept = kept.base ≡ slot

-- the answer is the change where what is kept shows it, and else none
abbrev pub IsDecided : Delta → Durable → Option Delta → Type 0
IsDecided change kept answer = (ShowsChange change kept × (answer ≡ Some change)) ⊎ ((ShowsChange change kept → ⊥) × (answer ≡ None))
