-- What holds of a replica between any two of its acts.
use Rattle.std.specs.Prelude.{◌≡◌, ℕ, ◌≤◌, max, ⊤, All, List, Option, None, Some}
use Rattle.paxos_base.specs.Ballot.{ballot_number, member_of, round_of}
use Rattle.paxos_base.specs.Vote.{vote_at}
use Rattle.paxos_base.specs.declared.durable.Durable.{Durable}
use Rattle.paxos_base.specs.declared.entry.Vote.{Vote}
use Rattle.term_core.specs.declared.flight.Flight.{Flight}
use Rattle.term_core.specs.declared.term.Term.{Term}
use Rattle.term_core.specs.declared.term.Term.TheVariants.{Follower, Candidate, Leader}
use Rattle.step_spec.specs.Propose.{vote_of}
use Rattle.step_spec.specs.State.{State, Identity, prefix_of, promised_in}

-- The ballot of a candidate or a leader is its own latest one, and it has promised no other since.
pub record IsOwn (self : Identity) (kept : Durable) (ballot : ℕ) : Type 0 where
  pub promised : promised_in kept ≡ ballot
  pub member : member_of ballot ≡ self.me
  pub round : round_of ballot ≡ kept.tried

-- what a leader proposes stands at its prefix, and it has voted for it
pub record IsAtPrefix (kept : Durable) (prefix ballot : ℕ) (flight : Flight) : Type 0 where
  pub slot : flight.slot ≡ prefix
  pub voted : vote_at flight.slot kept.votes ≡ Some (vote_of ballot flight)

-- the same of a leader that has a flight or none
abbrev pub IfFlies : Durable → (prefix ballot : ℕ) → Option Flight → Type 0
IfFlies kept prefix ballot None = ⊤
IfFlies kept prefix ballot (Some flight) = IsAtPrefix kept prefix ballot flight

-- a term fits what its replica keeps, and the first slot that it has not learned
abbrev pub FitsTerm : Identity → Durable → (prefix : ℕ) → Term → Type 0
FitsTerm self kept prefix (Follower ended) = ⊤
FitsTerm self kept prefix (Candidate ballot first heard best) = IsOwn self kept ballot
FitsTerm self kept prefix (Leader ballot best flight) = IsOwn self kept ballot × IfFlies kept prefix ballot flight

-- the votes are of ballots up to this one
abbrev pub AreUpTo : ℕ → List Vote → Type 0
AreUpTo ballot votes = All (λ vote. vote.ballot ≤ ballot) votes

-- What holds of a replica: it has promised no ballot above its next one, its term fits, and it has voted in no ballot above
-- the promised one.
pub record IsCoherent (self : Identity) (state : State) : Type 0 where
  pub promised : promised_in state.kept ≤ max state.seen (ballot_number state.kept.tried 7)
  pub term : FitsTerm self state.kept (prefix_of state) state.term
  pub votes : AreUpTo (promised_in state.kept) state.kept.votes
