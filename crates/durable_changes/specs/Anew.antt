-- When a leader's proposal is a vote that it hasn't cast yet.
use Rattle.std.specs.Prelude.{ℕ, IsTrue, None, Some, ⊤}
use Rattle.paxos_base.specs.Vote.{vote_at}
use Rattle.paxos_base.specs.declared.durable.Durable.{Durable}
use Rattle.term_core.specs.declared.term.Term.{Term}
use Rattle.term_core.specs.declared.term.Term.TheVariants.{Follower, Candidate, Leader}
use Rattle.step_spec.specs.Hear.{is_vote_of}
use Rattle.step_spec.specs.State.{State, prefix_of}

-- in its own ballot a leader without a flight has not voted at this slot
abbrev pub HasNoVoteIn : Durable → (slot : ℕ) → Term → Type 0
HasNoVoteIn kept slot (Leader ballot best None) = IsTrue (is_vote_of ballot (vote_at slot kept.votes)) → ⊥
HasNoVoteIn kept slot (Leader ballot best (Some flight)) = ⊤
HasNoVoteIn kept slot (Candidate ballot first heard best) = ⊤
HasNoVoteIn kept slot (Follower ended) = ⊤

-- a replica that may propose has not voted at its prefix in the ballot that it leads in
abbrev pub ProposesAnew : State → Type 0
ProposesAnew state = HasNoVoteIn state.kept (prefix_of state) state.term
