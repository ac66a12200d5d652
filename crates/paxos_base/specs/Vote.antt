-- Votes of the log. Source: "Paxos Made Simple".
use Rattle.std.specs.Prelude.{◌≡◌, ℕ, ◌+◌, ◌<◌, ◌==◌, nat_le, nat_lt, Option, Some, List, ◌∷◌, ◌++◌, AllPairs, slice_get}
use Rattle.std.specs.List.{filter, find}
use Rattle.paxos_base.specs.declared.entry.Vote.{Vote}

-- each vote is at a later slot than those before it
abbrev pub SlotsRise : List Vote → Type 0
SlotsRise votes = AllPairs (λ earlier later. earlier.slot < later.slot) votes

-- votes at one slot stand at one place of the list
abbrev pub HasOneVoteASlot : List Vote → Type 0
HasOneVoteASlot votes =
    (j k : ℕ) (one other : Vote) → slice_get votes j ≡ Some one → slice_get votes k ≡ Some other → one.slot ≡ other.slot → j ≡ k

-- the vote at a slot, where there is one
unfoldable pub vote_at : ℕ → List Vote → Option Vote
vote_at slot votes = find (λ vote. vote.slot == slot) votes

-- the votes below a slot
unfoldable pub votes_below : ℕ → List Vote → List Vote
votes_below slot votes = filter (λ vote. nat_lt vote.slot slot) votes

-- the votes at a slot and above it
unfoldable pub votes_from : ℕ → List Vote → List Vote
votes_from slot votes = filter (λ vote. nat_le slot vote.slot) votes

-- The votes with one more put in, between those below its slot and those above it. A vote that was at its slot goes.
unfoldable pub put_vote : Vote → List Vote → List Vote
put_vote vote votes = votes_below vote.slot votes ++ vote ∷ votes_from (vote.slot + 1) votes
