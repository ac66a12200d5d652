-- The best votes that a candidate has heard of: at each slot the one of the highest ballot ("Paxos Made Simple",
-- section 2.2: a proposer takes the value of the highest-numbered proposal among the answers).
use Rattle.std.specs.Prelude.{Bool, true, Option, None, Some, List, nat_lt, if◌then◌else◌}
use Rattle.std.specs.List.{fold}
use Rattle.paxos_base.specs.declared.entry.Vote.{Vote}
use Rattle.paxos_base.specs.Vote.{vote_at, put_vote}

-- the vote is of a higher ballot than the one held, or none is held
abbrev pub is_higher : Vote → Option Vote → Bool
is_higher vote None = true
is_higher vote (Some held) = nat_lt held.ballot vote.ballot

-- the one that stays of a vote held and one more
abbrev pub higher_of : Option Vote → Vote → Option Vote
higher_of held vote = if is_higher vote held then Some vote else held

-- Votes after one more: it is put in where it is higher than the one at its slot, so of equal ballots the first stays.
unfoldable pub with_vote : List Vote → Vote → List Vote
with_vote best vote = if is_higher vote (vote_at vote.slot best) then put_vote vote best else best

-- votes after more of them, one after another
abbrev pub best_of : List Vote → List Vote → List Vote
best_of best votes = fold with_vote best votes
