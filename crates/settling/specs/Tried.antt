-- That a ballot is one that its replica has tried ("Paxos Made Simple", section 2.4: different proposers choose their numbers from
-- disjoint sets, and each remembers the highest number that it has tried).
use Rattle.std.specs.Prelude.{ℕ, ◌<◌, ◌≤◌}
use Rattle.paxos_base.specs.Ballot.{member_of, round_of}
use Rattle.step_spec.specs.State.{State}

-- where the ballot belongs to one of so many replicas, that one has tried its round or a later one
abbrev pub IsTried : (members : ℕ) → (replicas : ℕ → State) → (ballot : ℕ) → Type 0
IsTried members replicas ballot = member_of ballot < members → round_of ballot ≤ (replicas (member_of ballot)).kept.tried
