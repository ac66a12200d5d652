-- The numbers of ballots. Source: "Paxos Made Simple", section 2.4.
use Rattle.std.specs.Prelude.{ℕ, ◌+◌, ◌*◌, ◌/◌, ◌%◌, ◌^◌, ◌<◌, ◌≤◌, Bool, ◌&&◌, Option, nat_le, nat_lt, IfSome, IsTrue}

-- The number of a replica's ballot in a round: each replica has numbers of its own ("Paxos Made Simple", section 2.4).
abbrev pub ballot_number : ℕ → ℕ → ℕ
ballot_number round member = 8 * round + member

-- the round of a ballot's number
abbrev pub round_of : ℕ → ℕ
round_of number = number / 8

-- the replica that a ballot's number belongs to
abbrev pub member_of : ℕ → ℕ
member_of number = number % 8

-- The test of whether a number is a ballot's: it is of a round from 1 on, and of one of that many replicas.
abbrev pub is_ballot_of : ℕ → ℕ → Bool
is_ballot_of members number = nat_le 1 (round_of number) && nat_lt (member_of number) members

-- the number is a ballot's of one of seven replicas
pub record IsBallot (number : ℕ) : Type 0 where
  pub of_seven : IsTrue (is_ballot_of 7 number)
  pub fits : number < 2 ^ 64

-- a ballot is above the promise; each ballot is, where there is none
abbrev pub IsAbove : ℕ → Option ℕ → Type 0
IsAbove ballot promised = IfSome promised (λ other. other < ballot)

-- a ballot is the promised one or above it
abbrev pub IsAtLeast : ℕ → Option ℕ → Type 0
IsAtLeast ballot promised = IfSome promised (λ other. other ≤ ballot)
