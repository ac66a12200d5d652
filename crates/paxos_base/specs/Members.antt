-- Sets of replicas. Source: "Paxos Made Simple".
use Rattle.std.specs.Prelude.{◌≡◌, ℕ, ◌+◌, ◌*◌, ◌/◌, ◌%◌, ◌^◌, ◌<◌, ◌==◌, nat_le, Bool, List, [], ◌∷◌, bit_or, count_by}
use Rattle.std.specs.Int.{bit_at}

-- The test of whether a replica is in the set of a number: the number's bit at the replica's place is 1.
abbrev pub has_member : ℕ → ℕ → Bool
has_member set member = bit_at set member == 1

-- the replica is in the set
abbrev pub HasMember : ℕ → ℕ → Type 0
HasMember set member = bit_at set member ≡ 1

-- the set that no replica is in
abbrev pub no_members : ℕ
no_members = 0

-- the set with a replica put in, whose bit becomes 1
unfoldable pub with_member : ℕ → ℕ → ℕ
with_member member set = bit_or set (1 * 2 ^ member % 2 ^ 8)

-- the set of one replica
abbrev pub only_member : ℕ → ℕ
only_member member = with_member member no_members

-- all that may be in a set
abbrev pub all_members : List ℕ
all_members = 0 ∷ 1 ∷ 2 ∷ 3 ∷ 4 ∷ 5 ∷ 6 ∷ 7 ∷ []

-- how many replicas are in the set
abbrev pub member_count : ℕ → ℕ
member_count set = count_by (has_member set) all_members

-- each replica of the set is one of that many, which are numbered from 0
abbrev pub AllBelow : ℕ → ℕ → Type 0
AllBelow members set = (member : ℕ) → HasMember set member → member < members

-- the least number of replicas that is more than half of them
abbrev pub majority_of : ℕ → ℕ
majority_of members = members / 2 + 1

-- at least a majority of the replicas is in the set
abbrev pub has_majority : ℕ → ℕ → Bool
has_majority members set = nat_le (majority_of members) (member_count set)

-- two sets share a replica
pub record Meet (one other : ℕ) : Type 0 where
  pub member : ℕ
  pub in_one : HasMember one member
  pub in_other : HasMember other member
