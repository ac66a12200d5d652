-- What is chosen, and when replicas agree ("Paxos Made Simple", section 2).
use Rattle.std.specs.Prelude.{◌≡◌, ℕ, IsTrue, List, Contains}
use Rattle.paxos_base.specs.Members.{AllBelow, HasMember, has_majority}
use Rattle.paxos_base.specs.declared.entry.Entry.{Entry}
use Rattle.paxos_base.specs.declared.entry.Vote.{Vote}
use Rattle.agreement.specs.World.{CastVote, Learning, World}

-- the replica has cast the vote
abbrev pub HasCast : List CastVote → ℕ → Vote → Type 0
HasCast cast by vote = Contains cast (record { by = by; vote = vote })

-- the vote at a slot for an entry in a ballot
abbrev pub vote_for : (slot ballot : ℕ) → Entry → Vote
vote_for slot ballot entry = record { slot = slot; ballot = ballot; entry = entry }

-- A majority of the replicas has voted for the entry at the slot, in one ballot.
pub record IsChosen (members : ℕ) (cast : List CastVote) (slot : ℕ) (entry : Entry) : Type 0 where
  pub ballot : ℕ
  pub voters : ℕ
  pub below : AllBelow members voters
  pub majority : IsTrue (has_majority members voters)
  pub each : (by : ℕ) → HasMember voters by → HasCast cast by (vote_for slot ballot entry)

-- what was learned was chosen
abbrev pub LearnsChosen : ℕ → World → Type 0
LearnsChosen members world =
    (row : Learning) → Contains world.learned row → IsChosen members world.cast row.slot row.entry

-- no two entries are learned for one slot
abbrev pub LearnsOne : World → Type 0
LearnsOne world =
    (one other : Learning) → Contains world.learned one → Contains world.learned other → one.slot ≡ other.slot → one.entry ≡ other.entry
