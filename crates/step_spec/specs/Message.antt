-- What replicas tell one another ("Paxos Made Simple", sections 2.2, 2.3 and 3), each message whole.
use Rattle.std.specs.Prelude.{ℕ, Bool, List, ◌==◌, not, ◌&&◌}
use Rattle.paxos_base.specs.Members.{has_member}
use Rattle.paxos_base.specs.declared.entry.Entry.{Entry}
use Rattle.paxos_base.specs.declared.entry.Vote.{Vote}
use Rattle.paxos_base.specs.declared.rows.JobRow.{JobRow}

-- `Prepare` asks for a promise of a ballot, and for the votes from a slot on. `Promise` gives it, with these votes. `Accept`
-- asks for a vote, and `Accepted` says that it was cast. `Nack` refuses a ballot, since another is promised. `Known` tells
-- what was chosen at a slot, `AskFrom` asks for that from a slot on. `Snap` has the launch table after the entries below a
-- slot. `Lead` says who leads, and up to which slot that replica has learned. `Mention` is but a ballot, as each old vote of
-- a promise names one beside its own.
pub data Message : Type 0 where
  Prepare : (ballot slot : ℕ) → Message
  Promise : (ballot slot : ℕ) → (votes : List Vote) → Message
  Accept : (vote : Vote) → Message
  Accepted : (ballot slot : ℕ) → Message
  Nack : (ballot promised : ℕ) → Message
  Known : (slot : ℕ) → (entry : Entry) → Message
  AskFrom : (slot : ℕ) → Message
  Snap : (slot : ℕ) → (rows : List JobRow) → Message
  Lead : (ballot slot : ℕ) → Message
  Mention : (ballot : ℕ) → Message

-- the ballot that a message names to all who hear it, or 0
abbrev pub ballot_in : Message → ℕ
ballot_in (Prepare ballot slot) = ballot
ballot_in (Promise ballot slot votes) = ballot
ballot_in (Accept vote) = vote.ballot
ballot_in (Accepted ballot slot) = ballot
ballot_in (Nack ballot promised) = promised
ballot_in (Known slot entry) = 0
ballot_in (AskFrom slot) = 0
ballot_in (Snap slot rows) = 0
ballot_in (Lead ballot slot) = ballot
ballot_in (Mention ballot) = ballot

-- the slot that a message names, or 0
abbrev pub slot_in : Message → ℕ
slot_in (Prepare ballot slot) = slot
slot_in (Promise ballot slot votes) = slot
slot_in (Accept vote) = vote.slot
slot_in (Accepted ballot slot) = slot
slot_in (Nack ballot promised) = 0
slot_in (Known slot entry) = slot
slot_in (AskFrom slot) = slot
slot_in (Snap slot rows) = slot
slot_in (Lead ballot slot) = slot
slot_in (Mention ballot) = 0

-- to whom a message goes: to one replica, to all others, or to the others outside a set
pub data Whom : Type 0 where
  Only : (member : ℕ) → Whom
  Others : Whom
  Outside : (set : ℕ) → Whom

-- what `me` sends so goes to this replica
abbrev pub goes_to : (me : ℕ) → Whom → (member : ℕ) → Bool
goes_to me (Only other) member = member == other
goes_to me Others member = not (member == me)
goes_to me (Outside set) member = not (member == me) && not (has_member set member)
