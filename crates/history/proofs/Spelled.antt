-- Letters whose ballots are of so many replicas, and which are spelled for seven, are spelled for so many.
use Rattle.std.proofs.Common.{◌≡◌, ℕ, ◌<◌, Bool, true, false, not, eqb, leb, ltb, ◌&&◌, ◌||◌, List, [], ◌∷◌, ◌++◌, map, refl, IsTrue}
use Rattle.std.specs.List.{AllByRecursion, Contains, flat_map}
use Rattle.std.proofs.lemmas.Bool.{and_from, and_parts, eq-eqb, lt-ltb}
use Rattle.paxos_base.specs.Ballot.{is_ballot_of, member_of, round_of}
use Rattle.paxos_base.specs.declared.entry.Vote.{Vote}
use Rattle.paxos_base.specs.declared.rows.JobRow.{JobRow}
use Rattle.paxos_letter.specs.Letters.{Spells}
use Rattle.paxos_letter.specs.Rules.{keeps_members}
use Rattle.paxos_letter.specs.Spelling.{fields_of}
use Rattle.paxos_letter.specs.declared.packet.Packet.{Packet}
use Rattle.paxos_letter.specs.declared.packet.Packet.TheVariants as packet
use Rattle.step_spec.specs.Heard.{old_vote, packets_of}
use Rattle.step_spec.specs.Message.{Message, Prepare, Promise, Accept, Accepted, Nack, Known, AskFrom, Snap, Lead, Mention}
use Rattle.due_set.proofs.Rising.{Contains-head as in_first, Contains-tail as in_rest}

-- the ballots that a packet names are of so many replicas
abbrev pub IsPacketOf : ℕ → Packet → Type 0
IsPacketOf n (packet.Prepare ballot slot) = member_of ballot < n
IsPacketOf n (packet.Promise ballot slot count) = member_of ballot < n
IsPacketOf n (packet.OldVote ballot slot cast entry) = (member_of ballot < n) × (member_of cast < n)
IsPacketOf n (packet.Accept ballot slot entry) = member_of ballot < n
IsPacketOf n (packet.Accepted ballot slot) = member_of ballot < n
IsPacketOf n (packet.Nack ballot promised) = (member_of ballot < n) × (member_of promised < n)
IsPacketOf n (packet.Known slot entry) = Unit {0}
IsPacketOf n (packet.AskFrom slot) = Unit {0}
IsPacketOf n (packet.Snap slot count) = Unit {0}
IsPacketOf n (packet.SnapRow slot row) = Unit {0}
IsPacketOf n (packet.Lead ballot slot) = member_of ballot < n

-- so are those that a message names
abbrev pub IsMessageOf : ℕ → Message → Type 0
IsMessageOf n (Prepare ballot slot) = member_of ballot < n
IsMessageOf n (Promise ballot slot votes) = (member_of ballot < n) × ((vote : Vote) → Contains votes vote → member_of vote.ballot < n)
IsMessageOf n (Accept vote) = member_of vote.ballot < n
IsMessageOf n (Accepted ballot slot) = member_of ballot < n
IsMessageOf n (Nack ballot promised) = (member_of ballot < n) × (member_of promised < n)
IsMessageOf n (Known slot entry) = Unit {0}
IsMessageOf n (AskFrom slot) = Unit {0}
IsMessageOf n (Snap slot rows) = Unit {0}
IsMessageOf n (Lead ballot slot) = member_of ballot < n
IsMessageOf n (Mention ballot) = Unit {0}

-- ---- packets

-- a ballot of one of seven that is of one of so many
ballot_of : (n ballot : ℕ) → member_of ballot < n → is_ballot_of 7 ballot ≡ true → is_ballot_of n ballot ≡ true
ballot_of n ballot member is =
    and_from (leb 1 (round_of ballot)) (ltb (member_of ballot) n) (and_parts (leb 1 (round_of ballot)) (ltb (member_of ballot) 7) is).0 (lt-ltb (member_of ballot) n member)

-- where a field has a ballot
used_of : (n : ℕ) (used : Bool) (ballot : ℕ) → (used ≡ true → member_of ballot < n) → (not used || is_ballot_of 7 ballot) ≡ true → (not used || is_ballot_of n ballot) ≡ true
used_of n true ballot member is = ballot_of n ballot (member refl) is
used_of n false ballot member is = refl

-- the sender and the ballots that are used are of so many
keep_of : (n me : ℕ) (used old_used : Bool) (ballot old : ℕ) → me < n → (used ≡ true → member_of ballot < n) → (old_used ≡ true → member_of old < n)
    → ((ltb me 7 && eqb me me) && ((not used || is_ballot_of 7 ballot) && (not old_used || is_ballot_of 7 old))) ≡ true
    → ((ltb me n && eqb me me) && ((not used || is_ballot_of n ballot) && (not old_used || is_ballot_of n old))) ≡ true
keep_of n me used old_used ballot old member one other keeps =
    let parts = and_parts (ltb me 7 && eqb me me) ((not used || is_ballot_of 7 ballot) && (not old_used || is_ballot_of 7 old)) keeps in
    let ballots = and_parts (not used || is_ballot_of 7 ballot) (not old_used || is_ballot_of 7 old) parts.1 in
    and_from (ltb me n && eqb me me) _ (and_from (ltb me n) (eqb me me) (lt-ltb me n member) (eq-eqb me me refl))
    (and_from (not used || is_ballot_of n ballot) (not old_used || is_ballot_of n old) (used_of n used ballot one ballots.0) (used_of n old_used old other ballots.1))

none_used : {P : Type 0} → false ≡ true → P
none_used is = absurd cc

packet_keeps : (n me : ℕ) (one : Packet) → me < n → IsPacketOf n one → IsTrue (keeps_members 7 me (fields_of me one)) → IsTrue (keeps_members n me (fields_of me one))
packet_keeps n me (packet.Prepare ballot slot) member is keeps = keep_of n me true false ballot 0 member (λ used. is) none_used keeps
packet_keeps n me (packet.Promise ballot slot count) member is keeps = keep_of n me true false ballot count member (λ used. is) none_used keeps
packet_keeps n me (packet.OldVote ballot slot cast entry) member is keeps = keep_of n me true true ballot cast member (λ used. is.0) (λ used. is.1) keeps
packet_keeps n me (packet.Accept ballot slot entry) member is keeps = keep_of n me true false ballot 0 member (λ used. is) none_used keeps
packet_keeps n me (packet.Accepted ballot slot) member is keeps = keep_of n me true false ballot 0 member (λ used. is) none_used keeps
packet_keeps n me (packet.Nack ballot promised) member is keeps = keep_of n me true true ballot promised member (λ used. is.0) (λ used. is.1) keeps
packet_keeps n me (packet.Known slot entry) member is keeps = keep_of n me false false 0 0 member none_used none_used keeps
packet_keeps n me (packet.AskFrom slot) member is keeps = keep_of n me false false 0 0 member none_used none_used keeps
packet_keeps n me (packet.Snap slot count) member is keeps = keep_of n me false false 0 count member none_used none_used keeps
packet_keeps n me (packet.SnapRow slot row) member is keeps = keep_of n me false false row.launched row.voided member none_used none_used keeps
packet_keeps n me (packet.Lead ballot slot) member is keeps = keep_of n me true false ballot 0 member (λ used. is) none_used keeps

all_keep : (n me : ℕ) (packets : List Packet) → me < n → AllByRecursion (IsPacketOf n) packets → AllByRecursion (λ one. IsTrue (keeps_members 7 me (fields_of me one))) packets → AllByRecursion (λ one. IsTrue (keeps_members n me (fields_of me one))) packets
all_keep n me [] member are keep = tt
all_keep n me (one ∷ packets) member are keep = (packet_keeps n me one member are.0 keep.0, all_keep n me packets member are.1 keep.1)

pub spells_of : (n me : ℕ) (packets : List Packet) (bytes : List ℕ) → me < n → AllByRecursion (IsPacketOf n) packets → Spells 7 me packets bytes → Spells n me packets bytes
spells_of n me packets bytes member are spells = record {
  letter = record {
    some = spells.letter.some;
    kinds = spells.letter.kinds;
    members_keep = all_keep n me packets member are spells.letter.members_keep;
    groups = spells.letter.groups;
  };
  fits = spells.fits;
  spelled = spells.spelled;
}

-- ---- messages

of_append : (n : ℕ) (xs ys : List Packet) → AllByRecursion (IsPacketOf n) xs → AllByRecursion (IsPacketOf n) ys → AllByRecursion (IsPacketOf n) (xs ++ ys)
of_append n [] ys front back = back
of_append n (x ∷ xs) ys front back = (front.0, of_append n xs ys front.1 back)

old_votes_of : (n ballot : ℕ) (votes : List Vote) → member_of ballot < n → ((vote : Vote) → Contains votes vote → member_of vote.ballot < n) → AllByRecursion (IsPacketOf n) (map (old_vote ballot) votes)
old_votes_of n ballot [] member each = tt
old_votes_of n ballot (vote ∷ votes) member each =
    ((member, each vote (in_first vote votes)), old_votes_of n ballot votes member (λ other has. each other (in_rest vote votes other has)))

rows_of : (n slot : ℕ) (rows : List JobRow) → AllByRecursion (IsPacketOf n) (map (packet.SnapRow slot) rows)
rows_of n slot [] = tt
rows_of n slot (row ∷ rows) = (tt, rows_of n slot rows)

message_of : (n : ℕ) (message : Message) → IsMessageOf n message → AllByRecursion (IsPacketOf n) (packets_of message)
unfolding packets_of
message_of n (Prepare ballot slot) is = (is, tt)
message_of n (Promise ballot slot votes) is = (is.0, old_votes_of n ballot votes is.0 is.1)
message_of n (Accept vote) is = (is, tt)
message_of n (Accepted ballot slot) is = (is, tt)
message_of n (Nack ballot promised) is = (is, tt)
message_of n (Known slot entry) is = (tt, tt)
message_of n (AskFrom slot) is = (tt, tt)
message_of n (Snap slot rows) is = (tt, rows_of n slot rows)
message_of n (Lead ballot slot) is = (is, tt)
message_of n (Mention ballot) is = tt

pub messages_of_members : (n : ℕ) (messages : List Message) → ((message : Message) → Contains messages message → IsMessageOf n message) → AllByRecursion (IsPacketOf n) (flat_map packets_of messages)
messages_of_members n [] each = tt
messages_of_members n (message ∷ messages) each =
    of_append n (packets_of message) (flat_map packets_of messages) (message_of n message (each message (in_first message messages)))
    (messages_of_members n messages (λ other has. each other (in_rest message messages other has)))
