-- How messages are spelled in packets, and as what packets are heard. Source: docs/WIRE.md.
use Rattle.std.specs.Prelude.{ℕ, List, [], ◌∷◌, length, map, take, replicate}
use Rattle.std.specs.List.{flat_map}
use Rattle.paxos_base.specs.declared.entry.Vote.{Vote}
use Rattle.paxos_base.specs.declared.rows.JobRow.{JobRow}
use Rattle.paxos_letter.specs.declared.packet.Packet.{Packet}
use Rattle.paxos_letter.specs.declared.packet.Packet.TheVariants as packet
use Rattle.step_spec.specs.Message.{Message, Prepare, Promise, Accept, Accepted, Nack, Known, AskFrom, Snap, Lead, Mention}

-- an old vote of a promise of the ballot
abbrev pub old_vote : ℕ → Vote → Packet
old_vote ballot vote = packet.OldVote ballot vote.slot vote.ballot vote.entry

-- the packets of a message
unfoldable pub packets_of : Message → List Packet
packets_of (Prepare ballot slot) = packet.Prepare ballot slot ∷ []
packets_of (Promise ballot slot votes) = packet.Promise ballot slot (length votes) ∷ map (old_vote ballot) votes
packets_of (Accept vote) = packet.Accept vote.ballot vote.slot vote.entry ∷ []
packets_of (Accepted ballot slot) = packet.Accepted ballot slot ∷ []
packets_of (Nack ballot promised) = packet.Nack ballot promised ∷ []
packets_of (Known slot entry) = packet.Known slot entry ∷ []
packets_of (AskFrom slot) = packet.AskFrom slot ∷ []
packets_of (Snap slot rows) = packet.Snap slot (length rows) ∷ map (packet.SnapRow slot) rows
packets_of (Lead ballot slot) = packet.Lead ballot slot ∷ []
packets_of (Mention ballot) = []

-- the vote of an old vote
abbrev pub vote_in : Packet → List Vote
vote_in (packet.OldVote ballot slot cast entry) = record { slot = slot; ballot = cast; entry = entry } ∷ []
vote_in other = []

-- the row of a copy
abbrev pub row_in : Packet → List JobRow
row_in (packet.SnapRow slot row) = row ∷ []
row_in other = []

-- The messages of packets: a promise takes the old votes behind it, of which each names a ballot besides, and a copy its rows.
unfoldable pub messages_of : List Packet → List Message
messages_of [] = []
messages_of (packet.Prepare ballot slot ∷ rest) = Prepare ballot slot ∷ messages_of rest
messages_of (packet.Promise ballot slot count ∷ rest) = Promise ballot slot (flat_map vote_in (take count rest)) ∷ messages_of rest
messages_of (packet.OldVote ballot slot cast entry ∷ rest) = Mention ballot ∷ messages_of rest
messages_of (packet.Accept ballot slot entry ∷ rest) =
    Accept (record { slot = slot; ballot = ballot; entry = entry }) ∷ messages_of rest
messages_of (packet.Accepted ballot slot ∷ rest) = Accepted ballot slot ∷ messages_of rest
messages_of (packet.Nack ballot promised ∷ rest) = Nack ballot promised ∷ messages_of rest
messages_of (packet.Known slot entry ∷ rest) = Known slot entry ∷ messages_of rest
messages_of (packet.AskFrom slot ∷ rest) = AskFrom slot ∷ messages_of rest
messages_of (packet.Snap slot count ∷ rest) = Snap slot (flat_map row_in (take count rest)) ∷ messages_of rest
messages_of (packet.SnapRow slot row ∷ rest) = messages_of rest
messages_of (packet.Lead ballot slot ∷ rest) = Lead ballot slot ∷ messages_of rest

-- the ballots that the old votes of a promise name besides
abbrev pub mentions_of : Message → List Message
mentions_of (Promise ballot slot votes) = replicate (length votes) (Mention ballot)
mentions_of message = []

-- as what a message is heard: as itself, and a promise with a mention of its ballot for each vote
abbrev pub heard_as : Message → List Message
heard_as (Mention ballot) = []
heard_as message = message ∷ mentions_of message
