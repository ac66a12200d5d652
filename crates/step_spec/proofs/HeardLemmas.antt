-- What is spelled is heard as it was meant.
use Rattle.std.proofs.Common.{◌≡◌, ℕ, List, [], ◌∷◌, ◌++◌, length, map, take, replicate, refl, ap, ◌∙◌}
use Rattle.std.specs.List.{flat_map}
use Rattle.paxos_base.specs.declared.entry.Vote.{Vote}
use Rattle.paxos_base.specs.declared.rows.JobRow.{JobRow}
use Rattle.paxos_letter.specs.declared.packet.Packet.{Packet}
use Rattle.paxos_letter.specs.declared.packet.Packet.TheVariants as packet
use Rattle.step_spec.specs.Heard.{packets_of, messages_of, old_vote, vote_in, row_in, heard_as}
use Rattle.step_spec.specs.Message.{Message, Prepare, Promise, Accept, Accepted, Nack, Known, AskFrom, Snap, Lead, Mention}

votes_back : (ballot : ℕ) (votes : List Vote) (rest : List Packet) → flat_map vote_in (take (length votes) (map (old_vote ballot) votes ++ rest)) ≡ votes
votes_back ballot [] rest = refl
votes_back ballot (vote ∷ votes) rest = ap (λ others. vote ∷ others) (votes_back ballot votes rest)

rows_back : (slot : ℕ) (rows : List JobRow) (rest : List Packet) → flat_map row_in (take (length rows) (map (packet.SnapRow slot) rows ++ rest)) ≡ rows
rows_back slot [] rest = refl
rows_back slot (row ∷ rows) rest = ap (λ others. row ∷ others) (rows_back slot rows rest)

old_votes_heard : (ballot : ℕ) (votes : List Vote) (rest : List Packet) → messages_of (map (old_vote ballot) votes ++ rest) ≡ replicate (length votes) (Mention ballot) ++ messages_of rest
unfolding messages_of
old_votes_heard ballot [] rest = refl
old_votes_heard ballot (vote ∷ votes) rest = ap (λ others. Mention ballot ∷ others) (old_votes_heard ballot votes rest)

rows_heard : (slot : ℕ) (rows : List JobRow) (rest : List Packet) → messages_of (map (packet.SnapRow slot) rows ++ rest) ≡ messages_of rest
unfolding messages_of
rows_heard slot [] rest = refl
rows_heard slot (row ∷ rows) rest = rows_heard slot rows rest

-- the packets of a message are heard as it, whatever comes behind them
message_heard : (message : Message) (rest : List Packet) → messages_of (packets_of message ++ rest) ≡ heard_as message ++ messages_of rest
unfolding packets_of messages_of
message_heard (Prepare ballot slot) rest = refl
message_heard (Promise ballot slot votes) rest =
    rw (votes_back ballot votes rest) (ap (λ others. Promise ballot slot votes ∷ others) (old_votes_heard ballot votes rest))
message_heard (Accept vote) rest = refl
message_heard (Accepted ballot slot) rest = refl
message_heard (Nack ballot promised) rest = refl
message_heard (Known slot entry) rest = refl
message_heard (AskFrom slot) rest = refl
message_heard (Snap slot rows) rest =
    rw (rows_back slot rows rest) (ap (λ others. Snap slot rows ∷ others) (rows_heard slot rows rest))
message_heard (Lead ballot slot) rest = refl
message_heard (Mention ballot) rest = refl

-- the packets of messages are heard as they
pub messages_heard : (messages : List Message) → messages_of (flat_map packets_of messages) ≡ flat_map heard_as messages
unfolding messages_of
messages_heard [] = refl
messages_heard (message ∷ messages) =
    message_heard message (flat_map packets_of messages) ∙ ap (λ others. heard_as message ++ others) (messages_heard messages)
