-- A packet by its fields: no two packets have the same, and each keeps its zeros.
use Rattle.std.proofs.Common.{◌≡◌, ℕ, ℤ, true, List, [], ◌∷◌, map, Option, Some, None, refl, sym, ap, ◌∙◌}
use Rattle.paxos_base.specs.declared.entry.Entry.TheVariants.{Noop, Start, End, Table}
use Rattle.paxos_base.specs.declared.entry.Kind.TheVariants.{Launch, Void}
use Rattle.paxos_base.specs.declared.rows.JobRow.{JobRow}
use Rattle.paxos_letter.specs.declared.packet.Packet.{Packet}
use Rattle.paxos_letter.specs.declared.packet.Packet.TheVariants.{Prepare, Promise, OldVote, Accept, Accepted, Nack, Known, AskFrom, Snap, SnapRow, Lead}
use Rattle.paxos_letter.specs.Decoding.{packet_of}
use Rattle.paxos_letter.specs.Rules.{keeps_zeros}
use Rattle.paxos_letter.specs.Spelling.{fields_of}

abbrev row_from : ℕ → ℕ → ℕ → Option ℤ → Option ℤ → Option ℤ → JobRow
row_from job launched voided cursor started last =
    record { job = job; cursor = cursor; open_now = started; last = last; launched = launched; voided = voided }

row_back : (from slot job launched voided : ℕ) (cursor started last : Option ℤ) → packet_of (fields_of from (SnapRow slot (row_from job launched voided cursor started last))) ≡ SnapRow slot (row_from job launched voided cursor started last)
unfolding packet_of
row_back from slot job launched voided None None None = refl
row_back from slot job launched voided None None (Some l) = refl
row_back from slot job launched voided None (Some o) None = refl
row_back from slot job launched voided None (Some o) (Some l) = refl
row_back from slot job launched voided (Some a) None None = refl
row_back from slot job launched voided (Some a) None (Some l) = refl
row_back from slot job launched voided (Some a) (Some o) None = refl
row_back from slot job launched voided (Some a) (Some o) (Some l) = refl

-- what was spelled is read again
pub packet_of-fields_of : (from : ℕ) (packet : Packet) → packet_of (fields_of from packet) ≡ packet
unfolding packet_of
packet_of-fields_of from (Prepare ballot slot) = refl
packet_of-fields_of from (Promise ballot slot count) = refl
packet_of-fields_of from (OldVote ballot slot cast Noop) = refl
packet_of-fields_of from (OldVote ballot slot cast (Start job at now)) = refl
packet_of-fields_of from (OldVote ballot slot cast (End job at Launch)) = refl
packet_of-fields_of from (OldVote ballot slot cast (End job at Void)) = refl
packet_of-fields_of from (OldVote ballot slot cast (Table version now)) = refl
packet_of-fields_of from (Accept ballot slot Noop) = refl
packet_of-fields_of from (Accept ballot slot (Start job at now)) = refl
packet_of-fields_of from (Accept ballot slot (End job at Launch)) = refl
packet_of-fields_of from (Accept ballot slot (End job at Void)) = refl
packet_of-fields_of from (Accept ballot slot (Table version now)) = refl
packet_of-fields_of from (Accepted ballot slot) = refl
packet_of-fields_of from (Nack ballot promised) = refl
packet_of-fields_of from (Known slot Noop) = refl
packet_of-fields_of from (Known slot (Start job at now)) = refl
packet_of-fields_of from (Known slot (End job at Launch)) = refl
packet_of-fields_of from (Known slot (End job at Void)) = refl
packet_of-fields_of from (Known slot (Table version now)) = refl
packet_of-fields_of from (AskFrom slot) = refl
packet_of-fields_of from (Snap slot count) = refl
packet_of-fields_of from (SnapRow slot row) = row_back from slot row.job row.launched row.voided row.cursor row.open_now row.last
packet_of-fields_of from (Lead ballot slot) = refl

all_back : (from : ℕ) (packets : List Packet) → map packet_of (map (fields_of from) packets) ≡ packets
all_back from [] = refl
all_back from (p ∷ ps) =
    ap (λ (first : Packet). first ∷ map packet_of (map (fields_of from) ps)) (packet_of-fields_of from p) ∙ ap (λ (rest : List Packet). p ∷ rest) (all_back from ps)

-- packets with the same fields are the same
pub same_packets : (a b : ℕ) (ps qs : List Packet) → map (fields_of a) ps ≡ map (fields_of b) qs → ps ≡ qs
same_packets a b ps qs e = sym (all_back a ps) ∙ ap (map packet_of) e ∙ all_back b qs

row_zeros : (from slot job launched voided : ℕ) (cursor started last : Option ℤ) → keeps_zeros (fields_of from (SnapRow slot (row_from job launched voided cursor started last))) ≡ true
row_zeros from slot job launched voided None None None = refl
row_zeros from slot job launched voided None None (Some l) = refl
row_zeros from slot job launched voided None (Some o) None = refl
row_zeros from slot job launched voided None (Some o) (Some l) = refl
row_zeros from slot job launched voided (Some a) None None = refl
row_zeros from slot job launched voided (Some a) None (Some l) = refl
row_zeros from slot job launched voided (Some a) (Some o) None = refl
row_zeros from slot job launched voided (Some a) (Some o) (Some l) = refl

-- a packet's spelling leaves 0 what it doesn't use
pub fields_of-zeros : (from : ℕ) (packet : Packet) → keeps_zeros (fields_of from packet) ≡ true
fields_of-zeros from (Prepare ballot slot) = refl
fields_of-zeros from (Promise ballot slot count) = refl
fields_of-zeros from (OldVote ballot slot cast Noop) = refl
fields_of-zeros from (OldVote ballot slot cast (Start job at now)) = refl
fields_of-zeros from (OldVote ballot slot cast (End job at Launch)) = refl
fields_of-zeros from (OldVote ballot slot cast (End job at Void)) = refl
fields_of-zeros from (OldVote ballot slot cast (Table version now)) = refl
fields_of-zeros from (Accept ballot slot Noop) = refl
fields_of-zeros from (Accept ballot slot (Start job at now)) = refl
fields_of-zeros from (Accept ballot slot (End job at Launch)) = refl
fields_of-zeros from (Accept ballot slot (End job at Void)) = refl
fields_of-zeros from (Accept ballot slot (Table version now)) = refl
fields_of-zeros from (Accepted ballot slot) = refl
fields_of-zeros from (Nack ballot promised) = refl
fields_of-zeros from (Known slot Noop) = refl
fields_of-zeros from (Known slot (Start job at now)) = refl
fields_of-zeros from (Known slot (End job at Launch)) = refl
fields_of-zeros from (Known slot (End job at Void)) = refl
fields_of-zeros from (Known slot (Table version now)) = refl
fields_of-zeros from (AskFrom slot) = refl
fields_of-zeros from (Snap slot count) = refl
fields_of-zeros from (SnapRow slot row) = row_zeros from slot row.job row.launched row.voided row.cursor row.open_now row.last
fields_of-zeros from (Lead ballot slot) = refl
