-- Writing packets one after another, as a loop does.
use Rattle.std.proofs.Common.{◌≡◌, ℕ, ◌+◌, ◌*◌, ◌<◌, ◌≤◌, List, [], ◌∷◌, ◌++◌, length, get_or, take, sym, ap, subst, ◌∙◌, arith}
use Rattle.std.proofs.lemmas.List.{take_more, flat_map_more}
use Rattle.paxos_letter.specs.declared.packet.Packet.{Packet}
use Rattle.paxos_letter.specs.Fields.{FitPacketFields}
use Rattle.paxos_letter.specs.Spelling.{fields_of, packet_bytes, spelling, AllFit}

pub record Writing (from : ℕ) (old new : List ℕ) (packets : List Packet) : Type 0 where
  pub spelled : new ≡ old ++ spelling from packets
  pub fits : AllFit from packets

AllFit-push : (from : ℕ) (packets : List Packet) (packet : Packet) → AllFit from packets → FitPacketFields (fields_of from packet) → AllFit from (packets ++ packet ∷ [])
AllFit-push from [] packet all fits = (fits, tt)
AllFit-push from (p ∷ ps) packet all fits = (all.0, AllFit-push from ps packet all.1 fits)

pub Writing-next : (from : ℕ) (old now new : List ℕ) (packets : List Packet) (at : ℕ) (packet : Packet) → at < length packets → packet ≡ get_or packets at packet
    → new ≡ now ++ packet_bytes from packet → FitPacketFields (fields_of from packet) → Writing from old now (take at packets) → Writing from old new (take (at + 1) packets)
Writing-next from old now new packets at packet lt is more fits w =
    let front : take (at + 1) packets ≡ take at packets ++ packet ∷ [] = take_more packets at packet lt ∙ ap (λ (p : Packet). take at packets ++ p ∷ []) (sym is) in
    subst (λ (ps : List Packet). Writing from old new ps) (sym front)
    (record {
      spelled = more ∙ ap (λ (bytes : List ℕ). bytes ++ packet_bytes from packet) w.spelled ∙ flat_map_more (packet_bytes from) old (take at packets) packet;
      fits = AllFit-push from (take at packets) packet w.fits fits;
    })

-- so many packets were appended, and no room was given up
pub record Room (before now before_long now_long at : ℕ) : Type 0 where
  pub grown : before ≤ now
  pub long : now_long ≡ before_long + 56 * at

pub Room-next : (before now later before_long now_long later_long at : ℕ) → now ≤ later → later_long ≡ now_long + 56 → Room before now before_long now_long at → Room before later before_long later_long (at + 1)
Room-next before now later before_long now_long later_long at grown longer room = record { grown = omega arith; long = omega arith }
