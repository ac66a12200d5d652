-- The fields of a packet after a write.
use Rattle.std.proofs.Common.{◌≡◌, ℕ, ◌+◌, ◌≤◌, List, [], ◌++◌, ◌-◌, Bool, true, ◌||◌, leb, length, take, drop, refl, sym, ap, ◌∙◌, inl, inr, arith, length-append, length-drop}
use Rattle.std.proofs.lemmas.List.{take-append-drop, drop_all, take_at, drop_at, length-take, drop-drop, drop-append-le, take-append-le, drop-take, take-take}
use Rattle.std.proofs.lemmas.Bool.{or_cases, leb-true}
use Rattle.std.specs.List.{flat_map}
use Rattle.paxos_base.specs.Packet.{all_fields, field_of, bytes_at, with_bytes}

pub length-with_bytes : (bytes : List ℕ) (offset : ℕ) (part : List ℕ) → offset + length part ≤ length bytes → length (with_bytes bytes offset part) ≡ length bytes
length-with_bytes bytes offset part fits =
    omega (arith, length-append (take offset bytes) (part ++ drop (offset + length part) bytes), length-append part (drop (offset + length part) bytes), length-take offset bytes, length-drop (offset + length part) bytes)

-- the bytes that were written
pub bytes_at-with_bytes_same : (bytes : List ℕ) (offset : ℕ) (part : List ℕ) (size : ℕ) → length part ≡ size → offset + size ≤ length bytes → bytes_at (with_bytes bytes offset part) offset size ≡ part
bytes_at-with_bytes_same bytes offset part size long fits =
    ap (take size) (drop_at (take offset bytes) (part ++ drop (offset + length part) bytes) offset (omega (arith, length-take offset bytes)))
    ∙ take_at part (drop (offset + length part) bytes) size long

-- bytes before those that were written
pub bytes_at-with_bytes_below : (bytes : List ℕ) (offset : ℕ) (part : List ℕ) (at size : ℕ) → offset ≤ length bytes → at + size ≤ offset → bytes_at (with_bytes bytes offset part) at size ≡ bytes_at bytes at size
bytes_at-with_bytes_below bytes offset part at size fits before =
    let rest : List ℕ = part ++ drop (offset + length part) bytes in
    let room : ℕ = offset - at in
    let ends : at + room ≡ offset = omega arith in
    ap (take size) (drop-append-le at (take offset bytes) rest (omega (arith, length-take offset bytes)))
    ∙ take-append-le size (drop at (take offset bytes)) rest (omega (arith, length-drop at (take offset bytes), length-take offset bytes))
    ∙ ap (λ (n : ℕ). take size (drop at (take n bytes))) (sym ends)
    ∙ ap (take size) (drop-take at room bytes)
    ∙ take-take size room (drop at bytes) (omega arith)

-- bytes behind those that were written
pub bytes_at-with_bytes_above : (bytes : List ℕ) (offset : ℕ) (part : List ℕ) (at size : ℕ) → offset ≤ length bytes → offset + length part ≤ at → bytes_at (with_bytes bytes offset part) at size ≡ bytes_at bytes at size
bytes_at-with_bytes_above bytes offset part at size fits behind =
    let end : ℕ = offset + length part in
    let far : ℕ = at - end in
    let at-is : at ≡ end + far = omega arith in
    let to_end : drop end (with_bytes bytes offset part) ≡ drop end bytes =
    sym (drop-drop (length part) offset (with_bytes bytes offset part))
    ∙ ap (drop (length part)) (drop_at (take offset bytes) (part ++ drop end bytes) offset (omega (arith, length-take offset bytes)))
    ∙ drop_at part (drop end bytes) (length part) refl in
    ap (λ (n : ℕ). take size (drop n (with_bytes bytes offset part))) at-is
    ∙ ap (take size) (sym (drop-drop far end (with_bytes bytes offset part)) ∙ ap (drop far) to_end ∙ drop-drop far end bytes)
    ∙ ap (λ (n : ℕ). take size (drop n bytes)) (sym at-is)

-- whether so many bytes from one offset on and so many from another have none in common
abbrev pub apart : ℕ → ℕ → ℕ → ℕ → Bool
apart at size offset long = leb (at + size) offset || leb (offset + long) at

-- bytes apart from those that were written
pub bytes_at-with_bytes_apart : (bytes : List ℕ) (offset : ℕ) (part : List ℕ) (long at size : ℕ) → length part ≡ long → offset ≤ length bytes → apart at size offset long ≡ true → bytes_at (with_bytes bytes offset part) at size ≡ bytes_at bytes at size
bytes_at-with_bytes_apart bytes offset part long at size is_long fits clear =
    elim (or_cases _ _ clear) [
      | inl before ↦ bytes_at-with_bytes_below bytes offset part at size fits (leb-true _ _ before)
      | inr behind ↦
          let after : offset + long ≤ at = leb-true _ _ behind in
          bytes_at-with_bytes_above bytes offset part at size fits (omega arith)
    ]

cut : (packet : List ℕ) (offset size : ℕ) → drop offset packet ≡ bytes_at packet offset size ++ drop (offset + size) packet
cut packet offset size =
    sym (take-append-drop size (drop offset packet)) ∙ ap (λ (rest : List ℕ). bytes_at packet offset size ++ rest) (drop-drop size offset packet)

then : (packet : List ℕ) (offset size : ℕ) (rest : List ℕ) → drop (offset + size) packet ≡ rest → drop offset packet ≡ bytes_at packet offset size ++ rest
then packet offset size rest e = cut packet offset size ∙ ap (λ (more : List ℕ). bytes_at packet offset size ++ more) e

-- a packet is its fields, one after another
pub flat_map-all_fields : (packet : List ℕ) → length packet ≡ 56 → packet ≡ flat_map (field_of packet) all_fields
flat_map-all_fields packet long =
    then packet 0 1 _ (then packet 1 1 _ (then packet 2 1 _ (then packet 3 1 _ (then packet 4 4 _ (then packet 8 8 _ (then packet 16 8 _ (then packet 24 8 _ (then packet 32 8 _ (then packet 40 8 _ (then packet 48 8 [] (drop_all 56 packet (omega arith))))))))))))
