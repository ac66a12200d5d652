-- What writes, cuts and syncs do to the bytes of a file, place by place.
use Rattle.std.proofs.Common.{◌≡◌, inl, inr, ⊎_elim, ℕ, zero, suc, ◌+◌, ◌-◌, if◌then◌else◌, ◌<◌, ◌≤◌, max, nat_le, nat_lt, Bool, true, false, take, drop, List, [], ◌∷◌, ◌++◌, length, get_or, refl, sym, ap, ◌∙◌, arith, length-append}
use Rattle.std.proofs.lemmas.Bool.{cases_Bool, cases_lt, or_parts, le-leb, lt-ltb, and_from, cond-true, cond-false}
use Rattle.std.proofs.lemmas.List.{get_or-take, get_or-drop, get_or_append_left, get_or-append_right, length-take, length-drop, ext_get_or}
use Rattle.disk_model.specs.declared.span.Span.{Span}
use Rattle.disk_model.specs.Images.{written_over}
use Rattle.disk_model.specs.Told.{overwritten}
use Rattle.disk_model.specs.Touched.{is_in, is_touched, Agree}
use Rattle.disk_model.proofs.SpanLemmas.{is_touched-push, outside}

pub length-written_over : (at : ℕ) (piece bytes : List ℕ) → at ≤ length bytes → length (written_over at piece bytes) ≡ max (length bytes) (at + length piece)
length-written_over at piece bytes le =
    omega (arith, length-append (take at bytes) (piece ++ drop (at + length piece) bytes), length-append piece (drop (at + length piece) bytes), length-take at bytes, length-drop (at + length piece) bytes)

-- the bytes outside what was written
pub written_over-before : (at : ℕ) (piece bytes : List ℕ) (place : ℕ) → at ≤ length bytes → place < at → get_or (written_over at piece bytes) place 0 ≡ get_or bytes place 0
written_over-before at piece bytes place le lt =
    get_or_append_left (take at bytes) (piece ++ drop (at + length piece) bytes) 0 place (omega (arith, length-take at bytes)) ∙ get_or-take at bytes place 0 lt

pub written_over-after : (at : ℕ) (piece bytes : List ℕ) (place : ℕ) → at ≤ length bytes → at + length piece ≤ place → get_or (written_over at piece bytes) place 0 ≡ get_or bytes place 0
written_over-after at piece bytes place le past =
    get_or-append_right (take at bytes) (piece ++ drop (at + length piece) bytes) at place 0 (omega (arith, length-take at bytes)) (omega arith)
    ∙ get_or-append_right piece (drop (at + length piece) bytes) (length piece) (place - at) 0 refl (omega arith)
    ∙ get_or-drop (at + length piece) bytes (place - at - length piece) 0
    ∙ ap (λ (n : ℕ). get_or bytes n 0) (omega arith)

pub written_over-outside : (at : ℕ) (piece bytes : List ℕ) (place : ℕ) → at ≤ length bytes → is_in (record { from = at; until = at + length piece }) place ≡ false → get_or (written_over at piece bytes) place 0 ≡ get_or bytes place 0
written_over-outside at piece bytes place le is =
    ⊎_elim (written_over-before at piece bytes place le) (written_over-after at piece bytes place le) (outside (record { from = at; until = at + length piece }) place is)

-- ---- what stays the same outside the touched places

-- a place past the old end that isn't in what was written doesn't exist
past_end : (at count size place : ℕ) → at ≤ size → place < max size (at + count) → size ≤ place → is_in (record { from = at; until = at + count }) place ≡ true
past_end at count size place le lt past =
    and_from (nat_le at place) (nat_lt place (at + count)) (le-leb at place (omega arith)) (lt-ltb place (at + count) (omega arith))

pub Agree-write : (synced bytes : List ℕ) (spans : List Span) (at : ℕ) (piece : List ℕ) → at ≤ length bytes → Agree synced bytes spans
    → Agree synced (written_over at piece bytes) (spans ++ record { from = at; until = at + length piece } ∷ [])
Agree-write synced bytes spans at piece le agrees place in_synced in_bytes is =
    let span : Span = record { from = at; until = at + length piece } in
    let parts = or_parts (is_touched spans place) (is_in span place) (sym (is_touched-push spans span place) ∙ is) in
    elim (cases_lt place (length bytes)) [
      | inl here ↦ written_over-outside at piece bytes place le parts.1 ∙ agrees place in_synced here parts.0
      | inr past ↦ absurd (cc (past_end at (length piece) (length bytes) place le (omega (arith, length-written_over at piece bytes le)) past, parts.1))
    ]

-- ---- the image of a number

pub length-overwritten : (touched : ℕ → Bool) (byte place : ℕ) (bytes : List ℕ) → length (overwritten touched byte place bytes) ≡ length bytes
length-overwritten touched byte place [] = refl
length-overwritten touched byte place (x ∷ xs) = ap suc (length-overwritten touched byte (place + 1) xs)

pub get_or-overwritten : (touched : ℕ → Bool) (byte from place : ℕ) (bytes : List ℕ) → place < length bytes → get_or (overwritten touched byte from bytes) place 0 ≡ (if touched (from + place) then byte else get_or bytes place 0)
get_or-overwritten touched byte from place [] lt = absurd (omega arith)
get_or-overwritten touched byte from zero (x ∷ xs) lt = ap (λ (n : ℕ). if touched n then byte else x) (omega arith)
get_or-overwritten touched byte from (suc place) (x ∷ xs) lt =
    get_or-overwritten touched byte (from + 1) place xs (omega arith) ∙ ap (λ (n : ℕ). if touched n then byte else get_or xs place 0) (omega arith)

pub filled_is_overwritten : (spans : List Span) (byte : ℕ) (old new : List ℕ) → length new ≡ length old
    → ((place : ℕ) → place < length old → is_touched spans place ≡ true → get_or new place 0 ≡ byte)
    → ((place : ℕ) → is_touched spans place ≡ false → get_or new place 0 ≡ get_or old place 0)
    → new ≡ overwritten (is_touched spans) byte 0 old
filled_is_overwritten spans byte old new size touched others =
    ext_get_or 0 new (overwritten (is_touched spans) byte 0 old) (size ∙ sym (length-overwritten (is_touched spans) byte 0 old)) (λ place lt.
    ⊎_elim
    (λ here. touched place (omega (arith, size)) here ∙ sym (cond-true (is_touched spans place) byte (get_or old place 0) here))
    (λ not_here. others place not_here ∙ sym (cond-false (is_touched spans place) byte (get_or old place 0) not_here))
    (cases_Bool (is_touched spans place))
    ∙ ap (λ (n : ℕ). if is_touched spans n then byte else get_or old place 0) (omega arith)
    ∙ sym (get_or-overwritten (is_touched spans) byte 0 place old (omega (arith, size))))
