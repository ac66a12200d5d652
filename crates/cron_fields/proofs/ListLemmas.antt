-- The items of a field, one after another.
use Rattle.std.proofs.Common.{◌≡◌, ◌≢◌, ◌↔◌, ◌⊎◌, ℕ, zero, suc, ◌+◌, ◌<◌, ◌≤◌, eqb, false, List, [], ◌∷◌, ◌++◌, length, get_or, take, drop, All, IsBitSet, inl, inr, ⊎_elim, sym, refl, ap, ◌∙◌, arith, ne_eqb, length-append}
use Rattle.std.specs.List.{AllByRecursion, AllZip, join_with_byte, onto_first, slice_split, sum_by}
use Rattle.std.proofs.lemmas.List.Splits.{join_with_byte-slice_split, slice_split-cons_yes, slice_split-cons_no, slice_split_none, slice_split_at, length-slice_split}
use Rattle.std.proofs.lemmas.List.Elements.{All-from_get_or}
use Rattle.std.proofs.lemmas.List.Sums.{sum_by_push, sum_by-cons, sum_by-append}
use Rattle.std.proofs.lemmas.Bool.{cases_eq}
use Rattle.cron_fields.specs.Atom.{HasNo}
use Rattle.cron_fields.specs.Base.{Joins}
use Rattle.cron_fields.specs.Item.{IsStepped, StepsTo, IsItem}
use Rattle.cron_fields.specs.Field.{AreItems, AnyStepsTo, IsItemText}
use Rattle.cron_fields.specs.declared.field.FieldKind.{FieldKind}
use Rattle.cron_fields.proofs.Choice.{HasNo-cons, HasNo-nil}
use Rattle.cron_fields.proofs.BitLemmas.{IsBitSet-zero}

-- the pieces of a text between its commas
abbrev pub pieces_of : List ℕ → List (List ℕ)
pieces_of text = slice_split (λ byte. eqb byte 44) text

whole_onto_first : (c : ℕ) (pieces : List (List ℕ)) → c ≢ 44 → AllByRecursion (HasNo 44) pieces → AllByRecursion (HasNo 44) (onto_first c pieces)
whole_onto_first c [] other whole = (HasNo-cons 44 c [] other (HasNo-nil 44), tt)
whole_onto_first c (piece ∷ pieces) other whole = (HasNo-cons 44 c piece other whole.0, whole.1)

whole_pieces : (text : List ℕ) → AllByRecursion (HasNo 44) (pieces_of text)
whole_pieces [] = (HasNo-nil 44, tt)
whole_pieces (c ∷ text) = ⊎_elim
    (λ is. rw (slice_split-cons_yes (λ byte. eqb byte 44) c text (rw is refl)) (HasNo-nil 44, whole_pieces text))
    (λ other. rw (slice_split-cons_no (λ byte. eqb byte 44) c text (ne_eqb c 44 other)) (whole_onto_first c (pieces_of text) other (whole_pieces text)))
    (cases_eq c 44)

-- the pieces are the items of the text
pub AreItems-pieces : (text : List ℕ) → AreItems text (pieces_of text)
AreItems-pieces text = record {
  some = omega (arith, length-slice_split (λ byte. eqb byte 44) text);
  text_is = sym (join_with_byte-slice_split 44 text);
  whole = whole_pieces text;
}

no_comma : (item : List ℕ) → HasNo 44 item → All (λ byte. eqb byte 44 ≡ false) item
no_comma item whole = All-from_get_or (λ byte. eqb byte 44 ≡ false) item 0 (λ i within. ne_eqb (get_or item i 0) 44 (whole i within))

pieces_of-join : (items : List (List ℕ)) → 0 < length items → AllByRecursion (HasNo 44) items → pieces_of (join_with_byte 44 items) ≡ items
pieces_of-join [] some whole = absurd (omega arith)
pieces_of-join (item ∷ []) some whole = slice_split_none (λ byte. eqb byte 44) item (no_comma item whole.0)
pieces_of-join (item ∷ next ∷ items) some whole =
    slice_split_at (λ byte. eqb byte 44) item 44 (join_with_byte 44 (next ∷ items)) (no_comma item whole.0) refl
    ∙ ap (λ pieces. item ∷ pieces) (pieces_of-join (next ∷ items) (omega arith) whole.1)

-- a text has one list of items
pub items_are_pieces : (text : List ℕ) (items : List (List ℕ)) → AreItems text items → pieces_of text ≡ items
items_are_pieces text items are = ap pieces_of are.text_is ∙ pieces_of-join items are.some are.whole

-- the pieces before, at and after a place
pub pieces_at : (pieces : List (List ℕ)) (n : ℕ) (d : List ℕ) → n < length pieces → take n pieces ++ (get_or pieces n d ∷ drop (suc n) pieces) ≡ pieces
pieces_at [] n d within = absurd (omega arith)
pieces_at (p ∷ pieces) zero d within = refl
pieces_at (p ∷ pieces) (suc n) d within = ap (λ rest. p ∷ rest) (pieces_at pieces n d (omega arith))

-- how far the items before reach, with the comma after each
abbrev pub reach_of : List (List ℕ) → ℕ
reach_of items = sum_by (λ one. length one + 1) items

AllZip-push : (kind : FieldKind) (items : List (List ℕ)) (parts : List IsStepped) (item : List ℕ) (part : IsStepped) → AllZip (IsItem kind) items parts → IsItem kind item part → AllZip (IsItem kind) (items ++ item ∷ []) (parts ++ part ∷ [])
AllZip-push kind [] [] item part each last = (last, tt)
AllZip-push kind [] (p ∷ parts) item part each last = absurd each
AllZip-push kind (i ∷ items) [] item part each last = absurd each
AllZip-push kind (i ∷ items) (p ∷ parts) item part each last = (each.0, AllZip-push kind items parts item part each.1 last)

AnyStepsTo-push : (kind : FieldKind) (parts : List IsStepped) (part : IsStepped) (value : ℕ) → AnyStepsTo kind (parts ++ part ∷ []) value ↔ (AnyStepsTo kind parts value ⊎ StepsTo kind part value)
AnyStepsTo-push kind [] part value = (
  λ any. ⊎_elim (λ s. inr s) (λ none. absurd none) any,
  λ any. ⊎_elim (λ none. absurd none) (λ s. inl s) any,
)
AnyStepsTo-push kind (p ∷ parts) part value = let rest = AnyStepsTo-push kind parts part value in (
  λ any. ⊎_elim (λ s. inl (inl s)) (λ more. ⊎_elim (λ old. inl (inr old)) (λ s. inr s) (rest.0 more)) any,
  λ any. ⊎_elim (λ old. ⊎_elim (λ s. inl s) (λ more. inr (rest.1 (inl more))) old) (λ s. inr (rest.1 (inr s))) any,
)

-- each item so far was read, the bits are their values, and the place is where the next one begins
pub record Reading (kind : FieldKind) (items : List (List ℕ)) (bits place : ℕ) : Type 0 where
  pub parts : List IsStepped
  pub each : AllZip (IsItem kind) items parts
  pub has : (value : ℕ) → IsBitSet bits value ↔ AnyStepsTo kind parts value
  pub place_is : place ≡ reach_of items

pub Reading-none : (kind : FieldKind) → Reading kind [] 0 0
Reading-none kind = record {
  parts = [];
  each = tt;
  has = λ value. (λ set. absurd (IsBitSet-zero value set), λ none. absurd none);
  place_is = refl;
}

pub Reading-push : (kind : FieldKind) (items : List (List ℕ)) (bits place : ℕ) (item : List ℕ) (part : IsStepped) (after : ℕ) → IsItem kind item part → Joins kind bits part after → Reading kind items bits place → Reading kind (items ++ item ∷ []) after (place + (length item + 1))
Reading-push kind items bits place item part after read joins so_far = record {
  parts = so_far.parts ++ part ∷ [];
  each = AllZip-push kind items so_far.parts item part so_far.each read;
  has = λ value. let push = AnyStepsTo-push kind so_far.parts part value in (
    λ set. push.1 (⊎_elim (λ old. inl ((so_far.has value).0 old)) (λ s. inr s) ((joins value).0 set)),
    λ any. (joins value).1 (⊎_elim (λ old. inl ((so_far.has value).1 old)) (λ s. inr s) (push.0 any)),
  );
  place_is = let at = so_far.place_is in sym (sum_by_push (λ one. length one + 1) items item ∙ ap (λ n. n + (length item + 1)) (sym at));
}

-- the items that were read are sound
pub sound_from_each : (kind : FieldKind) (items : List (List ℕ)) (parts : List IsStepped) → AllZip (IsItem kind) items parts → AllByRecursion (IsItemText kind) items
sound_from_each kind [] [] each = tt
sound_from_each kind [] (p ∷ parts) each = absurd each
sound_from_each kind (i ∷ items) [] each = absurd each
sound_from_each kind (i ∷ items) (p ∷ parts) each = ((p, each.0), sound_from_each kind items parts each.1)

reach_of-join : (items : List (List ℕ)) → 0 < length items → length (join_with_byte 44 items) + 1 ≡ reach_of items
reach_of-join [] some = absurd (omega arith)
reach_of-join (item ∷ []) some = omega arith
reach_of-join (item ∷ next ∷ items) some =
    let rest = reach_of-join (next ∷ items) (omega arith) in
    omega (arith, length-append item (44 ∷ join_with_byte 44 (next ∷ items)), sum_by-cons (λ one. length one + 1) item (next ∷ items))

-- an item lies in its text
pub item_in_text : (text : List ℕ) (before : List (List ℕ)) (item : List ℕ) (after : List (List ℕ)) → AreItems text (before ++ (item ∷ after)) → reach_of before + length item ≤ length text
item_in_text text before item after are =
    let reach : length text + 1 ≡ reach_of (before ++ (item ∷ after)) = ap (λ t. length t + 1) are.text_is ∙ reach_of-join (before ++ (item ∷ after)) are.some in
    omega (arith, sum_by-append (λ one. length one + 1) before (item ∷ after), sum_by-cons (λ one. length one + 1) item after)
