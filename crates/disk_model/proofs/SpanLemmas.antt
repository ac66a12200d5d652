-- Spans one after another, as a loop takes them.
use Rattle.std.proofs.Common.{◌≡◌, ◌⊎◌, inl, inr, ⊎_elim, ℕ, ◌+◌, ◌-◌, ◌<◌, ◌≤◌, nat_le, nat_lt, Bool, true, false, ◌||◌, List, [], ◌∷◌, ◌++◌, length, get_or, refl, sym, ap, ◌∙◌, arith}
use borrow.Rule.Slice.PartMut.{put_mid}
use Rattle.std.proofs.lemmas.Bool.{cases_Bool, or_cases, or_parts, and_cases, leb-false, ltb-false}
use Rattle.std.proofs.lemmas.List.{get_or-take, get_or-drop}
use Rattle.std.proofs.lemmas.Slice.{take-put_mid_below, drop-put_mid}
use Rattle.disk_model.specs.declared.span.Span.{Span}
use Rattle.disk_model.specs.Touched.{is_in, is_touched}

or_nothing : (b : Bool) → (b || false) ≡ (false || b)
or_nothing true = refl
or_nothing false = refl

or_three : (a b c : Bool) → (a || (b || c)) ≡ ((a || b) || c)
or_three true b c = refl
or_three false b c = refl

-- one more span
pub is_touched-push : (spans : List Span) (span : Span) (place : ℕ) → is_touched (spans ++ span ∷ []) place ≡ (is_touched spans place || is_in span place)
is_touched-push [] span place = or_nothing (is_in span place)
is_touched-push (first ∷ spans) span place =
    ap (λ (b : Bool). is_in first place || b) (is_touched-push spans span place) ∙ or_three (is_in first place) (is_touched spans place) (is_in span place)

-- the bytes at the spans' places are those of another list, and the others stay
pub record Copied (spans : List Span) (source old new : List ℕ) : Type 0 where
  pub size : length new ≡ length old
  pub touched : (place : ℕ) → place < length old → is_touched spans place ≡ true → get_or new place 0 ≡ get_or source place 0
  pub others : (place : ℕ) → is_touched spans place ≡ false → get_or new place 0 ≡ get_or old place 0

pub Copied-next : (spans : List Span) (span : Span) (source old now new : List ℕ) → Copied spans source old now → length new ≡ length now
    → ((place : ℕ) → place < length now → is_in span place ≡ true → get_or new place 0 ≡ get_or source place 0)
    → ((place : ℕ) → is_in span place ≡ false → get_or new place 0 ≡ get_or now place 0)
    → Copied (spans ++ span ∷ []) source old new
Copied-next spans span source old now new before size inside outside =
    record {
      size = size ∙ before.size;
      touched = λ place lt is. elim (cases_Bool (is_in span place)) [
        | inl here ↦ inside place (omega (arith, before.size)) here
        | inr not_here ↦ outside place not_here ∙ before.touched place lt (earlier place not_here (sym (is_touched-push spans span place) ∙ is))
      ];
      others = λ place is. let parts = or_parts (is_touched spans place) (is_in span place) (sym (is_touched-push spans span place) ∙ is) in
          outside place parts.1 ∙ before.others place parts.0;
    }
  where
    earlier : (place : ℕ) → is_in span place ≡ false → (is_touched spans place || is_in span place) ≡ true → is_touched spans place ≡ true
    earlier place not_here either = ⊎_elim (λ was. was) (λ here. absurd (cc (here, not_here))) (or_cases (is_touched spans place) (is_in span place) either)

-- they are one byte
pub record Filled (spans : List Span) (byte : ℕ) (old new : List ℕ) : Type 0 where
  pub size : length new ≡ length old
  pub touched : (place : ℕ) → place < length old → is_touched spans place ≡ true → get_or new place 0 ≡ byte
  pub others : (place : ℕ) → is_touched spans place ≡ false → get_or new place 0 ≡ get_or old place 0

pub Filled-next : (spans : List Span) (span : Span) (byte : ℕ) (old now new : List ℕ) → Filled spans byte old now → length new ≡ length now
    → ((place : ℕ) → place < length now → is_in span place ≡ true → get_or new place 0 ≡ byte)
    → ((place : ℕ) → is_in span place ≡ false → get_or new place 0 ≡ get_or now place 0)
    → Filled (spans ++ span ∷ []) byte old new
Filled-next spans span byte old now new before size inside outside =
    record {
      size = size ∙ before.size;
      touched = λ place lt is. elim (cases_Bool (is_in span place)) [
        | inl here ↦ inside place (omega (arith, before.size)) here
        | inr not_here ↦ outside place not_here ∙ before.touched place lt (earlier place not_here (sym (is_touched-push spans span place) ∙ is))
      ];
      others = λ place is. let parts = or_parts (is_touched spans place) (is_in span place) (sym (is_touched-push spans span place) ∙ is) in
          outside place parts.1 ∙ before.others place parts.0;
    }
  where
    earlier : (place : ℕ) → is_in span place ≡ false → (is_touched spans place || is_in span place) ≡ true → is_touched spans place ≡ true
    earlier place not_here either = ⊎_elim (λ was. was) (λ here. absurd (cc (here, not_here))) (or_cases (is_touched spans place) (is_in span place) either)

-- what stands outside the part that was written
pub get_or-put_mid_outside : (a k place : ℕ) (xs ys : List ℕ) → length ys ≡ k → a ≤ length xs → (place < a) ⊎ (a + k ≤ place) → get_or (put_mid a k xs ys) place 0 ≡ get_or xs place 0
get_or-put_mid_outside a k place xs ys long le (inl below) =
    sym (get_or-take a (put_mid a k xs ys) place 0 below) ∙ ap (λ (l : List ℕ). get_or l place 0) (take-put_mid_below a k xs ys a (omega arith) le) ∙ get_or-take a xs place 0 below
get_or-put_mid_outside a k place xs ys long le (inr above) =
    let at : a + k + (place - (a + k)) ≡ place = omega arith in
    ap (λ (n : ℕ). get_or (put_mid a k xs ys) n 0) (sym at)
    ∙ sym (get_or-drop (a + k) (put_mid a k xs ys) (place - (a + k)) 0)
    ∙ ap (λ (l : List ℕ). get_or l (place - (a + k)) 0) (drop-put_mid a k xs ys (a + k) (omega arith) le long)
    ∙ get_or-drop (a + k) xs (place - (a + k)) 0
    ∙ ap (λ (n : ℕ). get_or xs n 0) at

-- a place outside a span
pub outside : (span : Span) (place : ℕ) → is_in span place ≡ false → (place < span.from) ⊎ (span.until ≤ place)
outside span place is =
    ⊎_elim (λ e. inl (leb-false span.from place e)) (λ e. inr (ltb-false place span.until e)) (and_cases (nat_le span.from place) (nat_lt place span.until) is)
