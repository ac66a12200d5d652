-- Blanks, words and values.
use Rattle.std.proofs.Common.{◌≡◌, ℕ, ◌+◌, ◌-◌, ◌<◌, ◌≤◌, zero, suc, List, [], ◌∷◌, ◌++◌, length, get_or, take, drop, refl, ◌∙◌, sym, subst, inl, inr, arith, add-one}
use Rattle.std.specs.List.{AllByRecursion}
use Rattle.std.specs.Str.{IsUtf8, IsCharBoundary}
use Rattle.std.proofs.lemmas.List.{append-nil, take-append-drop, length-take-le, length-drop, get_or-take, get_or-drop}
use Rattle.std.proofs.lemmas.List.Elements.{All-from_get_or, recursion_from_All}
use Rattle.std.proofs.lemmas.Str.{IsCharBoundary-start, IsCharBoundary-after_ascii}
use Rattle.crontab_text.specs.Blanks.{IsBlank, IsMark, LacksAny, MayEndWith, IsFirstIndex, IsCutAt, SkipsBlanks, DropsBlanks, IsFirstWord, AreBlanksFrom}
use Rattle.crontab_text.proofs.ListLemmas.{same_cut, same_cut_at, cut_at_index, MayEndWith-at_last, MayEndWith-drop}

small_blank : (c : ℕ) → IsBlank c → c < 128
small_blank c blank = elim blank [ inl e ↦ omega arith | inr e ↦ omega arith ]

pub is_blank_before : (c : ℕ) → (IsMark c → ⊥) → IsBlank c
is_blank_before c h = grind arith

pub boundary_at_mark : (text : List ℕ) (index : ℕ) → IsUtf8 text → IsFirstIndex IsMark text index → IsCharBoundary text index
boundary_at_mark text zero utf8 first = IsCharBoundary-start text utf8
boundary_at_mark text (suc index) utf8 first =
    let inside : suc index < length text = first.inside in
    let blank = is_blank_before _ (first.before index (omega arith)) in
    rw (sym (add-one index)) (IsCharBoundary-after_ascii text index utf8 (omega arith) (small_blank _ blank))

-- a text may be cut where the blanks at its end begin
pub boundary_at_end : (text : List ℕ) (end : ℕ) → AreBlanksFrom text end → IsCharBoundary text end
boundary_at_end text end blank = (blank.within, λ inside high. absurd (low_blank _ (blank.each end (omega arith) inside) high))
  where
    low_blank : (c : ℕ) → IsBlank c → 128 ≤ c → ⊥
    low_blank c is high = let small = small_blank c is in omega arith

-- blanks lack marks, and what lacks marks is blanks
pub all_blanks : (text : List ℕ) → LacksAny IsMark text → AllByRecursion IsBlank text
all_blanks [] lacks = tt
all_blanks (c ∷ cs) lacks = (is_blank_before c lacks.0, all_blanks cs lacks.1)

pub lacks_marks : (text : List ℕ) → AllByRecursion IsBlank text → LacksAny IsMark text
lacks_marks [] all = tt
lacks_marks (c ∷ cs) all = ((λ mark. mark all.0), lacks_marks cs all.1)

pub skips_to_mark : (text : List ℕ) (index : ℕ) → IsFirstIndex IsMark text index → SkipsBlanks text (drop index text)
skips_to_mark text index first =
    let cut = cut_at_index IsMark text index first in
    record { blanks = take index text; parts = cut.parts; all = all_blanks (take index text) cut.lacks; begins = cut.begins }

pub skips_all : (text : List ℕ) → LacksAny IsMark text → SkipsBlanks text []
skips_all text lacks = record { blanks = text; parts = sym (append-nil text); all = all_blanks text lacks; begins = tt }

-- the blanks that a text begins with are skipped in one way
pub same_skip : (text x y : List ℕ) → SkipsBlanks text x → SkipsBlanks text y → x ≡ y
same_skip text x y first second =
    (same_cut IsMark first.blanks second.blanks x y (lacks_marks _ first.all) (lacks_marks _ second.all) first.begins second.begins (sym first.parts ∙ second.parts)).1

-- a text has one first word
pub same_word : (text a b x y : List ℕ) → IsFirstWord text a x → IsFirstWord text b y → (a ≡ b) × (x ≡ y)
same_word text a b x y first second =
    let rest = same_skip text first.rest second.rest first.skips second.skips in
    same_cut_at IsBlank second.rest a b x y (subst (λ t. IsCutAt IsBlank t a x) rest first.cut) second.cut

-- from an end on there are blanks, and before it stands a mark
pub drops_from : (text : List ℕ) (end : ℕ) → AreBlanksFrom text end → (0 < end → IsMark (get_or text (end - 1) 0)) → DropsBlanks text (take end text)
drops_from text end blank mark =
    let within = blank.within in
    let size : length (take end text) ≡ end = length-take-le end text within in
    record {
      blanks = drop end text;
      parts = sym (take-append-drop end text);
      all = recursion_from_All IsBlank (drop end text) (All-from_get_or IsBlank (drop end text) 0 (λ i inside.
          rw (get_or-drop end text i 0) (blank.each (end + i) (omega arith) (omega (arith, length-drop end text)))));
      ends = MayEndWith-at_last IsMark (take end text) (λ some.
          rw (size, get_or-take end text (end - 1) 0 (omega arith)) (mark (omega arith)));
    }

-- a text may be cut behind bytes below 128
pub boundary_after_low : (text : List ℕ) (index : ℕ) → IsUtf8 text → index ≤ length text → ((k : ℕ) → k < index → get_or text k 0 < 128) → IsCharBoundary text index
boundary_after_low text zero utf8 within low = IsCharBoundary-start text utf8
boundary_after_low text (suc index) utf8 within low =
    rw (sym (add-one index)) (IsCharBoundary-after_ascii text index utf8 (omega arith) (low index (omega arith)))

-- what ends with a mark isn't all blank
no_mark : (d : ℕ) (ds y : List ℕ) → AllByRecursion IsBlank (d ∷ (ds ++ y)) → MayEndWith IsMark (d ∷ ds) → ⊥
no_mark d [] y all ends = ends all.0
no_mark d (e ∷ ds) y all ends = no_mark e ds y all.1 ends

-- blanks at the end of a text, in two ways
blanks_cancel : (a b x y : List ℕ) → AllByRecursion IsBlank x → AllByRecursion IsBlank y → MayEndWith IsMark a → MayEndWith IsMark b → a ++ x ≡ b ++ y → a ≡ b
blanks_cancel [] [] x y ax ay ea eb e = refl
blanks_cancel [] (b ∷ bs) x y ax ay ea eb e = absurd (no_mark b bs y (subst (AllByRecursion IsBlank) e ax) eb)
blanks_cancel (a ∷ as') [] x y ax ay ea eb e = absurd (no_mark a as' x (subst (AllByRecursion IsBlank) (sym e) ay) ea)
blanks_cancel (a ∷ as') (b ∷ bs) x y ax ay ea eb e =
    let head : a ≡ b = cc in
    let rest : as' ++ x ≡ bs ++ y = cc in
    let tail = blanks_cancel as' bs x y ax ay (MayEndWith-drop IsMark a as' ea) (MayEndWith-drop IsMark b bs eb) rest in
    cc

-- the blanks that a text ends with are dropped in one way
pub same_drop : (text a b : List ℕ) → DropsBlanks text a → DropsBlanks text b → a ≡ b
same_drop text a b first second = blanks_cancel a b first.blanks second.blanks first.all second.all first.ends second.ends (sym first.parts ∙ second.parts)
