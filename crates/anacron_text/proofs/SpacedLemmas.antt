-- A line with a space for each byte that joins two lines.
use Rattle.std.proofs.Common.{◌≡◌, ◌≢◌, ◌⊎◌, ℕ, ◌+◌, ◌-◌, ◌<◌, ◌≤◌, ◌==◌, ◌&&◌, ◌||◌, zero, suc, Bool, true, false, cond, List, [], ◌∷◌, ◌++◌, length, get_or, take, drop, refl, ap, ◌∙◌, sym, subst, inl, inr, arith, length-append, append_assoc}
use Rattle.std.specs.Str.{IsUtf8, IsCharBoundary}
use Rattle.std.proofs.lemmas.Bool.{ne_eqb, cases_eq}
use Rattle.std.proofs.lemmas.List.{append-nil, take-append-drop, length-take-le, drop_at}
use Rattle.std.proofs.lemmas.Str.{IsCharBoundary-before_ascii}
use Rattle.crontab_text.specs.Blanks.{IsBlank, IsMark, LacksAny, IsFirstIndex, IsCutAt, SkipsBlanks, DropsBlanks, AreBlanksFrom}
use Rattle.crontab_text.proofs.BlankLemmas.{boundary_after_low, skips_to_mark, skips_all, drops_from, is_blank_before}
use Rattle.crontab_text.proofs.ListLemmas.{LacksAny-from_get_or, cut_at_index, cut_at_end}
use Rattle.anacron_text.specs.Spaced.{is_at_line_end, spaced, IsPartWithin}

-- a byte as it is read, where a line of the text ends behind it or not
abbrev pub shown : ℕ → Bool → ℕ
shown c ends = cond ((c == 10) || ((c == 92) && ends)) 32 c

pub shown_newline : (c : ℕ) (ends : Bool) → c ≡ 10 → shown c ends ≡ 32
shown_newline c ends is = rw is refl

pub shown_backslash : (c : ℕ) (ends : Bool) → c ≡ 92 → ends ≡ true → shown c ends ≡ 32
shown_backslash c ends is does = rw (is, does) refl

pub shown_within : (c : ℕ) (ends : Bool) → c ≡ 92 → ends ≡ false → shown c ends ≡ c
shown_within c ends is not_so = rw (is, not_so) refl

pub shown_other : (c : ℕ) (ends : Bool) → c ≢ 10 → c ≢ 92 → shown c ends ≡ c
shown_other c ends no_newline no_backslash =
    let first : (c == 10) ≡ false = ne_eqb c 10 no_newline in
    let second : (c == 92) ≡ false = ne_eqb c 92 no_backslash in
    rw (first, second) refl

-- each byte stays or is a space
pub shown_or_space : (c : ℕ) (ends : Bool) → (shown c ends ≡ c) ⊎ ((shown c ends ≡ 32) × ((c ≡ 10) ⊎ (c ≡ 92)))
shown_or_space c ends = elim (cases_eq c 10) [
  | inl newline ↦ inr (shown_newline c ends newline, inl newline)
  | inr no_newline ↦ elim (cases_eq c 92) [
    | inr no_backslash ↦ inl (shown_other c ends no_newline no_backslash)
    | inl backslash ↦ by_end ends backslash
  ]
]
  where
    by_end : (ends : Bool) → c ≡ 92 → (shown c ends ≡ c) ⊎ ((shown c ends ≡ 32) × ((c ≡ 10) ⊎ (c ≡ 92)))
    by_end true backslash = inr (shown_backslash c true backslash refl, inr backslash)
    by_end false backslash = inl (shown_within c false backslash refl)

-- the line keeps its length
pub spaced-length : (text : List ℕ) → length (spaced text) ≡ length text
spaced-length [] = refl
spaced-length (c ∷ cs) = let tail = spaced-length cs in omega arith

-- the rest of a line is read as in the whole
pub spaced-drop : (n : ℕ) (text : List ℕ) → spaced (drop n text) ≡ drop n (spaced text)
spaced-drop zero [] = refl
spaced-drop zero (c ∷ cs) = refl
spaced-drop (suc n) [] = refl
spaced-drop (suc n) (c ∷ cs) = spaced-drop n cs

-- the byte at an index
pub spaced-at : (text : List ℕ) (i : ℕ) → i < length text → get_or (spaced text) i 0 ≡ shown (get_or text i 0) (is_at_line_end (drop (i + 1) text))
spaced-at [] i inside = absurd (omega arith)
spaced-at (c ∷ []) zero inside = refl
spaced-at (c ∷ d ∷ ds) zero inside = refl
spaced-at (c ∷ cs) (suc i) inside =
    let next : suc i + 1 ≡ suc (i + 1) = omega arith in
    rw next (spaced-at cs i (omega arith))

-- what is read as a blank: a newline, a backslash at a line's end, and a blank
pub newline_blank : (text : List ℕ) (i : ℕ) → i < length text → get_or text i 0 ≡ 10 → IsBlank (get_or (spaced text) i 0)
newline_blank text i inside is = inl (spaced-at text i inside ∙ shown_newline (get_or text i 0) (is_at_line_end (drop (i + 1) text)) is)

backslash_blank : (text : List ℕ) (i : ℕ) → i < length text → get_or text i 0 ≡ 92 → is_at_line_end (drop (i + 1) text) ≡ true → IsBlank (get_or (spaced text) i 0)
backslash_blank text i inside is ends = inl (spaced-at text i inside ∙ shown_backslash (get_or text i 0) (is_at_line_end (drop (i + 1) text)) is ends)

backslash_mark : (text : List ℕ) (i : ℕ) → i < length text → get_or text i 0 ≡ 92 → is_at_line_end (drop (i + 1) text) ≡ false → IsBlank (get_or (spaced text) i 0) → ⊥
backslash_mark text i inside is not_so blank =
    none (get_or (spaced text) i 0) (spaced-at text i inside ∙ (shown_within (get_or text i 0) (is_at_line_end (drop (i + 1) text)) is not_so ∙ is)) blank
  where
    none : (c : ℕ) → c ≡ 92 → IsBlank c → ⊥
    none c is (inl space) = omega arith
    none c is (inr tab) = omega arith

pub backslash_read : (text : List ℕ) (i : ℕ) (ends : Bool) → i < length text → get_or text i 0 ≡ 92 → ends ≡ is_at_line_end (drop (i + 1) text)
    → (ends ≡ true → IsBlank (get_or (spaced text) i 0)) × (IsBlank (get_or (spaced text) i 0) → ends ≡ true)
backslash_read text i true inside is at_end = (λ yes. backslash_blank text i inside is (sym at_end), λ blank. refl)
backslash_read text i false inside is at_end = (λ no. cc, λ blank. absurd (backslash_mark text i inside is (sym at_end) blank))

pub other_stays : (text : List ℕ) (i : ℕ) → i < length text → get_or text i 0 ≢ 10 → get_or text i 0 ≢ 92 → get_or (spaced text) i 0 ≡ get_or text i 0
other_stays text i inside no_newline no_backslash =
    spaced-at text i inside ∙ shown_other (get_or text i 0) (is_at_line_end (drop (i + 1) text)) no_newline no_backslash

-- what is read as a blank is below 128
pub low_before_blank : (text : List ℕ) (i : ℕ) → i < length text → IsBlank (get_or (spaced text) i 0) → get_or text i 0 < 128
low_before_blank text i inside blank =
    elim (shown_or_space (get_or text i 0) (is_at_line_end (drop (i + 1) text))) [
      | inl same ↦ low _ (subst IsBlank (spaced-at text i inside ∙ same) blank)
      | inr space ↦ elim space.1 [ inl e ↦ omega arith | inr e ↦ omega arith ]
    ]
  where
    low : (c : ℕ) → IsBlank c → c < 128
    low c (inl e) = omega arith
    low c (inr e) = omega arith

-- a line may be cut before the first byte that is read as no blank
pub boundary_at_spaced_mark : (text : List ℕ) (index : ℕ) → IsUtf8 text → IsFirstIndex IsMark (spaced text) index → IsCharBoundary text index
boundary_at_spaced_mark text index utf8 first =
    let size = spaced-length text in
    let inside = first.inside in
    boundary_after_low text index utf8 (omega arith) (λ k below.
    low_before_blank text k (omega arith) (is_blank_before _ (first.before k below)))

-- and before one that is read as a blank
pub boundary_at_spaced_blank : (text : List ℕ) (index : ℕ) → index < length text → IsBlank (get_or (spaced text) index 0) → IsCharBoundary text index
boundary_at_spaced_blank text index inside blank =
    IsCharBoundary-before_ascii text index inside (low_before_blank text index inside blank)

pub boundary_at_spaced_end : (text : List ℕ) (end : ℕ) → AreBlanksFrom (spaced text) end → IsCharBoundary text end
boundary_at_spaced_end text end blank =
    let size = spaced-length text in
    let within = blank.within in (
      omega arith,
      λ inside high.
          let small = low_before_blank text end inside (blank.each end (omega arith) (omega arith)) in absurd (omega arith),
    )

-- what is behind an index stands in the text
pub stands_behind : (text : List ℕ) (index : ℕ) → index ≤ length text → IsPartWithin text (drop index text) (length (drop index text))
stands_behind text index within = record {
  before = take index text;
  after = [];
  parts = sym (ap (λ t. take index text ++ t) (append-nil (drop index text)) ∙ take-append-drop index text);
  left_is = omega arith;
}

-- nothing stands at the end of each text
pub stands_at_end : (text : List ℕ) → IsPartWithin text [] 0
stands_at_end text = record { before = text; after = []; parts = sym (append-nil text); left_is = refl }

-- what stands in the back of a text stands in the text
pub stands_within : (text back part : List ℕ) (left : ℕ) → IsPartWithin text back (length back) → IsPartWithin back part left → IsPartWithin text part left
stands_within text back part left outer inner =
    let size = outer.left_is in
    let none : length outer.after ≡ 0 = omega arith in
    by_after outer.after none outer.parts
  where
    by_after : (after : List ℕ) → length after ≡ 0 → text ≡ outer.before ++ (back ++ after) → IsPartWithin text part left
    by_after [] none parts = record {
      before = outer.before ++ inner.before;
      after = inner.after;
      parts = parts ∙ (ap (λ t. outer.before ++ t) (append-nil back ∙ inner.parts)
          ∙ sym (append_assoc outer.before inner.before (part ++ inner.after)));
      left_is = inner.left_is;
    }
    by_after (c ∷ cs) none parts = absurd (omega arith)

-- what stands at the end of a text is the text from some index on
pub behind_is_drop : (text back : List ℕ) → IsPartWithin text back (length back) → back ≡ drop (length text - length back) text
behind_is_drop text back stands =
    let size = stands.left_is in
    let none : length stands.after ≡ 0 = omega arith in
    by_after stands.after none stands.parts
  where
    by_after : (after : List ℕ) → length after ≡ 0 → text ≡ stands.before ++ (back ++ after) → back ≡ drop (length text - length back) text
    by_after [] none parts =
        let whole : text ≡ stands.before ++ back = parts ∙ ap (λ t. stands.before ++ t) (append-nil back) in
        let total : length text ≡ length stands.before + length back = ap length whole ∙ length-append stands.before back in
        let index : length text - length back ≡ length stands.before = omega arith in
        sym (rw index (rw whole (drop_at stands.before back (length stands.before) refl)))
    by_after (c ∷ cs) none parts = absurd (omega arith)

-- two parts of one length at the end of a text are one
pub same_behind : (text a b : List ℕ) → IsPartWithin text a (length a) → IsPartWithin text b (length b) → length a ≡ length b → a ≡ b
same_behind text a b first second size =
    behind_is_drop text a first ∙ (ap (λ n. drop (length text - n) text) size ∙ sym (behind_is_drop text b second))

-- and so are two that are read alike
pub same_read_behind : (text a b : List ℕ) → IsPartWithin text a (length a) → IsPartWithin text b (length b) → spaced a ≡ spaced b → a ≡ b
same_read_behind text a b first second same =
    same_behind text a b first second (sym (spaced-length a) ∙ (ap length same ∙ spaced-length b))

-- a part stands at one place
pub same_part : (text a b : List ℕ) (left : ℕ) → IsPartWithin text a left → IsPartWithin text b left → length a ≡ length b → a ≡ b
same_part text a b left first second size =
    let long_first = ap length first.parts ∙ length-append first.before (a ++ first.after) in
    let long_second = ap length second.parts ∙ length-append second.before (b ++ second.after) in
    let tail_first = length-append a first.after in
    let tail_second = length-append b second.after in
    let left_first = first.left_is in
    let left_second = second.left_is in
    let begin : length first.before ≡ length second.before = omega arith in
    let whole : first.before ++ (a ++ first.after) ≡ second.before ++ (b ++ second.after) = sym first.parts ∙ second.parts in
    fronts a b first.after second.after size (fronts_behind first.before second.before (a ++ first.after) (b ++ second.after) begin whole)
  where
    fronts : (a b x y : List ℕ) → length a ≡ length b → a ++ x ≡ b ++ y → a ≡ b
    fronts [] [] x y size e = refl
    fronts [] (d ∷ ds) x y size e = absurd (omega arith)
    fronts (c ∷ cs) [] x y size e = absurd (omega arith)
    fronts (c ∷ cs) (d ∷ ds) x y size e =
        let rest : cs ++ x ≡ ds ++ y = cc in
        let tail = fronts cs ds x y (omega arith) rest in
        cc

    fronts_behind : (a b x y : List ℕ) → length a ≡ length b → a ++ x ≡ b ++ y → x ≡ y
    fronts_behind [] [] x y size e = e
    fronts_behind [] (d ∷ ds) x y size e = absurd (omega arith)
    fronts_behind (c ∷ cs) [] x y size e = absurd (omega arith)
    fronts_behind (c ∷ cs) (d ∷ ds) x y size e =
        let rest : cs ++ x ≡ ds ++ y = cc in
        fronts_behind cs ds x y (omega arith) rest

-- the blanks that a line begins with are skipped up to its first mark
pub spaced_skip : (text : List ℕ) (index : ℕ) → IsFirstIndex IsMark (spaced text) index → SkipsBlanks (spaced text) (spaced (drop index text))
spaced_skip text index first = rw (spaced-drop index text) (skips_to_mark (spaced text) index first)

-- a front that is read without blanks is read as it is written
pub spaced_front : (text : List ℕ) (n : ℕ) → LacksAny IsBlank (take n (spaced text)) → take n text ≡ take n (spaced text)
spaced_front [] n lacks = refl
spaced_front (c ∷ cs) zero lacks = refl
spaced_front (c ∷ cs) (suc n) lacks =
    let tail = spaced_front cs n lacks.1 in
    elim (shown_or_space c (is_at_line_end cs)) [
      | inl same ↦ let head : shown c (is_at_line_end cs) ≡ c = same in cc
      | inr space ↦ absurd (lacks.0 (inl space.0))
    ]

-- a line is cut at its first blank
pub spaced_cut : (text : List ℕ) (index : ℕ) → IsFirstIndex IsBlank (spaced text) index → IsCutAt IsBlank (spaced text) (take index text) (spaced (drop index text))
spaced_cut text index first =
    let cut = cut_at_index IsBlank (spaced text) index first in
    rw (spaced_front text index cut.lacks, spaced-drop index text) cut

-- or at its end
pub spaced_cut_end : (text : List ℕ) → LacksAny IsBlank (spaced text) → IsCutAt IsBlank (spaced text) text (spaced [])
spaced_cut_end text lacks = subst (λ t. IsCutAt IsBlank (spaced text) t []) (sym (whole text lacks)) (cut_at_end IsBlank (spaced text) lacks)
  where
    whole : (text : List ℕ) → LacksAny IsBlank (spaced text) → text ≡ spaced text
    whole [] lacks = refl
    whole (c ∷ cs) lacks =
        let tail = whole cs lacks.1 in
        elim (shown_or_space c (is_at_line_end cs)) [
          | inl same ↦ let head : shown c (is_at_line_end cs) ≡ c = same in cc
          | inr space ↦ absurd (lacks.0 (inl space.0))
        ]

-- the blanks that a line ends with are dropped
pub spaced_drops : (text : List ℕ) (end : ℕ) → AreBlanksFrom (spaced text) end → (0 < end → IsMark (get_or (spaced text) (end - 1) 0)) → DropsBlanks (spaced text) (take (length (take end text)) (spaced text))
spaced_drops text end blank mark =
    let size = spaced-length text in
    let within = blank.within in
    let short : length (take end text) ≡ end = length-take-le end text (omega arith) in
    rw short (drops_from (spaced text) end blank mark)

-- a line of blanks is skipped whole
pub spaced_skip_all : (text : List ℕ) → LacksAny IsMark (spaced text) → SkipsBlanks (spaced text) (spaced [])
spaced_skip_all text lacks = skips_all (spaced text) lacks

index_within : (P : ℕ → Type 0) (text : List ℕ) (index : ℕ) → IsFirstIndex P (spaced text) index → index < length text
index_within P text index first =
    let inside = first.inside in
    let size = spaced-length text in omega arith

-- what is behind the blanks stands in the text
pub stands_from : (text : List ℕ) (index : ℕ) → IsFirstIndex IsMark (spaced text) index → IsPartWithin text (drop index text) (length (drop index text))
stands_from text index first = let inside = index_within IsMark text index first in stands_behind text index (omega arith)

-- and what is behind a word
pub stands_from_blank : (text : List ℕ) (index : ℕ) → IsFirstIndex IsBlank (spaced text) index → IsPartWithin text (drop index text) (length (drop index text))
stands_from_blank text index first = let inside = index_within IsBlank text index first in stands_behind text index (omega arith)

pub boundary_at_first_blank : (text : List ℕ) (index : ℕ) → IsFirstIndex IsBlank (spaced text) index → IsCharBoundary text index
boundary_at_first_blank text index first = boundary_at_spaced_blank text index (index_within IsBlank text index first) first.here

-- a front is the front of its own length
pub front_of_front : (text : List ℕ) (end : ℕ) → AreBlanksFrom (spaced text) end → take end text ≡ take (length (take end text)) text
front_of_front text end blank =
    let size = spaced-length text in
    let within = blank.within in
    let short : length (take end text) ≡ end = length-take-le end text (omega arith) in
    rw short refl

-- behind the end of a text there are no blanks
pub blanks_at_end : (text : List ℕ) → AreBlanksFrom (spaced text) (length text)
blanks_at_end text =
    let size = spaced-length text in
    record { within = omega arith; each = λ k from below. absurd (omega arith) }

-- a kind that stands nowhere in a text
pub lacks_to_end : (P : ℕ → Type 0) (text : List ℕ) (n : ℕ) → length text ≤ n → ((k : ℕ) → k < n → P (get_or (spaced text) k 0) → ⊥) → LacksAny P (spaced text)
lacks_to_end P text n past none =
    let size = spaced-length text in
    LacksAny-from_get_or P (spaced text) (λ k inside. none k (omega arith))

-- the first byte that is read as a mark
pub first_mark_at : (text : List ℕ) (index : ℕ) → index < length text → (IsBlank (get_or (spaced text) index 0) → ⊥) → ((k : ℕ) → k < index → IsMark (get_or (spaced text) k 0) → ⊥) → IsFirstIndex IsMark (spaced text) index
first_mark_at text index inside here before =
    let size = spaced-length text in
    record { inside = omega arith; here = here; before = before }
