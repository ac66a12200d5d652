-- Lines that set a variable, and where the value stands.
use Rattle.std.proofs.Common.{◌≡◌, ◌≢◌, ◌⊎◌, ℕ, ◌+◌, ◌-◌, ◌/◌, ◌<◌, ◌≤◌, zero, suc, List, [], ◌∷◌, ◌++◌, length, get_or, take, drop, refl, ap, ◌∙◌, sym, subst, inl, inr, arith, length-append, append_assoc}
use Rattle.std.proofs.lemmas.List.{append-nil, take-append-drop, length-take-le, length-drop, get_or-take}
use Rattle.crontab_text.specs.Assignment.{IsNameByte, IsNoNameByte, IsVariableName, IsQuote, HasQuotes, IsInQuotes, IsUnquoted, IsValue, IsAssignment}
use Rattle.crontab_text.specs.Blanks.{IsMark, LacksAny, MayBeginWith, IsCutAt, SkipsBlanks, DropsBlanks}
use Rattle.crontab_text.proofs.AssignmentLemmas.{name_lacks, ends_name, in_quotes, has_quotes, same_assignment, no_name_no_assignment, no_equals_no_assignment}
use Rattle.crontab_text.proofs.BlankLemmas.{lacks_marks, same_skip, same_drop}
use Rattle.crontab_text.proofs.ListLemmas.{same_cut}
use Rattle.crontab_text.proofs.TotalLemmas.{assignment_or_not}
use Rattle.anacron_text.specs.Setting.{quotes_before, bytes_from_value, IsPlacedValue, IsSetting}
use Rattle.anacron_text.specs.Spaced.{is_at_line_end, spaced, IsPartWithin}
use Rattle.anacron_text.proofs.SpacedLemmas.{shown, shown_other, shown_or_space, spaced-length, spaced-at, stands_within, same_part}

-- a quote stays where it stands, and stands where it is read
quote_is_other : (c : ℕ) → IsQuote c → (c ≢ 10) × (c ≢ 92)
quote_is_other c (inl double) = (λ e. omega arith, λ e. omega arith)
quote_is_other c (inr single) = (λ e. omega arith, λ e. omega arith)

quote_stays : (text : List ℕ) (k : ℕ) → k < length text → IsQuote (get_or text k 0) → get_or (spaced text) k 0 ≡ get_or text k 0
quote_stays text k inside quote =
    let other = quote_is_other (get_or text k 0) quote in
    spaced-at text k inside ∙ shown_other (get_or text k 0) (is_at_line_end (drop (k + 1) text)) other.0 other.1

quote_stood : (text : List ℕ) (k : ℕ) → k < length text → IsQuote (get_or (spaced text) k 0) → get_or (spaced text) k 0 ≡ get_or text k 0
quote_stood text k inside quote = elim (shown_or_space (get_or text k 0) (is_at_line_end (drop (k + 1) text))) [
  | inl same ↦ spaced-at text k inside ∙ same
  | inr space ↦ absurd (no_quote _ (spaced-at text k inside ∙ space.0) quote)
]
  where
    no_quote : (c : ℕ) → c ≡ 32 → IsQuote c → ⊥
    no_quote c is (inl double) = omega arith
    no_quote c is (inr single) = omega arith

-- so a front has quotes as it is read where it has them as it is written
quotes_read : (rest : List ℕ) (n : ℕ) → n ≤ length rest → HasQuotes (take n rest) → HasQuotes (take n (spaced rest))
quotes_read rest n within quotes =
    let size = length-take-le n rest within in
    let read_size = length-take-le n (spaced rest) (subst (λ m. n ≤ m) (sym (spaced-length rest)) within) in
    let two = quotes.two in
    let first_at = get_or-take n rest 0 0 (omega arith) in
    let last_at = get_or-take n rest (n - 1) 0 (omega arith) in
    let read_first_at = get_or-take n (spaced rest) 0 0 (omega arith) in
    let read_last_at = get_or-take n (spaced rest) (n - 1) 0 (omega arith) in
    let first : IsQuote (get_or rest 0 0) = subst IsQuote first_at quotes.first in
    let last_is : get_or rest (n - 1) 0 ≡ get_or rest 0 0 = sym last_at ∙ (ap (λ m. get_or (take n rest) (m - 1) 0) (sym size) ∙ (quotes.last ∙ first_at)) in
    let last : IsQuote (get_or rest (n - 1) 0) = subst IsQuote (sym last_is) first in
    let first_stays = quote_stays rest 0 (omega arith) first in
    let last_stays = quote_stays rest (n - 1) (omega arith) last in
    record {
      two = omega arith;
      first = subst IsQuote (sym (read_first_at ∙ first_stays)) first;
      last = ap (λ m. get_or (take n (spaced rest)) (m - 1) 0) read_size ∙ (read_last_at ∙ (last_stays ∙ (last_is ∙ sym (read_first_at ∙ first_stays))));
    }

quotes_written : (rest : List ℕ) (n : ℕ) → n ≤ length rest → HasQuotes (take n (spaced rest)) → HasQuotes (take n rest)
quotes_written rest n within quotes =
    let size = length-take-le n rest within in
    let read_size = length-take-le n (spaced rest) (subst (λ m. n ≤ m) (sym (spaced-length rest)) within) in
    let two = quotes.two in
    let first_at = get_or-take n rest 0 0 (omega arith) in
    let last_at = get_or-take n rest (n - 1) 0 (omega arith) in
    let read_first_at = get_or-take n (spaced rest) 0 0 (omega arith) in
    let read_last_at = get_or-take n (spaced rest) (n - 1) 0 (omega arith) in
    let first : IsQuote (get_or (spaced rest) 0 0) = subst IsQuote read_first_at quotes.first in
    let last_is : get_or (spaced rest) (n - 1) 0 ≡ get_or (spaced rest) 0 0 = sym read_last_at ∙ (ap (λ m. get_or (take n (spaced rest)) (m - 1) 0) (sym read_size) ∙ (quotes.last ∙ read_first_at)) in
    let last : IsQuote (get_or (spaced rest) (n - 1) 0) = subst IsQuote (sym last_is) first in
    let first_stood = quote_stood rest 0 (omega arith) first in
    let last_stood = quote_stood rest (n - 1) (omega arith) last in
    record {
      two = omega arith;
      first = subst IsQuote (first_stood ∙ sym first_at) first;
      last = ap (λ m. get_or (take n rest) (m - 1) 0) size ∙ (last_at ∙ (sym last_stood ∙ (last_is ∙ (first_stood ∙ sym first_at))));
    }

-- what is inside quotes is two bytes shorter
inside_size : (text inside : List ℕ) → IsInQuotes text inside → length text ≡ length inside + 2
inside_size text inside is =
    let long = length-append inside (is.quote ∷ []) in
    let whole = ap length is.parts in
    omega arith

-- a front of n bytes is within its text
short_front : (n : ℕ) (xs : List ℕ) → length (take n xs) ≡ n → n ≤ length xs
short_front zero xs is = omega arith
short_front (suc n) [] is = absurd (omega arith)
short_front (suc n) (c ∷ cs) is = let tail = short_front n cs (omega arith) in omega arith

-- the value of a text, by the steps that find it
pub placed_value : (behind rest trimmed value : List ℕ) → SkipsBlanks (spaced behind) (spaced rest) → IsPartWithin behind rest (length rest)
    → DropsBlanks (spaced rest) (take (length trimmed) (spaced rest)) → trimmed ≡ take (length trimmed) rest → IsUnquoted trimmed value
    → IsPlacedValue behind value (length rest - (length trimmed - length value) / 2)
placed_value behind rest trimmed value skips stands drops front unquoted =
    by_quotes (length trimmed) drops front within unquoted
  where
    within : length trimmed ≤ length rest
    within = short_front (length trimmed) rest (sym (ap length front))

    by_quotes : (n : ℕ) → DropsBlanks (spaced rest) (take n (spaced rest)) → trimmed ≡ take n rest → n ≤ length rest → IsUnquoted trimmed value → IsPlacedValue behind value (length rest - (length trimmed - length value) / 2)
    by_quotes n drops front within (inl quoted) =
        let quotes : HasQuotes (take n (spaced rest)) = quotes_read rest n within (subst HasQuotes front (has_quotes trimmed value quoted)) in
        let inside = in_quotes (take n (spaced rest)) quotes in
        let read_size = inside_size (take n (spaced rest)) _ inside in
        let size = inside_size trimmed value quoted in
        let taken = length-take-le n rest within in
        let read_taken = length-take-le n (spaced rest) (subst (λ m. n ≤ m) (sym (spaced-length rest)) within) in
        let front_size = ap length front in
        let all = spaced-length rest in
        let two : length trimmed - length value ≡ 2 = omega arith in
        let one : (length trimmed - length value) / 2 ≡ 1 = ap (λ m. m / 2) two in
        let parts : rest ≡ (quoted.quote ∷ []) ++ (value ++ (quoted.quote ∷ drop n rest)) =
        sym (take-append-drop n rest) ∙ (ap (λ t. t ++ drop n rest) (sym front ∙ quoted.parts) ∙ ap (λ t. quoted.quote ∷ t) (append_assoc value (quoted.quote ∷ []) (drop n rest))) in
        let tail = length-drop n rest in
        record {
          read = take (length (take n (spaced rest)) - 1 - 1) (drop 1 (take n (spaced rest)));
          is = record { rest = spaced rest; trimmed = take n (spaced rest); skips = skips; drops = drops; unquoted = inl inside };
          left_is = omega arith;
          stands = stands_within behind rest value (length rest - (length trimmed - length value) / 2) stands (record {
            before = quoted.quote ∷ [];
            after = quoted.quote ∷ drop n rest;
            parts = parts;
            left_is = omega arith;
          });
          length_is = omega arith;
        }
    by_quotes n drops front within (inr plain) =
        let none : (other : List ℕ) → IsInQuotes (take n (spaced rest)) other → ⊥ =
        λ other quoted. plain.1 _ (in_quotes trimmed (subst HasQuotes (sym front) (quotes_written rest n within (has_quotes (take n (spaced rest)) other quoted)))) in
        let taken = length-take-le n rest within in
        let read_taken = length-take-le n (spaced rest) (subst (λ m. n ≤ m) (sym (spaced-length rest)) within) in
        let front_size = ap length front in
        let same_size = ap length plain.0 in
        let all = spaced-length rest in
        let no : length trimmed - length value ≡ 0 = omega arith in
        let half : (length trimmed - length value) / 2 ≡ 0 = ap (λ m. m / 2) no in
        let tail = length-drop n rest in
        record {
          read = take n (spaced rest);
          is = record { rest = spaced rest; trimmed = take n (spaced rest); skips = skips; drops = drops; unquoted = inr (refl, none) };
          left_is = omega arith;
          stands = stands_within behind rest value (length rest - (length trimmed - length value) / 2) stands (record {
            before = [];
            after = drop n rest;
            parts = sym (ap (λ t. t ++ drop n rest) (plain.0 ∙ front) ∙ take-append-drop n rest);
            left_is = omega arith;
          });
          length_is = omega arith;
        }

-- a byte that stands in no name stands in none as it is read
no_name_byte_is : (c : ℕ) → IsNoNameByte 32 × (IsNoNameByte 10 × IsNoNameByte 92)
no_name_byte_is c = (λ is. none 32 (inl refl) is, (λ is. none 10 (inr (inl refl)) is, λ is. none 92 (inr (inr refl)) is))
  where
    none : (b : ℕ) → (b ≡ 32) ⊎ ((b ≡ 10) ⊎ (b ≡ 92)) → IsNameByte b → ⊥
    none b which is = grind arith

shown_no_name : (c : ℕ) (cs : List ℕ) → IsNoNameByte c → IsNoNameByte (shown c (is_at_line_end cs))
shown_no_name c cs none = elim (shown_or_space c (is_at_line_end cs)) [
  | inl same ↦ subst IsNoNameByte (sym same) none
  | inr space ↦ subst IsNoNameByte (sym space.0) (no_name_byte_is 0).0
]

shown_name : (c : ℕ) (cs : List ℕ) → (IsNoNameByte c → ⊥) → shown c (is_at_line_end cs) ≡ c
shown_name c cs named = shown_other c (is_at_line_end cs) (λ e. named (subst IsNoNameByte (sym e) (no_name_byte_is 0).1.0)) (λ e. named (subst IsNoNameByte (sym e) (no_name_byte_is 0).1.1))

-- a name is read as it is written
name_read : (name after : List ℕ) → LacksAny IsNoNameByte name → spaced (name ++ after) ≡ name ++ spaced after
name_read [] after lacks = refl
name_read (c ∷ cs) after lacks =
    let head = shown_name c (cs ++ after) lacks.0 in
    let tail = name_read cs after lacks.1 in
    cc

pub name_cut_read : (text name after : List ℕ) → IsCutAt IsNoNameByte text name after → IsCutAt IsNoNameByte (spaced text) name (spaced after)
name_cut_read text name after cut = record {
  parts = ap spaced cut.parts ∙ name_read name after cut.lacks;
  lacks = cut.lacks;
  begins = begins after cut.begins;
}
  where
    begins : (after : List ℕ) → MayBeginWith IsNoNameByte after → MayBeginWith IsNoNameByte (spaced after)
    begins [] none = tt
    begins (c ∷ cs) none = shown_no_name c cs none

-- a text that sets a variable, by the steps that find it
pub setting_from_steps : (text name after rest behind value : List ℕ) (left : ℕ) → IsCutAt IsNoNameByte text name after → IsVariableName name
    → SkipsBlanks (spaced after) (spaced rest) → IsPartWithin after rest (length rest) → rest ≡ 61 ∷ behind → IsPlacedValue behind value left
    → IsSetting text name value left
setting_from_steps text name after rest behind value left cut is_name skips stands equals placed =
    let read_cut = name_cut_read text name after cut in
    let read_rest : spaced rest ≡ 61 ∷ spaced behind = ap spaced equals in
    let after_in_text : IsPartWithin text after (length after) = record {
      before = name;
      after = [];
      parts = cut.parts ∙ ap (λ t. name ++ t) (sym (append-nil after));
      left_is = omega arith;
    } in
    let size = ap length equals in
    let behind_in_rest : IsPartWithin rest behind (length behind) = record {
      before = 61 ∷ [];
      after = [];
      parts = equals ∙ ap (λ t. 61 ∷ t) (sym (append-nil behind));
      left_is = omega arith;
    } in
    let rest_in_text = stands_within text after rest (length rest) after_in_text stands in
    let behind_in_text = stands_within text rest behind (length behind) rest_in_text behind_in_rest in
    record {
      read = placed.read;
      is = record {
        between = skips.blanks;
        behind = spaced behind;
        text_is = read_cut.parts ∙ ap (λ t. name ++ t) (skips.parts ∙ ap (λ t. skips.blanks ++ t) read_rest);
        is_name = is_name;
        between_blank = skips.all;
        value_is = placed.is;
      };
      left_is = placed.left_is;
      stands = stands_within text behind value left behind_in_text placed.stands;
      length_is = placed.length_is;
    }

-- a text whose name is none sets no variable
pub no_name_no_setting : (text name after : List ℕ) → IsCutAt IsNoNameByte text name after → (IsVariableName name → ⊥) → (other value : List ℕ) → IsAssignment (spaced text) other value → ⊥
no_name_no_setting text name after cut none other value is =
    no_name_no_assignment (spaced text) name (spaced after) (name_cut_read text name after cut) none other value is

-- what is read as `=` is one
equals_written : (rest v : List ℕ) → spaced rest ≡ 61 ∷ v → (w : List ℕ) × (rest ≡ 61 ∷ w)
equals_written [] v is = cc
equals_written (c ∷ cs) v is =
    let head : shown c (is_at_line_end cs) ≡ 61 = cc in
    elim (shown_or_space c (is_at_line_end cs)) [
      | inl same ↦ (cs, ap (λ b. b ∷ cs) (sym same ∙ head))
      | inr space ↦ absurd (omega (arith, sym space.0 ∙ head))
    ]

-- nor does one without `=` behind the name
pub no_equals_no_setting : (text name after rest : List ℕ) → IsCutAt IsNoNameByte text name after → SkipsBlanks (spaced after) (spaced rest) → ((v : List ℕ) → rest ≢ 61 ∷ v) → (other value : List ℕ) → IsAssignment (spaced text) other value → ⊥
no_equals_no_setting text name after rest cut skips none other value is =
    no_equals_no_assignment (spaced text) name (spaced after) (spaced rest) (name_cut_read text name after cut) skips
    (λ v e. let (w, written) = equals_written rest v e in none w written) other value is

-- a setting by its assignment as it is read: where the value is read, it's written
setting_of : (text name read : List ℕ) (is : IsAssignment (spaced text) name read) → (value : List ℕ) × IsSetting text name value (bytes_from_value is.behind read is.value_is)
setting_of text name read is =
    let (before, after, parts, size) = value_stands is.behind read is.value_is in
    let whole : spaced text ≡ (name ++ (is.between ++ 61 ∷ before)) ++ (read ++ after) = is.text_is ∙ (ap (λ t. name ++ (is.between ++ 61 ∷ t)) parts ∙ sym (append_assoc name (is.between ++ 61 ∷ before) (read ++ after) ∙ ap (λ t. name ++ t) (append_assoc is.between (61 ∷ before) (read ++ after)))) in
    let (value, stands, long) = written_here text (name ++ (is.between ++ 61 ∷ before)) read after whole in
    (value, record { read = read; is = is; left_is = refl; stands = rw size stands; length_is = long })
  where
    value_stands : (behind read : List ℕ) (is : IsValue behind read) → (before : List ℕ) × (after : List ℕ) × (behind ≡ before ++ (read ++ after)) × (bytes_from_value behind read is ≡ length read + length after)
    value_stands behind read is = by_quotes is.trimmed is.skips is.drops is.unquoted
      where
        by_quotes : (trimmed : List ℕ) (skips : SkipsBlanks behind is.rest) (drops : DropsBlanks is.rest trimmed) (unquoted : IsUnquoted trimmed read)
            → (before : List ℕ) × (after : List ℕ) × (behind ≡ before ++ (read ++ after)) × (length is.rest - quotes_before trimmed read unquoted ≡ length read + length after)
        by_quotes trimmed skips drops (inl quoted) =
            let inner : trimmed ++ drops.blanks ≡ (quoted.quote ∷ []) ++ (read ++ (quoted.quote ∷ drops.blanks)) =
            ap (λ t. t ++ drops.blanks) quoted.parts ∙ ap (λ t. quoted.quote ∷ t) (append_assoc read (quoted.quote ∷ []) drops.blanks) in
            let rest_is = drops.parts ∙ inner in
            let size = ap length rest_is in
            let tail = length-append read (quoted.quote ∷ drops.blanks) in (
              skips.blanks ++ (quoted.quote ∷ []),
              quoted.quote ∷ drops.blanks,
              skips.parts ∙ (ap (λ t. skips.blanks ++ t) rest_is ∙ sym (append_assoc skips.blanks (quoted.quote ∷ []) (read ++ (quoted.quote ∷ drops.blanks)))),
              omega arith,
            )
        by_quotes trimmed skips drops (inr plain) =
            let rest_is : is.rest ≡ read ++ drops.blanks = drops.parts ∙ ap (λ t. t ++ drops.blanks) (sym plain.0) in
            let size = ap length rest_is ∙ length-append read drops.blanks in
            (skips.blanks, drops.blanks, skips.parts ∙ ap (λ t. skips.blanks ++ t) rest_is, omega arith)

    written_here : (text before read after : List ℕ) → spaced text ≡ before ++ (read ++ after) → (value : List ℕ) × IsPartWithin text value (length read + length after) × (length value ≡ length read)
    written_here text [] read after parts =
        let whole = ap length parts ∙ length-append read after in
        let all = spaced-length text in
        let taken = length-take-le (length read) text (omega arith) in
        let dropped = length-drop (length read) text in (
          take (length read) text,
          record { before = []; after = drop (length read) text; parts = sym (take-append-drop (length read) text); left_is = omega arith },
          taken,
        )
    written_here [] (b ∷ before) read after parts = cc
    written_here (c ∷ cs) (b ∷ before) read after parts =
        let tail : spaced cs ≡ before ++ (read ++ after) = cc in
        let (value, stands, long) = written_here cs before read after tail in
        (value, record { before = c ∷ stands.before; after = stands.after; parts = ap (λ t. c ∷ t) stands.parts; left_is = stands.left_is }, long)

-- a text sets a variable, or none
pub setting_or_not : (text : List ℕ) → ((name : List ℕ) × (value : List ℕ) × (left : ℕ) × IsSetting text name value left) ⊎ ((name value : List ℕ) → IsAssignment (spaced text) name value → ⊥)
setting_or_not text = elim (assignment_or_not (spaced text)) [
  | inr none ↦ inr none
  | inl (name, read, is) ↦ let (value, setting) = setting_of text name read is in inl (name, value, _, setting)
]

-- a value stands at one place
quotes_same : (s t x y a b : List ℕ) → s ≡ t → x ≡ y → (p : IsUnquoted s a) (q : IsUnquoted t b) → length x - quotes_before s a p ≡ length y - quotes_before t b q
quotes_same s t x y a b same rest (inl p) (inl q) = ap (λ u. length u - 1) rest
quotes_same s t x y a b same rest (inl p) (inr q) = absurd (q.1 a (subst (λ u. IsInQuotes u a) same p))
quotes_same s t x y a b same rest (inr p) (inl q) = absurd (p.1 b (subst (λ u. IsInQuotes u b) (sym same) q))
quotes_same s t x y a b same rest (inr p) (inr q) = ap (λ u. length u - 0) rest

same_place : (x y a b : List ℕ) → x ≡ y → (p : IsValue x a) (q : IsValue y b) → bytes_from_value x a p ≡ bytes_from_value y b q
same_place x y a b same p q =
    let rest = same_skip y p.rest q.rest (subst (λ t. SkipsBlanks t p.rest) same p.skips) q.skips in
    let trimmed = same_drop q.rest p.trimmed q.trimmed (subst (λ t. DropsBlanks t p.trimmed) rest p.drops) q.drops in
    quotes_same p.trimmed q.trimmed p.rest q.rest a b trimmed rest p.unquoted q.unquoted

-- what is behind the `=` of a text that sets a variable
same_tail : (text a b v w : List ℕ) (first : IsAssignment text a v) (second : IsAssignment text b w) → first.behind ≡ second.behind
same_tail text a b v w first second =
    let p = name_lacks a first.is_name in
    let q = name_lacks b second.is_name in
    let cut = same_cut IsNoNameByte a b (first.between ++ 61 ∷ first.behind) (second.between ++ 61 ∷ second.behind) p q (ends_name first.between first.behind first.between_blank) (ends_name second.between second.behind second.between_blank) (sym first.text_is ∙ second.text_is) in
    let skip = same_cut IsMark first.between second.between (61 ∷ first.behind) (61 ∷ second.behind) (lacks_marks _ first.between_blank) (lacks_marks _ second.between_blank) no_blank no_blank cut.1 in
    let tails = skip.1 in
    cc
  where
    no_blank : IsMark 61
    no_blank (inl space) = omega (arith, space)
    no_blank (inr tab) = omega (arith, tab)

-- a text sets one variable, to one value that stands at one place
pub same_setting : (text a b v w : List ℕ) (l m : ℕ) → IsSetting text a v l → IsSetting text b w m → (a ≡ b) × (v ≡ w) × (l ≡ m)
same_setting text a b v w l m first second =
    let both = same_assignment (spaced text) a b first.read second.read first.is second.is in
    let behind = same_tail (spaced text) a b first.read second.read first.is second.is in
    let place = same_place first.is.behind second.is.behind first.read second.read behind first.is.value_is second.is.value_is in
    let left : l ≡ m = first.left_is ∙ (place ∙ sym second.left_is) in
    let size : length v ≡ length w = first.length_is ∙ (ap length both.1 ∙ sym second.length_is) in
    (both.0, same_part text v w m (subst (IsPartWithin text v) left first.stands) second.stands size, left)

-- a value stands within its text
pub setting_within : (text name value : List ℕ) (left : ℕ) → IsSetting text name value left → left ≤ length text
setting_within text name value left is =
    let size = ap length is.stands.parts ∙ length-append is.stands.before (value ++ is.stands.after) in
    let tail = length-append value is.stands.after in
    let left_is = is.stands.left_is in omega arith
