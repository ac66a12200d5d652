-- Bytes that are read as text.
use Rattle.std.proofs.Common.{Bool, true, false, cond, codes, map, inl, inr, ◌≡◌, ◌≢◌, ◌⊎◌, ℕ, ◌+◌, ◌<◌, ◌≤◌, List, [], ◌∷◌, ◌++◌, length, refl, ap, ◌∙◌, sym, subst, arith, append_assoc, length-append}
use Rattle.std.proofs.lemmas.List.{append-nil, append_cancel_right, map-append}
use Rattle.std.proofs.lemmas.Bool.{ne_eqb}
use Rattle.cron_io.specs.Lines.{text_of_lines}
use Rattle.cron_io.proofs.LineLemmas.{text_of_lines-append}
use Rattle.std.specs.Str.{IsUtf8, is_utf8}
use Rattle.std.proofs.lemmas.Str.{IsUtf8-from_is_utf8, is_utf8-from_IsUtf8}
use Rattle.crontab_text.specs.Lines.{BeginsWithLine, Lacks, lines_of}
use Rattle.crontab_text.proofs.LineLemmas.{lines_of-begins, lines_of-none, some_line}
use Rattle.audit_text.specs.Difference.{IsFirstDifference}
use Rattle.audit_text.specs.Readable.{IsReadText, line_as_read, missing_newline}
use Rattle.audit_text.specs.Steps.{IsCutBetween}
use Rattle.audit_text.proofs.CutLemmas.{cut_all, cut_further, cut_none}

-- ---- two texts, line by line

-- the lines so far are the same
pub record AreSame (text expected rest wanted : List ℕ) (number : ℕ) : Type 0 where
  pub same : List (List ℕ)
  pub text_are : lines_of text ≡ same ++ lines_of rest
  pub expected_are : lines_of expected ≡ same ++ lines_of wanted
  pub number_is : number ≡ length same + 1
  pub few : number + length rest ≤ length text + 1

pub same_none : (text expected : List ℕ) → AreSame text expected text expected 1
same_none text expected = record { same = []; text_are = refl; expected_are = refl; number_is = refl; few = omega arith }

pub same_more : (text expected rest wanted line after behind : List ℕ) (number : ℕ) → AreSame text expected rest wanted number → BeginsWithLine rest line after
    → BeginsWithLine wanted line behind → length after < length rest → AreSame text expected after behind (number + 1)
same_more text expected rest wanted line after behind number same begins also shorter = record {
  same = same.same ++ line ∷ [];
  text_are = same.text_are ∙ ap (λ l. same.same ++ l) (lines_of-begins rest line after begins) ∙ sym (append_assoc same.same (line ∷ []) (lines_of after));
  expected_are = same.expected_are ∙ ap (λ l. same.same ++ l) (lines_of-begins wanted line behind also) ∙ sym (append_assoc same.same (line ∷ []) (lines_of behind));
  number_is = omega (arith, same.number_is, length-append same.same (line ∷ []));
  few = omega (arith, same.few);
}

-- the next lines differ
pub differs_here : (text expected rest wanted line after other behind : List ℕ) (number : ℕ) → AreSame text expected rest wanted number → BeginsWithLine rest line after
    → BeginsWithLine wanted other behind → line ≢ other → IsFirstDifference (lines_of text) (lines_of expected) number
differs_here text expected rest wanted line after other behind number same begins also differ = record {
  same = same.same;
  rest = line ∷ lines_of after;
  other = other ∷ lines_of behind;
  lines_are = same.text_are ∙ ap (λ l. same.same ++ l) (lines_of-begins rest line after begins);
  expected_are = same.expected_are ∙ ap (λ l. same.same ++ l) (lines_of-begins wanted other behind also);
  differ = differ;
  number_is = same.number_is;
}

-- no more lines are expected
pub ends_here : (text expected rest wanted line after : List ℕ) (number : ℕ) → AreSame text expected rest wanted number → BeginsWithLine rest line after
    → wanted ≡ [] → IsFirstDifference (lines_of text) (lines_of expected) number
ends_here text expected rest wanted line after number same begins none = record {
  same = same.same;
  rest = line ∷ lines_of after;
  other = [];
  lines_are = same.text_are ∙ ap (λ l. same.same ++ l) (lines_of-begins rest line after begins);
  expected_are = same.expected_are ∙ ap (λ t. same.same ++ lines_of t) none ∙ ap (λ l. same.same ++ l) lines_of-none;
  differ = tt;
  number_is = same.number_is;
}

-- a line is missing
pub misses_here : (text expected rest wanted : List ℕ) (number : ℕ) → AreSame text expected rest wanted number → rest ≡ [] → 0 < length wanted
    → IsFirstDifference (lines_of text) (lines_of expected) number
misses_here text expected rest wanted number same none some =
    let (line, after, begins) = some_line wanted some in
    record {
      same = same.same;
      rest = [];
      other = line ∷ lines_of after;
      lines_are = same.text_are ∙ ap (λ t. same.same ++ lines_of t) none ∙ ap (λ l. same.same ++ l) lines_of-none;
      expected_are = same.expected_are ∙ ap (λ l. same.same ++ l) (lines_of-begins wanted line after begins);
      differ = tt;
      number_is = same.number_is;
    }

-- ---- lines as they are read

pub read_as_it_is : (line : List ℕ) → IsUtf8 line → line_as_read line ≡ line
read_as_it_is line utf8 = ap (λ test. cond test line (codes "?")) (is_utf8-from_IsUtf8 line utf8)

pub read_as_none : (line : List ℕ) → (IsUtf8 line → ⊥) → line_as_read line ≡ codes "?"
read_as_none line none = by (is_utf8 line) refl
  where
    by : (test : Bool) → is_utf8 line ≡ test → cond test line (codes "?") ≡ codes "?"
    by true is = absurd (none (IsUtf8-from_is_utf8 line is))
    by false is = refl

-- ---- bytes, line by line

pub missing_ended : (front : List ℕ) → missing_newline (front ++ 10 ∷ []) ≡ []
missing_ended [] = refl
missing_ended (c ∷ []) = refl
missing_ended (c ∷ d ∷ ds) = missing_ended (d ∷ ds)

missing_alone : (line : List ℕ) → 0 < length line → Lacks 10 line → missing_newline line ≡ 10 ∷ []
missing_alone [] some lacks = absurd (omega arith)
missing_alone (c ∷ []) some lacks = ap (λ test. cond test [] (10 ∷ [])) (ne_eqb c 10 lacks.0)
missing_alone (c ∷ d ∷ ds) some lacks = missing_alone (d ∷ ds) (omega arith) lacks.1

missing_open : (front line : List ℕ) → 0 < length line → Lacks 10 line → missing_newline (front ++ line) ≡ 10 ∷ []
missing_open [] line some lacks = missing_alone line some lacks
missing_open (c ∷ []) [] some lacks = absurd (omega arith)
missing_open (c ∷ []) (d ∷ ds) some lacks = missing_alone (d ∷ ds) some lacks
missing_open (c ∷ d ∷ ds) line some lacks = missing_open (d ∷ ds) line some lacks

-- the text so far is that of the lines so far
pub record IsReadSoFar (bytes rest text : List ℕ) : Type 0 where
  pub front : List ℕ
  pub cut : IsCutBetween bytes front rest
  pub is : IsReadText front text
  pub ended : (missing_newline front ≡ []) ⊎ (rest ≡ [])

pub read_nothing : (bytes : List ℕ) → IsReadSoFar bytes bytes []
read_nothing bytes = record {
  front = [];
  cut = cut_none bytes;
  is = sym (ap (λ l. text_of_lines (map line_as_read l)) lines_of-none);
  ended = inl refl;
}

-- the text of one line more
more_lines : (front : List (List ℕ)) (line : List ℕ) → text_of_lines (map line_as_read (front ++ line ∷ [])) ≡ text_of_lines (map line_as_read front) ++ (line_as_read line ++ 10 ∷ [])
more_lines front line =
    ap text_of_lines (map-append line_as_read front (line ∷ [])) ∙ text_of_lines-append (map line_as_read front) (line_as_read line ∷ [])
    ∙ ap (λ t. text_of_lines (map line_as_read front) ++ t) (append-nil (line_as_read line ++ 10 ∷ []))

-- what comes behind a front that ended with its newline
behind_ended : (front rest text : List ℕ) → 0 < length rest → IsReadText front text → (missing_newline front ≡ []) ⊎ (rest ≡ []) → text ≡ text_of_lines (map line_as_read (lines_of front))
behind_ended front rest text some is (inl none) = sym (append-nil text) ∙ ap (λ t. text ++ t) (sym none) ∙ is
behind_ended front rest text some is (inr none) = absurd (omega (arith, ap length none))

pub read_ended : (bytes rest text line after : List ℕ) → IsReadSoFar bytes rest text → BeginsWithLine rest line after → length line < length rest
    → IsReadSoFar bytes after ((text ++ line_as_read line) ++ 10 ∷ [])
read_ended bytes rest text line after so_far begins longer =
    let next = cut_further bytes so_far.front rest line after so_far.cut begins in
    let so : text ≡ text_of_lines (map line_as_read (lines_of so_far.front)) = behind_ended so_far.front rest text (omega arith) so_far.is so_far.ended in
    let piece : next.piece ≡ line ++ 10 ∷ [] = by_split next.piece next.now_is begins.split in
    let none : missing_newline (so_far.front ++ next.piece) ≡ [] =
    ap missing_newline (ap (λ p. so_far.front ++ p) piece ∙ sym (append_assoc so_far.front line (10 ∷ []))) ∙ missing_ended (so_far.front ++ line) in
    record {
      front = so_far.front ++ next.piece;
      cut = next.cut;
      is = ap (λ t. ((text ++ line_as_read line) ++ 10 ∷ []) ++ t) none ∙ append-nil ((text ++ line_as_read line) ++ 10 ∷ []) ∙ append_assoc text (line_as_read line) (10 ∷ [])
          ∙ ap (λ t. t ++ (line_as_read line ++ 10 ∷ [])) so ∙ sym (more_lines (lines_of so_far.front) line) ∙ ap (λ l. text_of_lines (map line_as_read l)) (sym next.lines);
      ended = inl none;
    }
  where
    by_split : (piece : List ℕ) → rest ≡ piece ++ after → (rest ≡ line ++ 10 ∷ after) ⊎ ((rest ≡ line) × (0 < length line) × (after ≡ [])) → piece ≡ line ++ 10 ∷ []
    by_split piece is (inl cut) = append_cancel_right piece (line ++ 10 ∷ []) after (sym is ∙ cut ∙ sym (append_assoc line (10 ∷ []) after))
    by_split piece is (inr last) = absurd (omega (arith, ap length last.0))

pub read_last : (bytes rest text line after : List ℕ) → IsReadSoFar bytes rest text → BeginsWithLine rest line after → (length line < length rest → ⊥)
    → IsReadSoFar bytes after (text ++ line_as_read line)
read_last bytes rest text line after so_far begins no_longer =
    let next = cut_further bytes so_far.front rest line after so_far.cut begins in
    let last : (rest ≡ line) × (0 < length line) × (after ≡ []) = by_split begins.split in
    let size = ap length last.0 in
    let some = last.1 in
    let so : text ≡ text_of_lines (map line_as_read (lines_of so_far.front)) = behind_ended so_far.front rest text (omega arith) so_far.is so_far.ended in
    let piece : next.piece ≡ line = sym (append-nil next.piece) ∙ ap (λ t. next.piece ++ t) (sym last.2) ∙ sym next.now_is ∙ last.0 in
    let one : missing_newline (so_far.front ++ next.piece) ≡ 10 ∷ [] = ap (λ p. missing_newline (so_far.front ++ p)) piece ∙ missing_open so_far.front line some begins.one_line in
    record {
      front = so_far.front ++ next.piece;
      cut = next.cut;
      is = ap (λ t. (text ++ line_as_read line) ++ t) one ∙ append_assoc text (line_as_read line) (10 ∷ [])
          ∙ ap (λ t. t ++ (line_as_read line ++ 10 ∷ [])) so ∙ sym (more_lines (lines_of so_far.front) line) ∙ ap (λ l. text_of_lines (map line_as_read l)) (sym next.lines);
      ended = inr last.2;
    }
  where
    by_split : (rest ≡ line ++ 10 ∷ after) ⊎ ((rest ≡ line) × (0 < length line) × (after ≡ [])) → (rest ≡ line) × (0 < length line) × (after ≡ [])
    by_split (inl cut) = absurd (no_longer (omega (arith, ap length cut, length-append line (10 ∷ after))))
    by_split (inr last) = last

pub read_all_of_it : (bytes rest text : List ℕ) → IsReadSoFar bytes rest text → rest ≡ [] → IsReadText bytes text
read_all_of_it bytes rest text so_far none =
    subst (λ b. IsReadText b text) (sym (cut_all bytes so_far.front (subst (IsCutBetween bytes so_far.front) none so_far.cut))) so_far.is
