-- A text is one of which each line is text.
use Rattle.std.proofs.Common.{◌≡◌, ◌≢◌, ◌⊎◌, inl, inr, ℕ, zero, suc, ◌+◌, ◌-◌, ◌<◌, ◌≤◌, List, [], ◌∷◌, ◌++◌, length, get_or, take, drop, refl, ap, sym, ◌∙◌, subst, arith, append_assoc, length-append, add-one}
use Rattle.std.specs.List.{AllByRecursion}
use Rattle.std.specs.Str.{IsUtf8, IsAscii}
use Rattle.std.proofs.lemmas.List.{append-nil, take_rest}
use Rattle.std.proofs.Math.Seq.{drop-append_seam, take-append_seam}
use Rattle.std.proofs.lemmas.Str.{IsUtf8-nil, IsUtf8-append, IsUtf8-take, IsUtf8-drop, IsUtf8-from_ascii, IsCharBoundary-before_ascii, IsCharBoundary-after_ascii}
use Rattle.std.proofs.lemmas.Bool.{cases_eq}
use Rattle.run_text.specs.declared.refusal.Refusal.{Refusal}
use Rattle.crontab_text.specs.Blanks.{IsFirstIndex, LacksAny}
use Rattle.crontab_text.specs.Lines.{lines_of}
use Rattle.crontab_text.proofs.LineLemmas.{lines_of-newline, lines_of-last}
use Rattle.job_table.specs.Table.{at_line}
use Rattle.run_input.specs.Text.{IsText, AreTexts, IsNotText, PassesText, BeginsWithNoText}
use Rattle.cron_fields.specs.declared.cause.Cause.TheVariants.{NotText}

-- the byte stands nowhere in the text
abbrev Lacks : ℕ → List ℕ → Type 0
Lacks byte text = LacksAny (λ c. c ≡ byte) text

-- the byte isn't 0
abbrev NotZero : ℕ → Type 0
NotZero byte = byte ≢ 0

all_append : {T : Type 0} (P : T → Type 0) (a b : List T) → AllByRecursion P a → AllByRecursion P b → AllByRecursion P (a ++ b)
all_append P [] b pa pb = pb
all_append P (x ∷ xs) b pa pb = (pa.0, all_append P xs b pa.1 pb)

all_front : {T : Type 0} (P : T → Type 0) (a b : List T) → AllByRecursion P (a ++ b) → AllByRecursion P a
all_front P [] b p = tt
all_front P (x ∷ xs) b p = (p.0, all_front P xs b p.1)

all_back : {T : Type 0} (P : T → Type 0) (a b : List T) → AllByRecursion P (a ++ b) → AllByRecursion P b
all_back P [] b p = p
all_back P (x ∷ xs) b p = all_back P xs b p.1

newline_ascii : IsAscii (10 ∷ [])
newline_ascii zero = omega arith
newline_ascii (suc i) = omega arith

seam_byte : (front : List ℕ) (c : ℕ) (cs : List ℕ) → get_or (front ++ c ∷ cs) (length front) 0 ≡ c
seam_byte [] c cs = refl
seam_byte (f ∷ fs) c cs = seam_byte fs c cs

seam_inside : (front : List ℕ) (c : ℕ) (cs : List ℕ) → length front < length (front ++ c ∷ cs)
seam_inside front c cs = omega (arith, length-append front (c ∷ cs))

-- a text may be cut at a newline, into two texts
before_newline : (front cs : List ℕ) → IsUtf8 (front ++ 10 ∷ cs) → IsUtf8 front
before_newline front cs utf8 =
    let small : get_or (front ++ 10 ∷ cs) (length front) 0 < 128 = omega (arith, seam_byte front 10 cs) in
    subst IsUtf8 (take-append_seam front (10 ∷ cs))
    (IsUtf8-take (front ++ 10 ∷ cs) (length front) utf8 (IsCharBoundary-before_ascii (front ++ 10 ∷ cs) (length front) (seam_inside front 10 cs) small))

behind_newline : (front cs : List ℕ) → IsUtf8 (front ++ 10 ∷ cs) → IsUtf8 cs
behind_newline front cs utf8 =
    let small : get_or (front ++ 10 ∷ cs) (length front) 0 < 128 = omega (arith, seam_byte front 10 cs) in
    let whole : front ++ 10 ∷ cs ≡ (front ++ 10 ∷ []) ++ cs = sym (append_assoc front (10 ∷ []) cs) in
    let size : length (front ++ 10 ∷ []) ≡ length front + 1 = length-append front (10 ∷ []) in
    let cut : drop (length front + 1) (front ++ 10 ∷ cs) ≡ cs = rw (whole, sym size) (drop-append_seam (front ++ 10 ∷ []) cs) in
    subst IsUtf8 cut
    (IsUtf8-drop (front ++ 10 ∷ cs) (length front + 1) utf8 (IsCharBoundary-after_ascii (front ++ 10 ∷ cs) (length front) utf8 (seam_inside front 10 cs) small))

at_newline : (front cs : List ℕ) → IsText front → IsText cs → IsText (front ++ 10 ∷ cs)
at_newline front cs first rest = record {
  utf8 = IsUtf8-append front (10 ∷ cs) first.utf8 (IsUtf8-append (10 ∷ []) cs (IsUtf8-from_ascii (10 ∷ []) newline_ascii) rest.utf8);
  no_zero = all_append NotZero front (10 ∷ cs) first.no_zero ((λ e. omega arith), rest.no_zero);
}

-- one byte more of a line
one_more : (front : List ℕ) (c : ℕ) (cs : List ℕ) → (front ++ c ∷ []) ++ cs ≡ front ++ c ∷ cs
one_more front c cs = append_assoc front (c ∷ []) cs

longer_line : (front : List ℕ) (c : ℕ) → Lacks 10 front → c ≢ 10 → Lacks 10 (front ++ c ∷ [])
longer_line front c lacks other = all_append (λ x. x ≡ 10 → ⊥) front (c ∷ []) lacks (other, tt)

last_line : (front : List ℕ) → Lacks 10 front → IsText front → AreTexts (lines_of front)
unfolding lines_of
last_line [] lacks text = tt
last_line (c ∷ cs) lacks text = subst AreTexts (sym (lines_of-last c cs lacks)) (text, tt)

of_last_line : (front : List ℕ) → Lacks 10 front → AreTexts (lines_of front) → IsText front
unfolding lines_of
of_last_line [] lacks texts = record { utf8 = IsUtf8-nil; no_zero = tt }
of_last_line (c ∷ cs) lacks texts = (subst AreTexts (lines_of-last c cs lacks) texts).0

-- each line of a text is text
lines_are : (bytes front : List ℕ) → Lacks 10 front → IsText (front ++ bytes) → AreTexts (lines_of (front ++ bytes))
lines_are [] front lacks text =
    subst (λ b. AreTexts (lines_of b)) (sym (append-nil front)) (last_line front lacks (subst IsText (append-nil front) text))
lines_are (c ∷ cs) front lacks text = elim (cases_eq c 10) as (λ _. AreTexts (lines_of (front ++ c ∷ cs))) [
  | inl is ↦
      (let whole : IsText (front ++ 10 ∷ cs) = subst (λ x. IsText (front ++ x ∷ cs)) is text in
      let rest : IsText cs = record { utf8 = behind_newline front cs whole.utf8; no_zero = (all_back NotZero front (10 ∷ cs) whole.no_zero).1 } in
      let first : IsText front = record { utf8 = before_newline front cs whole.utf8; no_zero = all_front NotZero front (10 ∷ cs) whole.no_zero } in
      subst (λ x. AreTexts (lines_of (front ++ x ∷ cs))) (sym is)
      (subst AreTexts (sym (lines_of-newline front cs lacks)) (first, lines_are cs [] tt rest)))
  | inr other ↦
      subst (λ b. AreTexts (lines_of b)) (one_more front c cs)
      (lines_are cs (front ++ c ∷ []) (longer_line front c lacks other) (subst IsText (sym (one_more front c cs)) text))
]

-- bytes whose lines are text are one
lines_make : (bytes front : List ℕ) → Lacks 10 front → AreTexts (lines_of (front ++ bytes)) → IsText (front ++ bytes)
lines_make [] front lacks texts =
    subst IsText (sym (append-nil front)) (of_last_line front lacks (subst (λ b. AreTexts (lines_of b)) (append-nil front) texts))
lines_make (c ∷ cs) front lacks texts = elim (cases_eq c 10) as (λ _. IsText (front ++ c ∷ cs)) [
  | inl is ↦
      (let cut : AreTexts (front ∷ lines_of cs) =
      subst AreTexts (lines_of-newline front cs lacks) (subst (λ x. AreTexts (lines_of (front ++ x ∷ cs))) is texts) in
      subst (λ x. IsText (front ++ x ∷ cs)) (sym is) (at_newline front cs cut.0 (lines_make cs [] tt cut.1)))
  | inr other ↦
      subst IsText (one_more front c cs)
      (lines_make cs (front ++ c ∷ []) (longer_line front c lacks other) (subst (λ b. AreTexts (lines_of b)) (sym (one_more front c cs)) texts))
]

pub texts_of : (bytes : List ℕ) → IsText bytes → AreTexts (lines_of bytes)
texts_of bytes text = lines_are bytes [] tt text

pub text_of : (bytes : List ℕ) → AreTexts (lines_of bytes) → IsText bytes
text_of bytes texts = lines_make bytes [] tt texts

-- of bytes with a line at fault not each line is text
texts_lack : (lines above : List (List ℕ)) (line : List ℕ) (below : List (List ℕ)) → lines ≡ above ++ line ∷ below → AreTexts lines → IsText line
texts_lack lines above line below is texts = (all_back IsText above (line ∷ below) (subst AreTexts is texts)).0

pub never_both : (bytes : List ℕ) (refusal : Refusal) → AreTexts (lines_of bytes) → IsNotText bytes refusal → ⊥
never_both bytes refusal texts fault = fault.no_text (texts_lack (lines_of bytes) fault.above fault.line fault.below fault.lines texts)

-- the first line at fault is one
same_first : (a b : List (List ℕ)) (x y : List ℕ) (c d : List (List ℕ)) → a ++ x ∷ c ≡ b ++ y ∷ d → AreTexts a → AreTexts b
    → (IsText x → ⊥) → (IsText y → ⊥) → length a ≡ length b
same_first [] [] x y c d is ta tb nx ny = refl
same_first [] (b ∷ bs) x y c d is ta tb nx ny = let head : b ≡ x = cc in absurd (nx (subst IsText head tb.0))
same_first (a ∷ as') [] x y c d is ta tb nx ny = let head : a ≡ y = cc in absurd (ny (subst IsText head ta.0))
same_first (a ∷ as') (b ∷ bs) x y c d is ta tb nx ny =
    let rest : as' ++ x ∷ c ≡ bs ++ y ∷ d = cc in
    ap suc (same_first as' bs x y c d rest ta.1 tb.1 nx ny)

pub one_fault : (bytes : List ℕ) (a b : Refusal) → IsNotText bytes a → IsNotText bytes b → a ≡ b
one_fault bytes a b first second =
    let same : length first.above ≡ length second.above =
    same_first first.above second.above first.line second.line first.below second.below (sym first.lines ∙ second.lines) first.texts second.texts first.no_text second.no_text in
    first.is ∙ ap (λ (n : ℕ). at_line (n + 1) NotText) same ∙ sym second.is

-- what was passed line by line: so many lines, each of which is text
pub record Passed (bytes rest : List ℕ) (number : ℕ) : Type 0 where
  pub above : List (List ℕ)
  pub lines : lines_of bytes ≡ above ++ lines_of rest
  pub texts : AreTexts above
  pub count : length above + 1 ≡ number

pub passed_none : (bytes : List ℕ) → Passed bytes bytes 1
passed_none bytes = record { above = []; lines = refl; texts = tt; count = refl }

pub passed_more : (bytes rest after : List ℕ) (number : ℕ) → Passed bytes rest number → PassesText rest after → Passed bytes after (number + 1)
passed_more bytes rest after number passed next = record {
  above = passed.above ++ next.line ∷ [];
  lines = passed.lines ∙ ap (λ l. passed.above ++ l) next.lines ∙ sym (append_assoc passed.above (next.line ∷ []) (lines_of after));
  texts = all_append IsText passed.above (next.line ∷ []) passed.texts (next.is_text, tt);
  count = omega (arith, length-append passed.above (next.line ∷ []), passed.count);
}

-- the line behind those that were passed is the first at fault, where some line is
pub first_at_fault : (bytes rest : List ℕ) (number : ℕ) → Passed bytes rest number → (rest ≡ []) ⊎ BeginsWithNoText rest
    → (AreTexts (lines_of bytes) → ⊥) → IsNotText bytes (at_line number NotText)
unfolding lines_of
first_at_fault bytes rest number passed (inl none) fault =
    let all : lines_of bytes ≡ passed.above = passed.lines ∙ ap (λ r. passed.above ++ lines_of r) none ∙ append-nil passed.above in
    absurd (fault (subst AreTexts (sym all) passed.texts))
first_at_fault bytes rest number passed (inr begins) fault = record {
  above = passed.above;
  line = begins.line;
  below = begins.below;
  lines = passed.lines ∙ ap (λ l. passed.above ++ l) begins.lines;
  texts = passed.texts;
  no_text = begins.no_text;
  is = ap (λ (n : ℕ). at_line n NotText) (sym passed.count);
}

-- the first line of bytes, by its newline
lacks_before : (text : List ℕ) (index : ℕ) → index ≤ length text → ((k : ℕ) → k < index → get_or text k 0 ≡ 10 → ⊥) → Lacks 10 (take index text)
lacks_before text zero fits before = tt
lacks_before [] (suc index) fits before = tt
lacks_before (c ∷ cs) (suc index) fits before =
    (before 0 (omega arith), lacks_before cs index (omega arith) (λ k below. before (suc k) (omega arith)))

cut_at : (text : List ℕ) (index : ℕ) → index < length text → get_or text index 0 ≡ 10 → text ≡ take index text ++ 10 ∷ drop (suc index) text
cut_at [] index inside here = absurd (omega arith)
cut_at (c ∷ cs) zero inside here = ap (λ (x : ℕ). x ∷ cs) here
cut_at (c ∷ cs) (suc index) inside here = ap (λ (l : List ℕ). c ∷ l) (cut_at cs index (omega arith) here)

pub line_at : (text : List ℕ) (index : ℕ) → IsFirstIndex (λ byte. byte ≡ 10) text index
    → lines_of text ≡ take index text ∷ lines_of (take (length text - (index + 1)) (drop (index + 1) text))
line_at text index first =
    let lacks = lacks_before text index (omega (arith, first.inside)) first.before in
    let cut = cut_at text index first.inside first.here in
    let back : drop (suc index) text ≡ drop (index + 1) text = rw (add-one index) refl in
    ap lines_of cut ∙ lines_of-newline (take index text) (drop (suc index) text) lacks
    ∙ ap (λ (l : List ℕ). take index text ∷ lines_of l) (back ∙ sym (take_rest text (index + 1)))

pub only_line : (text : List ℕ) → 0 < length text → Lacks 10 text → lines_of text ≡ text ∷ lines_of []
unfolding lines_of
only_line [] some lacks = absurd (omega arith)
only_line (c ∷ cs) some lacks = lines_of-last c cs lacks
