-- The lines of a text.
use Rattle.std.proofs.Common.{◌≡◌, ◌≢◌, ◌⊎◌, ℕ, ◌+◌, ◌<◌, ◌≤◌, ◌==◌, List, [], ◌∷◌, ◌++◌, length, get_or, refl, ap, ◌∙◌, append_assoc, length-append, sym, inl, inr, Bool, cond, true, false, arith}
use Rattle.std.proofs.lemmas.List.{append-nil, append_cancel_right}
use Rattle.std.proofs.lemmas.Bool.{ne_eqb, cases_eq}
use Rattle.crontab_text.specs.Lines.{Lacks, BeginsWithLine, begin_with, lines_of}
use Rattle.crontab_text.proofs.ListLemmas.{LacksAny-from_get_or}

-- a line up to a newline
pub line_before_newline : (text line after : List ℕ) → text ≡ line ++ 10 ∷ after → ((i : ℕ) → i < length line → get_or line i 0 ≢ 10) → BeginsWithLine text line after
line_before_newline text line after e lacks =
    record { one_line = LacksAny-from_get_or (λ c. c ≡ 10) line lacks; split = inl e }

-- a last line without its newline
pub whole_line : (text : List ℕ) → 0 < length text → ((i : ℕ) → i < length text → get_or text i 0 ≢ 10) → BeginsWithLine text text []
whole_line text some lacks =
    record { one_line = LacksAny-from_get_or (λ c. c ≡ 10) text lacks; split = inr (refl, some, refl) }

-- a first line is shorter than its text, by its newline at most
pub line_size : (text line after : List ℕ) → BeginsWithLine text line after → (front : List ℕ) × (text ≡ front ++ after) × (0 < length front)
line_size text line after begins =
    elim begins.split as (λ _. (front : List ℕ) × (text ≡ front ++ after) × (0 < length front)) [
      | inl e ↦ (line ++ 10 ∷ [], e ∙ sym (append_assoc line (10 ∷ []) after), omega (arith, length-append line (10 ∷ [])))
      | inr e ↦ (line, e.0 ∙ (sym (append-nil line) ∙ ap (λ t. line ++ t) (sym e.2)), e.1)
    ]

-- one more byte before the first line of a text
line_with_byte : (c : ℕ) (text line after : List ℕ) → c ≢ 10 → BeginsWithLine text line after → BeginsWithLine (c ∷ text) (c ∷ line) after
line_with_byte c text line after other begins = record { one_line = (other, begins.one_line); split = split }
  where
    split : (c ∷ text ≡ (c ∷ line) ++ 10 ∷ after) ⊎ ((c ∷ text ≡ c ∷ line) × (0 < length (c ∷ line)) × (after ≡ []))
    split = elim begins.split as (λ _. (c ∷ text ≡ (c ∷ line) ++ 10 ∷ after) ⊎ ((c ∷ text ≡ c ∷ line) × (0 < length (c ∷ line)) × (after ≡ []))) [
      | inl e ↦ inl (ap (λ t. c ∷ t) e)
      | inr e ↦ inr (ap (λ t. c ∷ t) e.0, omega arith, e.2)
    ]

-- each text that isn't empty begins with a line
pub some_line : (text : List ℕ) → 0 < length text → (line : List ℕ) × (after : List ℕ) × BeginsWithLine text line after
some_line [] some = absurd (omega arith)
some_line (c ∷ []) some = elim (cases_eq c 10) [
  | inl is ↦ ([], [], record { one_line = tt; split = inl (ap (λ b. b ∷ []) is) })
  | inr other ↦ (c ∷ [], [], record { one_line = (other, tt); split = inr (refl, omega arith, refl) })
]
some_line (c ∷ d ∷ ds) some =
    let (line, after, begins) = some_line (d ∷ ds) (omega arith) in
    elim (cases_eq c 10) [
      | inl is ↦ ([], d ∷ ds, record { one_line = tt; split = inl (ap (λ b. b ∷ d ∷ ds) is) })
      | inr other ↦ (c ∷ line, after, line_with_byte c (d ∷ ds) line after other begins)
    ]

-- an empty text has no line
pub lines_of-none : lines_of [] ≡ []
unfolding lines_of
lines_of-none = refl

-- a byte before the lines of a text
lines_of-byte : (c : ℕ) (cs : List ℕ) → c ≢ 10 → lines_of (c ∷ cs) ≡ begin_with c (lines_of cs)
unfolding lines_of
lines_of-byte c cs lacks =
    let other : (c == 10) ≡ false = ne_eqb c 10 lacks in
    rw other refl

-- a line up to a newline
pub lines_of-newline : (line after : List ℕ) → Lacks 10 line → lines_of (line ++ 10 ∷ after) ≡ line ∷ lines_of after
unfolding lines_of
lines_of-newline [] after lacks = refl
lines_of-newline (c ∷ cs) after lacks =
    let other : (c == 10) ≡ false = ne_eqb c 10 lacks.0 in
    rw (other, lines_of-newline cs after lacks.1) refl

-- a last line without its newline
pub lines_of-last : (c : ℕ) (cs : List ℕ) → Lacks 10 (c ∷ cs) → lines_of (c ∷ cs) ≡ (c ∷ cs) ∷ []
unfolding lines_of
lines_of-last c [] lacks =
    let other : (c == 10) ≡ false = ne_eqb c 10 lacks.0 in
    rw other refl
lines_of-last c (d ∷ ds) lacks =
    let other : (c == 10) ≡ false = ne_eqb c 10 lacks.0 in
    rw (other, lines_of-last d ds lacks.1) refl

last_of : (text line after : List ℕ) → text ≡ line → 0 < length line → after ≡ [] → Lacks 10 line → lines_of text ≡ line ∷ lines_of after
unfolding lines_of
last_of text [] after is some nil lacks = absurd (omega arith)
last_of text (c ∷ cs) after is some nil lacks = rw (is, nil) (lines_of-last c cs lacks)

-- a text that begins with a line
pub lines_of-begins : (text line after : List ℕ) → BeginsWithLine text line after → lines_of text ≡ line ∷ lines_of after
lines_of-begins text line after begins =
    elim begins.split as (λ _. lines_of text ≡ line ∷ lines_of after) [
      | inl is ↦ rw is (lines_of-newline line after begins.one_line)
      | inr is ↦ last_of text line after is.0 is.1 is.2 begins.one_line
    ]

-- a text that isn't empty has a line
lines_of-some : (text : List ℕ) → 0 < length text → (line : List ℕ) × (after : List ℕ) × (lines_of text ≡ line ∷ lines_of after)
lines_of-some text some =
    let (line, after, begins) = some_line text some in
    (line, after, lines_of-begins text line after begins)

-- behind the first line of a text are the lines of a text
pub lines_of-first : (text line : List ℕ) (more : List (List ℕ)) → lines_of text ≡ line ∷ more → (after : List ℕ) × (more ≡ lines_of after)
unfolding lines_of
lines_of-first [] line more is = cc
lines_of-first (c ∷ cs) line more is =
    let (first, after, begins) = lines_of-some (c ∷ cs) (omega arith) in
    let both : line ∷ more ≡ first ∷ lines_of after = sym is ∙ begins in
    (after, cc)

-- and so behind the first lines
pub lines_of-split : (front : List (List ℕ)) (text : List ℕ) (more : List (List ℕ)) → lines_of text ≡ front ++ more → (after : List ℕ) × (more ≡ lines_of after)
lines_of-split [] text more is = (text, sym is)
lines_of-split (line ∷ lines) text more is =
    let (middle, behind) = lines_of-first text line (lines ++ more) is in
    lines_of-split lines middle more (sym behind)

-- Two texts are joined within a line: the last line of the first and the first line of the second are one.
record JoinsLine (front after : List ℕ) : Type 0 where
  above : List (List ℕ)
  last : List ℕ
  first : List ℕ
  below : List (List ℕ)
  some : 0 < length last
  front_are : lines_of front ≡ above ++ last ∷ []
  after_are : lines_of after ≡ first ∷ below
  are : lines_of (front ++ after) ≡ above ++ (last ++ first) ∷ below

-- how two texts are joined: between two lines, or within one
abbrev Joined : (front after : List ℕ) → Type 0
Joined front after = (lines_of (front ++ after) ≡ lines_of front ++ lines_of after) ⊎ JoinsLine front after

-- one more line before
joined_line : (front after : List ℕ) → Joined front after → Joined (10 ∷ front) after
unfolding lines_of
joined_line front after (inl is) = inl (ap (λ l. [] ∷ l) is)
joined_line front after (inr joins) = inr (record {
  above = [] ∷ joins.above;
  last = joins.last;
  first = joins.first;
  below = joins.below;
  some = joins.some;
  front_are = ap (λ l. [] ∷ l) joins.front_are;
  after_are = joins.after_are;
  are = ap (λ l. [] ∷ l) joins.are;
})

-- one byte alone, within a line
joined_alone : (c : ℕ) (after : List ℕ) → c ≢ 10 → Joined (c ∷ []) after
joined_alone c [] other = inl (sym (rw lines_of-none (append-nil (lines_of (c ∷ [])))))
joined_alone c (d ∷ ds) other =
    let (first, rest, is) = lines_of-some (d ∷ ds) (omega arith) in
    inr (record {
      above = [];
      last = c ∷ [];
      first = first;
      below = lines_of rest;
      some = omega arith;
      front_are = lines_of-byte c [] other ∙ ap (begin_with c) lines_of-none;
      after_are = is;
      are = lines_of-byte c (d ∷ ds) other ∙ ap (begin_with c) is;
    })

-- one more byte before a line
joined_byte : (c d : ℕ) (front after : List ℕ) → c ≢ 10 → Joined (d ∷ front) after → Joined (c ∷ d ∷ front) after
joined_byte c d front after other (inl is) =
    let (line, rest, some) = lines_of-some (d ∷ front) (omega arith) in
    let left = lines_of-byte c ((d ∷ front) ++ after) other ∙ ap (begin_with c) (is ∙ ap (λ l. l ++ lines_of after) some) in
    let right = ap (λ l. l ++ lines_of after) (lines_of-byte c (d ∷ front) other ∙ ap (begin_with c) some) in
    inl (left ∙ sym right)
joined_byte c d front after other (inr joins) = inr (byte_before joins.above joins.front_are joins.are)
  where
    byte_before : (above : List (List ℕ)) → lines_of (d ∷ front) ≡ above ++ joins.last ∷ [] → lines_of ((d ∷ front) ++ after) ≡ above ++ (joins.last ++ joins.first) ∷ joins.below → JoinsLine (c ∷ d ∷ front) after
    byte_before [] front_are are = record {
      above = [];
      last = c ∷ joins.last;
      first = joins.first;
      below = joins.below;
      some = omega arith;
      front_are = lines_of-byte c (d ∷ front) other ∙ ap (begin_with c) front_are;
      after_are = joins.after_are;
      are = lines_of-byte c ((d ∷ front) ++ after) other ∙ ap (begin_with c) are;
    }
    byte_before (line ∷ lines) front_are are = record {
      above = (c ∷ line) ∷ lines;
      last = joins.last;
      first = joins.first;
      below = joins.below;
      some = joins.some;
      front_are = lines_of-byte c (d ∷ front) other ∙ ap (begin_with c) front_are;
      after_are = joins.after_are;
      are = lines_of-byte c ((d ∷ front) ++ after) other ∙ ap (begin_with c) are;
    }

joined : (front after : List ℕ) → Joined front after
joined [] after = inl (sym (ap (λ l. l ++ lines_of after) lines_of-none))
joined (c ∷ []) after = elim (cases_eq c 10) as (λ _. Joined (c ∷ []) after) [
  | inl is ↦ rw is (joined_line [] after (joined [] after))
  | inr other ↦ joined_alone c after other
]
joined (c ∷ d ∷ ds) after = elim (cases_eq c 10) as (λ _. Joined (c ∷ d ∷ ds) after) [
  | inl is ↦ rw is (joined_line (d ∷ ds) after (joined (d ∷ ds) after))
  | inr other ↦ joined_byte c d ds after other (joined (d ∷ ds) after)
]

-- lists that end alike end with the same behind one element
same_element : (a b : List (List ℕ)) (x y : List ℕ) (more : List (List ℕ)) → a ++ x ∷ more ≡ b ++ y ∷ more → x ≡ y
same_element [] [] x y more is = cc
same_element [] (b ∷ bs) x y more is = absurd (omega (arith, ap length is, length-append bs (y ∷ more)))
same_element (a ∷ as') [] x y more is = absurd (omega (arith, ap length is, length-append as' (x ∷ more)))
same_element (a ∷ as') (b ∷ bs) x y more is =
    let rest : as' ++ x ∷ more ≡ bs ++ y ∷ more = cc in
    same_element as' bs x y more rest

-- the front of a text whose lines stand before those of the rest
pub lines_of-front : (lines : List (List ℕ)) (front after : List ℕ) → lines_of (front ++ after) ≡ lines ++ lines_of after → lines_of front ≡ lines
lines_of-front lines front after is = elim (joined front after) as (λ _. lines_of front ≡ lines) [
  | inl both ↦ append_cancel_right (lines_of front) lines (lines_of after) (sym both ∙ is)
  | inr joins ↦
      let cut = sym joins.are ∙ is ∙ ap (λ l. lines ++ l) joins.after_are in
      let same = same_element joins.above lines (joins.last ++ joins.first) joins.first joins.below cut in
      absurd (omega (arith, ap length same, length-append joins.last joins.first, joins.some))
]

-- the lines that stand before those of the rest, and how many they are
pub lines_of-count : (lines : List (List ℕ)) (text rest : List ℕ) → lines_of text ≡ lines ++ lines_of rest → length (lines_of text) ≡ length lines + length (lines_of rest)
lines_of-count lines text rest is = ap length is ∙ length-append lines (lines_of rest)

begun : (c : ℕ) (lines : List (List ℕ)) (size : ℕ) → length lines ≤ size → length (begin_with c lines) ≤ size + 1
begun c [] size le = omega arith
begun c (line ∷ lines) size le = omega (arith, le)

either : (b : Bool) (c size : ℕ) (lines : List (List ℕ)) → length lines ≤ size → length (cond b ([] ∷ lines) (begin_with c lines)) ≤ size + 1
either true c size lines le = omega (arith, le)
either false c size lines le = begun c lines size le

-- a text has no more lines than bytes
pub lines_at_most : (text : List ℕ) → length (lines_of text) ≤ length text
unfolding lines_of
lines_at_most [] = omega arith
lines_at_most (c ∷ cs) =
    let some = either (c == 10) c (length cs) (lines_of cs) (lines_at_most cs) in
    omega (arith, some)
