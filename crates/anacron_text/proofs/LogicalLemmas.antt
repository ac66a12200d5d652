-- The logical lines of a text.
use Rattle.std.proofs.Common.{◌≡◌, ◌≢◌, ◌⊎◌, ℕ, ◌+◌, ◌-◌, ◌*◌, ◌<◌, ◌≤◌, ◌==◌, zero, suc, true, false, cond, List, [], ◌∷◌, ◌++◌, length, get_or, take, drop, count_by, refl, ap, ◌∙◌, sym, subst, inl, inr, arith, length-append, append_assoc, add-one, drop-cons, Option, Some, None, Bor}
use Rattle.std.specs.Option.{MatchOption, unwrap_or}
use Rattle.std.specs.List.{AllByRecursion}
use Rattle.std.proofs.lemmas.Bool.{ne_eqb, cases_lt, cases_eq}
use Rattle.std.proofs.lemmas.Bool.Decides.{nat_tests}
use Rattle.std.proofs.lemmas.List.{append-nil, take-append-drop, take_all, length-take-le, drop_at, take_at, drop-drop, get_or-drop}
use Rattle.std.proofs.lemmas.List.Sums.{sum_by-append}
use Rattle.crontab_text.specs.Blanks.{MayBeginWith, MayEndWith}
use Rattle.crontab_text.specs.Lines.{Lacks, BeginsWithLine, lines_of}
use Rattle.crontab_text.proofs.LineLemmas.{lines_of-none, lines_of-begins, some_line, line_size}
use Rattle.crontab_text.proofs.ListLemmas.{MayEndWith-append}
use Rattle.anacron_text.specs.LogicalLines.{is_continued, before_lines, joined, logical_lines, BeginsWithLogicalLine, IsLogicalEnd, IsLineEnd, IsContinuedAt}

-- the newlines of a text
abbrev newlines : List ℕ → ℕ
newlines text = count_by (λ c. c == 10) text

newlines-append : (a b : List ℕ) → newlines (a ++ b) ≡ newlines a + newlines b
newlines-append a b = sum_by-append (λ c. cond (c == 10) 1 0) a b

newlines-none : (line : List ℕ) → Lacks 10 line → newlines line ≡ 0
newlines-none [] lacks = refl
newlines-none (c ∷ cs) lacks =
    let other : (c == 10) ≡ false = ne_eqb c 10 lacks.0 in
    let tail = newlines-none cs lacks.1 in
    grind arith

-- a line is continued where its last byte is a backslash
continued_at_last : (line : List ℕ) → 0 < length line → get_or line (length line - 1) 0 ≡ 92 → is_continued line ≡ true
continued_at_last [] some last = absurd (omega arith)
continued_at_last (c ∷ []) some last = let is : c ≡ 92 = last in rw is refl
continued_at_last (c ∷ d ∷ ds) some last =
    let index : length (c ∷ d ∷ ds) - 1 ≡ suc (length (d ∷ ds) - 1) = omega arith in
    continued_at_last (d ∷ ds) (omega arith) (ap (λ n. get_or (c ∷ d ∷ ds) n 0) (sym index) ∙ last)

continued_or_not : (line : List ℕ) → (is_continued line ≡ false) ⊎ ((0 < length line) × (get_or line (length line - 1) 0 ≡ 92))
continued_or_not [] = inl refl
continued_or_not (c ∷ []) = elim (cases_eq c 92) [
  | inl is ↦ inr (omega arith, is)
  | inr other ↦ inl (ne_eqb c 92 other)
]
continued_or_not (c ∷ d ∷ ds) = elim (continued_or_not (d ∷ ds)) [
  | inl not_so ↦ inl not_so
  | inr does ↦
      let index : length (c ∷ d ∷ ds) - 1 ≡ suc (length (d ∷ ds) - 1) = omega arith in
      inr (omega arith, ap (λ n. get_or (c ∷ d ∷ ds) n 0) index ∙ does.1)
]

alone : (line : List ℕ) (lines : List (List ℕ)) → is_continued line ≡ false → before_lines line lines ≡ line ∷ lines
alone line [] not_so = refl
alone line (next ∷ lines) not_so = rw not_so refl

joins : (line next : List ℕ) (lines : List (List ℕ)) → is_continued line ≡ true → before_lines line (next ∷ lines) ≡ (line ++ 10 ∷ next) ∷ lines
joins line next lines does = rw does refl

-- an empty text has no logical line
pub logical-none : logical_lines [] ≡ []
unfolding logical_lines
logical-none = ap joined lines_of-none

-- a line that isn't continued
logical-alone : (text line after : List ℕ) → BeginsWithLine text line after → is_continued line ≡ false → logical_lines text ≡ line ∷ logical_lines after
unfolding logical_lines
logical-alone text line after begins not_so =
    ap joined (lines_of-begins text line after begins) ∙ alone line (joined (lines_of after)) not_so

-- the last line of a text
logical-last : (text line : List ℕ) → BeginsWithLine text line [] → logical_lines text ≡ line ∷ logical_lines []
unfolding logical_lines
logical-last text line begins =
    let nothing : joined (lines_of []) ≡ [] = ap joined lines_of-none in
    ap joined (lines_of-begins text line [] begins) ∙ (ap (before_lines line) nothing ∙ ap (λ l. line ∷ l) (sym nothing))

-- a line that is continued
logical-more : (text line after next rest : List ℕ) → BeginsWithLine text line after → is_continued line ≡ true → logical_lines after ≡ next ∷ logical_lines rest → logical_lines text ≡ (line ++ 10 ∷ next) ∷ logical_lines rest
unfolding logical_lines
logical-more text line after next rest begins does is =
    ap joined (lines_of-begins text line after begins) ∙ (ap (before_lines line) is ∙ joins line next (joined (lines_of rest)) does)

-- where no line is continued, the logical lines are the lines
plain_lines : (lines : List (List ℕ)) → AllByRecursion (λ line. is_continued line ≡ false) lines → joined lines ≡ lines
plain_lines [] plain = refl
plain_lines (line ∷ lines) plain =
    alone line (joined lines) plain.0 ∙ ap (λ l. line ∷ l) (plain_lines lines plain.1)

pub logical-plain : (text : List ℕ) → AllByRecursion (λ line. is_continued line ≡ false) (lines_of text) → logical_lines text ≡ lines_of text
unfolding logical_lines
logical-plain text plain = plain_lines (lines_of text) plain

-- A text that is read up to the end of a line within its first logical line: what stands above the line, the line, and what
-- is behind it. The lines above are continued.
pub record Reaches (text : List ℕ) (end : ℕ) : Type 0 where
  pub front : List ℕ
  pub line : List ℕ
  pub back : List ℕ
  pub parts : text ≡ front ++ (line ++ back)
  pub end_is : end ≡ length front + length line
  pub one_line : Lacks 10 line
  pub begins : MayBeginWith (λ c. c ≡ 10) back
  pub some : 0 < length (line ++ back)
  pub ends : MayEndWith (λ c. c ≡ 10) front
  pub few : newlines front * 2 ≤ length front
  pub extends : (next after : List ℕ) → logical_lines (line ++ back) ≡ next ∷ logical_lines after → logical_lines text ≡ (front ++ next) ∷ logical_lines after

-- between two places of a text there is no newline
pub record HasNoNewline (text : List ℕ) (from end : ℕ) : Type 0 where
  pub rises : from ≤ end
  pub within : end ≤ length text
  pub before : (k : ℕ) → from ≤ k → k < end → get_or text k 0 ≡ 10 → ⊥

-- a text is cut at the end of a line
record CutLine (rest : List ℕ) (size : ℕ) : Type 0 where
  line : List ℕ
  back : List ℕ
  parts : rest ≡ line ++ back
  size_is : size ≡ length line
  one_line : Lacks 10 line
  begins : MayBeginWith (λ c. c ≡ 10) back

cut_here : (rest : List ℕ) (size : ℕ) → size ≤ length rest → (size < length rest → get_or rest size 0 ≡ 10) → ((k : ℕ) → k < size → get_or rest k 0 ≡ 10 → ⊥) → CutLine rest size
cut_here [] zero within newline before = record { line = []; back = []; parts = refl; size_is = refl; one_line = tt; begins = tt }
cut_here [] (suc size) within newline before = absurd (omega arith)
cut_here (c ∷ cs) zero within newline before = record { line = []; back = c ∷ cs; parts = refl; size_is = refl; one_line = tt; begins = newline (omega arith) }
cut_here (c ∷ cs) (suc size) within newline before =
    let tail = cut_here cs size (omega arith) (λ more. newline (omega arith)) (λ k below. before (suc k) (omega arith)) in
    record {
      line = c ∷ tail.line;
      back = tail.back;
      parts = ap (λ t. c ∷ t) tail.parts;
      size_is = ap suc tail.size_is;
      one_line = (before 0 (omega arith), tail.one_line);
      begins = tail.begins;
    }

-- what stands behind a front, at an index
behind_front : (front rest : List ℕ) (k : ℕ) → get_or (front ++ rest) (length front + k) 0 ≡ get_or rest k 0
behind_front front rest k =
    sym (get_or-drop (length front) (front ++ rest) k 0) ∙ ap (λ t. get_or t k 0) (drop_at front rest (length front) refl)

cut_line : (front rest : List ℕ) (end : ℕ) → IsLineEnd (front ++ rest) (length front) end → CutLine rest (end - length front)
cut_line front rest end is =
    let rises = is.rises in
    let within = is.within in
    let size = length-append front rest in
    let index : length front + (end - length front) ≡ end = omega arith in
    cut_here rest (end - length front) (omega arith) (λ more.
    sym (behind_front front rest (end - length front)) ∙ (ap (λ n. get_or (front ++ rest) n 0) index ∙ is.newline (omega arith)))
    (λ k below newline. is.before (length front + k) (omega arith) (omega arith) (behind_front front rest k ∙ newline))

-- the first line of a text
pub reaches_first : (text : List ℕ) (end : ℕ) → 0 < length text → IsLineEnd text 0 end → Reaches text end
reaches_first text end some is =
    let cut = cut_line [] text end is in
    let size_is = cut.size_is in
    record {
      front = [];
      line = cut.line;
      back = cut.back;
      parts = cut.parts;
      end_is = omega arith;
      one_line = cut.one_line;
      begins = cut.begins;
      some = subst (λ t. 0 < length t) cut.parts some;
      ends = tt;
      few = omega arith;
      extends = λ next after is. subst (λ t. logical_lines t ≡ next ∷ logical_lines after) (sym cut.parts) is;
    }

-- what ends with a newline doesn't end with a backslash
newline_last : (front : List ℕ) → 0 < length front → MayEndWith (λ c. c ≡ 10) front → get_or front (length front - 1) 0 ≡ 10
newline_last [] some ends = absurd (omega arith)
newline_last (c ∷ []) some ends = ends
newline_last (c ∷ d ∷ ds) some ends =
    let index : length (c ∷ d ∷ ds) - 1 ≡ suc (length (d ∷ ds) - 1) = omega arith in
    ap (λ n. get_or (c ∷ d ∷ ds) n 0) index ∙ newline_last (d ∷ ds) (omega arith) ends

get_or-front : (front rest : List ℕ) (k : ℕ) → k < length front → get_or (front ++ rest) k 0 ≡ get_or front k 0
get_or-front [] rest k inside = absurd (omega arith)
get_or-front (c ∷ cs) rest zero inside = refl
get_or-front (c ∷ cs) rest (suc k) inside = get_or-front cs rest k (omega arith)

-- a line that is continued at its end
line_continued : (text : List ℕ) (end : ℕ) (reaches : Reaches text end) → IsContinuedAt text end → (0 < length reaches.line) × (get_or reaches.line (length reaches.line - 1) 0 ≡ 92)
line_continued text end reaches is = by_line reaches.line reaches.parts reaches.end_is
  where
    by_line : (line : List ℕ) → text ≡ reaches.front ++ (line ++ reaches.back) → end ≡ length reaches.front + length line → (0 < length line) × (get_or line (length line - 1) 0 ≡ 92)
    by_line [] parts end_is =
        let some = is.some in
        let index : end - 1 ≡ length reaches.front - 1 = omega arith in
        let here = ap (λ t. get_or t (end - 1) 0) (sym parts) ∙ is.backslash in
        let last = newline_last reaches.front (omega arith) reaches.ends in
        let same = sym (get_or-front reaches.front reaches.back (length reaches.front - 1) (omega arith)) ∙ (ap (λ n. get_or (reaches.front ++ reaches.back) n 0) (sym index) ∙ here) in
        let bad : 10 ≡ 92 = sym last ∙ same in
        absurd (omega (arith, bad))
    by_line (c ∷ cs) parts end_is =
        let index : end - 1 ≡ length reaches.front + (length (c ∷ cs) - 1) = omega arith in
        let here = ap (λ t. get_or t (end - 1) 0) (sym parts) ∙ is.backslash in
        let at_line = sym (behind_front reaches.front ((c ∷ cs) ++ reaches.back) (length (c ∷ cs) - 1)) ∙ (ap (λ n. get_or (reaches.front ++ ((c ∷ cs) ++ reaches.back)) n 0) (sym index) ∙ here) in
        (omega arith, sym (get_or-front (c ∷ cs) reaches.back (length (c ∷ cs) - 1) (omega arith)) ∙ at_line)

-- the next line of a logical line
pub reaches_next : (text : List ℕ) (end next_end : ℕ) → Reaches text end → IsContinuedAt text end → IsLineEnd text (end + 1) next_end → Reaches text next_end
reaches_next text end next_end reaches is next = by_back reaches.back reaches.parts reaches.begins reaches.extends
  where
    by_back : (back : List ℕ) → text ≡ reaches.front ++ (reaches.line ++ back) → MayBeginWith (λ c. c ≡ 10) back
        → ((step after : List ℕ) → logical_lines (reaches.line ++ back) ≡ step ∷ logical_lines after → logical_lines text ≡ (reaches.front ++ step) ∷ logical_lines after)
        → Reaches text next_end
    by_back [] parts begins extends =
        let total = ap length parts ∙ length-append reaches.front (reaches.line ++ []) in
        let tail = length-append reaches.line [] in
        let end_is = reaches.end_is in
        let more = is.more in
        absurd (omega arith)
    by_back (c ∷ after) parts begins extends =
        let newline : c ≡ 10 = begins in
        let split : text ≡ reaches.front ++ (reaches.line ++ 10 ∷ after) = parts ∙ ap (λ b. reaches.front ++ (reaches.line ++ b ∷ after)) newline in
        let shape : (reaches.front ++ (reaches.line ++ 10 ∷ [])) ++ after ≡ reaches.front ++ (reaches.line ++ 10 ∷ after) =
        append_assoc reaches.front (reaches.line ++ 10 ∷ []) after ∙ ap (λ t. reaches.front ++ t) (append_assoc reaches.line (10 ∷ []) after) in
        let whole : text ≡ (reaches.front ++ (reaches.line ++ 10 ∷ [])) ++ after = split ∙ sym shape in
        let long = length-append reaches.front (reaches.line ++ 10 ∷ []) in
        let longer = length-append reaches.line (10 ∷ []) in
        let end_is = reaches.end_is in
        let size : end + 1 ≡ length (reaches.front ++ (reaches.line ++ 10 ∷ [])) = omega arith in
        let total = ap length whole ∙ length-append (reaches.front ++ (reaches.line ++ 10 ∷ [])) after in
        let more = is.more in
        let cut = cut_line (reaches.front ++ (reaches.line ++ 10 ∷ [])) after next_end (subst (λ t. IsLineEnd t (length (reaches.front ++ (reaches.line ++ 10 ∷ []))) next_end) whole (subst (λ n. IsLineEnd text n next_end) size next)) in
        let rises = next.rises in
        let size_is = cut.size_is in
        let continued = line_continued text end reaches is in
        let does = continued_at_last reaches.line continued.0 continued.1 in
        let ended : BeginsWithLine (reaches.line ++ 10 ∷ after) reaches.line after = record { one_line = reaches.one_line; split = inl refl } in
        let few = reaches.few in
        let counted = newlines-append reaches.front (reaches.line ++ 10 ∷ []) in
        let counted_line = newlines-append reaches.line (10 ∷ []) in
        let none = newlines-none reaches.line reaches.one_line in
        let one : newlines (10 ∷ []) ≡ 1 = refl in
        let some_line = continued.0 in
        record {
          front = reaches.front ++ (reaches.line ++ 10 ∷ []);
          line = cut.line;
          back = cut.back;
          parts = whole ∙ ap (λ t. (reaches.front ++ (reaches.line ++ 10 ∷ [])) ++ t) cut.parts;
          end_is = omega arith;
          one_line = cut.one_line;
          begins = cut.begins;
          some = subst (λ t. 0 < length t) cut.parts (omega arith);
          ends = subst (MayEndWith (λ b. b ≡ 10)) (append_assoc reaches.front reaches.line (10 ∷ [])) (MayEndWith-append (λ b. b ≡ 10) (reaches.front ++ reaches.line) 10 refl);
          few = omega arith;
          extends = λ step rest is_step.
              let from_after : logical_lines after ≡ step ∷ logical_lines rest = subst (λ t. logical_lines t ≡ step ∷ logical_lines rest) (sym cut.parts) is_step in
              let joined_line = logical-more (reaches.line ++ 10 ∷ after) reaches.line after step rest ended does from_after in
              let here : logical_lines (reaches.line ++ c ∷ after) ≡ (reaches.line ++ 10 ∷ step) ∷ logical_lines rest = subst (λ b. logical_lines (reaches.line ++ b ∷ after) ≡ (reaches.line ++ 10 ∷ step) ∷ logical_lines rest) (sym newline) joined_line in
              extends (reaches.line ++ 10 ∷ step) rest here
              ∙ ap (λ t. t ∷ logical_lines rest) (sym (append_assoc reaches.front (reaches.line ++ 10 ∷ []) step ∙ ap (λ t. reaches.front ++ t) (append_assoc reaches.line (10 ∷ []) step)));
        }

drop_past : (n : ℕ) (xs : List ℕ) → length xs ≤ n → drop n xs ≡ []
drop_past zero [] le = refl
drop_past zero (c ∷ cs) le = absurd (omega arith)
drop_past (suc n) [] le = refl
drop_past (suc n) (c ∷ cs) le = drop_past n cs (omega arith)

drop_one_more : (n : ℕ) (xs ys : List ℕ) (y : ℕ) → drop n xs ≡ y ∷ ys → drop (n + 1) xs ≡ ys
drop_one_more n xs ys y is = sym (drop-drop 1 n xs) ∙ ap (drop 1) is

at_drop : (n : ℕ) (xs ys : List ℕ) → drop n xs ≡ ys → get_or xs n 0 ≡ get_or ys 0 0
at_drop n xs ys is =
    let here : n + 0 ≡ n = omega arith in
    ap (λ k. get_or xs k 0) (sym here) ∙ (sym (get_or-drop n xs 0 0) ∙ ap (λ t. get_or t 0 0) is)

-- how many lines a logical line is made of, at the end of the text and before it
count_at_end : (size end count : ℕ) → size ≡ end → 0 < end → count * 2 ≤ end → count + 1 ≤ end + cond (size == end) 0 1
count_at_end size end count is positive twice =
    let same : (size == end) ≡ true = grind (arith, nat_tests) in
    rw same (omega arith)

count_before : (size end count : ℕ) → end < size → count ≤ end → count + 1 ≤ end + cond (size == end) 0 1
count_before size end count more le =
    let differ : (size == end) ≡ false = ne_eqb size end (λ e. omega arith) in
    rw differ (omega arith)

-- the line before a newline is alone: it's the last one, or it isn't continued
alone_before : (text : List ℕ) (end : ℕ) (reaches : Reaches text end) (after : List ℕ) → text ≡ reaches.front ++ (reaches.line ++ 10 ∷ after) → (IsContinuedAt text end → ⊥) → logical_lines (reaches.line ++ 10 ∷ after) ≡ reaches.line ∷ logical_lines after
alone_before text end reaches [] parts none =
    logical-last (reaches.line ++ 10 ∷ []) reaches.line (record { one_line = reaches.one_line; split = inl refl })
alone_before text end reaches (d ∷ ds) parts none = elim (continued_or_not reaches.line) [
  | inl not_so ↦ logical-alone (reaches.line ++ 10 ∷ d ∷ ds) reaches.line (d ∷ ds) (record { one_line = reaches.one_line; split = inl refl }) not_so
  | inr does ↦ absurd (none (continued_here does.0 does.1))
]
  where
    continued_here : 0 < length reaches.line → get_or reaches.line (length reaches.line - 1) 0 ≡ 92 → IsContinuedAt text end
    continued_here some last =
        let end_is = reaches.end_is in
        let total = ap length parts ∙ length-append reaches.front (reaches.line ++ 10 ∷ d ∷ ds) in
        let tail = length-append reaches.line (10 ∷ d ∷ ds) in
        let index : end - 1 ≡ length reaches.front + (length reaches.line - 1) = omega arith in
        let at_line = behind_front reaches.front (reaches.line ++ 10 ∷ d ∷ ds) (length reaches.line - 1) ∙ (get_or-front reaches.line (10 ∷ d ∷ ds) (length reaches.line - 1) (omega arith) ∙ last) in
        record {
          some = omega arith;
          backslash = ap (λ t. get_or t (end - 1) 0) parts ∙ (ap (λ n. get_or (reaches.front ++ (reaches.line ++ 10 ∷ d ∷ ds)) n 0) index ∙ at_line);
          more = omega arith;
        }

-- the logical line that is read up to here, and what is behind it
cut_here_is : (text front line back : List ℕ) (end : ℕ) → text ≡ front ++ (line ++ back) → end ≡ length front + length line → (take end text ≡ front ++ line) × (drop end text ≡ back)
cut_here_is text front line back end parts end_is =
    let whole : text ≡ (front ++ line) ++ back = parts ∙ sym (append_assoc front line back) in
    let size : end ≡ length (front ++ line) = end_is ∙ sym (length-append front line) in
    (rw whole (take_at (front ++ line) back end (sym size)), rw whole (drop_at (front ++ line) back end (sym size)))

few_lines : (front line : List ℕ) → Lacks 10 line → newlines front * 2 ≤ length front → newlines (front ++ line) * 2 ≤ length front
few_lines front line lacks few =
    let counted = newlines-append front line in
    let not_so = newlines-none line lacks in
    omega arith

-- the logical line ends at a line that isn't continued
pub reaches_end : (text : List ℕ) (end : ℕ) → Reaches text end → (IsContinuedAt text end → ⊥) → IsLogicalEnd text end
reaches_end text end reaches none =
    by_back reaches.back reaches.parts reaches.begins reaches.some reaches.extends (few_lines reaches.front reaches.line reaches.one_line reaches.few)
  where
    by_back : (back : List ℕ) → text ≡ reaches.front ++ (reaches.line ++ back) → MayBeginWith (λ c. c ≡ 10) back → 0 < length (reaches.line ++ back)
        → ((step after : List ℕ) → logical_lines (reaches.line ++ back) ≡ step ∷ logical_lines after → logical_lines text ≡ (reaches.front ++ step) ∷ logical_lines after)
        → newlines (reaches.front ++ reaches.line) * 2 ≤ length reaches.front
        → IsLogicalEnd text end
    by_back [] parts begins some extends few =
        let total = ap length parts ∙ length-append reaches.front (reaches.line ++ []) in
        let tail = length-append reaches.line [] in
        let end_is = reaches.end_is in
        let last : BeginsWithLine (reaches.line ++ []) reaches.line [] = record { one_line = reaches.one_line; split = inr (append-nil reaches.line, omega arith, refl) } in
        let cut = cut_here_is text reaches.front reaches.line [] end parts end_is in
        let behind : drop (end + 1) text ≡ [] = drop_past (end + 1) text (omega arith) in
        record {
          within = omega arith;
          newline = λ more. absurd (omega arith);
          lines = rw (cut.0, behind) (extends reaches.line [] (logical-last (reaches.line ++ []) reaches.line last));
          count = rw cut.0 (count_at_end (length text) end (newlines (reaches.front ++ reaches.line)) (omega arith) (omega arith) (omega arith));
        }
    by_back (c ∷ after) parts begins some extends few =
        let newline : c ≡ 10 = begins in
        let split : text ≡ reaches.front ++ (reaches.line ++ 10 ∷ after) = parts ∙ ap (λ b. reaches.front ++ (reaches.line ++ b ∷ after)) newline in
        let total = ap length parts ∙ length-append reaches.front (reaches.line ++ c ∷ after) in
        let tail = length-append reaches.line (c ∷ after) in
        let end_is = reaches.end_is in
        let cut = cut_here_is text reaches.front reaches.line (10 ∷ after) end split end_is in
        let behind = drop_one_more end text after 10 cut.1 in
        let single : logical_lines (reaches.line ++ c ∷ after) ≡ reaches.line ∷ logical_lines after =
        subst (λ b. logical_lines (reaches.line ++ b ∷ after) ≡ reaches.line ∷ logical_lines after) (sym newline) (alone_before text end reaches after split none) in
        record {
          within = omega arith;
          newline = λ more. at_drop end text (10 ∷ after) cut.1;
          lines = rw (cut.0, behind) (extends reaches.line after single);
          count = rw cut.0 (count_before (length text) end (newlines (reaches.front ++ reaches.line)) (omega arith) (omega arith));
        }

drop_here : (n : ℕ) (xs : List ℕ) → n < length xs → drop n xs ≡ get_or xs n 0 ∷ drop (n + 1) xs
drop_here n xs inside = rw add-one (drop-cons xs n 0 inside)

-- a text is cut at the end of its first logical line
pub begins_logical : (text : List ℕ) (end : ℕ) → 0 < length text → IsLogicalEnd text end → BeginsWithLogicalLine text (take end text) (drop (end + 1) text)
begins_logical text end some is = record { lines = is.lines; split = split }
  where
    size : length (take end text) ≡ end
    size = length-take-le end text (is.within)

    split : (text ≡ take end text ++ 10 ∷ drop (end + 1) text) ⊎ ((text ≡ take end text) × (0 < length (take end text)) × (drop (end + 1) text ≡ []))
    split = elim (cases_lt end (length text)) [
      | inl inside ↦ inl (sym (take-append-drop end text) ∙ ap (λ t. take end text ++ t) (drop_here end text inside ∙ ap (λ c. c ∷ drop (end + 1) text) (is.newline inside)))
      | inr past ↦
          let within = is.within in
          inr (sym (take_all end text (omega arith)), omega (arith, size), drop_past (end + 1) text (omega arith))
    ]

-- what is behind a logical line, without the newline that ends it
pub after_logical : (text : List ℕ) (end : ℕ) (stripped : Option (Bor (List ℕ))) (nothing : Bor (List ℕ)) → IsLogicalEnd text end → nothing.now ≡ []
    → MatchOption stripped ((rest : List ℕ) → drop end text ≢ 10 ∷ rest) (λ rest. drop end text ≡ 10 ∷ rest.now) → (unwrap_or stripped nothing).now ≡ drop (end + 1) text
after_logical text end None nothing is empty cases = elim (cases_lt end (length text)) [
  | inl inside ↦ absurd (cases (drop (end + 1) text) (drop_here end text inside ∙ ap (λ c. c ∷ drop (end + 1) text) (is.newline inside)))
  | inr past ↦ empty ∙ sym (drop_past (end + 1) text (omega arith))
]
after_logical text end (Some rest) nothing is empty cases = sym (drop_one_more end text rest.now 10 cases)

-- where a line is a logical line of its own
whole_line : (text line after : List ℕ) → BeginsWithLine text line after → logical_lines text ≡ line ∷ logical_lines after → BeginsWithLogicalLine text line after
whole_line text line after begins is = record { lines = is; split = begins.split }

-- a line that is continued, before a logical line
more_line : (text line after next rest : List ℕ) → BeginsWithLine text line after → 0 < length after → is_continued line ≡ true → BeginsWithLogicalLine after next rest → BeginsWithLogicalLine text (line ++ 10 ∷ next) rest
more_line text line after next rest begins some does behind = record {
  lines = logical-more text line after next rest begins does behind.lines;
  split = elim begins.split as (λ _. (text ≡ (line ++ 10 ∷ next) ++ 10 ∷ rest) ⊎ ((text ≡ line ++ 10 ∷ next) × (0 < length (line ++ 10 ∷ next)) × (rest ≡ []))) [
    | inl e ↦ joined_split e behind.split
    | inr last ↦ let none = ap length last.2 in absurd (omega arith)
  ];
}
  where
    joined_split : text ≡ line ++ 10 ∷ after → (after ≡ next ++ 10 ∷ rest) ⊎ ((after ≡ next) × (0 < length next) × (rest ≡ []))
        → (text ≡ (line ++ 10 ∷ next) ++ 10 ∷ rest) ⊎ ((text ≡ line ++ 10 ∷ next) × (0 < length (line ++ 10 ∷ next)) × (rest ≡ []))
    joined_split e (inl parts) = inl (e ∙ (ap (λ t. line ++ 10 ∷ t) parts ∙ sym (append_assoc line (10 ∷ next) (10 ∷ rest))))
    joined_split e (inr last) = inr (e ∙ ap (λ t. line ++ 10 ∷ t) last.0, omega (arith, length-append line (10 ∷ next)), last.2)

-- a line that is one of its own, or is continued, before what the text behind it begins with
abbrev HasLogicalLine : List ℕ → Type 0
HasLogicalLine text = (line : List ℕ) × (after : List ℕ) × BeginsWithLogicalLine text line after

some_before : (text line after : List ℕ) → BeginsWithLine text line after → (0 < length after → HasLogicalLine after) → HasLogicalLine text
some_before text line [] begins behind = (line, [], whole_line text line [] begins (logical-last text line begins))
some_before text line (d ∷ ds) begins behind = elim (continued_or_not line) [
  | inl not_so ↦ (line, d ∷ ds, whole_line text line (d ∷ ds) begins (logical-alone text line (d ∷ ds) begins not_so))
  | inr does ↦
      let (next, rest, is) = behind (omega arith) in
      (line ++ 10 ∷ next, rest, more_line text line (d ∷ ds) next rest begins (omega arith) (continued_at_last line does.0 does.1) is)
]

some_within : (size : ℕ) (text : List ℕ) → length text ≤ size → 0 < length text → HasLogicalLine text
some_within zero text small some = absurd (omega arith)
some_within (suc size) text small some =
    let (line, after, begins) = some_line text some in
    let (front, parts, moved) = line_size text line after begins in
    let shorter = ap length parts ∙ length-append front after in
    some_before text line after begins (λ more. some_within size after (omega arith) more)

-- each text that isn't empty begins with a logical line
pub some_logical : (text : List ℕ) → 0 < length text → (line : List ℕ) × (after : List ℕ) × BeginsWithLogicalLine text line after
some_logical text some = some_within (length text) text (omega arith) some

pub logical_begins : (text line after : List ℕ) → BeginsWithLogicalLine text line after → logical_lines text ≡ line ∷ logical_lines after
logical_begins text line after begins = begins.lines
