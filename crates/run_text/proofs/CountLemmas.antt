-- The logical lines of a text are made of all its lines.
use Rattle.std.proofs.Common.{◌≡◌, ℕ, ◌+◌, ◌≤◌, ◌==◌, Bool, true, false, cond, if◌then◌else◌, List, [], ◌∷◌, ◌++◌, length, count_by, refl, ap, ◌∙◌, inl, inr, arith}
use Rattle.std.specs.List.{AllByRecursion, sum_by}
use Rattle.std.proofs.lemmas.Bool.{ne_eqb, cases_eq}
use Rattle.std.proofs.lemmas.List.Sums.{sum_by-append, sum_by-cons}
use Rattle.crontab_text.specs.Lines.{Lacks, begin_with, lines_of}
use Rattle.crontab_text.proofs.LineLemmas.{lines_at_most}
use Rattle.anacron_text.specs.LogicalLines.{before_lines, joined, is_continued, line_count, logical_lines}
use Rattle.anacron_text.specs.declared.settings.Settings.{Settings}
use Rattle.run_text.specs.Anacrontab.{IsFirstBreak}

-- a line of a text has no newline
begin_lacks : (c : ℕ) (lines : List (List ℕ)) → (c ≡ 10 → ⊥) → AllByRecursion (Lacks 10) lines → AllByRecursion (Lacks 10) (begin_with c lines)
begin_lacks c [] other all = ((other, tt), tt)
begin_lacks c (line ∷ lines) other all = ((other, all.0), all.1)

lines_lack : (text : List ℕ) → AllByRecursion (Lacks 10) (lines_of text)
unfolding lines_of
lines_lack [] = tt
lines_lack (c ∷ cs) = elim (cases_eq c 10) [
  | inl is ↦ let here : (c == 10) ≡ true = rw is refl in rw here (tt, lines_lack cs)
  | inr other ↦ let here : (c == 10) ≡ false = ne_eqb c 10 other in rw here (begin_lacks c (lines_of cs) other (lines_lack cs))
]

newlines_none : (line : List ℕ) → Lacks 10 line → count_by (λ c. c == 10) line ≡ 0
newlines_none [] lacks = refl
newlines_none (c ∷ cs) lacks =
    let other : (c == 10) ≡ false = ne_eqb c 10 lacks.0 in
    let tail = newlines_none cs lacks.1 in
    grind arith

-- one line more
before_count : (line : List ℕ) (lines : List (List ℕ)) → Lacks 10 line → sum_by line_count (before_lines line lines) ≡ sum_by line_count lines + 1
before_count line [] lacks =
    let none = newlines_none line lacks in
    let one = sum_by-cons line_count line [] in
    omega arith
before_count line (next ∷ lines) lacks = by_end (is_continued line)
  where
    none : count_by (λ c. c == 10) line ≡ 0
    none = newlines_none line lacks

    by_end : (continued : Bool) → sum_by line_count (if continued then (line ++ 10 ∷ next) ∷ lines else line ∷ next ∷ lines) ≡ sum_by line_count (next ∷ lines) + 1
    by_end true =
        let both = sum_by-append (λ c. cond (c == 10) 1 0) line (10 ∷ next) in
        let behind = sum_by-cons (λ c. cond (c == 10) 1 0) 10 next in
        omega (arith, none, both, behind, sum_by-cons line_count (line ++ 10 ∷ next) lines, sum_by-cons line_count next lines)
    by_end false = omega (arith, none, sum_by-cons line_count line (next ∷ lines))

joined_count : (lines : List (List ℕ)) → AllByRecursion (Lacks 10) lines → sum_by line_count (joined lines) ≡ length lines
joined_count [] all = refl
joined_count (line ∷ lines) all = omega (arith, before_count line (joined lines) all.0, joined_count lines all.1)

pub text_count : (text : List ℕ) → sum_by line_count (logical_lines text) ≡ length (lines_of text)
unfolding logical_lines
text_count text = joined_count (lines_of text) (lines_lack text)

-- a line that breaks a rule begins at a line of the text
pub break_line : (settings : Settings) (text : List ℕ) (number cause place : ℕ) → IsFirstBreak settings (logical_lines text) number cause place → number ≤ length (lines_of text)
break_line settings text number cause place first =
    let total : sum_by line_count (logical_lines text) ≡ sum_by line_count first.front + sum_by line_count (first.line ∷ first.back) =
    ap (sum_by line_count) first.parts ∙ sum_by-append line_count first.front (first.line ∷ first.back) in
    omega (arith, total, text_count text, sum_by-cons line_count first.line first.back, first.number_is)

pub break_within : (settings : Settings) (text : List ℕ) (number cause place : ℕ) → IsFirstBreak settings (logical_lines text) number cause place → number ≤ length text
break_within settings text number cause place first = omega (arith, break_line settings text number cause place first, lines_at_most text)
