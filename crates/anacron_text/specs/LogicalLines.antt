-- The lines of an anacrontab (anacrontab(5) of cronie): a line that ends with a backslash goes on with the next one. A
-- logical line is made of one or more lines of the text, and keeps their bytes, the backslashes and the newlines between
-- them too.
use Rattle.std.specs.Prelude.{◌≡◌, ◌⊎◌, ℕ, ◌+◌, ◌-◌, ◌<◌, ◌≤◌, ◌==◌, Bool, false, if◌then◌else◌, List, [], ◌∷◌, ◌++◌, length, slice_index, take, drop, count_by}
use Rattle.crontab_text.specs.Lines.{lines_of}

-- the line ends with a backslash
abbrev pub is_continued : List ℕ → Bool
is_continued [] = false
is_continued (c ∷ []) = c == 92
is_continued (c ∷ d ∷ cs) = is_continued (d ∷ cs)

-- A line before logical lines: it is a line of its own, or where it is continued, the beginning of the first of them. The
-- last line of a text is never continued.
abbrev pub before_lines : List ℕ → List (List ℕ) → List (List ℕ)
before_lines line [] = line ∷ []
before_lines line (next ∷ lines) = if is_continued line then (line ++ 10 ∷ next) ∷ lines else line ∷ next ∷ lines

-- the logical lines that lines make
abbrev pub joined : List (List ℕ) → List (List ℕ)
joined [] = []
joined (line ∷ lines) = before_lines line (joined lines)

-- the logical lines of a text
unfoldable pub logical_lines : List ℕ → List (List ℕ)
logical_lines text = joined (lines_of text)

-- how many lines of the text a logical line is made of
abbrev pub line_count : List ℕ → ℕ
line_count line = count_by (λ c. c == 10) line + 1

-- The text begins with this logical line, and that much is behind it: a line ends with a newline, and a last line that
-- isn't empty may lack it.
pub record BeginsWithLogicalLine (text line after : List ℕ) : Type 0 where
  pub lines : logical_lines text ≡ line ∷ logical_lines after
  pub split : (text ≡ line ++ 10 ∷ after) ⊎ ((text ≡ line) × (0 < length line) × (after ≡ []))

-- the first logical line of the text ends at this place
pub record IsLogicalEnd (text : List ℕ) (end : ℕ) : Type 0 where
  pub within : end ≤ length text
  pub newline : end < length text → slice_index text end ≡ 10
  pub lines : logical_lines text ≡ take end text ∷ logical_lines (drop (end + 1) text)
  pub count : line_count (take end text) ≤ end + (if length text == end then 0 else 1)

-- the first newline from a place on is here, or there is none up to the end of the text
pub record IsLineEnd (text : List ℕ) (from end : ℕ) : Type 0 where
  pub rises : from ≤ end
  pub within : end ≤ length text
  pub newline : end < length text → slice_index text end ≡ 10
  pub before : (k : ℕ) → from ≤ k → k < end → slice_index text k ≡ 10 → ⊥

-- at this place a line ends with a backslash, and another follows
pub record IsContinuedAt (text : List ℕ) (end : ℕ) : Type 0 where
  pub some : 0 < end
  pub backslash : slice_index text (end - 1) ≡ 92
  pub more : end + 1 < length text
