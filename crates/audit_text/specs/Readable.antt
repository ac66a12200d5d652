-- How bytes that somebody wrote are read as text: a line that isn't UTF-8 is taken as the line `?`. Source: this project; UTF-8 by RFC 3629.
use Rattle.std.specs.Prelude.{◌≡◌, ℕ, ◌==◌, if◌then◌else◌, List, [], ◌∷◌, ◌++◌, map, codes}
use Rattle.std.specs.Str.{is_utf8}
use Rattle.cron_io.specs.Lines.{text_of_lines}
use Rattle.crontab_text.specs.Lines.{lines_of}

-- the line as it is read
abbrev pub line_as_read : List ℕ → List ℕ
line_as_read line = if is_utf8 line then line else codes "?"

-- what a text lacks to be whole lines: a newline, where its last line has none
abbrev pub missing_newline : List ℕ → List ℕ
missing_newline [] = []
missing_newline (c ∷ []) = if c == 10 then [] else 10 ∷ []
missing_newline (c ∷ d ∷ cs) = missing_newline (d ∷ cs)

-- **The text is the bytes with each line as it is read.** A last line without its newline has none in the text either.
abbrev pub IsReadText : (bytes text : List ℕ) → Type 0
IsReadText bytes text = text ++ missing_newline bytes ≡ text_of_lines (map line_as_read (lines_of bytes))
