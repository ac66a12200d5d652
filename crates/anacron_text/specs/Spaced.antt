-- A logical line as it is read (anacrontab(5) of cronie): a backslash at a line's end counts with the newline behind it as
-- a blank, and so does a backslash at the end of the last line.
use Rattle.std.specs.Prelude.{◌≡◌, ℕ, ◌+◌, ◌==◌, ◌&&◌, ◌||◌, Bool, true, if◌then◌else◌, List, [], ◌∷◌, ◌++◌, length}

-- the text is empty, or begins with a newline: a line of the text ends before it
abbrev pub is_at_line_end : List ℕ → Bool
is_at_line_end [] = true
is_at_line_end (c ∷ cs) = c == 10

-- the byte before a text joins two lines: it is a newline, or a backslash at a line's end
abbrev pub is_joint : ℕ → List ℕ → Bool
is_joint c text = (c == 10) || ((c == 92) && is_at_line_end text)

-- The line with a space for each byte that joins two lines of it. Each other byte stays where it stands.
abbrev pub spaced : List ℕ → List ℕ
spaced [] = []
spaced (c ∷ cs) = (if is_joint c cs then 32 else c) ∷ spaced cs

-- the part stands in the text, and from its first byte on the text has so many bytes
pub record IsPartWithin (text part : List ℕ) (left : ℕ) : Type 0 where
  pub before : List ℕ
  pub after : List ℕ
  pub parts : text ≡ before ++ (part ++ after)
  pub left_is : left ≡ length part + length after
