-- A line that sets a variable (crontab(5): `name = value`).
use Rattle.std.specs.Prelude.{◌≡◌, ◌⊎◌, ◌≤◌, ◌-◌, ℕ, List, [], ◌∷◌, ◌++◌, length, slice_index}
use Rattle.std.specs.List.{AllByRecursion}
use Rattle.crontab_text.specs.Blanks.{IsBlank, SkipsBlanks, DropsBlanks}

-- a letter or `_`
abbrev pub IsNameStart : ℕ → Type 0
IsNameStart c = ((97 ≤ c) × (c ≤ 122)) ⊎ (((65 ≤ c) × (c ≤ 90)) ⊎ (c ≡ 95))

-- a letter, a digit or `_`
abbrev pub IsNameByte : ℕ → Type 0
IsNameByte c = IsNameStart c ⊎ ((48 ≤ c) × (c ≤ 57))

-- any other byte
abbrev pub IsNoNameByte : ℕ → Type 0
IsNoNameByte c = IsNameByte c → ⊥

-- what may begin a name, and what may stand in one
abbrev pub IsVariableName : List ℕ → Type 0
IsVariableName [] = ⊥
IsVariableName (c ∷ cs) = IsNameStart c × AllByRecursion IsNameByte cs

-- a double or a single quote
abbrev pub IsQuote : ℕ → Type 0
IsQuote c = (c ≡ 34) ⊎ (c ≡ 39)

-- the inside stands between two quotes of one kind
pub record IsInQuotes (text inside : List ℕ) : Type 0 where
  pub quote : ℕ
  pub is_quote : IsQuote quote
  pub parts : text ≡ quote ∷ (inside ++ quote ∷ [])

-- the text begins and ends with the same quote
pub record HasQuotes (text : List ℕ) : Type 0 where
  pub two : 2 ≤ length text
  pub first : IsQuote (slice_index text 0)
  pub last : slice_index text (length text - 1) ≡ slice_index text 0

-- matched quotes round a text are taken off, and any other text stays
abbrev pub IsUnquoted : List ℕ → List ℕ → Type 0
IsUnquoted text inside = IsInQuotes text inside ⊎ ((inside ≡ text) × ((other : List ℕ) → IsInQuotes text other → ⊥))

-- a value without its outer blanks, and then without the quotes round it
pub record IsValue (text value : List ℕ) : Type 0 where
  pub rest : List ℕ
  pub trimmed : List ℕ
  pub skips : SkipsBlanks text rest
  pub drops : DropsBlanks rest trimmed
  pub unquoted : IsUnquoted trimmed value

-- a name, then blanks if any, `=`, and a value
pub record IsAssignment (text name value : List ℕ) : Type 0 where
  pub between : List ℕ
  pub behind : List ℕ
  pub text_is : text ≡ name ++ (between ++ 61 ∷ behind)
  pub is_name : IsVariableName name
  pub between_blank : AllByRecursion IsBlank between
  pub value_is : IsValue behind value
