-- Blanks, and the words between them (crontab(5): fields are separated by spaces or tabs).
use Rattle.std.specs.Prelude.{◌≡◌, ◌⊎◌, ◌<◌, ◌≤◌, ℕ, List, [], ◌∷◌, ◌++◌, length, slice_index}
use Rattle.std.specs.List.{AllByRecursion}

-- a space or a tab
abbrev pub IsBlank : ℕ → Type 0
IsBlank c = (c ≡ 32) ⊎ (c ≡ 9)

-- neither of them
abbrev pub IsMark : ℕ → Type 0
IsMark c = IsBlank c → ⊥

-- no byte of the text is of the kind
abbrev pub LacksAny : (ℕ → Type 0) → List ℕ → Type 0
LacksAny P text = AllByRecursion (λ c. P c → ⊥) text

-- the text is empty, or it begins with a byte of the kind
abbrev pub MayBeginWith : (ℕ → Type 0) → List ℕ → Type 0
MayBeginWith P [] = Unit {0}
MayBeginWith P (c ∷ cs) = P c

-- the text is empty, or it ends with a byte of the kind
abbrev pub MayEndWith : (ℕ → Type 0) → List ℕ → Type 0
MayEndWith P [] = Unit {0}
MayEndWith P (c ∷ []) = P c
MayEndWith P (c ∷ d ∷ cs) = MayEndWith P (d ∷ cs)

-- the rest is the text without the blanks that it begins with
pub record SkipsBlanks (text rest : List ℕ) : Type 0 where
  pub blanks : List ℕ
  pub parts : text ≡ blanks ++ rest
  pub all : AllByRecursion IsBlank blanks
  pub begins : MayBeginWith IsMark rest

-- the front is the text without the blanks that it ends with
pub record DropsBlanks (text front : List ℕ) : Type 0 where
  pub blanks : List ℕ
  pub parts : text ≡ front ++ blanks
  pub all : AllByRecursion IsBlank blanks
  pub ends : MayEndWith IsMark front

-- a text is cut before its first byte of the kind, or at its end where it has none
pub record IsCutAt (P : ℕ → Type 0) (text front back : List ℕ) : Type 0 where
  pub parts : text ≡ front ++ back
  pub lacks : LacksAny P front
  pub begins : MayBeginWith P back

-- The first word of the text and what is behind it. The word is empty where the text has nothing but blanks.
pub record IsFirstWord (text word after : List ℕ) : Type 0 where
  pub rest : List ℕ
  pub skips : SkipsBlanks text rest
  pub cut : IsCutAt IsBlank rest word after

-- the index of the first byte of the kind
pub record IsFirstIndex (P : ℕ → Type 0) (text : List ℕ) (index : ℕ) : Type 0 where
  pub inside : index < length text
  pub here : P (slice_index text index)
  pub before : (k : ℕ) → k < index → P (slice_index text k) → ⊥

-- from the end on there is nothing but blanks
pub record AreBlanksFrom (text : List ℕ) (end : ℕ) : Type 0 where
  pub within : end ≤ length text
  pub each : (k : ℕ) → end ≤ k → k < length text → IsBlank (slice_index text k)
