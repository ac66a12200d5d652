-- What a command says (crontab(5): an unescaped `%` is a newline, and what follows the first one is standard input).
use Rattle.std.specs.Prelude.{◌≡◌, ◌≢◌, ◌⊎◌, ◌==◌, ◌&&◌, ℕ, List, [], ◌∷◌, flat_map, if◌then◌else◌}
use Rattle.std.specs.List.{AllByRecursion}
use Rattle.crontab_text.specs.Blanks.{LacksAny, MayBeginWith, MayEndWith}
use Rattle.crontab_text.specs.declared.percent.Piece.{Piece}
use Rattle.crontab_text.specs.declared.percent.Piece.TheVariants.{Text, NewLine}

-- a percent sign
abbrev pub IsPercent : ℕ → Type 0
IsPercent c = c ≡ 37

-- a piece of a command: some text, or the end of a line
pub data CommandPiece : Type 0 where
  TextPiece : List ℕ → CommandPiece
  NewLinePiece : CommandPiece

-- what a piece of the program stands for
abbrev pub piece_of : Piece → CommandPiece
piece_of (Text text) = TextPiece text.now
piece_of NewLine = NewLinePiece

-- How a piece is written in the command. A text that begins with `%` has its backslash before it.
abbrev pub spelled : CommandPiece → List ℕ
spelled NewLinePiece = 37 ∷ []
spelled (TextPiece []) = []
spelled (TextPiece (c ∷ cs)) = if c == 37 then 92 ∷ c ∷ cs else c ∷ cs

-- a text isn't empty, and has `%` only as its first byte
abbrev pub IsPiece : CommandPiece → Type 0
IsPiece NewLinePiece = Unit {0}
IsPiece (TextPiece []) = ⊥
IsPiece (TextPiece (c ∷ cs)) = LacksAny IsPercent cs

-- The second may stand directly behind the first: of two texts the second begins with `%`, and a text before the end
-- of a line doesn't end with a backslash, which would escape the `%` behind it.
abbrev pub MayFollowPiece : CommandPiece → CommandPiece → Type 0
MayFollowPiece NewLinePiece next = Unit {0}
MayFollowPiece (TextPiece text) NewLinePiece = MayEndWith (λ c. c ≢ 92) text
MayFollowPiece (TextPiece text) (TextPiece next) = MayBeginWith IsPercent next

-- each piece may stand behind the one before it
abbrev pub AreInOrder : List CommandPiece → Type 0
AreInOrder [] = Unit {0}
AreInOrder (piece ∷ []) = Unit {0}
AreInOrder (piece ∷ next ∷ pieces) = MayFollowPiece piece next × AreInOrder (next ∷ pieces)

-- these are the pieces of the command, in order
pub record ArePieces (command : List ℕ) (pieces : List CommandPiece) : Type 0 where
  pub command_is : command ≡ flat_map spelled pieces
  pub each : AllByRecursion IsPiece pieces
  pub in_order : AreInOrder pieces

-- what a piece says
abbrev pub bytes_said : CommandPiece → List ℕ
bytes_said NewLinePiece = 10 ∷ []
bytes_said (TextPiece text) = text

-- what a command says: an unescaped `%` is a newline, and an escaped one stands without its backslash
abbrev pub text_said_by : List ℕ → List ℕ
text_said_by [] = []
text_said_by (c ∷ []) = (if c == 37 then 10 else c) ∷ []
text_said_by (c ∷ d ∷ rest) =
    if (c == 92) && (d == 37) then 37 ∷ text_said_by rest else (if c == 37 then 10 else c) ∷ text_said_by (d ∷ rest)

-- the text begins with `%`
abbrev pub BeginsWithPercent : List ℕ → Type 0
BeginsWithPercent [] = ⊥
BeginsWithPercent (c ∷ cs) = c ≡ 37

-- the text begins with a `%` that is escaped
abbrev pub BeginsWithEscape : List ℕ → Type 0
BeginsWithEscape [] = ⊥
BeginsWithEscape (c ∷ cs) = (c ≡ 92) × BeginsWithPercent cs

-- the backslash of an escaped `%` that a command begins with is passed over
abbrev pub SkipsEscape : List ℕ → List ℕ → Type 0
SkipsEscape command text =
    ((command ≡ 92 ∷ text) × BeginsWithPercent text) ⊎ ((command ≡ text) × (BeginsWithEscape text → ⊥))

-- A text may end before the rest: at the end of the command, before a backslash that escapes a `%`, or before a `%`
-- that no backslash of the text escapes.
abbrev pub MayEndBefore : List ℕ → List ℕ → Type 0
MayEndBefore text [] = Unit {0}
MayEndBefore text (c ∷ rest) =
    ((c ≡ 92) × BeginsWithPercent rest) ⊎ ((c ≡ 37) × MayEndWith (λ d. d ≢ 92) text)

-- the command's pieces are this piece, and behind it those of the rest
abbrev pub BeginsWithPiece : List ℕ → CommandPiece → List ℕ → Type 0
BeginsWithPiece command piece rest =
    (pieces : List CommandPiece) → ArePieces rest pieces → ArePieces command (piece ∷ pieces)
