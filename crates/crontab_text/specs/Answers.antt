-- What a line of a crontab says, or the first rule that it breaks and where (crontab(5)). A line is read from left to
-- right, and the first fault decides.
use Rattle.std.specs.Prelude.{◌≡◌, ◌≢◌, ◌⊎◌, ◌+◌, ℕ, List, [], ◌∷◌, length}
use Rattle.std.specs.List.{AllZip}
use Rattle.crontab_text.specs.Assignment.{IsAssignment}
use Rattle.crontab_text.specs.Blanks.{SkipsBlanks}
use Rattle.crontab_text.specs.Entry.{IsEntry, IsEntryFault}
use Rattle.crontab_text.specs.LineBody.{LineBody, BlankBody, CommentBody, AssignBody, EntryBody, NickBody}
use Rattle.crontab_text.specs.Lines.{lines_of}
use Rattle.crontab_text.specs.Nickname.{IsNick, IsNickFault}
use Rattle.crontab_text.specs.declared.answer.Style.{Style}

-- the text begins with the byte
abbrev pub BeginsWithByte : ℕ → List ℕ → Type 0
BeginsWithByte byte [] = ⊥
BeginsWithByte byte (c ∷ cs) = c ≡ byte

-- the text begins with a byte that is neither `#` nor `@`, and sets no variable
pub record IsOther (text : List ℕ) : Type 0 where
  pub some : text ≢ []
  pub no_comment : BeginsWithByte 35 text → ⊥
  pub no_nick : BeginsWithByte 64 text → ⊥
  pub no_assignment : (name value : List ℕ) → IsAssignment text name value → ⊥

-- what a line says that begins with no blank
abbrev pub LineSays : Style → (owner text : List ℕ) → LineBody → Type 0
LineSays style owner text BlankBody = text ≡ []
LineSays style owner text CommentBody = BeginsWithByte 35 text
LineSays style owner text (AssignBody name value) = IsAssignment text name value
LineSays style owner text (EntryBody fields user command) = IsOther text × IsEntry style owner text fields user command
LineSays style owner text (NickBody fields user command) = BeginsWithByte 64 text × IsNick style text fields user command

-- Why such a line says nothing, and how many bytes stand from the fault to its end. Neither depends on the table's owner.
abbrev pub Breaks : Style → (text : List ℕ) (cause left : ℕ) → Type 0
Breaks style text cause left =
    (IsOther text × IsEntryFault style text cause left) ⊎ (BeginsWithByte 64 text × IsNickFault style text cause left)

-- what a line says, in a table of this style and this owner
pub record IsLineOf (style : Style) (owner line : List ℕ) (body : LineBody) : Type 0 where
  pub text : List ℕ
  pub skips : SkipsBlanks line text
  pub says : LineSays style owner text body

-- the first rule that a line breaks, by its number, and the place of the byte, counted from 0
pub record IsLineFault (style : Style) (line : List ℕ) (cause place : ℕ) : Type 0 where
  pub text : List ℕ
  pub left : ℕ
  pub skips : SkipsBlanks line text
  pub breaks : Breaks style text cause left
  pub place_is : place + left ≡ length line

-- the answer to a line: what it says, or a cause and a place
pub data LineAnswer : Type 0 where
  Said : LineBody → LineAnswer
  Broken : (cause place : ℕ) → LineAnswer

-- the answer to a line, in a table of this style and this owner
abbrev pub IsAnswer : Style → (owner line : List ℕ) → LineAnswer → Type 0
IsAnswer style owner line (Said body) = IsLineOf style owner line body
IsAnswer style owner line (Broken cause place) = IsLineFault style line cause place

-- the answers to all lines of a table, in order
abbrev pub AreAnswers : Style → (owner text : List ℕ) → List LineAnswer → Type 0
AreAnswers style owner text answers = AllZip (IsAnswer style owner) (lines_of text) answers
