-- What a logical line of an anacrontab says, or the first rule that it breaks and where (anacrontab(5) of cronie). A line is
-- read from left to right, and the first fault decides.
use Rattle.std.specs.Prelude.{◌≡◌, ◌≢◌, ◌⊎◌, ℕ, ◌+◌, List, [], ◌∷◌, length}
use Rattle.crontab_text.specs.Answers.{BeginsWithByte}
use Rattle.crontab_text.specs.Assignment.{IsAssignment}
use Rattle.crontab_text.specs.Blanks.{SkipsBlanks}
use Rattle.anacron_text.specs.Job.{IsJob, IsJobFault}
use Rattle.anacron_text.specs.LineBody.{AnacronLineBody, BlankBody, CommentBody, AssignBody, JobBody}
use Rattle.anacron_text.specs.LogicalLines.{logical_lines}
use Rattle.anacron_text.specs.Setting.{IsSetting}
use Rattle.anacron_text.specs.Settings.{SetsVariable, IsBadValue, no_settings}
use Rattle.anacron_text.specs.Spaced.{spaced, IsPartWithin}
use Rattle.anacron_text.specs.declared.settings.Settings.{Settings}

-- the text is neither empty nor a comment, and sets no variable
pub record IsAnacronOther (text : List ℕ) : Type 0 where
  pub some : text ≢ []
  pub no_comment : BeginsWithByte 35 text → ⊥
  pub no_assignment : (name value : List ℕ) → IsAssignment (spaced text) name value → ⊥

-- the text sets a variable, and no other value is wanted
pub record IsGoodSetting (text name value : List ℕ) : Type 0 where
  pub left : ℕ
  pub setting : IsSetting text name value left
  pub good : (cause : ℕ) → IsBadValue name value cause → ⊥

-- the text sets a variable to a value that it can't have: the fault is at the value
pub record IsBadSetting (text : List ℕ) (cause left : ℕ) : Type 0 where
  pub name : List ℕ
  pub value : List ℕ
  pub setting : IsSetting text name value left
  pub bad : IsBadValue name value cause

-- what a line says that begins with no blank, below these settings
abbrev pub AnacronSays : Settings → List ℕ → AnacronLineBody → Type 0
AnacronSays settings text BlankBody = text ≡ []
AnacronSays settings text CommentBody = BeginsWithByte 35 text
AnacronSays settings text (AssignBody name value) = IsGoodSetting text name value
AnacronSays settings text (JobBody job) = IsAnacronOther text × IsJob settings text job

-- Why such a line says nothing, and how many bytes stand from the fault to its end. Neither depends on what is above it.
abbrev pub AnacronBreaks : (text : List ℕ) (cause left : ℕ) → Type 0
AnacronBreaks text cause left = IsBadSetting text cause left ⊎ (IsAnacronOther text × IsJobFault text cause left)

-- the text is the line without the blanks that it begins with
pub record IsBehindBlanks (line text : List ℕ) : Type 0 where
  pub skips : SkipsBlanks (spaced line) (spaced text)
  pub stands : IsPartWithin line text (length text)

-- what a line says, below these settings
pub record IsAnacronLineOf (settings : Settings) (line : List ℕ) (body : AnacronLineBody) : Type 0 where
  pub text : List ℕ
  pub behind : IsBehindBlanks line text
  pub says : AnacronSays settings text body

-- the first rule that a line breaks, by its number, and how many of its bytes stand from there on
pub record IsAnacronLineBreak (line : List ℕ) (cause left : ℕ) : Type 0 where
  pub text : List ℕ
  pub behind : IsBehindBlanks line text
  pub breaks : AnacronBreaks text cause left

-- the first rule that a line breaks, by its number, and the place of the byte, counted from 0
pub record IsAnacronLineFault (line : List ℕ) (cause place : ℕ) : Type 0 where
  pub left : ℕ
  pub is : IsAnacronLineBreak line cause left
  pub place_is : place + left ≡ length line

-- the answer to a line: what it says, or a cause and a place
pub data AnacronLineAnswer : Type 0 where
  Said : AnacronLineBody → AnacronLineAnswer
  Broken : (cause place : ℕ) → AnacronLineAnswer

-- the answer to a line, below these settings
abbrev pub IsAnacronAnswer : Settings → List ℕ → AnacronLineAnswer → Type 0
IsAnacronAnswer settings line (Said body) = IsAnacronLineOf settings line body
IsAnacronAnswer settings line (Broken cause place) = IsAnacronLineFault line cause place

-- the settings below a line that says this
abbrev pub SetsBy : AnacronLineBody → Settings → Settings → Type 0
SetsBy (AssignBody name value) old new = SetsVariable old name value new
SetsBy BlankBody old new = new ≡ old
SetsBy CommentBody old new = new ≡ old
SetsBy (JobBody job) old new = new ≡ old

-- the settings below a line with this answer: a line that breaks a rule sets nothing
abbrev pub SetsByAnswer : AnacronLineAnswer → Settings → Settings → Type 0
SetsByAnswer (Said body) old new = SetsBy body old new
SetsByAnswer (Broken cause place) old new = new ≡ old

-- the answers to lines, in order, the first of them below these settings
abbrev pub AreAnswersBelow : List (List ℕ) → Settings → List AnacronLineAnswer → Type 0
AreAnswersBelow [] settings [] = Unit {0}
AreAnswersBelow [] settings (answer ∷ answers) = ⊥
AreAnswersBelow (line ∷ lines) settings [] = ⊥
AreAnswersBelow (line ∷ lines) settings (answer ∷ answers) =
    (next : Settings) × IsAnacronAnswer settings line answer × SetsByAnswer answer settings next × AreAnswersBelow lines next answers

-- the answers to all lines of a table, in order
abbrev pub AreAnacronAnswers : (text : List ℕ) → List AnacronLineAnswer → Type 0
AreAnacronAnswers text answers = AreAnswersBelow (logical_lines text) no_settings answers
