-- What stands behind the five fields or a nickname: in a system table the user, and then the command (crontab(5)).
-- Where something is at fault, `left` is how many bytes of the line stand from there on.
use Rattle.std.specs.Prelude.{◌≡◌, ◌⊎◌, ◌+◌, ◌<◌, ◌≤◌, ℕ, List, [], ◌∷◌, length}
use Rattle.std.specs.List.{AllByRecursion}
use Rattle.crontab_text.specs.Assignment.{IsNameStart, IsNameByte}
use Rattle.crontab_text.specs.Blanks.{SkipsBlanks, IsFirstWord}
use Rattle.crontab_text.specs.declared.answer.Style.{Style}
use Rattle.crontab_text.specs.declared.answer.Style.TheVariants.{User, System}
use Rattle.cron_fields.specs.Cause.{cause_number}
use Rattle.cron_fields.specs.declared.cause.Cause.TheVariants.{NoCommand, BadUser, LongCommand}

-- a letter, a digit, `_`, `.` or `-`
abbrev pub IsUserByte : ℕ → Type 0
IsUserByte c = IsNameByte c ⊎ ((c ≡ 46) ⊎ (c ≡ 45))

-- a letter or `_`, and up to 31 bytes that may stand in a user's name
abbrev pub IsUser : List ℕ → Type 0
IsUser [] = ⊥
IsUser (c ∷ cs) = IsNameStart c × AllByRecursion IsUserByte cs × (length cs ≤ 31)

-- a command of 1 to 1,000 bytes
pub record IsCommand (command : List ℕ) : Type 0 where
  pub some : 0 < length command
  pub short : length command ≤ 1000

-- the command goes from the first byte behind the blanks to the end of the line
pub record EndsWithCommand (text command : List ℕ) : Type 0 where
  pub skips : SkipsBlanks text command
  pub is : IsCommand command

-- a user, and then a command
pub record EndsWithUser (text user command : List ℕ) : Type 0 where
  pub after : List ℕ
  pub word : IsFirstWord text user after
  pub is_user : IsUser user
  pub command_is : EndsWithCommand after command

-- what stands behind the fields: a user in a system table alone, and a command
abbrev pub IsTail : Style → (text user command : List ℕ) → Type 0
IsTail User text user command = (user ≡ []) × EndsWithCommand text command
IsTail System text user command = EndsWithUser text user command

-- no command (cause 11, at the line's end), or one of more than 1,000 bytes (14)
abbrev pub IsBadCommand : (command : List ℕ) (cause left : ℕ) → Type 0
IsBadCommand command cause left =
    ((command ≡ []) × (cause ≡ cause_number NoCommand) × (left ≡ 0)) ⊎ ((1000 < length command) × (cause ≡ cause_number LongCommand) × (left ≡ length command))

-- the text doesn't end with a command
pub record IsCommandFault (text : List ℕ) (cause left : ℕ) : Type 0 where
  pub command : List ℕ
  pub skips : SkipsBlanks text command
  pub is : IsBadCommand command cause left

-- The first word is no user, or the line has no more words: cause 12. Otherwise the command is at fault.
pub record IsUserFault (text : List ℕ) (cause left : ℕ) : Type 0 where
  pub user : List ℕ
  pub after : List ℕ
  pub word : IsFirstWord text user after
  pub is : ((IsUser user → ⊥) × (cause ≡ cause_number BadUser) × (left ≡ length user + length after)) ⊎ (IsUser user × IsCommandFault after cause left)

-- the first fault behind the fields
abbrev pub IsTailFault : Style → (text : List ℕ) (cause left : ℕ) → Type 0
IsTailFault User text cause left = IsCommandFault text cause left
IsTailFault System text cause left = IsUserFault text cause left
