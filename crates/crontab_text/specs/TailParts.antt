-- The parts of a tail, as the program holds them. Private functions alone cite it.
use Rattle.std.specs.Prelude.{◌≡◌, ◌⊎◌, ◌+◌, ℕ, List, [], length}
use Rattle.crontab_text.specs.Blanks.{SkipsBlanks, IsFirstWord}
use Rattle.crontab_text.specs.Tail.{IsUser, IsCommand, IsBadCommand}
use Rattle.crontab_text.specs.declared.answer.Style.{Style}
use Rattle.crontab_text.specs.declared.answer.Style.TheVariants.{User, System}
use Rattle.crontab_text.specs.declared.tail.Tail.{Tail}
use Rattle.cron_fields.specs.Cause.{cause_number}
use Rattle.cron_fields.specs.declared.cause.Cause.TheVariants.{BadUser}

-- a user and what is behind the blanks after it
pub record HasUser (text : List ℕ) (tail : Tail) : Type 0 where
  pub after : List ℕ
  pub word : IsFirstWord text tail.user.text.now after
  pub left : tail.user.left ≡ length tail.user.text.now + length after
  pub skips : SkipsBlanks after tail.command.now

-- the text is cut into the parts of a tail
abbrev pub IsSplitTail : Style → List ℕ → Tail → Type 0
IsSplitTail User text tail = (tail.user.text.now ≡ []) × SkipsBlanks text tail.command.now
IsSplitTail System text tail = HasUser text tail

-- the parts are a user, in a system table, and a command
abbrev pub IsGoodTail : Style → Tail → Type 0
IsGoodTail User tail = IsCommand tail.command.now
IsGoodTail System tail = IsUser tail.user.text.now × IsCommand tail.command.now

-- the first of the parts that is at fault
abbrev pub IsBadTail : Style → Tail → (cause left : ℕ) → Type 0
IsBadTail User tail cause left = IsBadCommand tail.command.now cause left
IsBadTail System tail cause left =
    ((IsUser tail.user.text.now → ⊥) × (cause ≡ cause_number BadUser) × (left ≡ tail.user.left))
    ⊎ (IsUser tail.user.text.now × IsBadCommand tail.command.now cause left)
