-- What the readers of an entry hand out. Private functions alone cite it.
use Rattle.std.specs.Prelude.{ℕ, List}
use Rattle.crontab_text.specs.Entry.{IsEntry}
use Rattle.crontab_text.specs.Nickname.{IsNick}
use Rattle.crontab_text.specs.declared.answer.Body.{Body}
use Rattle.crontab_text.specs.declared.answer.Body.TheVariants.{Entry, Nick}
use Rattle.crontab_text.specs.declared.answer.Style.{Style}

-- the body is the entry that the text is
abbrev pub IsEntryBody : Style → (owner text : List ℕ) → Body → Type 0
IsEntryBody style owner text (Entry fields user command) = IsEntry style owner text fields user.now command.now
IsEntryBody style owner text body = ⊥

-- the body is the entry under a nickname that the text is
abbrev pub IsNickBody : Style → (text : List ℕ) → Body → Type 0
IsNickBody style text (Nick fields user command) = IsNick style text fields user.now command.now
IsNickBody style text body = ⊥
