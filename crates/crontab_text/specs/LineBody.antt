-- What a line of a crontab says. Source: crontab(5).
use Rattle.std.specs.Prelude.{ℕ, List, Option}
use Rattle.cron_fields.specs.declared.field.Fields.{Fields}
use Rattle.crontab_text.specs.declared.answer.Body.{Body}
use Rattle.crontab_text.specs.declared.answer.Body.TheVariants.{Blank, Comment, Assign, Entry, Nick}

-- nothing, a comment, a variable that is set, an entry of five fields, or an entry under a nickname
pub data LineBody : Type 0 where
  BlankBody : LineBody
  CommentBody : LineBody
  AssignBody : (name value : List ℕ) → LineBody
  EntryBody : (fields : Fields) (user command : List ℕ) → LineBody
  NickBody : (fields : Option Fields) (user command : List ℕ) → LineBody

-- what a body of the program stands for
abbrev pub body_of : Body → LineBody
body_of Blank = BlankBody
body_of Comment = CommentBody
body_of (Assign name value) = AssignBody name.now value.now
body_of (Entry fields user command) = EntryBody fields user.now command.now
body_of (Nick fields user command) = NickBody fields user.now command.now
