-- What stands at the end of a part, when no thread has a turn any more.
use Rattle.std.specs.Prelude.{◌≡◌, ℕ, ◌≤◌, ◌-◌, ℤ, Bool, true, false, List, ◌++◌, length, map, Some, slice_get}
use Rattle.std.specs.List.{fold}
use Rattle.history.specs.Book.{Row}
use Rattle.history.specs.declared.turn.Turn.{Turn}
use Rattle.script_semantics.specs.Situation.{Situation, is_cut, latest_after}
use Rattle.turn_book.specs.Turns.{opening_of}
use Rattle.world_law.specs.Book.{posted_as}
use Rattle.world_law.specs.declared.letter.LetterRow.{LetterRow}
use Rattle.world_steps.specs.Parts.{IsBookAt}
use Rattle.world_steps.specs.declared.mail.MemberMail.{MemberMail}
use Rattle.world_free.specs.Mails.{coming}
use Rattle.world_free.specs.Plan.{SharedBook}
use Rattle.world_free.specs.declared.job.FreeMail.{FreeMail}
use Rattle.world_free.specs.declared.job.Setting.{Setting}

-- the latest clock reading behind some turns
abbrev pub latest_by : ℤ → List Turn → ℤ
latest_by latest turns = fold (λ (latest : ℤ) (turn : Turn). latest_after turn latest) latest turns

-- no thread of a replica that runs has looked at more letters than these
abbrev pub HaveLooked : List LetterRow → List FreeMail → Type 0
HaveLooked letters mails = (who : ℕ) (mail : FreeMail) → slice_get mails who ≡ Some mail → mail.mail.runs ≡ true → mail.looked ≤ length letters

-- the letters of a mail at the end: where the replica runs, those that its thread hasn't looked at have come
abbrev pub letters_at_end : Bool → List (ℕ × ℕ) → List LetterRow → ℕ → FreeMail → List ℕ
letters_at_end true cuts letters who mail = mail.mail.letters.items ++ coming cuts who (map posted_as letters) mail.looked (length letters - mail.looked)
letters_at_end false cuts letters who mail = mail.mail.letters.items

-- the mail of a replica whose thread has ended
pub record HasEnded (cuts : List (ℕ × ℕ)) (letters : List LetterRow) (who : ℕ) (mail : FreeMail) (ended : MemberMail) : Type 0 where
  pub runs : ended.runs ≡ mail.mail.runs
  pub skew : ended.skew ≡ mail.mail.skew
  pub fate : ended.fate ≡ mail.mail.fate
  pub waits : ended.waits ≡ mail.mail.waits
  pub arm : ended.arm ≡ mail.mail.arm
  pub letters_are : ended.letters.items ≡ letters_at_end mail.mail.runs cuts letters who mail

-- so it is of each
pub record HaveEnded (cuts : List (ℕ × ℕ)) (letters : List LetterRow) (mails : List FreeMail) (ended : List MemberMail) : Type 0 where
  pub count : length ended ≡ length mails
  pub each : (who : ℕ) (mail : FreeMail) (end : MemberMail) → slice_get mails who ≡ Some mail → slice_get ended who ≡ Some end
      → HasEnded cuts letters who mail end

-- The part began in this situation, in which these rows stand behind the book that its threads share; what is set for all threads has its
-- cuts, and this is its latest clock reading.
pub record BeginsAt (book : SharedBook) (setting : Setting) (latest : ℤ) (rows : List Row) (situation : Situation) : Type 0 where
  pub at : IsBookAt (opening_of book).key.value rows (opening_of book).state.value situation
  pub cuts : (from to : ℕ) → is_cut from to setting.cuts.items ≡ is_cut from to situation.cuts
  pub latest_is : latest ≡ situation.latest
