-- An entry under a nickname (crontab(5)).
use Rattle.std.specs.Prelude.{◌≡◌, ◌⊎◌, ◌+◌, ℕ, List, [], ◌∷◌, length, Option, Some, None, IsSome, codes, if◌then◌else◌, bytes_eq}
use Rattle.cron_fields.specs.Seed.{Seed}
use Rattle.cron_fields.specs.declared.field.Fields.{Fields}
use Rattle.crontab_text.specs.Blanks.{IsFirstWord}
use Rattle.crontab_text.specs.Entry.{five_kinds, sets_of, BeginsWithFields}
use Rattle.crontab_text.specs.Tail.{IsTail, IsTailFault}
use Rattle.crontab_text.specs.declared.answer.Style.{Style}
use Rattle.cron_fields.specs.Cause.{cause_number}
use Rattle.cron_fields.specs.declared.cause.Cause.TheVariants.{BadNickname}

-- The nicknames, and the five fields that each stands for. At `@reboot` no fields stand.
abbrev pub nicknames : List (List ℕ × Option (List ℕ))
nicknames =
    (codes "@yearly", Some (codes "0 0 1 1 *"))
    ∷ (codes "@annually", Some (codes "0 0 1 1 *"))
    ∷ (codes "@monthly", Some (codes "0 0 1 * *"))
    ∷ (codes "@weekly", Some (codes "0 0 * * 0"))
    ∷ (codes "@daily", Some (codes "0 0 * * *"))
    ∷ (codes "@midnight", Some (codes "0 0 * * *"))
    ∷ (codes "@hourly", Some (codes "0 * * * *"))
    ∷ (codes "@reboot", None)
    ∷ []

-- what stands beside a word in a table of nicknames
abbrev pub meaning_in : List (List ℕ × Option (List ℕ)) → List ℕ → Option (Option (List ℕ))
meaning_in [] word = None
meaning_in (row ∷ rows) word = if bytes_eq word row.0 then Some row.1 else meaning_in rows word

-- what a nickname stands for; none for any other word
abbrev pub meaning_of : List ℕ → Option (Option (List ℕ))
meaning_of word = meaning_in nicknames word

-- the fields that a meaning says: with every seed they are read from its text
abbrev pub Means : Option (Option (List ℕ)) → Option Fields → Type 0
Means None fields = ⊥
Means (Some None) None = Unit {0}
Means (Some None) (Some fields) = ⊥
Means (Some (Some text)) None = ⊥
Means (Some (Some text)) (Some fields) = (seed : Seed) → BeginsWithFields five_kinds seed text (sets_of fields) []

-- a nickname, and what has to stand behind it
pub record IsNick (style : Style) (text : List ℕ) (fields : Option Fields) (user command : List ℕ) : Type 0 where
  pub word : List ℕ
  pub tail : List ℕ
  pub cut : IsFirstWord text word tail
  pub means : Means (meaning_of word) fields
  pub tail_is : IsTail style tail user command

-- The word isn't a nickname: cause 13, at the word. Otherwise there is a fault behind it.
pub record IsNickFault (style : Style) (text : List ℕ) (cause left : ℕ) : Type 0 where
  pub word : List ℕ
  pub tail : List ℕ
  pub cut : IsFirstWord text word tail
  pub is : ((meaning_of word ≡ None) × (cause ≡ cause_number BadNickname) × (left ≡ length word + length tail))
      ⊎ (IsSome (meaning_of word) × IsTailFault style tail cause left)
