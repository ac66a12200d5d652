-- An entry of five fields (crontab(5)).
use Rattle.std.specs.Prelude.{◌≡◌, ◌⊎◌, ◌+◌, ◌<◌, ℕ, List, [], ◌∷◌, length}
use Rattle.cron_fields.specs.Field.{IsField, IsFieldFault}
use Rattle.cron_fields.specs.Seed.{Seed}
use Rattle.cron_fields.specs.declared.field.FieldKind.{FieldKind}
use Rattle.cron_fields.specs.declared.field.FieldKind.TheVariants.{Minute, Hour, MonthDay, Month, WeekDay}
use Rattle.cron_fields.specs.declared.field.FieldSet.{FieldSet}
use Rattle.cron_fields.specs.declared.field.Fields.{Fields}
use Rattle.crontab_text.specs.Blanks.{IsFirstWord}
use Rattle.crontab_text.specs.Tail.{IsTail, IsTailFault}
use Rattle.crontab_text.specs.declared.answer.Style.{Style}
use Rattle.crontab_text.specs.declared.answer.Style.TheVariants.{User, System}
use Rattle.cron_fields.specs.Cause.{cause_number}
use Rattle.cron_fields.specs.declared.cause.Cause.TheVariants.{TooFewFields}

-- the fields of an entry, in the order of the line
abbrev pub five_kinds : List FieldKind
five_kinds = Minute ∷ Hour ∷ MonthDay ∷ Month ∷ WeekDay ∷ []

-- the sets of the fields in that order
abbrev pub sets_of : Fields → List FieldSet
sets_of fields = fields.minute ∷ fields.hour ∷ fields.month_day ∷ fields.month ∷ fields.week_day ∷ []

-- what a hashed field is picked by: the table's owner and the command, and in a system table the entry's own user
abbrev pub entry_seed : Style → (owner user command : List ℕ) → Seed
entry_seed User owner user command = record { owner = owner; command = command }
entry_seed System owner user command = record { owner = user; command = command }

-- the text begins with a field of each of the kinds, and that much is behind them
abbrev pub BeginsWithFields : List FieldKind → Seed → (text : List ℕ) → List FieldSet → (after : List ℕ) → Type 0
BeginsWithFields [] seed text [] after = text ≡ after
BeginsWithFields [] seed text (set ∷ sets) after = ⊥
BeginsWithFields (kind ∷ kinds) seed text [] after = ⊥
BeginsWithFields (kind ∷ kinds) seed text (set ∷ sets) after =
    (word behind : List ℕ) × IsFirstWord text word behind × IsField kind word seed set × BeginsWithFields kinds seed behind sets after

-- A field is missing (cause 10, at the line's end), or the word is no field, for a cause and at a place of the word.
-- From the word's first byte to the line's end there are `here` bytes.
abbrev pub IsBadWord : FieldKind → (word : List ℕ) (here cause left : ℕ) → Type 0
IsBadWord kind word here cause left =
    ((word ≡ []) × (cause ≡ cause_number TooFewFields) × (left ≡ 0))
    ⊎ ((place : ℕ) × (0 < length word) × IsFieldFault kind word cause place × (place + left ≡ here))

-- one of the fields that a text has to begin with is at fault, and those before it are fields
abbrev pub IsFieldsFault : List FieldKind → (text : List ℕ) (cause left : ℕ) → Type 0
IsFieldsFault [] text cause left = ⊥
IsFieldsFault (kind ∷ kinds) text cause left =
    (word behind : List ℕ) × IsFirstWord text word behind
    × (IsBadWord kind word (length word + length behind) cause left
    ⊎ ((seed : Seed) × (set : FieldSet) × IsField kind word seed set × IsFieldsFault kinds behind cause left))

-- five fields, and what has to stand behind them
pub record IsEntry (style : Style) (owner text : List ℕ) (fields : Fields) (user command : List ℕ) : Type 0 where
  pub tail : List ℕ
  pub fields_are : BeginsWithFields five_kinds (entry_seed style owner user command) text (sets_of fields) tail
  pub tail_is : IsTail style tail user command

-- five fields, and a fault behind them
pub record IsLateFault (style : Style) (text : List ℕ) (cause left : ℕ) : Type 0 where
  pub seed : Seed
  pub sets : List FieldSet
  pub tail : List ℕ
  pub fields_are : BeginsWithFields five_kinds seed text sets tail
  pub fault : IsTailFault style tail cause left

-- the first fault of an entry, from left to right
abbrev pub IsEntryFault : Style → (text : List ℕ) (cause left : ℕ) → Type 0
IsEntryFault style text cause left = IsFieldsFault five_kinds text cause left ⊎ IsLateFault style text cause left
