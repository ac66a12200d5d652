-- An atom of a field (crontab(5)): a number, or the name of a month or of a day of the week.
use Rattle.std.specs.Prelude.{◌≡◌, ◌≢◌, ◌⊎◌, ℕ, ◌+◌, ◌<◌, ◌≤◌, List, [], ◌∷◌, ◌++◌, length, map, codes, slice_index, slice_index_or}
use Rattle.std.specs.Char.{IsAsciiAlphabetic, to_ascii_lowercase}
use Rattle.std.specs.Str.Parse.{AllDigits, digits_value}
use Rattle.cron_fields.specs.FieldSet.{least_of, greatest_of}
use Rattle.cron_fields.specs.declared.field.FieldKind.{FieldKind}
use Rattle.cron_fields.specs.declared.field.FieldKind.TheVariants.{Minute, Hour, MonthDay, Month, WeekDay}
use Rattle.cron_fields.specs.Cause.{cause_number}
use Rattle.cron_fields.specs.declared.cause.Cause.TheVariants.{Empty, BadNumber, UnknownName, NoAtom}

-- the text has no such byte
abbrev pub HasNo : ℕ → List ℕ → Type 0
HasNo byte text = (i : ℕ) → i < length text → slice_index text i ≢ byte

-- the two parts of a text round its first such byte
pub record IsSplitAt (byte : ℕ) (text before after : List ℕ) : Type 0 where
  pub text_is : text ≡ before ++ (byte ∷ after)
  pub first : HasNo byte before

-- the first three letters of the English names, January first and Sunday first
abbrev pub names_of : FieldKind → List (List ℕ)
names_of Minute = []
names_of Hour = []
names_of MonthDay = []
names_of Month =
    codes "jan" ∷ codes "feb" ∷ codes "mar" ∷ codes "apr" ∷ codes "may" ∷ codes "jun" ∷
    codes "jul" ∷ codes "aug" ∷ codes "sep" ∷ codes "oct" ∷ codes "nov" ∷ codes "dec" ∷ []
names_of WeekDay =
    codes "sun" ∷ codes "mon" ∷ codes "tue" ∷ codes "wed" ∷ codes "thu" ∷ codes "fri" ∷ codes "sat" ∷ []

-- each byte is a letter
abbrev pub AllLetters : List ℕ → Type 0
AllLetters text = (i : ℕ) → i < length text → IsAsciiAlphabetic (slice_index text i)

-- a number in one to nine digits, which may begin with 0
pub record IsNumber (text : List ℕ) (value : ℕ) : Type 0 where
  pub some : 0 < length text
  pub short : length text ≤ 9
  pub digits : AllDigits 10 text
  pub is : value ≡ digits_value 10 text

-- a name of the kind, in any case, and its number: January is 1, Sunday is 0
pub record IsName (kind : FieldKind) (text : List ℕ) (value : ℕ) : Type 0 where
  pub index : ℕ
  pub within : index < length (names_of kind)
  pub name : map to_ascii_lowercase text ≡ slice_index_or (names_of kind) index []
  pub is : value ≡ least_of kind + index

-- an atom and its number
abbrev pub IsAtom : FieldKind → List ℕ → ℕ → Type 0
IsAtom kind text value = IsNumber text value ⊎ IsName kind text value

-- what is wrong with an atom: it is empty, a number of too many digits, a name that is none of the kind's, or neither
-- number nor name
pub data IsAtomFault (kind : FieldKind) (text : List ℕ) (cause : ℕ) : Type 0 where
  empty_atom : text ≡ [] → cause ≡ cause_number Empty → IsAtomFault kind text cause
  long_number : AllDigits 10 text → 9 < length text → cause ≡ cause_number BadNumber → IsAtomFault kind text cause
  unknown_name : 0 < length text → AllLetters text → ((value : ℕ) → IsName kind text value → ⊥) → cause ≡ cause_number UnknownName → IsAtomFault kind text cause
  no_atom : 0 < length text → (AllDigits 10 text → ⊥) → (AllLetters text → ⊥) → cause ≡ cause_number NoAtom → IsAtomFault kind text cause

-- the kind takes the number: it is not below the least and not above the greatest
pub record TakesNumber (kind : FieldKind) (number : ℕ) : Type 0 where
  pub least : least_of kind ≤ number
  pub greatest : number ≤ greatest_of kind
