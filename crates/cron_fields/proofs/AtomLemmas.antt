-- Numbers and names of a field, as the reader finds them.
use Rattle.std.proofs.Common.{◌≡◌, ◌≢◌, ℕ, ◌+◌, ◌<◌, ◌≤◌, List, [], length, map, get_or, Option, Result, Ok, Err, IfSome, IfNone, inl, inr, ⊎_elim, refl, sym, ap, ◌∙◌, arith}
use Rattle.std.proofs.lemmas.Bool.{cases_lt}
use Rattle.std.specs.Int.{IsInRange, IsOutOfRange}
use Rattle.std.specs.Char.{IsAsciiAlphabetic, IsNotAsciiAlphabetic, to_ascii_lowercase}
use Rattle.std.specs.Result.{result_ok}
use Rattle.std.specs.Str.Parse.{AllDigits, ParsesUnsigned, digits_value}
use Rattle.std.proofs.lemmas.Str.Parse.{IsNumeralModel, numerals_by_value, tells_by_index, tells_digits, digit_at, digits_value_short, parse_plain}
use Rattle.std.proofs.lemmas.List.{get_or-map}
use Rattle.cron_fields.specs.FieldSet.{least_of}
use Rattle.cron_fields.specs.Atom.{IsNumber, IsName, names_of}
use Rattle.cron_fields.specs.Base.{IsPlaceInTable}
use Rattle.cron_fields.specs.declared.field.FieldKind.{FieldKind}
use Rattle.cron_fields.specs.declared.field.FieldKind.TheVariants.{Minute, Hour, MonthDay, Month, WeekDay}

-- digits by their places
pub by_index : IsNumeralModel (λ ds. (i : ℕ) → i < length ds → IsInRange 48 57 (get_or ds i 0)) (digits_value 10)
by_index = numerals_by_value (λ ds. (i : ℕ) → i < length ds → IsInRange 48 57 (get_or ds i 0)) tells_by_index

-- digits by std's word
pub digits_model : IsNumeralModel (AllDigits 10) (digits_value 10)
digits_model = numerals_by_value (AllDigits 10) tells_digits

-- a text with a byte that is no digit
pub no_digit_at : (text : List ℕ) (i : ℕ) → i < length text → IsOutOfRange 48 57 (get_or text i 0) → AllDigits 10 text → ⊥
no_digit_at text i within (inl below) digits = let digit = digit_at text i digits within in omega arith
no_digit_at text i within (inr above) digits = let digit = digit_at text i digits within in omega arith

-- a byte that is no letter
pub no_letter : (c : ℕ) → IsNotAsciiAlphabetic c → IsAsciiAlphabetic c → ⊥
no_letter c (upper, lower) (inl letter) = elim upper [ inl below ↦ omega arith | inr above ↦ omega arith ]
no_letter c (upper, lower) (inr letter) = elim lower [ inl below ↦ omega arith | inr above ↦ omega arith ]

-- what is parsed of at most nine bytes is a number
pub number_parsed : {E : Type 0} (text : List ℕ) (r : Result ℕ E) (o : Option ℕ) → ParsesUnsigned 32 10 text r → get_or text 0 0 ≢ 43 → length text ≤ 9 → o ≡ result_ok r → IfSome o (IsNumber text)
number_parsed {E} text (Ok value) o parsed plain short is =
    let found = parse_plain digits_model {E = E} 32 text (Ok value) parsed plain in
    rw is (record { some = found.0.1; short = short; digits = found.0.0; is = found.1 })
number_parsed text (Err e) o parsed plain short is = rw is tt

-- and where nothing is parsed there is no number
pub no_number_parsed : {E : Type 0} (text : List ℕ) (r : Result ℕ E) (o : Option ℕ) → ParsesUnsigned 32 10 text r → get_or text 0 0 ≢ 43 → o ≡ result_ok r → IfNone o ((value : ℕ) → IsNumber text value → ⊥)
no_number_parsed text (Ok value) o parsed plain is = rw is tt
no_number_parsed {E} text (Err e) o parsed plain is =
    let found = parse_plain digits_model {E = E} 32 text (Err e) parsed plain in
    rw is (λ value number.
    let small = digits_value_short digits_model text 9 number.digits number.short in
    found (number.digits, number.some, omega (arith, small)))

-- the names are in lower case
names_lowered : (kind : FieldKind) → map (map to_ascii_lowercase) (names_of kind) ≡ names_of kind
names_lowered Minute = refl
names_lowered Hour = refl
names_lowered MonthDay = refl
names_lowered Month = refl
names_lowered WeekDay = refl

name_lowered : (kind : FieldKind) (i : ℕ) → i < length (names_of kind) → map to_ascii_lowercase (get_or (names_of kind) i []) ≡ get_or (names_of kind) i []
name_lowered kind i within =
    sym (get_or-map (map to_ascii_lowercase) (names_of kind) i [] [] within)
    ∙ ap (λ names. get_or names i []) (names_lowered kind)

-- what stands in the table of the kind is a name
pub name_from_place : (kind : FieldKind) (text : List ℕ) (i value : ℕ) → IsPlaceInTable (names_of kind) text i → value ≡ least_of kind + i → IsName kind text value
name_from_place kind text i value at is = record {
  index = i;
  within = at.within;
  name = sym at.same ∙ name_lowered kind i at.within;
  is = is;
}

-- and a name stands there
pub place_from_name : (kind : FieldKind) (text : List ℕ) (value : ℕ) (name : IsName kind text value) → IsPlaceInTable (names_of kind) text name.index
place_from_name kind text value name = record {
  within = name.within;
  same = name_lowered kind name.index name.within ∙ sym name.name;
}

-- where nothing stands in the table there is no name
pub no_name : (kind : FieldKind) (text : List ℕ) → ((i : ℕ) → IsPlaceInTable (names_of kind) text i → ⊥) → (value : ℕ) → IsName kind text value → ⊥
no_name kind text none value name = none name.index (place_from_name kind text value name)

-- digits that are no number are too many
pub long_digits : (text : List ℕ) → AllDigits 10 text → 0 < length text → ((value : ℕ) → IsNumber text value → ⊥) → 9 < length text
long_digits text digits some none =
    ⊎_elim
    (λ long. long)
    (λ short. absurd (none (digits_value 10 text) (record { some = some; short = short; digits = digits; is = refl })))
    (cases_lt 9 (length text))
