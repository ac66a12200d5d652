-- Decimal numbers without a sign or a leading zero.
use Rattle.std.proofs.Common.{◌≡◌, ℕ, zero, suc, ◌<◌, ◌^◌, List, Result, Ok, length, get_or, sym, arith, decimal}
use Rattle.std.specs.Str.Parse.{AllDigits, digits_value, ParsesUnsigned}
use Rattle.std.proofs.lemmas.Str.Parse.{IsNumeralModel, numerals_by_value, tells_digits, not_in_digits, parse_plain}
use Rattle.std.proofs.lemmas.Fmt.{digits_decimal, decimal_nonempty, decimal_digit, first_decimal, decimal-digits_value, parse-decimal}
use Rattle.cron_io.specs.Number.{MayBeginNumber}

pub own : IsNumeralModel (AllDigits 10) (digits_value 10)
own = numerals_by_value (AllDigits 10) tells_digits

-- what `decimal` writes has no leading zero
short_zero : (n : ℕ) → n < 2 ^ 32 → get_or (decimal n) 0 0 ≡ 48 → length (decimal n) < 2
short_zero zero small begins = rw (decimal_digit 0 (omega arith)) (omega arith)
short_zero (suc n) small begins = absurd (omega (arith, first_decimal (suc n) (omega arith) (omega arith)))

pub may_begin_decimal : (n : ℕ) → n < 2 ^ 32 → MayBeginNumber (decimal n)
may_begin_decimal n small = record {
  no_sign = not_in_digits own (decimal n) 43 (digits_decimal own n (omega arith)) (λ range. omega arith) 0 (decimal_nonempty n (omega arith));
  no_zero = short_zero n small;
}

-- digits that `parse` takes are what `decimal` writes
pub parsed_is_decimal : (text : List ℕ) (n : ℕ) → MayBeginNumber text → ParsesUnsigned {E = ℕ} 32 10 text (Ok n) → text ≡ decimal n
parsed_is_decimal text n begins parsed =
    let (is, value) = parse_plain own {E = ℕ} 32 text (Ok n) parsed begins.no_sign in
    let same = decimal-digits_value own text is.0 is.1 (λ zero_first. omega (arith, begins.no_zero zero_first)) (omega arith) in
    rw value (sym same)

-- what `decimal` writes, `parse` reads back
pub decimal_is_parsed : (text : List ℕ) (n : ℕ) (r : Result ℕ ℕ) → n < 2 ^ 32 → text ≡ decimal n → ParsesUnsigned 32 10 text r → r ≡ Ok n
decimal_is_parsed text n r small is parsed = parse-decimal 32 n text r small (omega arith) is parsed
