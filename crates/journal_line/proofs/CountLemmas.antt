-- Numbers of any length: each text says one at most, and one below 2^64 is what `decimal` writes.
use Rattle.std.proofs.Common.{◌≡◌, ℕ, zero, suc, ◌<◌, ◌^◌, List, [], ◌∷◌, length, get_or, Err, inl, inr, refl, ap, sym, ◌∙◌, arith, decimal}
use Rattle.std.proofs.lemmas.Bool.{cases_lt}
use Rattle.std.specs.List.{AllByRecursion}
use Rattle.std.specs.Str.Parse.{digits_value, ParsesUnsigned}
use Rattle.std.proofs.lemmas.Str.Parse.{IsNumeralModel, numerals_by_value, parse_digits}
use Rattle.std.proofs.lemmas.Fmt.{digits_decimal, digits_value-decimal, decimal_nonempty, decimal_digit, first_decimal, decimal-digits_value}
use Rattle.journal_line.specs.Count.{IsCountText, IsDecimal, IsDigit}
use Rattle.journal_line.specs.Spaced.{LacksSpace}
use Rattle.journal_line.specs.declared.line.Count.{Count}
use Rattle.journal_line.specs.declared.line.Count.TheVariants.{Number, Larger}

own : IsNumeralModel (AllByRecursion IsDigit) (digits_value 10)
own = numerals_by_value (AllByRecursion IsDigit) (record { empty = tt; parts = λ c cs d. d; more = λ c cs k d. (k, d) })

-- digits that `parse` doesn't take are those of a larger number
pub larger : {E : Type 0} (text : List ℕ) (e : E) → IsDecimal text → ParsesUnsigned 64 10 text (Err e) → IsCountText Larger text
larger {E} text e is parsed =
    let refused : (0 < length text) × (digits_value 10 text < 2 ^ 64) → ⊥ = parse_digits own {E = E} 64 text (Err e) parsed is.digits in
    record {
      decimal = is;
      value = elim (cases_lt (digits_value 10 text) (2 ^ 64)) [ inl less ↦ absurd (refused (is.some, less)) | inr more ↦ more ];
    }

-- what `decimal` writes has no leading zero
short_zero : (n : ℕ) → n < 2 ^ 64 → get_or (decimal n) 0 0 ≡ 48 → length (decimal n) ≡ 1
short_zero zero small begins = rw (decimal_digit 0 (omega arith)) refl
short_zero (suc n) small begins = absurd (omega (arith, first_decimal (suc n) (omega arith) (omega arith)))

pub count_of_decimal : (n : ℕ) → n < 2 ^ 64 → IsCountText (Number n) (decimal n)
count_of_decimal n small = record {
  decimal = record { some = decimal_nonempty n small; digits = digits_decimal own n small; no_zero = short_zero n small };
  value = (small, digits_value-decimal own n small);
}

pub decimal_of_count : (n : ℕ) (text : List ℕ) → IsCountText (Number n) text → text ≡ decimal n
decimal_of_count n text is =
    let small = is.value.0 in
    sym (decimal-digits_value own text is.decimal.digits is.decimal.some is.decimal.no_zero (omega (arith, is.value.1, small))) ∙ ap decimal is.value.1

-- a text says one number
pub same_count : (a b : Count) (text : List ℕ) → IsCountText a text → IsCountText b text → a ≡ b
same_count (Number m) (Number n) text p q = ap Number (sym p.value.1 ∙ q.value.1)
same_count (Number m) Larger text p q = absurd (omega (arith, p.value.0, p.value.1, q.value))
same_count Larger (Number n) text p q = absurd (omega (arith, q.value.0, q.value.1, p.value))
same_count Larger Larger text p q = refl

digits_lack : (text : List ℕ) → AllByRecursion IsDigit text → LacksSpace text
digits_lack [] digits = tt
digits_lack (c ∷ cs) digits = ((λ e. omega (arith, e, digits.0)), digits_lack cs digits.1)

-- a number has no space
pub count_no_space : (count : Count) (text : List ℕ) → IsCountText count text → LacksSpace text
count_no_space count text is = digits_lack text is.decimal.digits

-- each text in decimal says a number
pub some_count : (text : List ℕ) → IsDecimal text → (count : Count) × IsCountText count text
some_count text is = elim (cases_lt (digits_value 10 text) (2 ^ 64)) [
  | inl less ↦ (Number (digits_value 10 text), record { decimal = is; value = (less, refl) })
  | inr more ↦ (Larger, record { decimal = is; value = more })
]
