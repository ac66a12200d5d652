-- The next value of a field by its bits, and the next time of day that an entry's fields match.
use Rattle.std.proofs.Common.{◌≡◌, ℕ, ◌+◌, ◌-◌, ◌*◌, ◌/◌, ◌%◌, ◌^◌, ◌<◌, ◌≤◌, w64, sym, ap, ◌∙◌, subst, arith}
use Rattle.std.specs.Int.{bit_at, trailing_zeros}
use Rattle.std.proofs.lemmas.Nat.{shr-shr}
use Rattle.std.proofs.lemmas.Nat.Bits.{bit_at-zero, bit_at-trailing_zeros}
use Rattle.cron_fields.specs.FieldSet.{Has}
use Rattle.cron_fields.specs.declared.field.FieldSet.{FieldSet}
use Rattle.cron_fields.specs.declared.field.Fields.{Fields}
use Rattle.cron_fields.proofs.BitLemmas.{set_from_at, unset_from_at}
use Rattle.due_set.specs.Matching.{HasNoneBetween, IsNextValue, MatchNoTimeBetween}

-- ---- a field's bits from one on

-- a bit of the shifted number is a bit of the number
shifted : (bits from k : ℕ) → bit_at (bits / 2 ^ from) k ≡ bit_at bits (from + k)
shifted bits from k = ap (λ (n : ℕ). n % 2) (shr-shr bits from k)

shifted_at : (bits from value : ℕ) → from ≤ value → bit_at (bits / 2 ^ from) (value - from) ≡ bit_at bits value
shifted_at bits from value le =
    let same : from + (value - from) ≡ value = omega arith in
    shifted bits from (value - from) ∙ ap (bit_at bits) same

pub HasNoneBetween-zero : (field : FieldSet) (from until : ℕ) → field.bits / 2 ^ from ≡ 0 → HasNoneBetween field from until
HasNoneBetween-zero field from until zero value since below has =
    let bit : bit_at field.bits value ≡ 0 =
    sym (shifted_at field.bits from value since) ∙ ap (λ (n : ℕ). bit_at n (value - from)) zero ∙ bit_at-zero (value - from) in
    unset_from_at field.bits value bit has

pub IsNextValue-lowest : (field : FieldSet) (from : ℕ) → 0 < field.bits / 2 ^ from → field.bits / 2 ^ from < 2 ^ 64
    → IsNextValue field from (from + trailing_zeros w64 (field.bits / 2 ^ from))
IsNextValue-lowest field from some fits =
    let rest : ℕ = field.bits / 2 ^ from in
    let lowest = bit_at-trailing_zeros w64 rest some fits in
    record {
      has = set_from_at field.bits (from + trailing_zeros w64 rest) (sym (shifted field.bits from (trailing_zeros w64 rest)) ∙ lowest.1);
      since = omega arith;
      none_before = λ value since below has.
          let bit : bit_at field.bits value ≡ 0 = sym (shifted_at field.bits from value since) ∙ lowest.2 (value - from) (omega arith) in
          unset_from_at field.bits value bit has;
    }

-- ---- a time of day

hour_of : (hour minute : ℕ) → minute < 60 → (hour * 60 + minute) / 60 ≡ hour
hour_of hour minute lt = omega arith

minute_of : (hour minute : ℕ) → minute < 60 → (hour * 60 + minute) % 60 ≡ minute
minute_of hour minute lt = omega arith

-- an hour that the field has, at none of whose minutes the fields match: then the minute field has no minute
pub MatchNoTimeBetween-all : (fields : Fields) (from later until : ℕ) → Has fields.hour later → MatchNoTimeBetween fields (later * 60 + 0) (later * 60 + 60)
    → MatchNoTimeBetween fields from until
MatchNoTimeBetween-all fields from later until has none time since below m =
    let lt : time % 60 < 60 = omega arith in
    none (later * 60 + time % 60) (omega arith) (omega arith) (record {
      hour_in = subst (Has fields.hour) (sym (hour_of later (time % 60) lt)) has;
      minute_in = subst (Has fields.minute) (sym (minute_of later (time % 60) lt)) m.minute_in;
    })
