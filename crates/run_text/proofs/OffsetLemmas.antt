-- The texts of offsets.
use Rattle.std.proofs.Common.{◌≡◌, ◌≢◌, ℕ, ◌+◌, ◌*◌, ◌/◌, ◌%◌, ◌<◌, ◌≤◌, List, ◌∷◌, ◌++◌, get_or, ℤ, pos, ◌-ℤ◌, neg_ℤ, to_z, of_z, w16, refl, ap, ◌∙◌, sym, subst, arith}
use Rattle.std.specs.Prelude.{FitsSigned}
use Rattle.std.proofs.lemmas.Int.{ints, to_z-of_z}
use Rattle.zone_minutes.specs.Stamp.{two_digits}
use Rattle.zone_minutes.specs.Zone.{IsOffsetMinutes}
use Rattle.run_text.specs.Zones.{IsClockText, IsOffsetText, ahead, behind}
use Rattle.run_text.proofs.ListLemmas.{Lacks, same_cut, lacks_none}

-- two digits are those of one number
pub one_number : (m n : ℕ) → m < 100 → n < 100 → two_digits m ≡ two_digits n → m ≡ n
one_number m n small short same =
    let tens : 48 + m / 10 ≡ 48 + n / 10 = ap (λ l. get_or l 0 0) same in
    let units : 48 + m % 10 ≡ 48 + n % 10 = ap (λ l. get_or l 1 0) same in
    omega arith

digit_no_colon : (n : ℕ) → n < 10 → 48 + n ≡ 58 → ⊥
digit_no_colon n small e = omega arith

-- two digits have no colon
pub digits_no_colon : (n : ℕ) → n < 100 → Lacks 58 (two_digits n)
digits_no_colon n small = (digit_no_colon (n / 10) (omega arith), (digit_no_colon (n % 10) (omega arith), tt))

-- a text is cut at its first colon
pub record IsCutAtColon (text front back : List ℕ) : Type 0 where
  pub parts : text ≡ front ++ 58 ∷ back
  pub lacks : Lacks 58 front

pub clock_parts : (text front back : List ℕ) (total : ℕ) → IsCutAtColon text front back → (is : IsClockText text total)
    → (front ≡ two_digits is.hours) × (back ≡ two_digits is.minutes)
clock_parts text front back total cut is =
    let same = same_cut (λ c. c ≡ 58) front (two_digits is.hours) (58 ∷ back) (58 ∷ two_digits is.minutes)
    cut.lacks (digits_no_colon is.hours is.two) refl refl (sym cut.parts ∙ is.is) in
    let tails = same.1 in
    (same.0, cc)

pub no_clock_without_colon : (text : List ℕ) → Lacks 58 text → (total : ℕ) → IsClockText text total → ⊥
no_clock_without_colon text lacks total is =
    lacks_none (λ c. c ≡ 58) (two_digits is.hours) (58 ∷ two_digits is.minutes) refl (subst (Lacks 58) is.is lacks)

-- the minutes of a clock's parts
pub clock_total : (text front back : List ℕ) (hours minutes total : ℕ) → IsCutAtColon text front back
    → hours < 100 → front ≡ two_digits hours → minutes < 100 → back ≡ two_digits minutes → IsClockText text total → (total ≡ hours * 60 + minutes) × (minutes < 60)
clock_total text front back hours minutes total cut two front_is small back_is is =
    let parts = clock_parts text front back total cut is in
    let same_hours = one_number hours is.hours two is.two (sym front_is ∙ parts.0) in
    let same_minutes = one_number minutes is.minutes small (omega (arith, is.below)) (sym back_is ∙ parts.1) in
    (is.total_is ∙ rw (same_hours, same_minutes) refl, omega (arith, same_minutes, is.below))

pub clock_from_parts : (text front back : List ℕ) (hours minutes : ℕ) → IsCutAtColon text front back
    → hours < 100 → front ≡ two_digits hours → minutes < 60 → back ≡ two_digits minutes → IsClockText text (hours * 60 + minutes)
clock_from_parts text front back hours minutes cut two front_is below back_is = record {
  hours = hours;
  minutes = minutes;
  is = cut.parts ∙ ap (λ t. t ++ 58 ∷ back) front_is ∙ ap (λ t. two_digits hours ++ 58 ∷ t) back_is;
  two = two;
  below = below;
  total_is = refl;
}

one_clock : (text : List ℕ) (a b : ℕ) → IsClockText text a → IsClockText text b → a ≡ b
one_clock text a b first second =
    let cut : IsCutAtColon text (two_digits first.hours) (two_digits first.minutes) = record { parts = first.is; lacks = digits_no_colon first.hours first.two } in
    let same = clock_total text _ _ first.hours first.minutes b cut first.two refl (omega (arith, first.below)) refl second in
    first.total_is ∙ sym same.0

-- a text has one sign
signs_differ : (text a b : List ℕ) → text ≡ 43 ∷ a → text ≡ 45 ∷ b → ⊥
signs_differ text a b plus minus =
    let first : get_or (43 ∷ a) 0 0 ≡ get_or (45 ∷ b) 0 0 = ap (λ l. get_or l 0 0) (sym plus ∙ minus) in omega arith

-- an offset's text names one offset
pub one_offset : (text : List ℕ) (a b : ℤ) → IsOffsetText text a → IsOffsetText text b → a ≡ b
one_offset text a b (ahead clock m is says small a_is) (ahead other n also tells short b_is) =
    let clocks : clock ≡ other = cc in
    let same = one_clock other m n (subst (λ t. IsClockText t m) clocks says) tells in
    a_is ∙ ap pos same ∙ sym b_is
one_offset text a b (ahead clock m is says small a_is) (behind other n also tells short b_is) = absurd (signs_differ text clock other is also)
one_offset text a b (behind clock m is says small a_is) (ahead other n also tells short b_is) = absurd (signs_differ text other clock also is)
one_offset text a b (behind clock m is says small a_is) (behind other n also tells short b_is) =
    let clocks : clock ≡ other = cc in
    let same = one_clock other m n (subst (λ t. IsClockText t m) clocks says) tells in
    a_is ∙ ap (λ k. neg_ℤ (pos k)) same ∙ sym b_is

-- it is from -12:00 to +14:00
pub offset_in_range : (text : List ℕ) (offset : ℤ) → IsOffsetText text offset → IsOffsetMinutes offset
offset_in_range text offset (ahead clock m is says small offset_is) = rw offset_is (omega (arith, ints), omega (arith, ints))
offset_in_range text offset (behind clock m is says small offset_is) = rw offset_is (omega (arith, ints), omega (arith, ints))

-- no offset's text has no sign
pub no_offset_without_sign : (text : List ℕ) → ((clock : List ℕ) → text ≢ 43 ∷ clock) → ((clock : List ℕ) → text ≢ 45 ∷ clock) → (offset : ℤ) → IsOffsetText text offset → ⊥
no_offset_without_sign text no_plus no_minus offset (ahead clock m is says small offset_is) = no_plus clock is
no_offset_without_sign text no_plus no_minus offset (behind clock m is says small offset_is) = no_minus clock is

pub no_offset_ahead : (text clock : List ℕ) → text ≡ 43 ∷ clock → ((total : ℕ) → IsClockText clock total → total ≤ 840 → ⊥) → (offset : ℤ) → IsOffsetText text offset → ⊥
no_offset_ahead text clock is none offset (ahead other m also says small offset_is) =
    let clocks : other ≡ clock = cc in none m (subst (λ t. IsClockText t m) clocks says) small
no_offset_ahead text clock is none offset (behind other m also says small offset_is) = signs_differ text clock other is also

pub no_offset_behind : (text clock : List ℕ) → text ≡ 45 ∷ clock → ((total : ℕ) → IsClockText clock total → total ≤ 720 → ⊥) → (offset : ℤ) → IsOffsetText text offset → ⊥
no_offset_behind text clock is none offset (ahead other m also says small offset_is) = signs_differ text other clock also is
no_offset_behind text clock is none offset (behind other m also says small offset_is) =
    let clocks : other ≡ clock = cc in none m (subst (λ t. IsClockText t m) clocks says) small

-- the program's value of an offset
pub negated : (minutes : ℕ) → minutes ≤ 720 → to_z w16 (of_z w16 (pos 0 -ℤ pos minutes)) ≡ neg_ℤ (pos minutes)
negated minutes small =
    let fits : FitsSigned w16 (pos 0 -ℤ pos minutes) = omega (arith, ints) in
    to_z-of_z w16 (pos 0 -ℤ pos minutes) fits ∙ omega (arith, ints)

pub kept_offset : (text : List ℕ) (offset : ℤ) → IsOffsetText text offset → to_z w16 (of_z w16 offset) ≡ offset
kept_offset text offset is =
    let range = offset_in_range text offset is in
    let low = range.0 in
    let high = range.1 in
    let fits : FitsSigned w16 offset = omega (arith, ints) in
    to_z-of_z w16 offset fits
