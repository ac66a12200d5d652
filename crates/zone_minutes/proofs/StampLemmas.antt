-- Stamps: each digit and mark at its place, and one stamp for each instant.
use Rattle.std.proofs.Common.{◌≡◌, ◌↔◌, ℕ, zero, suc, ◌+◌, ◌*◌, ◌/◌, ◌%◌, ◌<◌, ◌≤◌, List, [], ◌∷◌, ◌++◌, codes, length, get_or, take, drop, refl, sym, ap, subst, ◌∙◌, arith, length-append, ℤ, pos, ◌*ℤ◌, unsigned_abs}
use Rattle.std.proofs.Math.Seq.{drop-cons, take-append_seam}
use Rattle.std.specs.Int.{int_rem_euclid}
use Rattle.std.proofs.lemmas.List.{drop_all}
use Rattle.std.proofs.lemmas.Str.Ascii.{IsAscii-nil, IsAscii-cons}
use Rattle.std.specs.Str.{IsAscii}
use Rattle.jiff_core.proofs.SignedLemmas.{signed_arith, one_part}
use Rattle.jiff_core.proofs.CalendarLemmas.{days_in_month_bounds}
use Rattle.zone_minutes.proofs.CalendarLemmas.{civil_at-is, civil_at-injective}
use Rattle.zone_minutes.specs.Civil.{civil_at, day_number, minute_of_day, IsCalendarDay, IsCalendarMinute}
use Rattle.zone_minutes.specs.Stamp.{two_digits, extended_text, basic_text, stamp_text, basic_stamp_text, date_text, IsStampable, HasTwoDigits, HasMarks}
use Rattle.zone_minutes.specs.declared.civil.Civil.{Civil}

-- the n elements from that place on, one by one
elements : List ℕ → ℕ → ℕ → List ℕ
elements xs zero place = []
elements xs (suc n) place = get_or xs place 0 ∷ elements xs n (suc place)

drop-elements : (xs : List ℕ) (n place : ℕ) → length xs ≡ place + n → drop place xs ≡ elements xs n place
unfolding elements
drop-elements xs zero place e = drop_all place xs (omega arith)
drop-elements xs (suc n) place e = drop-cons xs place 0 (omega arith) ∙ ap (λ ys. get_or xs place 0 ∷ ys) (drop-elements xs n (suc place) (omega arith))

list_of_17 : (xs : List ℕ) → length xs ≡ 17 → xs ≡ elements xs 17 0
list_of_17 xs e = drop-elements xs 17 0 (omega arith)

-- bytes with a stamp's marks and numbers are that stamp
pub extended_text-from_digits : (bytes : List ℕ) (century year month day hour minute : ℕ) → HasMarks bytes
    → HasTwoDigits bytes 0 century → HasTwoDigits bytes 2 year → HasTwoDigits bytes 5 month → HasTwoDigits bytes 8 day → HasTwoDigits bytes 11 hour → HasTwoDigits bytes 14 minute
    → bytes ≡ extended_text (record { year = pos (century * 100 + year); month = month; day = day; hour = hour; minute = minute })
unfolding elements
extended_text-from_digits bytes century year month day hour minute marks c y m d h n =
    let quotient : (century * 100 + year) / 100 ≡ century = omega (arith, y.small) in
    let rest : (century * 100 + year) % 100 ≡ year = omega (arith, y.small) in
    rw (quotient, rest) (list_of_17 bytes marks.long
    ∙ rw (c.tens, c.units, y.tens, y.units, marks.before_month, m.tens, m.units, marks.before_day, d.tens, d.units, marks.before_hour, h.tens, h.units, marks.before_minute, n.tens, n.units, marks.at_end) refl)

-- the stamp of a civil time has the marks, and its numbers at their places
pub HasMarks-extended_text : (civil : Civil) → HasMarks (extended_text civil)
HasMarks-extended_text civil = record { long = refl; before_month = refl; before_day = refl; before_hour = refl; before_minute = refl; at_end = refl }

-- the numbers of the civil time stand at these places, and its year at the first
pub record HasNumbers (bytes : List ℕ) (month day hour minute : ℕ) (civil : Civil) : Type 0 where
  pub century : HasTwoDigits bytes 0 (unsigned_abs civil.year / 100)
  pub year : HasTwoDigits bytes 2 (unsigned_abs civil.year % 100)
  pub months : HasTwoDigits bytes month civil.month
  pub days : HasTwoDigits bytes day civil.day
  pub hours : HasTwoDigits bytes hour civil.hour
  pub minutes : HasTwoDigits bytes minute civil.minute

year_size : (civil : Civil) → IsStampable civil → (unsigned_abs civil.year ≤ 9999) × (pos (unsigned_abs civil.year) ≡ civil.year)
year_size civil is =
    (omega (arith, signed_arith, is.since, is.until, one_part civil.year), omega (arith, signed_arith, is.since, one_part civil.year))

pub HasNumbers-extended_text : (civil : Civil) → IsStampable civil → HasNumbers (extended_text civil) 5 8 11 14 civil
HasNumbers-extended_text civil is =
    let year = year_size civil is in
    record {
      century = record { small = omega arith; tens = refl; units = refl };
      year = record { small = omega arith; tens = refl; units = refl };
      months = record { small = is.month; tens = refl; units = refl };
      days = record { small = is.day; tens = refl; units = refl };
      hours = record { small = is.hour; tens = refl; units = refl };
      minutes = record { small = is.minute; tens = refl; units = refl };
    }

pub HasNumbers-basic_text : (civil : Civil) → IsStampable civil → HasNumbers (basic_text civil) 4 6 9 11 civil
HasNumbers-basic_text civil is =
    let year = year_size civil is in
    record {
      century = record { small = omega arith; tens = refl; units = refl };
      year = record { small = omega arith; tens = refl; units = refl };
      months = record { small = is.month; tens = refl; units = refl };
      days = record { small = is.day; tens = refl; units = refl };
      hours = record { small = is.hour; tens = refl; units = refl };
      minutes = record { small = is.minute; tens = refl; units = refl };
    }

same_number : (bytes : List ℕ) (place m n : ℕ) → HasTwoDigits bytes place m → HasTwoDigits bytes place n → m ≡ n
same_number bytes place m n a b =
    let tens : 48 + m / 10 ≡ 48 + n / 10 = sym a.tens ∙ b.tens in
    let units : 48 + m % 10 ≡ 48 + n % 10 = sym a.units ∙ b.units in
    omega arith

same_civil : (c d : Civil) → c.year ≡ d.year → c.month ≡ d.month → c.day ≡ d.day → c.hour ≡ d.hour → c.minute ≡ d.minute → c ≡ d
same_civil c d year month day hour minute =
    let at : ℤ → ℕ → ℕ → ℕ → ℕ → Civil = λ y m d h n. record { year = y; month = m; day = d; hour = h; minute = n } in
    let e : at c.year c.month c.day c.hour c.minute ≡ at d.year d.month d.day d.hour d.minute = rw (year, month, day, hour, minute) in
    e

-- bytes hold one civil time at most
numbers-same : (bytes : List ℕ) (month day hour minute : ℕ) (c d : Civil) → IsStampable c → IsStampable d → HasNumbers bytes month day hour minute c → HasNumbers bytes month day hour minute d → c ≡ d
numbers-same bytes month day hour minute c d is_c is_d a b =
    let century = same_number _ _ _ _ a.century b.century in
    let rest = same_number _ _ _ _ a.year b.year in
    let year : unsigned_abs c.year ≡ unsigned_abs d.year = omega arith in
    same_civil c d (sym (year_size c is_c).1 ∙ ap pos year ∙ (year_size d is_d).1) (same_number _ _ _ _ a.months b.months) (same_number _ _ _ _ a.days b.days) (same_number _ _ _ _ a.hours b.hours) (same_number _ _ _ _ a.minutes b.minutes)

pub extended_text-injective : (c d : Civil) → IsStampable c → IsStampable d → extended_text c ≡ extended_text d → c ≡ d
extended_text-injective c d is_c is_d e =
    let P : List ℕ → Type 0 = λ bytes. HasNumbers bytes 5 8 11 14 c in
    numbers-same (extended_text d) 5 8 11 14 c d is_c is_d (subst P e (HasNumbers-extended_text c is_c)) (HasNumbers-extended_text d is_d)

pub basic_text-injective : (c d : Civil) → IsStampable c → IsStampable d → basic_text c ≡ basic_text d → c ≡ d
basic_text-injective c d is_c is_d e =
    let P : List ℕ → Type 0 = λ bytes. HasNumbers bytes 4 6 9 11 c in
    numbers-same (basic_text d) 4 6 9 11 c d is_c is_d (subst P e (HasNumbers-basic_text c is_c)) (HasNumbers-basic_text d is_d)

pub IsStampable-civil_at : (at : ℤ) → IsCalendarMinute at → IsStampable (civil_at at)
IsStampable-civil_at at h =
    let is = civil_at-is at h in
    let long = days_in_month_bounds (civil_at at).year (civil_at at).month in
    record {
      since = is.since;
      until = is.date.0.1;
      month = omega (arith, is.date.1);
      day = omega (arith, is.date.2);
      hour = omega (arith, is.hour);
      minute = omega (arith, is.minute);
    }

-- two instants of the calendar have two stamps
pub stamp_text-injective : (a b : ℤ) → IsCalendarMinute a → IsCalendarMinute b → stamp_text a ≡ stamp_text b → a ≡ b
unfolding stamp_text
stamp_text-injective a b in_a in_b e =
    civil_at-injective a b in_a in_b (extended_text-injective (civil_at a) (civil_at b) (IsStampable-civil_at a in_a) (IsStampable-civil_at b in_b) e)

pub basic_stamp_text-injective : (a b : ℤ) → IsCalendarMinute a → IsCalendarMinute b → basic_stamp_text a ≡ basic_stamp_text b → a ≡ b
unfolding basic_stamp_text
basic_stamp_text-injective a b in_a in_b e =
    civil_at-injective a b in_a in_b (basic_text-injective (civil_at a) (civil_at b) (IsStampable-civil_at a in_a) (IsStampable-civil_at b in_b) e)

pub length-stamp_text : (at : ℤ) → length (stamp_text at) ≡ 17
unfolding stamp_text
length-stamp_text at = refl

pub length-basic_stamp_text : (at : ℤ) → length (basic_stamp_text at) ≡ 14
unfolding basic_stamp_text
length-basic_stamp_text at = refl

pub length-date_text : (day : ℤ) → length (date_text day) ≡ 10
unfolding date_text
length-date_text day = refl

-- the time of day of a stamp: what it has after the date
abbrev pub clock_text : ℤ → List ℕ
clock_text at = (84 ∷ two_digits (minute_of_day at / 60)) ++ (58 ∷ two_digits (minute_of_day at % 60)) ++ 90 ∷ []

-- a stamp is the date of its day, and the time of day
pub stamp_text-parts : (at : ℤ) → stamp_text at ≡ date_text (day_number at) ++ clock_text at
unfolding stamp_text date_text
stamp_text-parts at = refl

abbrev pub with_marks : List ℕ → List ℕ
with_marks xs =
    get_or xs 0 0 ∷ get_or xs 1 0 ∷ get_or xs 2 0 ∷ get_or xs 3 0 ∷ 45 ∷ get_or xs 4 0 ∷ get_or xs 5 0 ∷ 45 ∷ get_or xs 6 0 ∷ get_or xs 7 0
    ∷ get_or xs 8 0 ∷ get_or xs 9 0 ∷ get_or xs 10 0 ∷ 58 ∷ get_or xs 11 0 ∷ get_or xs 12 0 ∷ get_or xs 13 0 ∷ []

abbrev without_marks : List ℕ → List ℕ
without_marks xs =
    get_or xs 0 0 ∷ get_or xs 1 0 ∷ get_or xs 2 0 ∷ get_or xs 3 0 ∷ get_or xs 5 0 ∷ get_or xs 6 0 ∷ get_or xs 8 0 ∷ get_or xs 9 0
    ∷ get_or xs 10 0 ∷ get_or xs 11 0 ∷ get_or xs 12 0 ∷ get_or xs 14 0 ∷ get_or xs 15 0 ∷ get_or xs 16 0 ∷ []

-- of 14 bytes these are a stamp's, with the marks just where they are without
pub stamp_with_marks : (basic : List ℕ) → length basic ≡ 14 → (at : ℤ) → (basic ≡ basic_stamp_text at) ↔ (with_marks basic ≡ stamp_text at)
unfolding stamp_text basic_stamp_text elements
stamp_with_marks basic long at = (there, back)
  where
    there : basic ≡ basic_stamp_text at → with_marks basic ≡ stamp_text at
    there e = ap with_marks e

    back : with_marks basic ≡ stamp_text at → basic ≡ basic_stamp_text at
    back e = drop-elements basic 14 0 long ∙ ap without_marks e

-- ten bytes one by one, before the time of day with which a day begins
pub midnight_bytes : (bytes : List ℕ) → length bytes ≡ 10
    → get_or bytes 0 0 ∷ get_or bytes 1 0 ∷ get_or bytes 2 0 ∷ get_or bytes 3 0 ∷ get_or bytes 4 0 ∷ get_or bytes 5 0 ∷ get_or bytes 6 0 ∷ get_or bytes 7 0 ∷ get_or bytes 8 0 ∷ get_or bytes 9 0 ∷ codes "T00:00Z" ≡ bytes ++ codes "T00:00Z"
unfolding elements
midnight_bytes bytes long = ap (λ date. date ++ codes "T00:00Z") (sym (drop-elements bytes 10 0 long))

-- the minute with which a day begins
pub midnight_in : (day : ℤ) → IsCalendarDay day → IsCalendarMinute (day *ℤ pos 1440)
midnight_in day h = (omega (arith, signed_arith), omega (arith, signed_arith))

midnight_day : (day : ℤ) → day_number (day *ℤ pos 1440) ≡ day
midnight_day day = omega (arith, signed_arith)

midnight_clock : (day : ℤ) → minute_of_day (day *ℤ pos 1440) ≡ 0
midnight_clock day = omega (arith, signed_arith, one_part (int_rem_euclid (day *ℤ pos 1440) (pos 1440)))

-- the stamp of that minute
pub stamp_text-midnight : (day : ℤ) → stamp_text (day *ℤ pos 1440) ≡ date_text day ++ codes "T00:00Z"
stamp_text-midnight day =
    let clock : clock_text (day *ℤ pos 1440) ≡ codes "T00:00Z" = rw (midnight_clock day) refl in
    stamp_text-parts (day *ℤ pos 1440) ∙ rw (midnight_day day, clock) refl

-- its first ten bytes
pub date_text-front : (day : ℤ) → take 10 (stamp_text (day *ℤ pos 1440)) ≡ date_text day
date_text-front day =
    ap (take 10) (stamp_text-midnight day) ∙ ap (λ n. take n (date_text day ++ codes "T00:00Z")) (sym (length-date_text day)) ∙ take-append_seam (date_text day) (codes "T00:00Z")

-- two days of the calendar have two dates
pub date_text-injective : (a b : ℤ) → IsCalendarDay a → IsCalendarDay b → date_text a ≡ date_text b → a ≡ b
date_text-injective a b in_a in_b e =
    let stamps : stamp_text (a *ℤ pos 1440) ≡ stamp_text (b *ℤ pos 1440) = stamp_text-midnight a ∙ ap (λ date. date ++ codes "T00:00Z") e ∙ sym (stamp_text-midnight b) in
    let same = stamp_text-injective (a *ℤ pos 1440) (b *ℤ pos 1440) (midnight_in a in_a) (midnight_in b in_b) stamps in
    omega (arith, signed_arith, same)

-- bytes before that time of day are the date of the stamp's day
pub date_text-of_midnight : (bytes : List ℕ) (at : ℤ) → bytes ++ codes "T00:00Z" ≡ stamp_text at → bytes ≡ date_text (day_number at)
date_text-of_midnight bytes at e =
    let date = date_text (day_number at) in
    let all : length (bytes ++ codes "T00:00Z") ≡ 17 = ap length e ∙ length-stamp_text at in
    let long : length bytes ≡ 10 = omega (arith, length-append bytes (codes "T00:00Z")) in
    let whole : bytes ++ codes "T00:00Z" ≡ date ++ clock_text at = e ∙ stamp_text-parts at in
    sym (take-append_seam bytes (codes "T00:00Z")) ∙ ap (take (length bytes)) whole
    ∙ ap (λ n. take n (date ++ clock_text at)) (long ∙ sym (length-date_text (day_number at))) ∙ take-append_seam date (clock_text at)

-- the same as `IsAscii`, as a record, so that antt finds the list
record AsciiBytes (bytes : List ℕ) : Type 0 where
  ascii : IsAscii bytes

before_mark : {rest : List ℕ} (mark : ℕ) → mark < 128 → AsciiBytes rest → AsciiBytes (mark ∷ rest)
before_mark {rest} mark h is = record { ascii = IsAscii-cons mark rest h is.ascii }

before_digits : {rest : List ℕ} (n : ℕ) → n < 100 → AsciiBytes rest → AsciiBytes (two_digits n ++ rest)
before_digits n h is = before_mark (48 + n / 10) (omega arith) (before_mark (48 + n % 10) (omega arith) is)

end_ascii : AsciiBytes (90 ∷ [])
end_ascii = record { ascii = IsAscii-cons 90 [] (omega arith) IsAscii-nil }

pub IsAscii-extended_text : (civil : Civil) → IsStampable civil → IsAscii (extended_text civil)
IsAscii-extended_text civil is =
    let year = year_size civil is in
    let minute = before_mark 58 (omega arith) (before_digits civil.minute is.minute end_ascii) in
    let hour = before_mark 84 (omega arith) (before_digits civil.hour is.hour minute) in
    let day = before_mark 45 (omega arith) (before_digits civil.day is.day hour) in
    let month = before_mark 45 (omega arith) (before_digits civil.month is.month day) in
    let rest = before_digits (unsigned_abs civil.year % 100) (omega arith) month in
    (before_digits (unsigned_abs civil.year / 100) (omega arith) rest).ascii

pub IsAscii-basic_text : (civil : Civil) → IsStampable civil → IsAscii (basic_text civil)
IsAscii-basic_text civil is =
    let year = year_size civil is in
    let minute = before_digits civil.minute is.minute end_ascii in
    let hour = before_mark 84 (omega arith) (before_digits civil.hour is.hour minute) in
    let day = before_digits civil.day is.day hour in
    let month = before_digits civil.month is.month day in
    let rest = before_digits (unsigned_abs civil.year % 100) (omega arith) month in
    (before_digits (unsigned_abs civil.year / 100) (omega arith) rest).ascii
