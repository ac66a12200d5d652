-- Dates and stamps have no `@`.
use Rattle.std.proofs.Common.{◌≢◌, ℕ, ℤ, pos, negsuc, ◌+◌, ◌/◌, ◌%◌, ◌*ℤ◌, ◌≤ℤ◌, ◌<◌, ◌≤◌, List, [], ◌∷◌, ◌++◌, codes, unsigned_abs, ◌∙◌, arith, length-append}
use Rattle.std.proofs.Math.ListN.{get_or-append}
use Rattle.std.proofs.lemmas.Int.{ints}
use Rattle.std.proofs.lemmas.List.Elements.{All-cons, All-nil}
use Rattle.zone_minutes.proofs.StampLemmas.{IsStampable-civil_at, midnight_in, stamp_text-midnight}
use Rattle.zone_minutes.specs.Civil.{IsCalendarDay, IsCalendarMinute, civil_at}
use Rattle.zone_minutes.specs.Stamp.{basic_stamp_text, date_text, stamp_text, two_digits}
use Rattle.cluster_sched.specs.Names.{LacksAt}

-- the same as `LacksAt`, as a record, so that antt finds the list
record NoAt (bytes : List ℕ) : Type 0 where
  lacks : LacksAt bytes

no_more : NoAt []
no_more = record { lacks = All-nil (λ byte. byte ≢ 64) }

before_mark : {rest : List ℕ} (mark : ℕ) → mark ≢ 64 → NoAt rest → NoAt (mark ∷ rest)
before_mark {rest} mark other is = record { lacks = All-cons (λ byte. byte ≢ 64) mark rest other is.lacks }

before_digits : {rest : List ℕ} (n : ℕ) → n < 100 → NoAt rest → NoAt (two_digits n ++ rest)
before_digits n small is = before_mark (48 + n / 10) (λ e. omega arith) (before_mark (48 + n % 10) (λ e. omega arith) is)

small_year : (year : ℤ) → pos 0 ≤ℤ year → year ≤ℤ pos 9999 → unsigned_abs year ≤ 9999
small_year (pos n) since until = omega (arith, ints, until)
small_year (negsuc n) since until = absurd (omega (arith, ints, since))

pub LacksAt-basic_stamp_text : (at : ℤ) → IsCalendarMinute at → LacksAt (basic_stamp_text at)
unfolding basic_stamp_text
LacksAt-basic_stamp_text at calendar =
    let civil = civil_at at in
    let is = IsStampable-civil_at at calendar in
    let year = small_year civil.year is.since is.until in
    let minutes = before_digits civil.minute is.minute (before_mark 90 (λ e. omega arith) no_more) in
    let hours = before_mark 84 (λ e. omega arith) (before_digits civil.hour is.hour minutes) in
    let days = before_digits civil.day is.day hours in
    let months = before_digits civil.month is.month days in
    let rest = before_digits (unsigned_abs civil.year % 100) (omega arith) months in
    (before_digits (unsigned_abs civil.year / 100) (omega arith) rest).lacks

LacksAt-stamp_text : (at : ℤ) → IsCalendarMinute at → LacksAt (stamp_text at)
unfolding stamp_text
LacksAt-stamp_text at calendar =
    let civil = civil_at at in
    let is = IsStampable-civil_at at calendar in
    let year = small_year civil.year is.since is.until in
    let minutes = before_mark 58 (λ e. omega arith) (before_digits civil.minute is.minute (before_mark 90 (λ e. omega arith) no_more)) in
    let hours = before_mark 84 (λ e. omega arith) (before_digits civil.hour is.hour minutes) in
    let days = before_mark 45 (λ e. omega arith) (before_digits civil.day is.day hours) in
    let months = before_mark 45 (λ e. omega arith) (before_digits civil.month is.month days) in
    let rest = before_digits (unsigned_abs civil.year % 100) (omega arith) months in
    (before_digits (unsigned_abs civil.year / 100) (omega arith) rest).lacks

-- a date is the front of a stamp
pub LacksAt-date_text : (day : ℤ) → IsCalendarDay day → LacksAt (date_text day)
LacksAt-date_text day calendar =
    let whole : LacksAt (date_text day ++ codes "T00:00Z") = rw (stamp_text-midnight day) at (LacksAt-stamp_text (day *ℤ pos 1440) (midnight_in day calendar)) in
    λ k d lt e. whole k d (omega (arith, length-append (date_text day) (codes "T00:00Z"))) (get_or-append (date_text day) (codes "T00:00Z") d k lt ∙ e)
