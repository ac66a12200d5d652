-- The line of a command is printable, so it is ASCII and one line.
use Rattle.std.proofs.Common.{◌≢◌, ℕ, suc, ◌+◌, ◌≤◌, ◌<◌, ◌^◌, ◌/◌, ◌%◌, List, [], ◌∷◌, ◌++◌, get_or, arith, rules, codes, decimal, ℤ, pos, negsuc, unsigned_abs}
use Rattle.std.specs.List.{AllByRecursion}
use Rattle.std.specs.Str.{IsAscii}
use Rattle.std.proofs.lemmas.Str.Ascii.{IsAscii-nil, IsAscii-cons}
use Rattle.std.specs.Fmt.{signed_decimal}
use Rattle.std.specs.Int.{IsInRange as IsDigitRange}
use Rattle.std.proofs.lemmas.Int.{ints}
use Rattle.std.proofs.lemmas.List.Elements.{All-from_get_or, recursion_from_All}
use Rattle.std.proofs.lemmas.Str.Parse.{digit_at}
use Rattle.std.proofs.lemmas.Fmt.{digits_decimal}
use Rattle.jiff_core.proofs.SignedLemmas.{signed_arith, one_part}
use Rattle.zone_minutes.specs.Civil.{civil_at, IsCalendarMinute}
use Rattle.zone_minutes.specs.Stamp.{two_digits, extended_text, stamp_text, IsStampable}
use Rattle.zone_minutes.specs.declared.civil.Civil.{Civil}
use Rattle.zone_minutes.specs.declared.minute.Window.{Window}
use Rattle.zone_minutes.proofs.StampLemmas.{IsStampable-civil_at}
use Rattle.script_text.specs.Command.{fate_word, command_line, IsInRange, IsSkew}
use Rattle.script_text.specs.declared.command.Command.{Command}
use Rattle.script_text.specs.declared.command.Command.TheVariants.{Round, Campaign, Stop, Break, Restart, Cut, Heal, Drop, Repeat, Reverse, Again, Skew, Fate, Arrive, Settle, Walk, Free}
use Rattle.script_text.specs.declared.command.FateWord.{FateWord}
use Rattle.script_text.specs.declared.command.FateWord.TheVariants.{Done, LostBefore, LostAfter, Late}
use Rattle.cron_io.proofs.NumberLemmas.{own}

-- a printable byte of ASCII, the space among them
abbrev IsPrintable : ℕ → Type 0
IsPrintable byte = (32 ≤ byte) × (byte ≤ 126)

-- a record, so that antt finds the text
record Printable (text : List ℕ) : Type 0 where
  all : AllByRecursion IsPrintable text

all_of : (a b : List ℕ) → AllByRecursion IsPrintable a → AllByRecursion IsPrintable b → AllByRecursion IsPrintable (a ++ b)
all_of [] b one two = two
all_of (c ∷ cs) b one two = (one.0, all_of cs b one.1 two)

both : {a b : List ℕ} → Printable a → Printable b → Printable (a ++ b)
both {a} {b} one two = record { all = all_of a b one.all two.all }

before : {rest : List ℕ} (byte : ℕ) → 32 ≤ byte → byte ≤ 126 → Printable rest → Printable (byte ∷ rest)
before byte low high rest = record { all = ((low, high), rest.all) }

before_two : {rest : List ℕ} (n : ℕ) → n < 100 → Printable rest → Printable (two_digits n ++ rest)
before_two n small rest = before (48 + n / 10) (omega arith) (omega arith) (before (48 + n % 10) (omega arith) (omega arith) rest)

end_mark : Printable (90 ∷ [])
end_mark = record { all = ((omega arith, omega arith), tt) }

civil_printable : (civil : Civil) → IsStampable civil → Printable (extended_text civil)
civil_printable civil is =
    let size : unsigned_abs civil.year ≤ 9999 = omega (arith, signed_arith, is.since, is.until, one_part civil.year) in
    let minute = before 58 (omega arith) (omega arith) (before_two civil.minute is.minute end_mark) in
    let hour = before 84 (omega arith) (omega arith) (before_two civil.hour is.hour minute) in
    let day = before 45 (omega arith) (omega arith) (before_two civil.day is.day hour) in
    let month = before 45 (omega arith) (omega arith) (before_two civil.month is.month day) in
    let year = before_two (unsigned_abs civil.year % 100) (omega arith) month in
    before_two (unsigned_abs civil.year / 100) (omega arith) year

stamp_printable : (at : ℤ) → IsCalendarMinute at → Printable (stamp_text at)
unfolding stamp_text
stamp_printable at calendar = civil_printable (civil_at at) (IsStampable-civil_at at calendar)

digit_printable : (c : ℕ) → IsDigitRange 48 57 c → IsPrintable c
digit_printable c range = (omega (arith, range), omega (arith, range))

number_printable : (n : ℕ) → n < 2 ^ 64 → Printable (decimal n)
number_printable n small = record {
  all = recursion_from_All IsPrintable (decimal n) (All-from_get_or IsPrintable (decimal n) 0 (λ i inside. digit_printable (get_or (decimal n) i 0) (digit_at (decimal n) i (digits_decimal own n small) inside)));
}

skew_printable : (minutes : ℤ) → IsSkew minutes → Printable (signed_decimal minutes)
skew_printable (pos n) range = number_printable n (omega (arith, ints, range.1))
skew_printable (negsuc n) range = before 45 (omega arith) (omega arith) (number_printable (suc n) (omega (arith, ints, range.0)))

fate_printable : (fate : FateWord) → Printable (fate_word fate)
fate_printable Done = record { all = search (rules, arith) }
fate_printable LostBefore = record { all = search (rules, arith) }
fate_printable LostAfter = record { all = search (rules, arith) }
fate_printable Late = record { all = search (rules, arith) }

module _ (members : ℕ) (window : Window) (small : members < 2 ^ 8) where
  line_printable : (command : Command) → IsInRange members window command → Printable (command_line command)
  line_printable (Round at rounds) range =
      let name : Printable (codes "round ") = record { all = search (rules, arith) } in
      both (both name (stamp_printable at.0 range.0.calendar)) (before 32 (omega arith) (omega arith) (number_printable rounds (omega (arith, range.1.most))))
  line_printable (Campaign member) range =
      let name : Printable (codes "campaign ") = record { all = search (rules, arith) } in
      both name (number_printable member (omega (arith, small, range)))
  line_printable (Stop member) range =
      let name : Printable (codes "stop ") = record { all = search (rules, arith) } in
      both name (number_printable member (omega (arith, small, range)))
  line_printable (Break member pass image) range =
      let name : Printable (codes "break ") = record { all = search (rules, arith) } in
      both (both name (number_printable member (omega (arith, small, range.0)))) (before 32 (omega arith) (omega arith) (both (number_printable pass (omega (arith, range.1))) (before 32 (omega arith) (omega arith) (number_printable image (omega (arith, range.2))))))
  line_printable (Restart member) range =
      let name : Printable (codes "restart ") = record { all = search (rules, arith) } in
      both name (number_printable member (omega (arith, small, range)))
  line_printable (Cut from to) range =
      let name : Printable (codes "cut ") = record { all = search (rules, arith) } in
      both (both name (number_printable from (omega (arith, small, range.0)))) (before 32 (omega arith) (omega arith) (number_printable to (omega (arith, small, range.1))))
  line_printable Heal range =
      record { all = search (rules, arith) }
  line_printable (Drop from to) range =
      let name : Printable (codes "drop ") = record { all = search (rules, arith) } in
      both (both name (number_printable from (omega (arith, small, range.0)))) (before 32 (omega arith) (omega arith) (number_printable to (omega (arith, small, range.1))))
  line_printable (Repeat from to) range =
      let name : Printable (codes "repeat ") = record { all = search (rules, arith) } in
      both (both name (number_printable from (omega (arith, small, range.0)))) (before 32 (omega arith) (omega arith) (number_printable to (omega (arith, small, range.1))))
  line_printable (Reverse member) range =
      let name : Printable (codes "reverse ") = record { all = search (rules, arith) } in
      both name (number_printable member (omega (arith, small, range)))
  line_printable (Again letter) range =
      let name : Printable (codes "again ") = record { all = search (rules, arith) } in
      both name (number_printable letter (omega (arith, range)))
  line_printable (Skew member minutes) range =
      let name : Printable (codes "skew ") = record { all = search (rules, arith) } in
      both (both name (number_printable member (omega (arith, small, range.0)))) (before 32 (omega arith) (omega arith) (skew_printable minutes range.1))
  line_printable (Fate member fate) range =
      let name : Printable (codes "fate ") = record { all = search (rules, arith) } in
      both (both name (number_printable member (omega (arith, small, range)))) (before 32 (omega arith) (omega arith) (fate_printable fate))
  line_printable (Arrive late) range =
      let name : Printable (codes "arrive ") = record { all = search (rules, arith) } in
      both name (number_printable late (omega (arith, range)))
  line_printable (Settle at) range =
      let name : Printable (codes "settle ") = record { all = search (rules, arith) } in
      both name (stamp_printable at.0 range.calendar)
  line_printable (Walk to) range =
      let name : Printable (codes "walk ") = record { all = search (rules, arith) } in
      both name (stamp_printable to.0 range.calendar)
  line_printable (Free at turns) range =
      let name : Printable (codes "free ") = record { all = search (rules, arith) } in
      both (both name (stamp_printable at.0 range.0.calendar)) (before 32 (omega arith) (omega arith) (number_printable turns (omega (arith, range.1.most))))

ascii_of : (text : List ℕ) → AllByRecursion IsPrintable text → IsAscii text
ascii_of [] all = IsAscii-nil
ascii_of (c ∷ cs) all = IsAscii-cons c cs (omega (arith, all.0)) (ascii_of cs all.1)

no_feed : (c : ℕ) → IsPrintable c → c ≢ 10
no_feed c is e = omega (arith, is)

one_line_of : (text : List ℕ) → AllByRecursion IsPrintable text → AllByRecursion (λ byte. byte ≢ 10) text
one_line_of [] all = tt
one_line_of (c ∷ cs) all = (no_feed c all.0, one_line_of cs all.1)

module _ (members : ℕ) (window : Window) (command : Command) (small : members < 2 ^ 8) (range : IsInRange members window command) where
  pub ascii_line : IsAscii (command_line command)
  ascii_line = ascii_of (command_line command) (line_printable members window small command range).all

  pub one_line : AllByRecursion (λ byte. byte ≢ 10) (command_line command)
  one_line = one_line_of (command_line command) (line_printable members window small command range).all
