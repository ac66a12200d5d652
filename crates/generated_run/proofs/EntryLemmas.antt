-- The lines of the table of a made run are entries.
use Rattle.std.proofs.Common.{◌≡◌, ◌⊎◌, ◌↔◌, ℕ, ◌+◌, ◌*◌, ◌-◌, ◌%◌, ◌<◌, ◌≤◌, ◌^◌, List, [], ◌∷◌, ◌++◌, length, get_or, eqb, true, false, refl, sym, ap, subst, ◌∙◌, inl, inr, arith, codes, decimal, ne_eqb}
use Rattle.std.specs.Str.Parse.{AllDigits}
use Rattle.std.specs.Char.{digit_value}
use Rattle.std.proofs.lemmas.Bool.Decides.{nat_tests}
use Rattle.std.proofs.lemmas.Fmt.{decimal_is_IsNumeral, length-decimal-le}
use Rattle.cron_fields.specs.Atom.{HasNo, IsNumber}
use Rattle.cron_fields.specs.Field.{IsField}
use Rattle.cron_fields.specs.FieldSet.{least_of, greatest_of, value_of}
use Rattle.cron_fields.specs.Item.{last_of, IsStepped, StepsTo, single, wide, star}
use Rattle.cron_fields.specs.Seed.{Seed}
use Rattle.cron_fields.specs.declared.field.FieldKind.{FieldKind}
use Rattle.cron_fields.specs.declared.field.FieldKind.TheVariants.{Minute, Hour, MonthDay, Month, WeekDay}
use Rattle.cron_fields.specs.declared.field.FieldSet.{FieldSet}
use Rattle.cron_fields.specs.declared.field.Fields.{Fields}
use Rattle.cron_fields.proofs.BitLemmas.{IsBitSet-mask}
use Rattle.cron_fields.proofs.Choice.{HasNo-nil, HasNo-cons}
use Rattle.cron_fields.proofs.JoinLemmas.{one_bit}
use Rattle.crontab_text.specs.Answers.{IsOther, IsLineOf}
use Rattle.crontab_text.specs.Assignment.{IsAssignment, IsVariableName, IsNameStart}
use Rattle.crontab_text.specs.Blanks.{IsBlank, IsMark, LacksAny, MayBeginWith, IsFirstWord}
use Rattle.crontab_text.specs.LineBody.{EntryBody}
use Rattle.crontab_text.specs.Tail.{EndsWithCommand}
use Rattle.crontab_text.specs.declared.answer.Style.TheVariants.{User}

-- a digit's byte
digit_byte : (c : ℕ) → digit_value c < 10 → (48 ≤ c) × (c ≤ 57)
digit_byte c digit = grind (arith, nat_tests)

-- a small number in decimal
pub short_decimal : (n : ℕ) → n < 1000 → IsNumber (decimal n) n
short_decimal n small =
    let numeral = decimal_is_IsNumeral n (omega arith) in
    let short : length (decimal n) ≤ 3 = length-decimal-le 3 n (omega arith) (omega arith) (omega arith) in
    record { some = numeral.0.0; short = omega arith; digits = numeral.0.1; is = sym numeral.1 }

-- digits aren't a byte of another kind
no_byte : (byte : ℕ) (text : List ℕ) → byte < 48 → AllDigits 10 text → HasNo byte text
no_byte byte [] low digits = HasNo-nil byte
no_byte byte (c ∷ cs) low digits = let range = digit_byte c digits.0 in HasNo-cons byte c cs (λ e. omega arith) (no_byte byte cs low digits.1)

no_blank : (text : List ℕ) → AllDigits 10 text → LacksAny IsBlank text
no_blank [] digits = tt
no_blank (c ∷ cs) digits = ((λ blank. is_no_blank c (digit_byte c digits.0) blank), no_blank cs digits.1)
  where
    is_no_blank : (c : ℕ) → (48 ≤ c) × (c ≤ 57) → IsBlank c → ⊥
    is_no_blank c range (inl e) = let low = range.0 in omega arith
    is_no_blank c range (inr e) = let low = range.0 in omega arith

-- the numbers from one to another, one by one
abbrev run_of_numbers : ℕ → ℕ → IsStepped
run_of_numbers low high = record { low = low; high = high; step = 1 }

single_steps : (kind : FieldKind) (v value : ℕ) → value_of kind v ≡ v → (StepsTo kind (run_of_numbers v v) value ⊎ ⊥) ↔ (value ≡ v)
single_steps kind v value same = (to, from)
  where
    to : StepsTo kind (run_of_numbers v v) value ⊎ ⊥ → value ≡ v
    to (inl steps) =
        let up_to : v + steps.times * 1 ≤ v = steps.up_to in
        let none : v + steps.times * 1 ≡ v = omega arith in
        steps.is ∙ ap (value_of kind) none ∙ same
    to (inr none) = absurd none

    from : value ≡ v → StepsTo kind (run_of_numbers v v) value ⊎ ⊥
    from is = inl (record { times = 0; up_to = omega arith; is = is ∙ sym (ap (value_of kind) (zero_more v) ∙ same) })
      where
        zero_more : (v : ℕ) → v + 0 * 1 ≡ v
        zero_more v = omega arith

-- a field that is one number
abbrev pub number_set : ℕ → FieldSet
number_set v = record { bits = (one_bit v).0; star = false; hashed = false }

number_field : (kind : FieldKind) (text : List ℕ) (v : ℕ) (seed : Seed) → value_of kind v ≡ v → IsNumber text v → least_of kind ≤ v → v ≤ greatest_of kind → IsField kind text seed (number_set v)
number_field kind text v seed same number least greatest = inr (record {
  items = text ∷ [];
  parts = run_of_numbers v v ∷ [];
  split = record { some = omega arith; text_is = refl; whole = (no_byte 44 text (omega arith) number.digits, tt) };
  each = (single v (no_byte 47 text (omega arith) number.digits) (record { alone = no_byte 45 text (omega arith) number.digits; atom = inl number; taken = record { least = least; greatest = greatest } }) refl, tt);
  has = λ value. (
    λ set. (single_steps kind v value same).1 (((one_bit v).1 value).0 set),
    λ any. ((one_bit v).1 value).1 ((single_steps kind v value same).0 any),
  );
  star = no_star text number.some number.digits;
  hashed = refl;
})
  where
    no_star : (text : List ℕ) → 0 < length text → AllDigits 10 text → false ≡ eqb (get_or text 0 0) 42
    no_star [] some digits = absurd (omega arith)
    no_star (c ∷ cs) some digits = let range = digit_byte c digits.0 in sym (ne_eqb c 42 (λ e. let low = range.0 in omega arith))

-- a field that is `*`
abbrev star_set : FieldKind → FieldSet
star_set kind = record { bits = 2 ^ (last_of kind + 1) - 2 ^ least_of kind; star = true; hashed = false }

star_steps : (kind : FieldKind) (value : ℕ) → ((n : ℕ) → n ≤ last_of kind → value_of kind n ≡ n)
    → (StepsTo kind (run_of_numbers (least_of kind) (last_of kind)) value ⊎ ⊥) ↔ ((least_of kind ≤ value) × (value < last_of kind + 1))
star_steps kind value same = (to, from)
  where
    to : StepsTo kind (run_of_numbers (least_of kind) (last_of kind)) value ⊎ ⊥ → (least_of kind ≤ value) × (value < last_of kind + 1)
    to (inl steps) =
        let up_to : least_of kind + steps.times * 1 ≤ last_of kind = steps.up_to in
        let is : value ≡ least_of kind + steps.times * 1 = steps.is ∙ same (least_of kind + steps.times * 1) up_to in
        (omega arith, omega arith)
    to (inr none) = absurd none

    from : (least_of kind ≤ value) × (value < last_of kind + 1) → StepsTo kind (run_of_numbers (least_of kind) (last_of kind)) value ⊎ ⊥
    from (least, most) =
        let is : least_of kind + (value - least_of kind) * 1 ≡ value = omega arith in
        let inside : least_of kind + (value - least_of kind) * 1 ≤ last_of kind = omega arith in
        inl (record { times = value - least_of kind; up_to = inside; is = sym (same (least_of kind + (value - least_of kind) * 1) inside ∙ is) })

star_field : (kind : FieldKind) (seed : Seed) → ((n : ℕ) → n ≤ last_of kind → value_of kind n ≡ n) → IsField kind (42 ∷ []) seed (star_set kind)
star_field kind seed same = inr (record {
  items = (42 ∷ []) ∷ [];
  parts = run_of_numbers (least_of kind) (last_of kind) ∷ [];
  split = record { some = omega arith; text_is = refl; whole = (HasNo-cons 44 42 [] (λ e. omega arith) (HasNo-nil 44), tt) };
  each = (wide (least_of kind) (last_of kind) (HasNo-cons 47 42 [] (λ e. omega arith) (HasNo-nil 47)) (star refl refl refl) refl, tt);
  has = λ value. (
    λ set. (star_steps kind value same).1 ((IsBitSet-mask (least_of kind) (last_of kind + 1) value).0 set),
    λ any. (IsBitSet-mask (least_of kind) (last_of kind + 1) value).1 ((star_steps kind value same).0 any),
  );
  star = refl;
  hashed = refl;
})

-- a word behind a blank, and one at the beginning
first_digits : (digits rest : List ℕ) (number : ℕ) → IsNumber digits number → MayBeginWith IsBlank rest → IsFirstWord (digits ++ rest) digits rest
first_digits digits rest number is begins = record {
  rest = digits ++ rest;
  skips = record { blanks = []; parts = refl; all = tt; begins = begins_mark digits is.some is.digits };
  cut = record { parts = refl; lacks = no_blank digits is.digits; begins = begins };
}
  where
    begins_mark : (digits : List ℕ) → 0 < length digits → AllDigits 10 digits → MayBeginWith IsMark (digits ++ rest)
    begins_mark [] some all = absurd (omega arith)
    begins_mark (c ∷ cs) some all = (no_blank (c ∷ []) (all.0, tt)).0

next_digits : (digits rest : List ℕ) (number : ℕ) → IsNumber digits number → MayBeginWith IsBlank rest → IsFirstWord (32 ∷ digits ++ rest) digits rest
unfolding first_digits
next_digits digits rest number is begins =
    let first = first_digits digits rest number is begins in
    record { rest = digits ++ rest; skips = record { blanks = 32 ∷ []; parts = refl; all = (inl refl, tt); begins = first.skips.begins }; cut = first.cut }

next_star : (rest : List ℕ) → MayBeginWith IsBlank rest → IsFirstWord (32 ∷ 42 ∷ rest) (42 ∷ []) rest
next_star rest begins = record {
  rest = 42 ∷ rest;
  skips = record { blanks = 32 ∷ []; parts = refl; all = (inl refl, tt); begins = star_mark };
  cut = record { parts = refl; lacks = (star_mark, tt); begins = begins };
}
  where
    star_mark : IsBlank 42 → ⊥
    star_mark (inl e) = omega arith
    star_mark (inr e) = omega arith

-- a text that begins with a digit sets no variable, and is neither a comment nor a nickname
digits_other : (digits rest : List ℕ) (number : ℕ) → IsNumber digits number → IsOther (digits ++ rest)
digits_other [] rest number is = absurd (let some = is.some in omega arith)
digits_other (c ∷ cs) rest number is =
    let range = digit_byte c is.digits.0 in
    let low : 48 ≤ c = range.0 in
    let high : c ≤ 57 = range.1 in
    record {
      some = λ e. absurd (cc);
      no_comment = λ e. omega arith;
      no_nick = λ e. omega arith;
      no_assignment = none low high;
    }
  where
    begins : (name behind : List ℕ) → c ∷ (cs ++ rest) ≡ name ++ behind → IsVariableName name → IsNameStart c
    begins [] behind e named = absurd named
    begins (n ∷ ns) behind e named = subst IsNameStart (sym (cc)) named.0

    none : 48 ≤ c → c ≤ 57 → (name value : List ℕ) → IsAssignment (c ∷ (cs ++ rest)) name value → ⊥
    none low high name value assigns = by (begins name _ assigns.text_is assigns.is_name)
      where
        by : IsNameStart c → ⊥
        by (inl small) = let least = small.0 in omega arith
        by (inr (inl capital)) = let least = capital.0 in omega arith
        by (inr (inr line)) = omega arith

-- the command behind the fields
tail_is : (command : List ℕ) → MayBeginWith IsMark command → 0 < length command → length command ≤ 1000 → EndsWithCommand (32 ∷ command) command
tail_is command begins some short = record {
  skips = record { blanks = 32 ∷ []; parts = refl; all = (inl refl, tt); begins = begins };
  is = record { some = some; short = short };
}

no_change : (n : ℕ) → n ≤ 6 → n % 7 ≡ n
no_change n le = omega arith

-- the fields of a job of each hour, and of one of each day
abbrev pub hourly_fields : ℕ → Fields
hourly_fields minute = record {
  minute = number_set minute;
  hour = star_set Hour;
  month_day = star_set MonthDay;
  month = star_set Month;
  week_day = star_set WeekDay;
}

abbrev pub daily_fields : ℕ → ℕ → Fields
daily_fields minute hour = record {
  minute = number_set minute;
  hour = number_set hour;
  month_day = star_set MonthDay;
  month = star_set Month;
  week_day = star_set WeekDay;
}

-- `M * * * * COMMAND`
pub hourly_says : (owner digits command : List ℕ) (minute : ℕ) → IsNumber digits minute → minute ≤ 59 → MayBeginWith IsMark command → 0 < length command → length command ≤ 1000
    → IsLineOf User owner (digits ++ (codes " * * * * " ++ command)) (EntryBody (hourly_fields minute) [] command)
unfolding first_digits
hourly_says owner digits command minute is most begins some short =
    let seed : Seed = record { owner = owner; command = command } in
    record {
      text = digits ++ (codes " * * * * " ++ command);
      skips = (first_digits digits (codes " * * * * " ++ command) minute is (inl refl)).skips;
      says = (
        digits_other digits (codes " * * * * " ++ command) minute is,
        record {
          tail = 32 ∷ command;
          fields_are = (
            digits,
            codes " * * * * " ++ command,
            first_digits digits (codes " * * * * " ++ command) minute is (inl refl),
            number_field Minute digits minute seed refl is (omega arith) most,
            (
              42 ∷ [],
              codes " * * * " ++ command,
              next_star (codes " * * * " ++ command) (inl refl),
              star_field Hour seed (λ n le. refl),
              (
                42 ∷ [],
                codes " * * " ++ command,
                next_star (codes " * * " ++ command) (inl refl),
                star_field MonthDay seed (λ n le. refl),
                (
                  42 ∷ [],
                  codes " * " ++ command,
                  next_star (codes " * " ++ command) (inl refl),
                  star_field Month seed (λ n le. refl),
                  (
                    42 ∷ [],
                    32 ∷ command,
                    next_star (32 ∷ command) (inl refl),
                    star_field WeekDay seed no_change,
                    refl,
                  ),
                ),
              ),
            ),
          );
          tail_is = (refl, tail_is command begins some short);
        },
      );
    }

-- `M H * * * COMMAND`
pub daily_says : (owner digits others command : List ℕ) (minute hour : ℕ) → IsNumber digits minute → minute ≤ 59 → IsNumber others hour → hour ≤ 23
    → MayBeginWith IsMark command → 0 < length command → length command ≤ 1000
    → IsLineOf User owner (digits ++ 32 ∷ (others ++ (codes " * * * " ++ command))) (EntryBody (daily_fields minute hour) [] command)
unfolding first_digits
daily_says owner digits others command minute hour is most also late begins some short =
    let seed : Seed = record { owner = owner; command = command } in
    let behind = others ++ (codes " * * * " ++ command) in
    record {
      text = digits ++ 32 ∷ behind;
      skips = (first_digits digits (32 ∷ behind) minute is (inl refl)).skips;
      says = (
        digits_other digits (32 ∷ behind) minute is,
        record {
          tail = 32 ∷ command;
          fields_are = (
            digits,
            32 ∷ behind,
            first_digits digits (32 ∷ behind) minute is (inl refl),
            number_field Minute digits minute seed refl is (omega arith) most,
            (
              others,
              codes " * * * " ++ command,
              next_digits others (codes " * * * " ++ command) hour also (inl refl),
              number_field Hour others hour seed refl also (omega arith) late,
              (
                42 ∷ [],
                codes " * * " ++ command,
                next_star (codes " * * " ++ command) (inl refl),
                star_field MonthDay seed (λ n le. refl),
                (
                  42 ∷ [],
                  codes " * " ++ command,
                  next_star (codes " * " ++ command) (inl refl),
                  star_field Month seed (λ n le. refl),
                  (
                    42 ∷ [],
                    32 ∷ command,
                    next_star (32 ∷ command) (inl refl),
                    star_field WeekDay seed no_change,
                    refl,
                  ),
                ),
              ),
            ),
          );
          tail_is = (refl, tail_is command begins some short);
        },
      );
    }
