-- Words that are numbers, periods, delays, hours or identifiers, or not.
use Rattle.std.proofs.Common.{◌≡◌, ◌≢◌, ◌⊎◌, ℕ, ◌<◌, ◌≤◌, zero, suc, List, ◌∷◌, ◌++◌, length, get_or, codes, decimal, refl, ap, ◌∙◌, sym, subst, inl, inr, arith}
use Rattle.std.proofs.lemmas.Fmt.{digits_decimal, decimal_injective, decimal_nonempty}
use Rattle.std.proofs.lemmas.Str.Parse.{not_in_digits}
use Rattle.crontab_text.proofs.Choice.{decided_or, decided_and, decided_all, decided_not}
use Rattle.std.proofs.lemmas.Bool.{cases_eq}
use Rattle.anacron_text.specs.Job.{IsPeriod, IsIdentifier}
use Rattle.anacron_text.specs.Settings.{IsNumberWithin, IsHours, SetsVariable, IsBadValue, random_delay, start_hours_range}
use Rattle.anacron_text.specs.declared.answer.PeriodWord.{PeriodWord}
use Rattle.anacron_text.specs.declared.answer.PeriodWord.TheVariants.{Days, Monthly, Yearly}
use Rattle.anacron_text.specs.declared.settings.Settings.{Settings}
use Rattle.cron_io.proofs.NumberLemmas.{own}
use Rattle.cron_fields.proofs.Choice.{text_or_not, Decided, le_or_not}

-- some number up to another has a property, or none has
bounded_or_not : (P : ℕ → Type 0) → ((n : ℕ) → Decided (P n)) → (most : ℕ) → ((n : ℕ) × (n ≤ most) × P n) ⊎ ((n : ℕ) → n ≤ most → P n → ⊥)
bounded_or_not P each zero = elim (each 0) [
  | inl p ↦ inl (0, omega arith, p)
  | inr none ↦ inr (λ n small p. let is : n ≡ 0 = omega arith in none (subst P is p))
]
bounded_or_not P each (suc most) = elim (each (suc most)) [
  | inl p ↦ inl (suc most, omega arith, p)
  | inr none ↦ elim (bounded_or_not P each most) [
    | inl (n, small, p) ↦ inl (n, omega arith, p)
    | inr below ↦ inr (λ n small p. elim (cases_eq n (suc most)) [
      | inl is ↦ none (subst P is p)
      | inr other ↦ below n (omega arith) p
    ])
  ]
]

-- a text is a number within limits, or none
pub number_or_not : (least most : ℕ) (text : List ℕ) → ((n : ℕ) × IsNumberWithin least most text n) ⊎ ((n : ℕ) → IsNumberWithin least most text n → ⊥)
number_or_not least most text =
    elim (bounded_or_not (λ n. (least ≤ n) × (text ≡ decimal n)) (λ n. decided_and (le_or_not least n) (text_or_not text (decimal n))) most) [
      | inl (n, small, is) ↦ inl (n, record { is = is.1; not_less = is.0; not_more = small })
      | inr none ↦ inr (λ n is. none n is.not_more (is.not_less, is.is))
    ]

pub same_number : (least most : ℕ) (text : List ℕ) (a b : ℕ) → most ≤ 9999 → IsNumberWithin least most text a → IsNumberWithin least most text b → a ≡ b
same_number least most text a b small first second =
    let low = first.not_more in
    let high = second.not_more in
    decimal_injective a b (omega arith) (omega arith) (sym first.is ∙ second.is)

-- a text is hours, or none
pub hours_or_not : (text : List ℕ) → ((first : ℕ) × (last : ℕ) × IsHours text first last) ⊎ ((first last : ℕ) → IsHours text first last → ⊥)
hours_or_not text = elim (bounded_or_not (λ last. (first : ℕ) × (first ≤ 24) × HasHours last first) each 24) [
  | inl (last, small, (first, low, is)) ↦ inl (first, last, record { is = is.1; rise = is.0; within = small })
  | inr none ↦ inr (λ first last is.
      let rise = is.rise in
      let within = is.within in none last within (first, omega arith, (rise, is.is)))
]
  where
    HasHours : (last first : ℕ) → Type 0
    HasHours last first = (first < last) × (text ≡ decimal first ++ 45 ∷ decimal last)

    below : (m n : ℕ) → Decided (m < n)
    below m n = grind arith

    each : (last : ℕ) → Decided ((first : ℕ) × (first ≤ 24) × HasHours last first)
    each last = elim (bounded_or_not (HasHours last) (λ first. decided_and (below first last) (text_or_not text (decimal first ++ 45 ∷ decimal last))) 24) [
      | inl some ↦ inl some
      | inr none ↦ inr (λ some. none some.0 some.1 some.2)
    ]

-- a number doesn't begin with `@`
no_at : (n : ℕ) (word rest : List ℕ) → n ≤ 9999 → word ≡ decimal n → word ≡ 64 ∷ rest → ⊥
no_at n word rest small is begins =
    not_in_digits own (decimal n) 64 (digits_decimal own n (omega arith)) (λ range. omega arith) 0 (decimal_nonempty n (omega arith))
    (ap (λ t. get_or t 0 0) (sym is ∙ begins))

-- two words that begin differently behind the `@` are two
second_byte : (word a b : List ℕ) → word ≡ a → word ≡ b → get_or a 1 0 ≡ get_or b 1 0
second_byte word a b first second = ap (λ t. get_or t 1 0) (sym first ∙ second)

-- a word is one period
pub same_period : (word : List ℕ) (a b : PeriodWord) → IsPeriod word a → IsPeriod word b → a ≡ b
same_period word (Days m) (Days n) (inl p) (inl q) = ap Days (same_number 1 9999 word m n (omega arith) p q)
same_period word (Days m) (Days n) (inl p) (inr (inl q)) = absurd (no_at m word _ p.not_more p.is q.0)
same_period word (Days m) (Days n) (inl p) (inr (inr q)) = absurd (no_at m word _ p.not_more p.is q.0)
same_period word (Days m) (Days n) (inr (inl p)) (inl q) = absurd (no_at n word _ q.not_more q.is p.0)
same_period word (Days m) (Days n) (inr (inr p)) (inl q) = absurd (no_at n word _ q.not_more q.is p.0)
same_period word (Days m) (Days n) (inr (inl p)) (inr (inl q)) = ap Days (p.1 ∙ sym q.1)
same_period word (Days m) (Days n) (inr (inr p)) (inr (inr q)) = ap Days (p.1 ∙ sym q.1)
same_period word (Days m) (Days n) (inr (inl p)) (inr (inr q)) = absurd (omega (arith, second_byte word _ _ p.0 q.0))
same_period word (Days m) (Days n) (inr (inr p)) (inr (inl q)) = absurd (omega (arith, second_byte word _ _ p.0 q.0))
same_period word (Days m) Monthly (inl p) q = absurd (no_at m word _ p.not_more p.is q)
same_period word (Days m) Monthly (inr (inl p)) q = absurd (omega (arith, second_byte word _ _ p.0 q))
same_period word (Days m) Monthly (inr (inr p)) q = absurd (omega (arith, second_byte word _ _ p.0 q))
same_period word (Days m) Yearly (inl p) (inl q) = absurd (no_at m word _ p.not_more p.is q)
same_period word (Days m) Yearly (inl p) (inr q) = absurd (no_at m word _ p.not_more p.is q)
same_period word (Days m) Yearly (inr (inl p)) (inl q) = absurd (omega (arith, second_byte word _ _ p.0 q))
same_period word (Days m) Yearly (inr (inl p)) (inr q) = absurd (omega (arith, second_byte word _ _ p.0 q))
same_period word (Days m) Yearly (inr (inr p)) (inl q) = absurd (omega (arith, second_byte word _ _ p.0 q))
same_period word (Days m) Yearly (inr (inr p)) (inr q) = absurd (omega (arith, second_byte word _ _ p.0 q))
same_period word Monthly (Days n) p (inl q) = absurd (no_at n word _ q.not_more q.is p)
same_period word Monthly (Days n) p (inr (inl q)) = absurd (omega (arith, second_byte word _ _ q.0 p))
same_period word Monthly (Days n) p (inr (inr q)) = absurd (omega (arith, second_byte word _ _ q.0 p))
same_period word Monthly Monthly p q = refl
same_period word Monthly Yearly p (inl q) = absurd (omega (arith, second_byte word _ _ p q))
same_period word Monthly Yearly p (inr q) = absurd (omega (arith, second_byte word _ _ p q))
same_period word Yearly (Days n) (inl p) (inl q) = absurd (no_at n word _ q.not_more q.is p)
same_period word Yearly (Days n) (inr p) (inl q) = absurd (no_at n word _ q.not_more q.is p)
same_period word Yearly (Days n) (inl p) (inr (inl q)) = absurd (omega (arith, second_byte word _ _ q.0 p))
same_period word Yearly (Days n) (inr p) (inr (inl q)) = absurd (omega (arith, second_byte word _ _ q.0 p))
same_period word Yearly (Days n) (inl p) (inr (inr q)) = absurd (omega (arith, second_byte word _ _ q.0 p))
same_period word Yearly (Days n) (inr p) (inr (inr q)) = absurd (omega (arith, second_byte word _ _ q.0 p))
same_period word Yearly Monthly (inl p) q = absurd (omega (arith, second_byte word _ _ p q))
same_period word Yearly Monthly (inr p) q = absurd (omega (arith, second_byte word _ _ p q))
same_period word Yearly Yearly p q = refl

-- no period is 0
pub zero_is_no_period : (word : List ℕ) (n : ℕ) → n ≡ 0 → word ≡ decimal n → (p : PeriodWord) → IsPeriod word p → ⊥
zero_is_no_period word n none is (Days m) (inl number) =
    let least = number.not_less in
    let most = number.not_more in
    let same : m ≡ n = decimal_injective m n (omega arith) (omega arith) (sym number.is ∙ is) in
    omega arith
zero_is_no_period word n none is (Days m) (inr (inl daily)) = no_at n word _ (omega arith) is daily.0
zero_is_no_period word n none is (Days m) (inr (inr weekly)) = no_at n word _ (omega arith) is weekly.0
zero_is_no_period word n none is Monthly monthly = no_at n word _ (omega arith) is monthly
zero_is_no_period word n none is Yearly (inl yearly) = no_at n word _ (omega arith) is yearly
zero_is_no_period word n none is Yearly (inr annually) = no_at n word _ (omega arith) is annually

-- a word is a period, or none
pub period_or_not : (word : List ℕ) → ((period : PeriodWord) × IsPeriod word period) ⊎ ((period : PeriodWord) → IsPeriod word period → ⊥)
period_or_not word = elim (number_or_not 1 9999 word) [
  | inl (n, is) ↦ inl (Days n, inl is)
  | inr no_number ↦ elim (text_or_not word (codes "@daily")) [
    | inl is ↦ inl (Days 1, inr (inl (is, refl)))
    | inr no_day ↦ elim (text_or_not word (codes "@weekly")) [
      | inl is ↦ inl (Days 7, inr (inr (is, refl)))
      | inr no_week ↦ elim (text_or_not word (codes "@monthly")) [
        | inl is ↦ inl (Monthly, is)
        | inr no_month ↦ elim (decided_or (text_or_not word (codes "@yearly")) (text_or_not word (codes "@annually"))) [
          | inl is ↦ inl (Yearly, is)
          | inr no_year ↦ inr (none no_number no_day no_week no_month no_year)
        ]
      ]
    ]
  ]
]
  where
    none : ((n : ℕ) → IsNumberWithin 1 9999 word n → ⊥) → (word ≢ codes "@daily") → (word ≢ codes "@weekly") → (word ≢ codes "@monthly") → (((word ≡ codes "@yearly") ⊎ (word ≡ codes "@annually")) → ⊥)
        → (period : PeriodWord) → IsPeriod word period → ⊥
    none no_number no_day no_week no_month no_year (Days n) (inl is) = no_number n is
    none no_number no_day no_week no_month no_year (Days n) (inr (inl is)) = no_day is.0
    none no_number no_day no_week no_month no_year (Days n) (inr (inr is)) = no_week is.0
    none no_number no_day no_week no_month no_year Monthly is = no_month is
    none no_number no_day no_week no_month no_year Yearly is = no_year is

-- a word is an identifier, or none
pub identifier_or_not : (word : List ℕ) → Decided (IsIdentifier word)
identifier_or_not word = elim (le_or_not 1 (length word)) [
  | inr none ↦ inr (λ is. let some = is.some in none (omega arith))
  | inl some ↦ elim (le_or_not (length word) 64) [
    | inr long ↦ inr (λ is. long is.short)
    | inl short ↦ elim (decided_all (λ c. c ≢ 47) (λ c. decided_not (cases_eq c 47)) word) [
      | inr slash ↦ inr (λ is. slash is.no_slash)
      | inl no_slash ↦ inl (record { some = omega arith; short = short; no_slash = no_slash })
    ]
  ]
]

-- the names of the two variables are two
pub two_names : (name : List ℕ) → name ≡ random_delay → name ≡ start_hours_range → ⊥
two_names name first second =
    let byte : 82 ≡ 83 = ap (λ t. get_or t 0 0) (sym first ∙ second) in omega (arith, byte)

-- a variable sets something, or its value is at fault
pub sets_or_bad : (old : Settings) (name value : List ℕ) → ((new : Settings) × SetsVariable old name value new × ((cause : ℕ) → IsBadValue name value cause → ⊥)) ⊎ ((cause : ℕ) × IsBadValue name value cause)
sets_or_bad old name value = elim (text_or_not name random_delay) [
  | inl is ↦ elim (number_or_not 0 9999 value) [
    | inl (n, number) ↦ inl (_, inl (record { name_is = is; number = n; is_number = number; new_is = refl }), good_number is n number)
    | inr none ↦ inr (20, inr (is, none, refl))
  ]
  | inr no_delay ↦ elim (text_or_not name start_hours_range) [
    | inl is ↦ elim (hours_or_not value) [
      | inl (first, last, hours) ↦ inl (_, inr (inl (record { name_is = is; first = first; last = last; are_hours = hours; new_is = refl })), good_hours is first last hours)
      | inr none ↦ inr (19, inl (is, none, refl))
    ]
    | inr no_hours ↦ inl (old, inr (inr (record { no_delay = no_delay; no_hours = no_hours; new_is = refl })), other no_delay no_hours)
  ]
]
  where
    good_number : name ≡ random_delay → (n : ℕ) → IsNumberWithin 0 9999 value n → (cause : ℕ) → IsBadValue name value cause → ⊥
    good_number is n number cause (inl bad) = two_names name is bad.0
    good_number is n number cause (inr bad) = bad.1 n number

    good_hours : name ≡ start_hours_range → (first last : ℕ) → IsHours value first last → (cause : ℕ) → IsBadValue name value cause → ⊥
    good_hours is first last hours cause (inl bad) = bad.1 first last hours
    good_hours is first last hours cause (inr bad) = two_names name bad.0 is

    other : (name ≢ random_delay) → (name ≢ start_hours_range) → (cause : ℕ) → IsBadValue name value cause → ⊥
    other no_delay no_hours cause (inl bad) = no_hours bad.0
    other no_delay no_hours cause (inr bad) = no_delay bad.0

-- a value has one fault
pub same_bad_value : (name value : List ℕ) (c d : ℕ) → IsBadValue name value c → IsBadValue name value d → c ≡ d
same_bad_value name value c d (inl p) (inl q) = p.2 ∙ sym q.2
same_bad_value name value c d (inl p) (inr q) = absurd (two_names name q.0 p.0)
same_bad_value name value c d (inr p) (inl q) = absurd (two_names name p.0 q.0)
same_bad_value name value c d (inr p) (inr q) = p.2 ∙ sym q.2

-- a value that sets something isn't at fault
pub sets_good : (old new : Settings) (name value : List ℕ) → SetsVariable old name value new → (cause : ℕ) → IsBadValue name value cause → ⊥
sets_good old new name value (inl p) cause (inl bad) = two_names name p.name_is bad.0
sets_good old new name value (inl p) cause (inr bad) = bad.1 p.number p.is_number
sets_good old new name value (inr (inl p)) cause (inl bad) = bad.1 p.first p.last p.are_hours
sets_good old new name value (inr (inl p)) cause (inr bad) = two_names name bad.0 p.name_is
sets_good old new name value (inr (inr p)) cause (inl bad) = p.no_hours bad.0
sets_good old new name value (inr (inr p)) cause (inr bad) = p.no_delay bad.0
