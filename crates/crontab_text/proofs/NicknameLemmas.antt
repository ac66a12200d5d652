-- What nicknames stand for.
use Rattle.std.proofs.Common.{◌≡◌, ◌≢◌, ◌⊎◌, ℕ, ◌+◌, ◌-◌, ◌*◌, ◌^◌, ◌<◌, ◌≤◌, zero, suc, Bool, true, false, List, [], ◌∷◌, codes, IsBitSet, cond, bytes_eq, Option, IsSome, Some, None, refl, inl, inr, ◌∙◌, subst, sym, arith, lit<}
use Rattle.std.specs.Prelude.{◌==◌}
use Rattle.cron_fields.specs.Atom.{HasNo}
use Rattle.cron_fields.specs.Field.{IsField}
use Rattle.cron_fields.specs.FieldSet.{value_of, least_of}
use Rattle.cron_fields.specs.Item.{StepsTo, IsItem, single, wide, star, last_of}
use Rattle.cron_fields.specs.Seed.{Seed}
use Rattle.cron_fields.specs.declared.field.FieldKind.{FieldKind}
use Rattle.cron_fields.specs.declared.field.FieldKind.TheVariants.{Minute, Hour, MonthDay, Month, WeekDay}
use Rattle.cron_fields.specs.declared.field.FieldSet.{FieldSet}
use Rattle.cron_fields.specs.declared.field.Fields.{Fields}
use Rattle.cron_fields.proofs.BitLemmas.{IsBitSet-mask}
use Rattle.crontab_text.specs.Blanks.{IsBlank, MayBeginWith, IsFirstWord}
use Rattle.crontab_text.specs.Entry.{five_kinds, BeginsWithFields}
use Rattle.crontab_text.proofs.EntryLemmas.{five_fields}
use Rattle.crontab_text.specs.Nickname.{Means, meaning_of}
use Rattle.crontab_text.specs.NicknameView.{meaning_of_nickname}
use Rattle.crontab_text.specs.declared.nickname.Nickname.{Nickname}
use Rattle.crontab_text.specs.declared.nickname.Nickname.TheVariants.{Yearly, Monthly, Weekly, Daily, Hourly, Reboot}
use Rattle.cron_fields.proofs.FieldText.{star_bounds as last_within}

-- a nickname has a meaning
some_meaning : (nickname : Nickname) → IsSome (meaning_of_nickname nickname)
some_meaning Yearly = refl
some_meaning Monthly = refl
some_meaning Weekly = refl
some_meaning Daily = refl
some_meaning Hourly = refl
some_meaning Reboot = refl

pub known_meaning : (meaning : Option (Option (List ℕ))) (nickname : Nickname) → meaning ≡ meaning_of_nickname nickname → IsSome meaning
known_meaning meaning nickname is = subst (λ (m : Option (Option (List ℕ))). IsSome m) (sym is) (some_meaning nickname)

-- one byte, which isn't another
no_byte : (c byte : ℕ) → c ≢ byte → HasNo byte (c ∷ [])
no_byte c byte other zero inside = other
no_byte c byte other (suc i) inside = absurd (omega arith)

-- the numbers from low to high, one by one
steps_of_range : (kind : FieldKind) (low high value : ℕ) → ((n : ℕ) → n ≤ high → value_of kind n ≡ n) → low ≤ value → value ≤ high → StepsTo kind (record { low = low; high = high; step = 1 }) value
steps_of_range kind low high value same least greatest =
    let place : low + (value - low) * 1 ≡ value = omega arith in
    record { times = value - low; up_to = omega arith; is = rw place (sym (same value greatest)) }

range_of_steps : (kind : FieldKind) (low high value : ℕ) → ((n : ℕ) → n ≤ high → value_of kind n ≡ n) → StepsTo kind (record { low = low; high = high; step = 1 }) value → (low ≤ value) × (value ≤ high)
range_of_steps kind low high value same steps =
    let up_to = steps.up_to in
    let is : value ≡ low + steps.times * 1 = steps.is ∙ same (low + steps.times * 1) up_to in
    (omega arith, omega arith)

-- a field of one item, which stands for the numbers from low to high
one_item : (kind : FieldKind) (c low high bits : ℕ) (begins : Bool) (seed : Seed) → c ≢ 44 → IsItem kind (c ∷ []) (record { low = low; high = high; step = 1 }) → ((n : ℕ) → n ≤ high → value_of kind n ≡ n) → bits ≡ 2 ^ (high + 1) - 2 ^ low → begins ≡ (c == 42) → IsField kind (c ∷ []) seed (record { bits = bits; star = begins; hashed = false })
one_item kind c low high bits begins seed no_comma item same bits_are star_is =
    inr (record {
      items = (c ∷ []) ∷ [];
      parts = record { low = low; high = high; step = 1 } ∷ [];
      split = record { some = omega arith; text_is = refl; whole = (no_byte c 44 no_comma, tt) };
      each = (item, tt);
      has = λ value. rw bits_are (let mask = IsBitSet-mask low (high + 1) value in (
        λ set. let range = mask.0 set in inl (steps_of_range kind low high value same range.0 (omega (arith, range.1))),
        λ any. elim any as (λ _. IsBitSet (2 ^ (high + 1) - 2 ^ low) value) [
          | inl steps ↦ let range = range_of_steps kind low high value same steps in mask.1 (range.0, omega (arith, range.1))
          | inr none ↦ absurd none
        ],
      ));
      star = star_is;
      hashed = refl;
    })

-- each kind takes its own numbers as they are, but for Sunday as 7
as_it_is : (kind : FieldKind) (n : ℕ) → n ≤ last_of kind → value_of kind n ≡ n
as_it_is Minute n within = refl
as_it_is Hour n within = refl
as_it_is MonthDay n within = refl
as_it_is Month n within = refl
as_it_is WeekDay n within = omega arith

least_within : (kind : FieldKind) → least_of kind ≤ last_of kind
least_within Minute = omega arith
least_within Hour = omega arith
least_within MonthDay = omega arith
least_within Month = omega arith
least_within WeekDay = omega arith

above : (a b : ℕ) → a < b → b ≢ a
above a b less is = omega arith

below : (a b : ℕ) → a < b → a ≢ b
below a b less is = omega arith

-- `0`
pub zero_field : (kind : FieldKind) (seed : Seed) → least_of kind ≤ 0 → IsField kind (48 ∷ []) seed (record { bits = 1; star = false; hashed = false })
zero_field kind seed least =
    one_item kind 48 0 0 1 false seed (above 44 48 (lit< tt)) (single 0 (no_byte 48 47 (above 47 48 (lit< tt))) (record {
      alone = no_byte 48 45 (above 45 48 (lit< tt));
      atom = inl (record { some = omega arith; short = omega arith; digits = (lit< tt, tt); is = refl });
      taken = record { least = least; greatest = omega arith };
    }) refl) (λ n within. as_it_is kind n (omega arith)) refl refl

-- `1`
pub one_field : (kind : FieldKind) (seed : Seed) → least_of kind ≡ 1 → IsField kind (49 ∷ []) seed (record { bits = 2; star = false; hashed = false })
one_field kind seed least =
    let within = least_within kind in
    let greatest = last_within kind in
    one_item kind 49 1 1 2 false seed (above 44 49 (lit< tt)) (single 1 (no_byte 49 47 (above 47 49 (lit< tt))) (record {
      alone = no_byte 49 45 (above 45 49 (lit< tt));
      atom = inl (record { some = omega arith; short = omega arith; digits = (lit< tt, tt); is = refl });
      taken = record { least = omega arith; greatest = omega arith };
    }) refl) (λ n small. as_it_is kind n (omega arith)) refl refl

-- `*`
pub star_field : (kind : FieldKind) (bits : ℕ) (seed : Seed) → bits ≡ 2 ^ (last_of kind + 1) - 2 ^ least_of kind → IsField kind (42 ∷ []) seed (record { bits = bits; star = true; hashed = false })
star_field kind bits seed bits_are =
    one_item kind 42 (least_of kind) (last_of kind) bits true seed (below 42 44 (lit< tt)) (wide (least_of kind) (last_of kind) (no_byte 42 47 (below 42 47 (lit< tt))) (star refl refl refl) refl)
    (as_it_is kind) bits_are refl

-- what is above a space is no blank
no_blank : (c : ℕ) → 32 < c → IsBlank c → ⊥
no_blank c mark (inl space) = omega arith
no_blank c mark (inr tab) = omega arith

-- a byte is a word
byte_is_word : (c : ℕ) (after : List ℕ) → 32 < c → MayBeginWith IsBlank after → IsFirstWord (c ∷ after) (c ∷ []) after
byte_is_word c after mark ends = record {
  rest = c ∷ after;
  skips = record { blanks = []; parts = refl; all = tt; begins = no_blank c mark };
  cut = record { parts = refl; lacks = (no_blank c mark, tt); begins = ends };
}

-- also behind a space
spaced_word : (c : ℕ) (after : List ℕ) → 32 < c → MayBeginWith IsBlank after → IsFirstWord (32 ∷ c ∷ after) (c ∷ []) after
spaced_word c after mark ends = record {
  rest = c ∷ after;
  skips = record { blanks = 32 ∷ []; parts = refl; all = (inl refl, tt); begins = no_blank c mark };
  cut = record { parts = refl; lacks = (no_blank c mark, tt); begins = ends };
}

-- five bytes with spaces between them
pub five_bytes : {a b c d e : ℕ} {seed : Seed} {s1 s2 s3 s4 s5 : FieldSet} → 32 < a → 32 < b → 32 < c → 32 < d → 32 < e → IsField Minute (a ∷ []) seed s1 → IsField Hour (b ∷ []) seed s2 → IsField MonthDay (c ∷ []) seed s3 → IsField Month (d ∷ []) seed s4 → IsField WeekDay (e ∷ []) seed s5 → BeginsWithFields five_kinds seed (a ∷ 32 ∷ b ∷ 32 ∷ c ∷ 32 ∷ d ∷ 32 ∷ e ∷ []) (s1 ∷ s2 ∷ s3 ∷ s4 ∷ s5 ∷ []) []
five_bytes {a = a} {b = b} {c = c} {d = d} {e = e} pa pb pc pd pe f1 f2 f3 f4 f5 =
    five_fields (byte_is_word a (32 ∷ b ∷ 32 ∷ c ∷ 32 ∷ d ∷ 32 ∷ e ∷ []) pa (inl refl)) f1
    (spaced_word b (32 ∷ c ∷ 32 ∷ d ∷ 32 ∷ e ∷ []) pb (inl refl)) f2
    (spaced_word c (32 ∷ d ∷ 32 ∷ e ∷ []) pc (inl refl)) f3
    (spaced_word d (32 ∷ e ∷ []) pd (inl refl)) f4
    (spaced_word e [] pe tt) f5

-- the sets of `0`, `1` and `*`
abbrev pub zero_set : FieldSet
zero_set = record { bits = 1; star = false; hashed = false }

abbrev pub one_set : FieldSet
one_set = record { bits = 2; star = false; hashed = false }

abbrev pub star_set : ℕ → FieldSet
star_set bits = record { bits = bits; star = true; hashed = false }

-- what each nickname means
abbrev pub yearly_fields : Fields
yearly_fields = record { minute = zero_set; hour = zero_set; month_day = one_set; month = one_set; week_day = star_set 127 }

pub yearly_means : Means (meaning_of_nickname Yearly) (Some yearly_fields)
yearly_means = λ seed. five_bytes (lit< tt) (lit< tt) (lit< tt) (lit< tt) (lit< tt) (zero_field Minute seed (omega arith)) (zero_field Hour seed (omega arith))
    (one_field MonthDay seed refl) (one_field Month seed refl) (star_field WeekDay 127 seed refl)

abbrev pub monthly_fields : Fields
monthly_fields = record { minute = zero_set; hour = zero_set; month_day = one_set; month = star_set 8190; week_day = star_set 127 }

pub monthly_means : Means (meaning_of_nickname Monthly) (Some monthly_fields)
monthly_means = λ seed. five_bytes (lit< tt) (lit< tt) (lit< tt) (lit< tt) (lit< tt) (zero_field Minute seed (omega arith)) (zero_field Hour seed (omega arith))
    (one_field MonthDay seed refl) (star_field Month 8190 seed refl) (star_field WeekDay 127 seed refl)

abbrev pub weekly_fields : Fields
weekly_fields = record { minute = zero_set; hour = zero_set; month_day = star_set 4294967294; month = star_set 8190; week_day = zero_set }

pub weekly_means : Means (meaning_of_nickname Weekly) (Some weekly_fields)
weekly_means = λ seed. five_bytes (lit< tt) (lit< tt) (lit< tt) (lit< tt) (lit< tt) (zero_field Minute seed (omega arith)) (zero_field Hour seed (omega arith))
    (star_field MonthDay 4294967294 seed refl) (star_field Month 8190 seed refl) (zero_field WeekDay seed (omega arith))

abbrev pub daily_fields : Fields
daily_fields = record { minute = zero_set; hour = zero_set; month_day = star_set 4294967294; month = star_set 8190; week_day = star_set 127 }

pub daily_means : Means (meaning_of_nickname Daily) (Some daily_fields)
daily_means = λ seed. five_bytes (lit< tt) (lit< tt) (lit< tt) (lit< tt) (lit< tt) (zero_field Minute seed (omega arith)) (zero_field Hour seed (omega arith))
    (star_field MonthDay 4294967294 seed refl) (star_field Month 8190 seed refl) (star_field WeekDay 127 seed refl)

abbrev pub hourly_fields : Fields
hourly_fields = record { minute = zero_set; hour = star_set 16777215; month_day = star_set 4294967294; month = star_set 8190; week_day = star_set 127 }

pub hourly_means : Means (meaning_of_nickname Hourly) (Some hourly_fields)
hourly_means = λ seed. five_bytes (lit< tt) (lit< tt) (lit< tt) (lit< tt) (lit< tt) (zero_field Minute seed (omega arith)) (star_field Hour 16777215 seed refl)
    (star_field MonthDay 4294967294 seed refl) (star_field Month 8190 seed refl) (star_field WeekDay 127 seed refl)

pub some_fields_of : (nickname : Nickname) → (fields : Option Fields) × Means (meaning_of_nickname nickname) fields
some_fields_of Yearly = (Some yearly_fields, yearly_means)
some_fields_of Monthly = (Some monthly_fields, monthly_means)
some_fields_of Weekly = (Some weekly_fields, weekly_means)
some_fields_of Daily = (Some daily_fields, daily_means)
some_fields_of Hourly = (Some hourly_fields, hourly_means)
some_fields_of Reboot = (None, tt)

-- the meaning that eight tests choose
abbrev chain : Bool → Bool → Bool → Bool → Bool → Bool → Bool → Bool → Option (Option (List ℕ))
chain a b c d e f g h =
    cond a (meaning_of_nickname Yearly) (cond b (meaning_of_nickname Yearly) (cond c (meaning_of_nickname Monthly) (cond d (meaning_of_nickname Weekly)
    (cond e (meaning_of_nickname Daily) (cond f (meaning_of_nickname Daily) (cond g (meaning_of_nickname Hourly) (cond h (meaning_of_nickname Reboot) None)))))))

-- the first of eight tests that holds
first_of_eight : (a b c d e f g h : Bool) → (chain a b c d e f g h ≡ None) ⊎ ((nickname : Nickname) × (chain a b c d e f g h ≡ meaning_of_nickname nickname))
first_of_eight true b c d e f g h = inr (Yearly, refl)
first_of_eight false true c d e f g h = inr (Yearly, refl)
first_of_eight false false true d e f g h = inr (Monthly, refl)
first_of_eight false false false true e f g h = inr (Weekly, refl)
first_of_eight false false false false true f g h = inr (Daily, refl)
first_of_eight false false false false false true g h = inr (Daily, refl)
first_of_eight false false false false false false true h = inr (Hourly, refl)
first_of_eight false false false false false false false true = inr (Reboot, refl)
first_of_eight false false false false false false false false = inl refl

-- a word is a nickname, or it has no meaning
pub nickname_or_not : (word : List ℕ) → (meaning_of word ≡ None) ⊎ ((nickname : Nickname) × (meaning_of word ≡ meaning_of_nickname nickname))
nickname_or_not word =
    first_of_eight (bytes_eq word (codes "@yearly")) (bytes_eq word (codes "@annually")) (bytes_eq word (codes "@monthly")) (bytes_eq word (codes "@weekly"))
    (bytes_eq word (codes "@daily")) (bytes_eq word (codes "@midnight")) (bytes_eq word (codes "@hourly")) (bytes_eq word (codes "@reboot"))
