-- Hours.
use Rattle.std.proofs.Common.{◌≡◌, ◌≢◌, ℕ, ◌<◌, ◌≤◌, suc, List, [], ◌∷◌, ◌++◌, length, get_or, decimal, refl, ◌∙◌, sym, arith}
use Rattle.std.proofs.lemmas.Fmt.{digits_decimal, decimal_injective}
use Rattle.std.proofs.lemmas.Str.Parse.{not_in_digits}
use Rattle.crontab_text.specs.Blanks.{LacksAny}
use Rattle.crontab_text.proofs.ListLemmas.{LacksAny-from_get_or, same_cut}
use Rattle.anacron_text.specs.Settings.{IsHours}
use Rattle.cron_io.proofs.NumberLemmas.{own}

-- a number has no `-`
no_hyphen : (n : ℕ) → n ≤ 24 → LacksAny (λ c. c ≡ 45) (decimal n)
no_hyphen n small =
    LacksAny-from_get_or (λ c. c ≡ 45) (decimal n) (not_in_digits own (decimal n) 45 (digits_decimal own n (omega arith)) (λ range. omega arith))

-- hours are two numbers round the first `-`
pub hours_parts : (text a b : List ℕ) (first last : ℕ) → text ≡ a ++ 45 ∷ b → ((i : ℕ) → i < length a → get_or a i 0 ≢ 45) → IsHours text first last → (a ≡ decimal first) × (b ≡ decimal last) × (first ≤ 24)
hours_parts text a b first last parts lacks hours =
    let rise = hours.rise in
    let within = hours.within in
    let small : first ≤ 24 = omega arith in
    let both = same_cut (λ c. c ≡ 45) a (decimal first) (45 ∷ b) (45 ∷ decimal last) (LacksAny-from_get_or (λ c. c ≡ 45) a lacks) (no_hyphen first small) refl refl (sym parts ∙ hours.is) in
    let tails = both.1 in
    let behind : b ≡ decimal last = cc in
    (both.0, behind, small)

-- a text without `-` is no hours
pub no_hours : (text : List ℕ) → ((i : ℕ) → i < length text → get_or text i 0 ≢ 45) → (first last : ℕ) → IsHours text first last → ⊥
no_hours text lacks first last hours = here (decimal first) (decimal last) text lacks hours.is
  where
    here : (a b xs : List ℕ) → ((i : ℕ) → i < length xs → get_or xs i 0 ≢ 45) → xs ≡ a ++ 45 ∷ b → ⊥
    here [] b [] lacks e = cc
    here [] b (x ∷ xs) lacks e = let head : x ≡ 45 = cc in lacks 0 (omega arith) head
    here (c ∷ cs) b [] lacks e = cc
    here (c ∷ cs) b (x ∷ xs) lacks e =
        let rest : xs ≡ cs ++ 45 ∷ b = cc in
        here cs b xs (λ i inside. lacks (suc i) (omega arith)) rest

-- so each of the two is a number up to 24
pub no_first_hour : (text a b : List ℕ) → text ≡ a ++ 45 ∷ b → ((i : ℕ) → i < length a → get_or a i 0 ≢ 45) → ((n : ℕ) → n ≤ 24 → a ≢ decimal n) → (first last : ℕ) → IsHours text first last → ⊥
no_first_hour text a b is lacks none first last hours =
    let parts = hours_parts text a b first last is lacks hours in none first parts.2 parts.0

pub no_last_hour : (text a b : List ℕ) → text ≡ a ++ 45 ∷ b → ((i : ℕ) → i < length a → get_or a i 0 ≢ 45) → ((n : ℕ) → n ≤ 24 → b ≢ decimal n) → (first last : ℕ) → IsHours text first last → ⊥
no_last_hour text a b is lacks none first last hours =
    let parts = hours_parts text a b first last is lacks hours in none last hours.within parts.1

-- hours that are read don't rise otherwise
pub hours_same : (text a b : List ℕ) (n m first last : ℕ) → text ≡ a ++ 45 ∷ b → ((i : ℕ) → i < length a → get_or a i 0 ≢ 45) → a ≡ decimal n → b ≡ decimal m → n ≤ 24 → m ≤ 24 → IsHours text first last → n < m
hours_same text a b n m first last parts lacks a_is b_is n_small m_small hours =
    let split = hours_parts text a b first last parts lacks hours in
    let small = split.2 in
    let within = hours.within in
    let rise = hours.rise in
    let one : n ≡ first = decimal_injective n first (omega arith) (omega arith) (sym a_is ∙ split.0) in
    let two : m ≡ last = decimal_injective m last (omega arith) (omega arith) (sym b_is ∙ split.1) in
    omega arith

-- a text is hours in one way
pub same_hours : (text : List ℕ) (a b c d : ℕ) → IsHours text a c → IsHours text b d → (a ≡ b) × (c ≡ d)
same_hours text a b c d first second =
    let rise = first.rise in
    let within = first.within in
    let other_rise = second.rise in
    let other_within = second.within in
    let lacks = not_in_digits own (decimal a) 45 (digits_decimal own a (omega arith)) (λ range. omega arith) in
    let split = hours_parts text (decimal a) (decimal c) b d first.is lacks second in
    (decimal_injective a b (omega arith) (omega arith) split.0, decimal_injective c d (omega arith) (omega arith) split.1)
