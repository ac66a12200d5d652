-- An atom is a number, a name or one fault.
use Rattle.std.proofs.Common.{◌≡◌, ◌&&◌, ℕ, zero, suc, ◌+◌, ◌<◌, ◌≤◌, Bool, true, false, ltb, List, [], ◌∷◌, length, map, get_or, Result, Ok, Err, inl, inr, ⊎_elim, refl, sym, ap, ◌∙◌, arith}
use Rattle.std.specs.Char.{IsAsciiAlphabetic, digit_value, is_ascii_lowercase, to_ascii_lowercase}
use Rattle.std.specs.List.{list_all, position_or_len}
use Rattle.std.specs.Str.Parse.{AllDigits, digits_value}
use Rattle.std.specs.Str.{bytes_eq}
use Rattle.std.proofs.lemmas.Bool.{cases_lt}
use Rattle.std.proofs.lemmas.Bool.Decides.{nat_tests}
use Rattle.std.proofs.lemmas.List.{get_or-map, length-map}
use Rattle.std.proofs.lemmas.List.Sums.{AllPass-from_list_all}
use Rattle.std.proofs.lemmas.Str.Parse.{digit_at}
use Rattle.cron_fields.specs.FieldSet.{least_of, greatest_of}
use Rattle.cron_fields.specs.Atom.{AllLetters, IsNumber, IsName, IsAtom, IsAtomFault, empty_atom, long_number, unknown_name, no_atom, TakesNumber, names_of}
use Rattle.cron_fields.specs.declared.field.FieldKind.{FieldKind}
use Rattle.cron_fields.specs.declared.field.FieldKind.TheVariants.{Minute, Hour, MonthDay, Month, WeekDay}
use Rattle.cron_fields.proofs.AtomLemmas.{long_digits}
use Rattle.cron_fields.proofs.Choice.{Decided, text_or_not}

-- what an atom is read as: its number, or a cause
abbrev pub ReadsAtom : FieldKind → List ℕ → Result ℕ ℕ → Type 0
ReadsAtom kind text (Ok value) = IsAtom kind text value
ReadsAtom kind text (Err cause) = IsAtomFault kind text cause

-- the kind takes the number or not
pub takes_or_not : (kind : FieldKind) (number : ℕ) → Decided (TakesNumber kind number)
takes_or_not kind number = ⊎_elim
    (λ below. inr (λ taken. let least = taken.least in omega arith))
    (λ least. ⊎_elim
    (λ above. inr (λ taken. let greatest = taken.greatest in omega arith))
    (λ greatest. inl (record { least = least; greatest = greatest }))
    (cases_lt (greatest_of kind) number))
    (cases_lt number (least_of kind))

digits_or_not : (text : List ℕ) → Decided (AllDigits 10 text)
digits_or_not [] = inl tt
digits_or_not (c ∷ text) = ⊎_elim
    (λ digit. ⊎_elim (λ rest. inl (digit, rest)) (λ fails. inr (λ all. fails all.1)) (digits_or_not text))
    (λ other. inr (λ all. let digit = all.0 in omega arith))
    (cases_lt (digit_value c) 10)

pub letter_or_not : (c : ℕ) → Decided (IsAsciiAlphabetic c)
letter_or_not c = ⊎_elim
    (λ below. inr (λ letter. elim letter [ inl upper ↦ omega arith | inr lower ↦ omega arith ]))
    (λ from_a. ⊎_elim
    (λ upper. inl (inl (from_a, omega arith)))
    (λ past_z. ⊎_elim
    (λ between. inr (λ letter. elim letter [ inl upper ↦ omega arith | inr lower ↦ omega arith ]))
    (λ lower. ⊎_elim
    (λ inside. inl (inr (lower, omega arith)))
    (λ above. inr (λ letter. elim letter [ inl upper ↦ omega arith | inr lower ↦ omega arith ]))
    (cases_lt c 123))
    (cases_lt c 97))
    (cases_lt c 91))
    (cases_lt c 65)

letters_cons : (c : ℕ) (text : List ℕ) → IsAsciiAlphabetic c → AllLetters text → AllLetters (c ∷ text)
letters_cons c text letter rest zero within = letter
letters_cons c text letter rest (suc i) within = rest i (omega arith)

letters_or_not : (text : List ℕ) → Decided (AllLetters text)
letters_or_not [] = inl (λ i within. absurd (omega arith))
letters_or_not (c ∷ text) = ⊎_elim
    (λ letter. ⊎_elim
    (λ rest. inl (letters_cons c text letter rest))
    (λ fails. inr (λ all. fails (λ i within. all (suc i) (omega arith))))
    (letters_or_not text))
    (λ fails. inr (λ all. fails (all 0 (omega arith))))
    (letter_or_not c)

stands_or_not : (names : List (List ℕ)) (text : List ℕ) → Decided ((i : ℕ) × (i < length names) × (text ≡ get_or names i []))
stands_or_not [] text = inr (λ (i, within, is). absurd (omega arith))
stands_or_not (name ∷ names) text = ⊎_elim
    (λ is. inl (0, omega arith, is))
    (λ other. ⊎_elim
    (λ (i, within, is). inl (suc i, omega arith, is))
    (λ none. inr (λ (i, within, is). nowhere other none i within is))
    (stands_or_not names text))
    (text_or_not text name)
  where
    nowhere : (text ≡ name → ⊥) → ((i : ℕ) × (i < length names) × (text ≡ get_or names i []) → ⊥) → (i : ℕ) → i < length (name ∷ names) → text ≡ get_or (name ∷ names) i [] → ⊥
    nowhere other none zero within is = other is
    nowhere other none (suc i) within is = none (i, omega arith, is)

name_or_not : (kind : FieldKind) (text : List ℕ) → Decided ((value : ℕ) × IsName kind text value)
name_or_not kind text = ⊎_elim
    (λ (i, within, is). inl (least_of kind + i, record { index = i; within = within; name = is; is = refl }))
    (λ none. inr (λ (value, name). none (name.index, name.within, name.name)))
    (stands_or_not (names_of kind) (map to_ascii_lowercase text))

pub number_or_not : (text : List ℕ) → Decided ((value : ℕ) × IsNumber text value)
number_or_not text = ⊎_elim
    (λ some. ⊎_elim
    (λ long. inr (λ (value, number). let short = number.short in omega arith))
    (λ short. ⊎_elim
    (λ digits. inl (digits_value 10 text, record { some = some; short = short; digits = digits; is = refl }))
    (λ fails. inr (λ (value, number). fails number.digits))
    (digits_or_not text))
    (cases_lt 9 (length text)))
    (λ none. inr (λ (value, number). let some = number.some in omega arith))
    (cases_lt 0 (length text))

pub empty_text : (text : List ℕ) → length text ≤ 0 → text ≡ []
empty_text [] none = refl
empty_text (c ∷ text) none = absurd (omega arith)

-- an atom is read in some way
pub atom_exists : (kind : FieldKind) (text : List ℕ) → (r : Result ℕ ℕ) × ReadsAtom kind text r
atom_exists kind text = ⊎_elim
    (λ (value, number). (Ok value, inl number))
    (λ no_number. ⊎_elim
    (λ (value, name). (Ok value, inr name))
    (λ no_name. ⊎_elim
    (λ some. ⊎_elim
    (λ digits. (Err 2, long_number digits (long_digits text digits some (λ value number. no_number (value, number))) refl))
    (λ no_digits. ⊎_elim
    (λ letters. (Err 4, unknown_name some letters (λ value name. no_name (value, name)) refl))
    (λ no_letters. (Err 9, no_atom some no_digits no_letters refl))
    (letters_or_not text))
    (digits_or_not text))
    (λ none. (Err 1, empty_atom (empty_text text none) refl))
    (cases_lt 0 (length text)))
    (name_or_not kind text))
    (number_or_not text)

-- each name stands in the table once
place_in : List (List ℕ) → List ℕ → ℕ
place_in names text = position_or_len (λ name. bytes_eq name text) names

place_of_name : (kind : FieldKind) (i : ℕ) → i < length (names_of kind) → place_in (names_of kind) (get_or (names_of kind) i []) ≡ i
unfolding place_in
place_of_name Minute i within = absurd (omega arith)
place_of_name Hour i within = absurd (omega arith)
place_of_name MonthDay i within = absurd (omega arith)
place_of_name Month zero within = refl
place_of_name Month (suc zero) within = refl
place_of_name Month (suc (suc zero)) within = refl
place_of_name Month (suc (suc (suc zero))) within = refl
place_of_name Month (suc (suc (suc (suc zero)))) within = refl
place_of_name Month (suc (suc (suc (suc (suc zero))))) within = refl
place_of_name Month (suc (suc (suc (suc (suc (suc zero)))))) within = refl
place_of_name Month (suc (suc (suc (suc (suc (suc (suc zero))))))) within = refl
place_of_name Month (suc (suc (suc (suc (suc (suc (suc (suc zero)))))))) within = refl
place_of_name Month (suc (suc (suc (suc (suc (suc (suc (suc (suc zero))))))))) within = refl
place_of_name Month (suc (suc (suc (suc (suc (suc (suc (suc (suc (suc zero)))))))))) within = refl
place_of_name Month (suc (suc (suc (suc (suc (suc (suc (suc (suc (suc (suc zero))))))))))) within = refl
place_of_name Month (suc (suc (suc (suc (suc (suc (suc (suc (suc (suc (suc (suc i)))))))))))) within = absurd (omega arith)
place_of_name WeekDay zero within = refl
place_of_name WeekDay (suc zero) within = refl
place_of_name WeekDay (suc (suc zero)) within = refl
place_of_name WeekDay (suc (suc (suc zero))) within = refl
place_of_name WeekDay (suc (suc (suc (suc zero)))) within = refl
place_of_name WeekDay (suc (suc (suc (suc (suc zero))))) within = refl
place_of_name WeekDay (suc (suc (suc (suc (suc (suc zero)))))) within = refl
place_of_name WeekDay (suc (suc (suc (suc (suc (suc (suc i))))))) within = absurd (omega arith)

name_same : (kind : FieldKind) (text : List ℕ) (v w : ℕ) → IsName kind text v → IsName kind text w → v ≡ w
name_same kind text v w p q =
    let places : p.index ≡ q.index = sym (place_of_name kind p.index p.within) ∙ (ap (place_in (names_of kind)) (sym p.name ∙ q.name) ∙ place_of_name kind q.index q.within) in
    let one = p.is in
    let other = q.is in
    omega arith

-- the names have small letters and no other bytes
small_names : (kind : FieldKind) → list_all (λ name. ltb 0 (length name) && list_all is_ascii_lowercase name) (names_of kind) ≡ true
small_names Minute = refl
small_names Hour = refl
small_names MonthDay = refl
small_names Month = refl
small_names WeekDay = refl

both : (a b : Bool) → (a && b) ≡ true → (a ≡ true) × (b ≡ true)
both true true is = (refl, refl)
both true false is = cc
both false b is = cc

small_name : (kind : FieldKind) (i : ℕ) → i < length (names_of kind) → (ltb 0 (length (get_or (names_of kind) i [])) ≡ true) × (list_all is_ascii_lowercase (get_or (names_of kind) i []) ≡ true)
small_name kind i within =
    both _ _ (AllPass-from_list_all (λ name. ltb 0 (length name) && list_all is_ascii_lowercase name) (names_of kind) (small_names kind) i [] within)

letter_from_small : (c : ℕ) → is_ascii_lowercase (to_ascii_lowercase c) ≡ true → IsAsciiAlphabetic c
letter_from_small c small = ⊎_elim (λ letter. letter) (λ fails. absurd (not_small fails)) (letter_or_not c)
  where
    not_small : (IsAsciiAlphabetic c → ⊥) → ⊥
    not_small fails = ⊎_elim
        (λ upper. ⊎_elim (λ below. grind (arith, nat_tests)) (λ from_a. fails (inl (from_a, omega arith))) (cases_lt c 65))
        (λ past_z. ⊎_elim
        (λ between. grind (arith, nat_tests))
        (λ lower. ⊎_elim (λ inside. fails (inr (lower, omega arith))) (λ above. grind (arith, nat_tests)) (cases_lt c 123))
        (cases_lt c 97))
        (cases_lt c 91)

pub name_some : (kind : FieldKind) (text : List ℕ) (value : ℕ) → IsName kind text value → 0 < length text
name_some kind text value name =
    let small = (small_name kind name.index name.within).0 in
    let long : length text ≡ length (get_or (names_of kind) name.index []) = sym (length-map text to_ascii_lowercase) ∙ ap length name.name in
    grind (arith, nat_tests)

pub name_letters : (kind : FieldKind) (text : List ℕ) (value : ℕ) → IsName kind text value → AllLetters text
name_letters kind text value name i within =
    let lowered : map to_ascii_lowercase text ≡ get_or (names_of kind) name.index [] = name.name in
    let small = AllPass-from_list_all is_ascii_lowercase (map to_ascii_lowercase text) (rw lowered (small_name kind name.index name.within).1) in
    let at = get_or-map to_ascii_lowercase text i 0 0 within in
    letter_from_small (get_or text i 0) (rw (← at) (small i 0 (rw (length-map text to_ascii_lowercase) within)))

-- digits are no letters
mixed : (text : List ℕ) → 0 < length text → AllDigits 10 text → AllLetters text → ⊥
mixed text some digits letters =
    let digit = digit_at text 0 digits some in
    elim (letters 0 some) [ inl upper ↦ omega arith | inr lower ↦ omega arith ]

fault_same : (kind : FieldKind) (text : List ℕ) (c d : ℕ) → IsAtomFault kind text c → IsAtomFault kind text d → c ≡ d
fault_same kind text c d (empty_atom e p) (empty_atom f q) = p ∙ sym q
fault_same kind text c d (empty_atom e p) (long_number g l q) = let none = ap length e in absurd (omega arith)
fault_same kind text c d (empty_atom e p) (unknown_name s l n q) = let none = ap length e in absurd (omega arith)
fault_same kind text c d (empty_atom e p) (no_atom s g l q) = let none = ap length e in absurd (omega arith)
fault_same kind text c d (long_number g l p) (empty_atom e q) = let none = ap length e in absurd (omega arith)
fault_same kind text c d (long_number g l p) (long_number h k q) = p ∙ sym q
fault_same kind text c d (long_number g l p) (unknown_name s k n q) = absurd (mixed text s g k)
fault_same kind text c d (long_number g l p) (no_atom s h k q) = absurd (h g)
fault_same kind text c d (unknown_name s l n p) (empty_atom e q) = let none = ap length e in absurd (omega arith)
fault_same kind text c d (unknown_name s l n p) (long_number g k q) = absurd (mixed text s g l)
fault_same kind text c d (unknown_name s l n p) (unknown_name t k m q) = p ∙ sym q
fault_same kind text c d (unknown_name s l n p) (no_atom t g k q) = absurd (k l)
fault_same kind text c d (no_atom s g l p) (empty_atom e q) = let none = ap length e in absurd (omega arith)
fault_same kind text c d (no_atom s g l p) (long_number h k q) = absurd (g h)
fault_same kind text c d (no_atom s g l p) (unknown_name t k n q) = absurd (l k)
fault_same kind text c d (no_atom s g l p) (no_atom t h k q) = p ∙ sym q

number_or_fault : (kind : FieldKind) (text : List ℕ) (value cause : ℕ) → IsNumber text value → IsAtomFault kind text cause → ⊥
number_or_fault kind text value cause number (empty_atom e p) = let none = ap length e in let some = number.some in omega arith
number_or_fault kind text value cause number (long_number g l p) = let short = number.short in omega arith
number_or_fault kind text value cause number (unknown_name s l n p) = mixed text s number.digits l
number_or_fault kind text value cause number (no_atom s g l p) = g number.digits

name_or_fault : (kind : FieldKind) (text : List ℕ) (value cause : ℕ) → IsName kind text value → IsAtomFault kind text cause → ⊥
name_or_fault kind text value cause name (empty_atom e p) =
    let none = ap length e in let some = name_some kind text value name in omega arith
name_or_fault kind text value cause name (long_number g l p) =
    mixed text (name_some kind text value name) g (name_letters kind text value name)
name_or_fault kind text value cause name (unknown_name s l n p) = n value name
name_or_fault kind text value cause name (no_atom s g l p) = l (name_letters kind text value name)

number_or_name : (kind : FieldKind) (text : List ℕ) (v w : ℕ) → IsNumber text v → IsName kind text w → ⊥
number_or_name kind text v w number name = mixed text number.some number.digits (name_letters kind text w name)

-- an atom is read in one way
pub atom_same : (kind : FieldKind) (text : List ℕ) (r s : Result ℕ ℕ) → ReadsAtom kind text r → ReadsAtom kind text s → r ≡ s
atom_same kind text (Ok v) (Ok w) (inl p) (inl q) = ap Ok (p.is ∙ sym q.is)
atom_same kind text (Ok v) (Ok w) (inl p) (inr q) = absurd (number_or_name kind text v w p q)
atom_same kind text (Ok v) (Ok w) (inr p) (inl q) = absurd (number_or_name kind text w v q p)
atom_same kind text (Ok v) (Ok w) (inr p) (inr q) = ap Ok (name_same kind text v w p q)
atom_same kind text (Ok v) (Err d) (inl p) q = absurd (number_or_fault kind text v d p q)
atom_same kind text (Ok v) (Err d) (inr p) q = absurd (name_or_fault kind text v d p q)
atom_same kind text (Err c) (Ok w) p (inl q) = absurd (number_or_fault kind text w c q p)
atom_same kind text (Err c) (Ok w) p (inr q) = absurd (name_or_fault kind text w c q p)
atom_same kind text (Err c) (Err d) p q = ap Err (fault_same kind text c d p q)
