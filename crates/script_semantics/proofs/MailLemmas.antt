-- The letters of mails, and the calls that arrive.
use Rattle.std.proofs.Common.{◌≡◌, ◌≢◌, ℕ, ◌==◌, nat_lt, true, false, not, Option, Some, List, [], ◌∷◌, length, inl, inr, refl, sym, ap, subst, arith, if◌then◌else◌}
use Rattle.std.specs.Prelude.{Contains, AllPairs, filter, get_or, slice_get}
use Rattle.std.proofs.lemmas.Bool.{cases_Bool, eqb-true, eq-eqb, ne_eqb, false_from_ne_true, lt-ltb, ltb-true}
use Rattle.std.proofs.lemmas.List.Elements.{Contains-get_or}
use Rattle.std.proofs.lemmas.List.Kept.{AllPairs-cons, AllPairs-filter}
use Rattle.std.proofs.lemmas.Option.{slice_get_cases, slice_get_within}
use Rattle.due_set.proofs.Rising.{Contains-head, Contains-tail, Contains-cases, Contains-none}
use Rattle.history.specs.Book.{PostedLetter}
use Rattle.history.specs.Legal.{IsLate}
use Rattle.script_semantics.specs.Commands.{arrival_tasks, each_once, from_one, from_others, has_number, is_from}
use Rattle.script_semantics.specs.Situation.{Situation, Arrive}
use Rattle.script_semantics.proofs.ListLemmas.{passes_filter}
use Rattle.step_spec.proofs.ListLemmas.{from_filter, in_filter}

-- ---- letters of one replica

is_of : (from : ℕ) (found : Option PostedLetter) (letter : PostedLetter) → found ≡ Some letter → letter.from ≡ from → is_from from found ≡ true
is_of from found letter there same = rw there (eq-eqb letter.from from same)

is_of_other : (from : ℕ) (found : Option PostedLetter) (letter : PostedLetter) → found ≡ Some letter → letter.from ≢ from → is_from from found ≡ false
is_of_other from found letter there differs = rw there (ne_eqb letter.from from differs)

sender : (from : ℕ) (found : Option PostedLetter) (letter : PostedLetter) → found ≡ Some letter → is_from from found ≡ true → letter.from ≡ from
sender from found letter there is = eqb-true letter.from from (subst (λ x. is_from from x ≡ true) there is)

-- ---- a drop

pub dropped : (posted : List PostedLetter) (from : ℕ) (mail : List ℕ) (number : ℕ) (letter : PostedLetter)
    → slice_get posted number ≡ Some letter → letter.from ≡ from → Contains (from_others posted from mail) number → ⊥
dropped posted from mail number letter there same has =
    let passes = passes_filter (λ n. not (is_from from (slice_get posted n))) mail number has in
    let is = is_of from (slice_get posted number) letter there same in
    cc

pub stays : (posted : List PostedLetter) (from : ℕ) (mail : List ℕ) (number : ℕ) (letter : PostedLetter)
    → slice_get posted number ≡ Some letter → letter.from ≢ from → Contains mail number → Contains (from_others posted from mail) number
stays posted from mail number letter there differs has =
    in_filter (λ n. not (is_from from (slice_get posted n))) mail number
    (ap not (is_of_other from (slice_get posted number) letter there differs)) has

pub no_more : (posted : List PostedLetter) (from : ℕ) (mail : List ℕ) (number : ℕ) → Contains (from_others posted from mail) number → Contains mail number
no_more posted from mail number has = from_filter (λ n. not (is_from from (slice_get posted n))) mail number has

-- ---- a repeat

in_each_once : (numbers : List ℕ) (number : ℕ) → Contains numbers number → Contains (each_once numbers) number
in_each_once [] number has = absurd (Contains-none number has)
in_each_once (first ∷ numbers) number has =
    let others = filter (λ other. not (other == first)) (each_once numbers) in
    elim (cases_Bool (number == first)) [
      | inl same ↦ subst (Contains (first ∷ others)) (sym (eqb-true number first same)) (Contains-head first others)
      | inr differs ↦ elim (Contains-cases first numbers number has) [
        | inl same ↦ subst (Contains (first ∷ others)) same (Contains-head first others)
        | inr more ↦ Contains-tail first others number
            (in_filter (λ other. not (other == first)) (each_once numbers) number (ap not differs) (in_each_once numbers number more))
      ]
    ]

pub from_each_once : (numbers : List ℕ) (number : ℕ) → Contains (each_once numbers) number → Contains numbers number
from_each_once [] number has = absurd (Contains-none number has)
from_each_once (first ∷ numbers) number has = elim (Contains-cases first (filter (λ other. not (other == first)) (each_once numbers)) number has) [
  | inl same ↦ subst (Contains (first ∷ numbers)) same (Contains-head first numbers)
  | inr more ↦ Contains-tail first numbers number (from_each_once numbers number (from_filter (λ other. not (other == first)) (each_once numbers) number more))
]

pub joins : (posted : List PostedLetter) (from : ℕ) (mail : List ℕ) (number : ℕ) (letter : PostedLetter)
    → slice_get posted number ≡ Some letter → letter.from ≡ from → Contains mail number → Contains (each_once (from_one posted from mail)) number
joins posted from mail number letter there same has =
    in_each_once (from_one posted from mail) number
    (in_filter (λ n. is_from from (slice_get posted n)) mail number (is_of from (slice_get posted number) letter there same) has)

pub joined : (posted : List PostedLetter) (from : ℕ) (mail : List ℕ) (number : ℕ) (letter : PostedLetter)
    → slice_get posted number ≡ Some letter → Contains (each_once (from_one posted from mail)) number
    → (letter.from ≡ from) × Contains mail number
joined posted from mail number letter there has =
    let among = from_each_once (from_one posted from mail) number has in (
      sender from (slice_get posted number) letter there (passes_filter (λ n. is_from from (slice_get posted n)) mail number among),
      from_filter (λ n. is_from from (slice_get posted n)) mail number among,
    )

differs : (first : ℕ) (numbers : List ℕ) (number : ℕ) → Contains (filter (λ other. not (other == first)) numbers) number → first ≢ number
differs first numbers number has =
    λ same. let passes = passes_filter (λ other. not (other == first)) numbers number has in let is = eq-eqb number first (sym same) in cc

pub once : (numbers : List ℕ) → AllPairs (λ one other. one ≢ other) (each_once numbers)
once [] = λ i j d before within. absurd (omega arith)
once (first ∷ numbers) =
    let others = filter (λ other. not (other == first)) (each_once numbers) in
    AllPairs-cons (λ one other. one ≢ other) first others (λ k d within. differs first (each_once numbers) (get_or others k d) (Contains-get_or others k d within))
    (AllPairs-filter (λ one other. one ≢ other) (λ other. not (other == first)) (each_once numbers) (once numbers))

-- ---- arrivals

is_among : (number : ℕ) (numbers : List ℕ) → has_number number numbers ≡ true → Contains numbers number
is_among number [] has = absurd cc
is_among number (first ∷ numbers) has = elim (cases_Bool (first == number)) [
  | inl same ↦ subst (Contains (first ∷ numbers)) (eqb-true first number same) (Contains-head first numbers)
  | inr differs ↦ Contains-tail first numbers number (is_among number numbers (subst (λ b. (if b then true else has_number number numbers) ≡ true) differs has))
]

has_it : (number : ℕ) (numbers : List ℕ) → Contains numbers number → has_number number numbers ≡ true
has_it number [] has = absurd (Contains-none number has)
has_it number (first ∷ numbers) has = elim (Contains-cases first numbers number has) [
  | inl same ↦ rw (eq-eqb first number same) refl
  | inr more ↦ elim (cases_Bool (first == number)) [
    | inl here ↦ rw here refl
    | inr other ↦ rw other (has_it number numbers more)
  ]
]

pub arrives : (late : ℕ) (situation : Situation) → IsLate situation.standing late → arrival_tasks late situation ≡ Arrive late ∷ []
arrives late situation is =
    let below = lt-ltb late (length situation.standing.late) (slice_get_within situation.standing.late late is.row is.there) in
    let not_yet : has_number late situation.standing.arrived ≡ false =
    false_from_ne_true (has_number late situation.standing.arrived) (λ has. is.first (is_among late situation.standing.arrived has)) in
    rw (below, not_yet) refl

pub no_arrival : (late : ℕ) (situation : Situation) → (IsLate situation.standing late → ⊥) → arrival_tasks late situation ≡ []
no_arrival late situation not_late =
    elim (cases_Bool (nat_lt late (length situation.standing.late))) [
      | inl below ↦ elim (cases_Bool (has_number late situation.standing.arrived)) [
        | inl has ↦ rw (below, has) refl
        | inr not_yet ↦ absurd (not_late (is_late below not_yet))
      ]
      | inr above ↦ rw above refl
    ]
  where
    is_late : nat_lt late (length situation.standing.late) ≡ true → has_number late situation.standing.arrived ≡ false → IsLate situation.standing late
    is_late below not_yet =
        let within = ltb-true late (length situation.standing.late) below in
        elim ((slice_get_cases situation.standing.late late).1) [
          | inl found ↦ record {
            row = found.0;
            there = found.2;
            first = λ has. let is = has_it late situation.standing.arrived has in cc;
          }
          | inr past ↦ absurd (omega (arith, past.0))
        ]
