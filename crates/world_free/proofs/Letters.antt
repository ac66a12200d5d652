-- What a look at a book adds to a mail.
use Rattle.std.proofs.Common.{◌≡◌, ℕ, ◌+◌, ◌-◌, ◌≤◌, ◌==◌, ◌&&◌, not, Bool, true, false, if◌then◌else◌, List, [], ◌∷◌, ◌++◌, Some, None, Option, length, filter, refl, sym, ap, ◌∙◌, subst, arith, inl, inr}
use Rattle.std.specs.List.{Contains, range_with_len, slice_get}
use Rattle.std.proofs.lemmas.Bool.{cases_Bool, eqb-true}
use Rattle.std.proofs.lemmas.List.{length-append}
use Rattle.std.proofs.lemmas.List.Elements.{filter-append}
use Rattle.history.specs.Book.{PostedLetter}
use Rattle.step_spec.proofs.Lists.{nothing_in}
use Rattle.script_semantics.specs.Situation.{Situation, is_cut, letters_for, reaches}
use Rattle.script_semantics.proofs.FreeMailLemmas.{found_still, same_passes, split_range}
use Rattle.world_free.specs.Mails.{IsPostedTo, comes_to, coming}
use Rattle.due_set.proofs.Rising.{Contains-cases as cons_cases}

filter_none : (test : ℕ → Bool) (xs : List ℕ) → ((x : ℕ) → test x ≡ false) → filter test xs ≡ []
filter_none test [] none = refl
filter_none test (x ∷ xs) none = rw (none x) (filter_none test xs none)

-- a replica that is stopped has no letter
unreached : (situation : Situation) (who : ℕ) (letter : Option PostedLetter) → situation.standing.runs who ≡ false → reaches situation who letter ≡ false
unreached situation who None stopped = refl
unreached situation who (Some letter) stopped = rw stopped (elim (cases_Bool (letter.to == who)) [ inl is ↦ rw is refl | inr differs ↦ rw differs refl ])

pub no_letters : (situation : Situation) (first who : ℕ) → situation.standing.runs who ≡ false → letters_for situation first who ≡ []
no_letters situation first who stopped =
    filter_none (λ number. reaches situation who (slice_get situation.standing.posted number)) (range_with_len first (length situation.standing.posted - first))
    (λ number. unreached situation who (slice_get situation.standing.posted number) stopped)

module _ (cuts : List (ℕ × ℕ)) (who : ℕ) where
  -- ---- one letter more

  abbrev pub one_coming : Option PostedLetter → ℕ → List ℕ
  one_coming letter number = if comes_to cuts who letter then number ∷ [] else []

  pub coming_none : (posted : List PostedLetter) (first : ℕ) → coming cuts who posted first 0 ≡ []
  coming_none posted first = refl

  last_coming : (posted : List PostedLetter) (number : ℕ) → coming cuts who posted number 1 ≡ one_coming (slice_get posted number) number
  last_coming posted number = elim (cases_Bool (comes_to cuts who (slice_get posted number))) [ inl is ↦ rw is refl | inr isnt ↦ rw isnt refl ]

  pub coming_next : (posted : List PostedLetter) (first count : ℕ) → coming cuts who posted first (count + 1) ≡ coming cuts who posted first count ++ one_coming (slice_get posted (first + count)) (first + count)
  coming_next posted first count =
      let test : ℕ → Bool = λ n. comes_to cuts who (slice_get posted n) in
      ap (filter test) (split_range first count 1) ∙ filter-append test (range_with_len first count) (range_with_len (first + count) 1)
      ∙ ap (λ l. coming cuts who posted first count ++ l) (last_coming posted (first + count))

  -- ---- letters, and more behind them

  pub coming_still : (posted new : List PostedLetter) (first count : ℕ) → first + count ≤ length posted → coming cuts who (posted ++ new) first count ≡ coming cuts who posted first count
  coming_still posted new first count within =
      same_passes (λ n. comes_to cuts who (slice_get (posted ++ new) n)) (λ n. comes_to cuts who (slice_get posted n)) first count
      (λ n below. ap (comes_to cuts who) (found_still posted new n (omega (arith, within, below))))

  pub coming_in_two : (posted new : List PostedLetter) (first : ℕ) → first ≤ length posted
      → coming cuts who (posted ++ new) first (length (posted ++ new) - first) ≡ coming cuts who posted first (length posted - first) ++ coming cuts who (posted ++ new) (length posted) (length new)
  coming_in_two posted new first within =
      let test : ℕ → Bool = λ n. comes_to cuts who (slice_get (posted ++ new) n) in
      let front : ℕ = length posted - first in
      let all : length (posted ++ new) - first ≡ front + length new = (let long = length-append posted new in omega arith) in
      let seam : first + front ≡ length posted = omega arith in
      ap (λ n. filter test (range_with_len first n)) all ∙ ap (filter test) (split_range first front (length new)) ∙ filter-append test (range_with_len first front) (range_with_len (first + front) (length new))
      ∙ ap (λ n. filter test (range_with_len first front) ++ filter test (range_with_len n (length new))) seam
      ∙ ap (λ l. l ++ filter test (range_with_len (length posted) (length new))) (coming_still posted new first front (omega (arith, within)))

  -- ---- by the situation

  reaches_as : (situation : Situation) (letter : Option PostedLetter) → situation.standing.runs who ≡ true → ((from to : ℕ) → is_cut from to cuts ≡ is_cut from to situation.cuts)
      → reaches situation who letter ≡ comes_to cuts who letter
  reaches_as situation None runs cut = refl
  reaches_as situation (Some letter) runs cut =
      ap (λ r. (letter.to == who) && (r && not (is_cut letter.from letter.to situation.cuts))) runs ∙ ap (λ lost. (letter.to == who) && not lost) (sym (cut letter.from letter.to))

  pub letters_come : (situation : Situation) (first : ℕ) → situation.standing.runs who ≡ true → ((from to : ℕ) → is_cut from to cuts ≡ is_cut from to situation.cuts)
      → letters_for situation first who ≡ coming cuts who situation.standing.posted first (length situation.standing.posted - first)
  letters_come situation first runs cut =
      same_passes (λ n. reaches situation who (slice_get situation.standing.posted n)) (λ n. comes_to cuts who (slice_get situation.standing.posted n)) first
      (length situation.standing.posted - first) (λ n below. reaches_as situation (slice_get situation.standing.posted n) runs cut)

  -- ---- what comes goes to the replica

  comes_there : (letter : Option PostedLetter) → comes_to cuts who letter ≡ true → (there : PostedLetter) × (letter ≡ Some there) × (there.to ≡ who)
  comes_there None is = absurd cc
  comes_there (Some letter) is = (letter, refl, to_who letter.to (not (is_cut letter.from letter.to cuts)) is)
    where
      to_who : (to : ℕ) (whole : Bool) → ((to == who) && whole) ≡ true → to ≡ who
      to_who to whole both = elim (cases_Bool (to == who)) [
        | inl same ↦ eqb-true to who same
        | inr other ↦ absurd (let no : false ≡ true = sym (ap (λ b. b && whole) other) ∙ both in cc)
      ]

  in_filter : (test : ℕ → Bool) (xs : List ℕ) (n : ℕ) → Contains (filter test xs) n → test n ≡ true
  in_filter test [] n has = nothing_in has
  in_filter test (x ∷ xs) n has = elim (cases_Bool (test x)) [
    | inl is ↦
        let kept : filter test (x ∷ xs) ≡ x ∷ filter test xs = rw is refl in
        elim (cons_cases x (filter test xs) n (subst (λ (l : List ℕ). Contains l n) kept has)) [
          | inl same ↦ subst (λ (m : ℕ). test m ≡ true) same is
          | inr later ↦ in_filter test xs n later
        ]
    | inr isnt ↦
        let dropped : filter test (x ∷ xs) ≡ filter test xs = rw isnt refl in
        in_filter test xs n (subst (λ (l : List ℕ). Contains l n) dropped has)
  ]

  pub coming_is_sent : (posted : List PostedLetter) (first count number : ℕ) → Contains (coming cuts who posted first count) number → IsPostedTo posted who number
  coming_is_sent posted first count number has =
      let found = comes_there (slice_get posted number) (in_filter (λ n. comes_to cuts who (slice_get posted n)) (range_with_len first count) number has) in
      record { letter = found.0; there = found.1; to = found.2 }
