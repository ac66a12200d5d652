-- The letters of a round join the mails of those that hear them in the next.
use Rattle.paxos_base.specs.declared.rows.TableSize.{TableSize}
use Rattle.std.proofs.Common.{◌≡◌, ℕ, suc, ◌+◌, ◌-◌, Bool, true, false, Option, Some, List, [], ◌∷◌, ◌++◌, length, refl, sym, ap, ◌∙◌, inl, inr, arith, subst, cond}
use Rattle.std.specs.Prelude.{◌&&◌}
use Rattle.std.specs.List.{AllZip, filter, range_with_len, slice_get}
use Rattle.std.proofs.lemmas.Bool.{cases_Bool, eqb-true}
use Rattle.std.proofs.lemmas.List.{length-append}
use Rattle.history.specs.Book.{PostedLetter}
use Rattle.synchronous_rounds.specs.Cluster.{HeardLetter}
use Rattle.script_semantics.specs.Situation.{Situation, letters_for, reaches}
use Rattle.settling.specs.Stands.{IsHeardLike, IsLetterAt}
use Rattle.settling.proofs.PostLemmas.{is_to}

-- the number is that of the letter, which goes to the replica
abbrev IsAt : List PostedLetter → ℕ → ℕ → PostedLetter → Type 0
IsAt posted who number letter = (slice_get posted number ≡ Some letter) × (letter.to ≡ who)

cons_at : (posted : List PostedLetter) (who number : ℕ) (letter : PostedLetter) (numbers : List ℕ) (letters : List PostedLetter) (reached : Bool)
    → reached ≡ is_to who letter → slice_get posted number ≡ Some letter → AllZip (IsAt posted who) numbers letters
    → AllZip (IsAt posted who) (cond reached (number ∷ numbers) numbers) (cond (is_to who letter) (letter ∷ letters) letters)
cons_at posted who number letter numbers letters reached same there zips = elim (cases_Bool (is_to who letter)) [
  | inl is ↦ let so : reached ≡ true = same ∙ is in rw (so, is) ((there, eqb-true letter.to who is), zips)
  | inr is ↦ let so : reached ≡ false = same ∙ is in rw (so, is) zips
]

-- the numbers that a test takes, where it takes the letters to the replica
numbers_at : (posted : List PostedLetter) (who : ℕ) (test : Option PostedLetter → Bool) → ((letter : PostedLetter) → test (Some letter) ≡ is_to who letter)
    → (from : ℕ) (more : List PostedLetter) → ((k : ℕ) (letter : PostedLetter) → slice_get more k ≡ Some letter → slice_get posted (from + k) ≡ Some letter)
    → AllZip (IsAt posted who) (filter (λ number. test (slice_get posted number)) (range_with_len from (length more))) (filter (is_to who) more)
numbers_at posted who test takes from [] finds = tt
numbers_at posted who test takes from (letter ∷ more) finds =
    let at : from + 0 ≡ from = omega arith in
    let there : slice_get posted from ≡ Some letter = subst (λ k. slice_get posted k ≡ Some letter) at (finds 0 letter refl) in
    cons_at posted who from letter _ _ (test (slice_get posted from)) (ap test there ∙ takes letter) there
    (numbers_at posted who test takes (from + 1) more
    (λ k other is. let so : from + suc k ≡ from + 1 + k = omega arith in subst (λ n. slice_get posted n ≡ Some other) so (finds (suc k) other is)))

back_has : {X : Type 0} (front back : List X) (k : ℕ) (x : X) → slice_get back k ≡ Some x → slice_get (front ++ back) (length front + k) ≡ Some x
back_has [] back k x is = let at : 0 + k ≡ k = omega arith in rw at is
back_has (y ∷ front) back k x is = let at : suc (length front) + k ≡ suc (length front + k) = omega arith in rw at (back_has front back k x is)

and_true : (b : Bool) → (b && true) ≡ b
and_true true = refl
and_true false = refl

reaches_to : (situation : Situation) (who : ℕ) → situation.standing.runs who ≡ true → situation.cuts ≡ [] → (letter : PostedLetter) → reaches situation who (Some letter) ≡ is_to who letter
reaches_to situation who runs uncut letter = rw (runs, uncut) (and_true (is_to who letter))

zip_through : (members : ℕ) (size : TableSize) (posted : List PostedLetter) (who : ℕ) (numbers : List ℕ) (sent : List PostedLetter) (letters : List HeardLetter)
    → AllZip (IsAt posted who) numbers sent → AllZip (IsHeardLike members size) sent letters → AllZip (IsLetterAt members size posted who) numbers letters
zip_through members size posted who [] [] [] at heard = tt
zip_through members size posted who [] [] (letter ∷ letters) at heard = absurd heard
zip_through members size posted who [] (one ∷ sent) letters at heard = absurd at
zip_through members size posted who (number ∷ numbers) [] letters at heard = absurd at
zip_through members size posted who (number ∷ numbers) (one ∷ sent) [] at heard = absurd heard
zip_through members size posted who (number ∷ numbers) (one ∷ sent) (letter ∷ letters) at heard = (
  record { sent = one; there = at.0.0; to = at.0.1; heard = heard.0 },
  zip_through members size posted who numbers sent letters at.1 heard.1,
)

pub letters_join : (members : ℕ) (size : TableSize) (situation : Situation) (front more : List PostedLetter) (who : ℕ) (letters : List HeardLetter)
    → situation.standing.posted ≡ front ++ more → situation.standing.runs who ≡ true → situation.cuts ≡ []
    → AllZip (IsHeardLike members size) (filter (is_to who) more) letters
    → AllZip (IsLetterAt members size situation.standing.posted who) (letters_for situation (length front) who) letters
letters_join members size situation front more who letters posted runs uncut heard =
    let all = situation.standing.posted in
    let many : length all - length front ≡ length more =
    let long : length all ≡ length front + length more = ap length posted ∙ length-append front more in omega (arith, long) in
    let test = reaches situation who in
    let at = numbers_at all who test (reaches_to situation who runs uncut) (length front) more
    (λ k letter is. subst (λ list. slice_get list (length front + k) ≡ Some letter) (sym posted) (back_has front more k letter is)) in
    zip_through members size all who (letters_for situation (length front) who) (filter (is_to who) more) letters
    (subst (λ n. AllZip (IsAt all who) (filter (λ number. test (slice_get all number)) (range_with_len (length front) n)) (filter (is_to who) more)) (sym many) at) heard
