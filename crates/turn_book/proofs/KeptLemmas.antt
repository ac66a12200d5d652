-- What a step of one seat keeps: the numbers of the seats, and the words.
use Rattle.std.proofs.Common.{◌≡◌, ◌≢◌, ◌⊎◌, ℕ, ◌+◌, ◌%◌, ◌<◌, false, List, [], length, set, refl, sym, ap, ◌∙◌, subst, inl, inr, ⊎_elim}
use Rattle.std.proofs.Math.Nat.{mod-add-mod}
use Rattle.std.proofs.lemmas.List.{length-set}
use Rattle.std.specs.Prelude.{slice_index, slice_set}
use mathlib.Core.Option.{some, some-injective}
use mathlib.Core.Logic.{dite}
use native.Mathlib.Decide.{ℕ_discrete}
use lib.ListN.{get_elem?}
use Rattle.atomic_table.proofs.Lists.{at_set, set_else, set_here}
use Rattle.turn_book.specs.declared.view.Past.{Past}
use Rattle.turn_book.specs.declared.view.View.{View}
use Rattle.turn_book.specs.Rule.{IsGone, IsKept, words_of}
use Rattle.turn_book.proofs.ViewLemmas.{at_within}

-- the words after a step adds 1 to one of them
pub drawn_words : (words : List ℕ) (next serving count : ℕ) → words ≡ words_of next serving count → slice_set words 0 ((slice_index words 0 + 1) % 18446744073709551616) ≡ words_of (next + 1) serving count
drawn_words words next serving count are = rw (are, mod-add-mod next 18446744073709551616 1) refl

pub served_words : (words : List ℕ) (next serving count : ℕ) → words ≡ words_of next serving count → slice_set words 1 ((slice_index words 1 + 1) % 18446744073709551616) ≡ words_of next (serving + 1) count
served_words words next serving count are = rw (are, mod-add-mod serving 18446744073709551616 1) refl

pub counted_words : (words : List ℕ) (next serving count : ℕ) → words ≡ words_of next serving count → slice_set words 2 ((slice_index words 2 + 1) % 18446744073709551616) ≡ words_of next serving (count + 1)
counted_words words next serving count are = rw (are, mod-add-mod count 18446744073709551616 1) refl

pub seen_words : (words : List ℕ) (next serving count : ℕ) → words ≡ words_of next serving count → slice_set words 1 (slice_index words 1) ≡ words
seen_words words next serving count are = rw are refl

module _ {L K R : Type 0} where
  pub gone_set : (views : List (View L K R)) (at : ℕ) (v w : View L K R) → get_elem? views at ≡ some v → w.spent ≡ v.spent → (past : Past R) → IsGone views past → IsGone (set views at w) past
  gone_set views at v w is same past gone = (
    subst (λ (n : ℕ). past.number < n) (sym (length-set views at w)) gone.0,
    (λ u there. ⊎_elim
        (λ (t : (past.number ≡ at) × (w ≡ u)). sym (ap (λ (x : View L K R). x.spent) t.1) ∙ same ∙ gone.1 v (subst (λ (n : ℕ). get_elem? views n ≡ some v) (sym t.0) is))
        (λ (t : (past.number ≢ at) × (get_elem? views past.number ≡ some u)). gone.1 u t.1)
        (at_set views at past.number w u there)),
  )

  -- the first seat's count after a step
  pub counts_set : (views : List (View L K R)) (at : ℕ) (v w : View L K R) → get_elem? views at ≡ some v → w.spent ≡ v.spent → w.made ≡ v.made
      → ((u : View L K R) → get_elem? views 0 ≡ some u → u.spent ≡ false → u.made ≡ length views)
      → (u : View L K R) → get_elem? (set views at w) 0 ≡ some u → u.spent ≡ false → u.made ≡ length (set views at w)
  counts_set views at v w is spent made counts u there lives =
      ⊎_elim
      (λ (t : (0 ≡ at) × (w ≡ u)).
      let first : get_elem? views 0 ≡ some v = subst (λ (n : ℕ). get_elem? views n ≡ some v) (sym t.0) is in
      let alive : v.spent ≡ false = sym spent ∙ ap (λ (x : View L K R). x.spent) t.1 ∙ lives in
      sym (ap (λ (x : View L K R). x.made) t.1) ∙ made ∙ counts v first alive ∙ sym (length-set views at w))
      (λ (t : (0 ≢ at) × (get_elem? views 0 ≡ some u)). counts u t.1 lives ∙ sym (length-set views at w))
      (at_set views at 0 w u there)

  -- what was joined is still gone after a step
  pub all_gone_set : (views : List (View L K R)) (at : ℕ) (v w : View L K R) → get_elem? views at ≡ some v → w.spent ≡ v.spent → w.joined ≡ v.joined
      → ((place : ℕ) (u : View L K R) → get_elem? views place ≡ some u → (k : ℕ) (past : Past R) → get_elem? u.joined k ≡ some past → IsGone views past)
      → (place : ℕ) (u : View L K R) → get_elem? (set views at w) place ≡ some u → (k : ℕ) (past : Past R) → get_elem? u.joined k ≡ some past → IsGone (set views at w) past
  all_gone_set views at v w is spent same gone place u there k past joined =
      gone_set views at v w is spent past
      (⊎_elim
      (λ (t : (place ≡ at) × (w ≡ u)).
      let list : u.joined ≡ v.joined = sym (ap (λ (x : View L K R). x.joined) t.1) ∙ same in
      gone at v is k past (subst (λ (l : List (Past R)). get_elem? l k ≡ some past) list joined))
      (λ (t : (place ≢ at) × (get_elem? views place ≡ some u)). gone place u t.1 k past joined)
      (at_set views at place w u there))

  -- a seat that isn't the first has nothing joined to it after a step
  pub lone_set : (views : List (View L K R)) (at : ℕ) (v w : View L K R) → get_elem? views at ≡ some v → w.joined ≡ v.joined
      → ((place : ℕ) (u : View L K R) → get_elem? views place ≡ some u → place ≢ 0 → u.joined ≡ [])
      → (place : ℕ) (u : View L K R) → get_elem? (set views at w) place ≡ some u → place ≢ 0 → u.joined ≡ []
  lone_set views at v w is same lone place u there other =
      ⊎_elim
      (λ (t : (place ≡ at) × (w ≡ u)).
      sym (ap (λ (x : View L K R). x.joined) t.1) ∙ same ∙ lone at v is (λ zero. other (t.0 ∙ zero)))
      (λ (t : (place ≢ at) × (get_elem? views place ≡ some u)). lone place u t.1 other)
      (at_set views at place w u there)

  -- where the view of a place is after a step
  here_or_else : (views : List (View L K R)) (at place : ℕ) (v w u : View L K R) → get_elem? views at ≡ some v → w.spent ≡ v.spent → get_elem? views place ≡ some u → u.spent ≡ false
      → (x : View L K R) × (get_elem? (set views at w) place ≡ some x) × (x.spent ≡ false) × (((x ≡ w) × (v ≡ u)) ⊎ (x ≡ u))
  here_or_else views at place v w u is spent there lives =
      dite (ℕ_discrete place at)
      (λ (e : place ≡ at).
      let same : v ≡ u = some-injective v u (sym is ∙ subst (λ (n : ℕ). get_elem? views n ≡ some u) e there) in (
        w,
        subst (λ (n : ℕ). get_elem? (set views at w) n ≡ some w) (sym e) (set_here views at w (at_within views at v is)),
        spent ∙ ap (λ (y : View L K R). y.spent) same ∙ lives,
        inl (refl, same),
      ))
      (λ (e : place ≢ at). (u, set_else views at place w e ∙ there, lives, inr refl))

  -- a number is kept after a step that joins nothing
  pub kept_set : (views : List (View L K R)) (at : ℕ) (v w : View L K R) → get_elem? views at ≡ some v → w.spent ≡ v.spent → w.joined ≡ v.joined → (number : ℕ) → IsKept views number → IsKept (set views at w) number
  kept_set views at v w is spent joined number kept =
      ⊎_elim
      (λ (t : (u : View L K R) × (get_elem? views number ≡ some u) × (u.spent ≡ false)).
      let now = here_or_else views at number v w t.0 is spent t.1 t.2 in inl (now.0, now.1, now.2))
      (λ (t : (u : View L K R) × (k : ℕ) × (past : Past R) × (get_elem? views 0 ≡ some u) × (u.spent ≡ false) × (get_elem? u.joined k ≡ some past) × (past.number ≡ number)).
      let now = here_or_else views at 0 v w t.0 is spent t.3 t.4 in
      let list : now.0.joined ≡ t.0.joined =
      ⊎_elim
      (λ (e : (now.0 ≡ w) × (v ≡ t.0)). ap (λ (y : View L K R). y.joined) e.0 ∙ joined ∙ ap (λ (y : View L K R). y.joined) e.1)
      (λ (e : now.0 ≡ t.0). ap (λ (y : View L K R). y.joined) e)
      now.3 in
      inr (now.0, t.1, t.2, now.1, now.2, subst (λ (l : List (Past R)). get_elem? l t.1 ≡ some t.2) (sym list) t.5, t.6))
      kept

  -- all numbers are
  pub all_kept_set : (views : List (View L K R)) (at : ℕ) (v w : View L K R) → get_elem? views at ≡ some v → w.spent ≡ v.spent → w.joined ≡ v.joined
      → ((number : ℕ) → number < length views → IsKept views number) → (number : ℕ) → number < length (set views at w) → IsKept (set views at w) number
  all_kept_set views at v w is spent joined kept number below =
      kept_set views at v w is spent joined number (kept number (subst (λ (n : ℕ). number < n) (length-set views at w) below))
