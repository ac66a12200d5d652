-- Parts of turns in no order that show the same turns come to the same, and have as many.
use Rattle.std.proofs.Common.{◌≡◌, ◌⊎◌, ◌+◌, ℕ, suc, ℤ, List, [], ◌∷◌, ◌++◌, Some, length, take, drop, fold, append_assoc, refl, sym, subst, ap, ◌∙◌, inl, inr}
use Rattle.std.specs.Prelude.{slice_get, if◌then◌else◌}
use Rattle.std.proofs.lemmas.List.{take-append-drop}
use Rattle.zone_minutes.specs.declared.minute.Window.{Window}
use Rattle.history.specs.Book.{Row}
use Rattle.history.specs.declared.turn.Turn.{Turn}
use Rattle.script_semantics.specs.Free.{Course, IsFreePart, after_all_posted, after_posted, after_row_of, begun, is_turn_of}
use Rattle.script_semantics.specs.Situation.{Situation, delivered}
use Rattle.script_semantics.proofs.FreeEndLemmas.{no_longer}
use Rattle.script_semantics.proofs.PartLemmas.{here_next}
use Rattle.journal_text.proofs.Twins.{AreTwins, after_twin}

-- ---- twins whose letters join the mails at once

module _ (members : ℕ) where
  posted_twin : (situation : Situation) (row other : Row) (rows others : List Row) → AreTwins members situation.standing (row ∷ rows) (other ∷ others)
      → after_posted members situation row ≡ after_posted members situation other
  posted_twin situation row other rows others twins =
      let (turn, stands, changes, behind) = twins in
      ap (λ (here : Situation). delivered (length situation.standing.posted) here) (after_twin members situation row other turn stands changes)

  -- twins, as many of each, come to one situation
  pub record PostedAsOne (situation : Situation) (a b more rest : List Row) : Type 0 where
    pub after : after_all_posted members situation a ≡ after_all_posted members situation b
    pub twins : AreTwins members (after_all_posted members situation a).standing more rest

  pub posted_alike : (situation : Situation) (a b more rest : List Row) → length a ≡ length b
      → AreTwins members situation.standing (a ++ more) (b ++ rest) → PostedAsOne situation a b more rest
  posted_alike situation [] [] more rest size twins = record { after = refl; twins = twins }
  posted_alike situation [] (other ∷ b) more rest size twins = absurd cc
  posted_alike situation (row ∷ a) [] more rest size twins = absurd cc
  posted_alike situation (row ∷ a) (other ∷ b) more rest size twins =
      let (turn, stands, changes, others) = twins in
      let shorter : length a ≡ length b = cc in
      let next = posted_alike (after_posted members situation row) a b more rest shorter others in
      record {
        after = next.after ∙ ap (λ (here : Situation). after_all_posted members here b) (posted_twin situation row other (a ++ more) (b ++ rest) twins);
        twins = next.twins;
      }

  -- ---- courses

  abbrev stepped : (who : ℕ) → Course → Turn → Situation → Course
  stepped who course turn next =
      if is_turn_of who turn then record { here = next; seen = next; taken = course.taken + 1 } else record course { here = next }

  course_next : (who : ℕ) (course : Course) (row other : Row) (rows others : List Row) → AreTwins members course.here.standing (row ∷ rows) (other ∷ others)
      → after_row_of members who course row ≡ after_row_of members who course other
  course_next who course row other rows others twins =
      ap (λ (next : Situation). stepped who course row.turn next) (posted_twin course.here row other rows others twins)
      ∙ ap (λ (turn : Turn). stepped who course turn (after_posted members course.here other)) twins.0

  pub course_alike : (who : ℕ) (course : Course) (a b more rest : List Row) → length a ≡ length b → AreTwins members course.here.standing (a ++ more) (b ++ rest)
      → fold (after_row_of members who) course a ≡ fold (after_row_of members who) course b
  course_alike who course [] [] more rest size twins = refl
  course_alike who course [] (other ∷ b) more rest size twins = absurd cc
  course_alike who course (row ∷ a) [] more rest size twins = absurd cc
  course_alike who course (row ∷ a) (other ∷ b) more rest size twins =
      let shorter : length a ≡ length b = cc in
      let next = after_row_of members who course row in
      let onward : AreTwins members next.here.standing (a ++ more) (b ++ rest) =
      subst (λ (here : Situation). AreTwins members here.standing (a ++ more) (b ++ rest)) (sym (here_next members who course row)) twins.3 in
      course_alike who next a b more rest shorter onward
      ∙ ap (λ (from : Course). fold (after_row_of members who) from b) (course_next who course row other (a ++ more) (b ++ rest) twins)

-- ---- which is longer

-- the other goes on behind the one
record IsLonger (one other : List Row) : Type 0 where
  pub row : Row
  pub there : slice_get other (length one) ≡ Some row
  pub size : length one ≡ length (take (length one) other)

which : (a b : List Row) → (length a ≡ length b) ⊎ (IsLonger a b ⊎ IsLonger b a)
which [] [] = inl refl
which [] (other ∷ b) = inr (inl (record { row = other; there = refl; size = refl }))
which (row ∷ a) [] = inr (inr (record { row = row; there = refl; size = refl }))
which (row ∷ a) (other ∷ b) = elim (which a b) [
  | inl same ↦ inl (ap (λ n. suc n) same)
  | inr longer ↦ elim longer [
    | inl more ↦ inr (inl (record { row = more.row; there = more.there; size = ap (λ n. suc n) more.size }))
    | inr more ↦ inr (inr (record { row = more.row; there = more.there; size = ap (λ n. suc n) more.size }))
  ]
]

split_at : (n : ℕ) (rows more : List Row) → take n rows ++ (drop n rows ++ more) ≡ rows ++ more
split_at n rows more = sym (append_assoc (take n rows) (drop n rows) more) ∙ ap (λ (l : List Row). l ++ more) (take-append-drop n rows)

-- **Two parts that show the same turns have as many.**
pub free_as_many : (members : ℕ) (window : Window) (at : ℤ) (turns : ℕ) (situation : Situation) (a b more rest : List Row) (after behind : Situation)
    → IsFreePart members window at turns situation a after → IsFreePart members window at turns situation b behind
    → AreTwins members situation.standing (a ++ more) (b ++ rest) → length a ≡ length b
free_as_many members window at turns situation a b more rest after behind x y twins = elim (which a b) [
  | inl same ↦ same
  | inr longer ↦ elim longer [
    | inl goes_on ↦
        let n = length a in
        let split : AreTwins members situation.standing (a ++ more) (take n b ++ (drop n b ++ rest)) =
        subst (λ (l : List Row). AreTwins members situation.standing (a ++ more) l) (sym (split_at n b rest)) twins in
        absurd (no_longer members window at turns situation a b after behind goes_on.row x y goes_on.there
        (λ who. course_alike members who (begun situation) a (take n b) more (drop n b ++ rest) goes_on.size split))
    | inr goes_on ↦
        let n = length b in
        let split : AreTwins members situation.standing (take n a ++ (drop n a ++ more)) (b ++ rest) =
        subst (λ (l : List Row). AreTwins members situation.standing l (b ++ rest)) (sym (split_at n a more)) twins in
        absurd (no_longer members window at turns situation b a behind after goes_on.row y x goes_on.there
        (λ who. sym (course_alike members who (begun situation) (take n a) b (drop n a ++ more) rest (sym goes_on.size) split)))
  ]
]
