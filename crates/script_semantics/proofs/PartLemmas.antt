-- A part in which a replica takes its turns goes on by turns of others and of its own.
use Rattle.std.proofs.Common.{◌≡◌, ◌⊎◌, ℕ, zero, suc, ◌+◌, true, false, List, [], ◌∷◌, ◌++◌, take, fold, Some, refl, sym, ap, ◌∙◌, subst, inl, inr, ⊎_elim, ℤ, append_assoc}
use Rattle.std.specs.List.{slice_get}
use Rattle.std.proofs.lemmas.Bool.{cases_Bool}
use Rattle.std.proofs.lemmas.List.{append-nil}
use Rattle.std.proofs.lemmas.List.Sums.{fold-append}
use Rattle.zone_minutes.specs.declared.minute.Window.{Window}
use Rattle.history.specs.Book.{Row}
use Rattle.script_semantics.specs.Situation.{Situation}
use Rattle.script_semantics.specs.Others.{AreOthers}
use Rattle.script_semantics.specs.Free.{Course, GoesFreely, IsFreeTurn, after_all_posted, after_posted, after_row_of, begun, course_of, is_turn_of}

-- a row of a list with one more is a row of the list, or the last
row_of_snoc : {R : Type 0} (rows : List R) (last : R) (place : ℕ) (row : R) → slice_get (rows ++ last ∷ []) place ≡ Some row
    → ((slice_get rows place ≡ Some row) × (take place (rows ++ last ∷ []) ≡ take place rows)) ⊎ ((row ≡ last) × (take place (rows ++ last ∷ []) ≡ rows))
row_of_snoc [] last zero row is = inr (cc, refl)
row_of_snoc [] last (suc place) row is = absurd cc
row_of_snoc (x ∷ xs) last zero row is = inl (is, refl)
row_of_snoc (x ∷ xs) last (suc place) row is =
    ⊎_elim (λ t. inl (t.0, ap (λ l. x ∷ l) t.1)) (λ t. inr (t.0, ap (λ l. x ∷ l) t.1)) (row_of_snoc xs last place row is)

module _ (members who : ℕ) where
  -- ---- courses

  pub course_snoc : (situation : Situation) (rows : List Row) (row : Row)
      → course_of members who situation (rows ++ row ∷ []) ≡ after_row_of members who (course_of members who situation rows) row
  course_snoc situation rows row = fold-append (after_row_of members who) (begun situation) rows (row ∷ [])

  pub own_course : (course : Course) (row : Row) → is_turn_of who row.turn ≡ true
      → after_row_of members who course row
      ≡ record { here = after_posted members course.here row; seen = after_posted members course.here row; taken = course.taken + 1 }
  own_course course row own = rw own refl

  pub other_course : (course : Course) (row : Row) → is_turn_of who row.turn ≡ false
      → after_row_of members who course row ≡ record course { here = after_posted members course.here row }
  other_course course row other = rw other refl

  pub here_next : (course : Course) (row : Row) → (after_row_of members who course row).here ≡ after_posted members course.here row
  here_next course row = elim (cases_Bool (is_turn_of who row.turn)) [
    | inl own ↦ ap (λ (c : Course). c.here) (own_course course row own)
    | inr other ↦ ap (λ (c : Course). c.here) (other_course course row other)
  ]

  here_from : (course : Course) (rows : List Row) → (fold (after_row_of members who) course rows).here ≡ after_all_posted members course.here rows
  here_from course [] = refl
  here_from course (row ∷ rows) = here_from (after_row_of members who course row) rows ∙ ap (λ s. after_all_posted members s rows) (here_next course row)

  pub here_is : (situation : Situation) (rows : List Row) → (course_of members who situation rows).here ≡ after_all_posted members situation rows
  here_is situation rows = here_from (begun situation) rows

  -- turns of others leave what it has seen, and how many turns it has had
  pub others_leave : (course : Course) (rows : List Row) → AreOthers who rows
      → ((fold (after_row_of members who) course rows).seen ≡ course.seen) × ((fold (after_row_of members who) course rows).taken ≡ course.taken)
  others_leave course [] others = (refl, refl)
  others_leave course (row ∷ rows) others =
      let rest = others_leave (after_row_of members who course row) rows others.1 in
      let next = other_course course row others.0 in
      (rest.0 ∙ ap (λ (c : Course). c.seen) next, rest.1 ∙ ap (λ (c : Course). c.taken) next)

  pub course_with_others : (situation : Situation) (rows more : List Row) → AreOthers who more
      → ((course_of members who situation (rows ++ more)).seen ≡ (course_of members who situation rows).seen)
      × ((course_of members who situation (rows ++ more)).taken ≡ (course_of members who situation rows).taken)
  course_with_others situation rows more others =
      let whole = fold-append (after_row_of members who) (begun situation) rows more in
      let leave = others_leave (course_of members who situation rows) more others in
      (ap (λ (c : Course). c.seen) whole ∙ leave.0, ap (λ (c : Course). c.taken) whole ∙ leave.1)

  -- a turn of its own
  pub taken_next : (situation : Situation) (rows : List Row) (row : Row) → is_turn_of who row.turn ≡ true
      → (course_of members who situation (rows ++ row ∷ [])).taken ≡ (course_of members who situation rows).taken + 1
  taken_next situation rows row own = ap (λ (c : Course). c.taken) (course_snoc situation rows row ∙ own_course (course_of members who situation rows) row own)

  pub seen_next : (situation : Situation) (rows : List Row) (row : Row) → is_turn_of who row.turn ≡ true
      → (course_of members who situation (rows ++ row ∷ [])).seen ≡ after_all_posted members situation (rows ++ row ∷ [])
  seen_next situation rows row own =
      ap (λ (c : Course). c.seen) (course_snoc situation rows row ∙ own_course (course_of members who situation rows) row own)
      ∙ ap (λ s. after_posted members s row) (here_is situation rows) ∙ sym (fold-append (after_posted members) situation rows (row ∷ []))

  -- ---- turns

  module _ (window : Window) (at : ℤ) (turns : ℕ) (situation : Situation) where
    pub goes_none : GoesFreely members window at turns who situation []
    goes_none place row is own = absurd cc

    pub goes_other : (rows : List Row) (last : Row) → GoesFreely members window at turns who situation rows → is_turn_of who last.turn ≡ false
        → GoesFreely members window at turns who situation (rows ++ last ∷ [])
    goes_other rows last goes other place row is own =
        ⊎_elim
        (λ old. subst (λ front. IsFreeTurn members window at turns who (course_of members who situation front) row) (sym old.1) (goes place row old.0 own))
        (λ new. absurd (let no : true ≡ false = sym own ∙ ap (λ (r : Row). is_turn_of who r.turn) new.0 ∙ other in cc))
        (row_of_snoc rows last place row is)

    pub goes_own : (rows : List Row) (last : Row) → GoesFreely members window at turns who situation rows
        → IsFreeTurn members window at turns who (course_of members who situation rows) last
        → GoesFreely members window at turns who situation (rows ++ last ∷ [])
    goes_own rows last goes may place row is own =
        ⊎_elim
        (λ old. subst (λ front. IsFreeTurn members window at turns who (course_of members who situation front) row) (sym old.1) (goes place row old.0 own))
        (λ new. subst (λ front. IsFreeTurn members window at turns who (course_of members who situation front) row) (sym new.1)
        (subst (λ (r : Row). IsFreeTurn members window at turns who (course_of members who situation rows) r) (sym new.0) may))
        (row_of_snoc rows last place row is)

    pub goes_others : (rows more : List Row) → GoesFreely members window at turns who situation rows → AreOthers who more
        → GoesFreely members window at turns who situation (rows ++ more)
    goes_others rows [] goes others = rw (append-nil rows) goes
    goes_others rows (row ∷ more) goes others =
        subst (λ all. GoesFreely members window at turns who situation all) (append_assoc rows (row ∷ []) more)
        (goes_others (rows ++ row ∷ []) more (goes_other rows row goes others.0) others.1)
