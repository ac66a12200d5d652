-- A part shows where it ends: each replica that runs has all its turns, and no more.
use Rattle.std.proofs.Common.{◌≡◌, ℕ, ◌+◌, ◌<◌, Bool, true, false, List, [], ◌∷◌, ◌++◌, append_assoc, fold, length, take, Option, Some, ℤ, eq-eqb, refl, sym, ap, ◌∙◌, subst, inl, inr, arith}
use Rattle.std.specs.List.{slice_get}
use Rattle.std.proofs.Math.Seq.{take-append_seam}
use Rattle.std.proofs.lemmas.Bool.{cases_Bool}
use Rattle.std.proofs.lemmas.List.Sums.{fold-append}
use Rattle.zone_minutes.specs.declared.minute.Window.{Window}
use Rattle.step_spec.specs.Step.{Event}
use Rattle.step_spec.specs.declared.out.OutLetter.{OutLetter}
use Rattle.history.specs.Book.{Row, Standing, after_row}
use Rattle.history.specs.declared.turn.Cause.{Cause}
use Rattle.history.specs.declared.turn.Turn.{Turn}
use Rattle.history.specs.declared.turn.Turn.TheVariants.{Stopped}
use Rattle.script_semantics.specs.Free.{Course, GoesFreely, IsFreePart, after_all_posted, after_posted, after_row_of, begun, course_of, is_turn_of}
use Rattle.script_semantics.specs.Situation.{Situation}
use Rattle.script_semantics.specs.Others.{AreOthers, turns_had}
use Rattle.script_semantics.proofs.PartLemmas.{course_with_others, seen_next}
use Rattle.script_semantics.proofs.SeenLemmas.{seen_passes}
use Rattle.history.proofs.Standings.{fact_here}

found_there : {R : Type 0} (front : List R) (row : R) (rows : List R) → slice_get (front ++ row ∷ rows) (length front) ≡ Some row
found_there [] row rows = refl
found_there (x ∷ front) row rows = found_there front row rows

-- ---- how many turns a replica has

module _ (members who : ℕ) where
  one_more : (course : Course) (row : Row) (rows : List Row)
      → (after_row_of members who course row).taken + turns_had who rows ≡ course.taken + turns_had who (row ∷ rows)
  one_more course row rows = elim (cases_Bool (is_turn_of who row.turn)) [
    | inl own ↦ rw own (omega arith)
    | inr other ↦ rw other refl
  ]

  taken_from : (course : Course) (rows : List Row) → (fold (after_row_of members who) course rows).taken ≡ course.taken + turns_had who rows
  taken_from course [] = omega arith
  taken_from course (row ∷ rows) = taken_from (after_row_of members who course row) rows ∙ one_more course row rows

  pub taken_is : (situation : Situation) (rows : List Row) → (course_of members who situation rows).taken ≡ turns_had who rows
  taken_is situation rows =
      taken_from (begun situation) rows ∙ (let none : (begun situation).taken + turns_had who rows ≡ turns_had who rows = omega arith in none)

none_had : (who : ℕ) (rows : List Row) → AreOthers who rows → turns_had who rows ≡ 0
none_had who [] others = refl
none_had who (row ∷ rows) others = rw (others.0) (none_had who rows others.1)

stop_ends : (n : ℕ) (s : Standing) (who : ℕ) (cause : Option Cause) (kept : Bool) (turn : Turn) (event : Event) (letters : List OutLetter)
    → turn ≡ Stopped who cause kept → (after_row n s turn event letters).runs who ≡ false
unfolding after_row
stop_ends n s who cause kept turn event letters is = rw is (fact_here who false s.runs)

module _ (members : ℕ) (window : Window) (at : ℤ) (turns : ℕ) (situation : Situation) where
  pub all_had : (who : ℕ) (rows : List Row) (after : Situation) → IsFreePart members window at turns situation rows after → who < members
      → after.standing.runs who ≡ true → turns_had who rows ≡ turns
  all_had who rows after part member runs =
      sym (taken_is members who situation rows)
      ∙ (part.each who member).all
      (sym (seen_passes members who situation rows).runs ∙ ap (λ (here : Situation). here.standing.runs who) (sym part.is) ∙ runs)

  -- a replica that is stopped in what it saw last has no turn behind that
  none_later : (who : ℕ) (front rows : List Row) → (course_of members who situation front).seen.standing.runs who ≡ false
      → GoesFreely members window at turns who situation (front ++ rows) → AreOthers who rows
  none_later who front [] stopped goes = tt
  none_later who front (row ∷ rows) stopped goes = elim (cases_Bool (is_turn_of who row.turn)) [
    | inl own ↦
        let next = goes (length front) row (found_there front row rows) own in
        let runs : (course_of members who situation front).seen.standing.runs who ≡ true =
        subst (λ (l : List Row). (course_of members who situation l).seen.standing.runs who ≡ true) (take-append_seam front (row ∷ rows)) next.runs in
        absurd (let no : false ≡ true = sym stopped ∙ runs in cc)
    | inr other ↦
        let same = (course_with_others members who situation front (row ∷ []) (other, tt)).0 in (
          other,
          none_later who (front ++ row ∷ []) rows (ap (λ (s : Situation). s.standing.runs who) same ∙ stopped)
              (subst (λ (l : List Row). GoesFreely members window at turns who situation l) (sym (append_assoc front (row ∷ []) rows)) goes),
        )
  ]

  -- **A replica that stops has no turn after that.**
  pub none_behind_a_stop : (who : ℕ) (cause : Option Cause) (kept : Bool) (front rows : List Row) (row : Row) → row.turn ≡ Stopped who cause kept
      → GoesFreely members window at turns who situation (front ++ row ∷ rows) → AreOthers who rows
  none_behind_a_stop who cause kept front rows row is goes =
      let own : is_turn_of who row.turn ≡ true = ap (is_turn_of who) is ∙ rw (eq-eqb who who refl) refl in
      let here : (course_of members who situation (front ++ row ∷ [])).seen ≡ after_posted members (after_all_posted members situation front) row =
      seen_next members who situation front row own ∙ fold-append (after_posted members) situation front (row ∷ []) in
      let before = after_all_posted members situation front in
      none_later who (front ++ row ∷ []) rows
      (ap (λ (s : Situation). s.standing.runs who) here ∙ stop_ends members before.standing who cause kept row.turn row.event row.letters is)
      (subst (λ (l : List Row). GoesFreely members window at turns who situation l) (sym (append_assoc front (row ∷ []) rows)) goes)

  pub stopped_has_none : (who : ℕ) (rows : List Row) (after : Situation) → IsFreePart members window at turns situation rows after → who < members
      → situation.standing.runs who ≡ false → turns_had who rows ≡ 0
  stopped_has_none who rows after part member stopped = none_had who rows (none_later who [] rows stopped (part.each who member).goes)

  -- ---- where it ends

  -- **A replica that has a turn more hadn't all its turns**: no part goes on where another one, with the same courses, has ended.
  pub no_longer : (one other : List Row) (after behind : Situation) (row : Row) → IsFreePart members window at turns situation one after
      → IsFreePart members window at turns situation other behind → slice_get other (length one) ≡ Some row
      → ((who : ℕ) → course_of members who situation one ≡ course_of members who situation (take (length one) other)) → ⊥
  no_longer one other after behind row x y there same =
      let (who, member, own) = y.named (length one) row there in
      let next = (y.each who member).goes (length one) row there own in
      let runs : (course_of members who situation one).seen.standing.runs who ≡ true =
      subst (λ (course : Course). course.seen.standing.runs who ≡ true) (sym (same who)) next.runs in
      let all : (course_of members who situation one).taken ≡ turns = (x.each who member).all runs in
      let left : (course_of members who situation one).taken < turns = subst (λ (course : Course). course.taken < turns) (sym (same who)) next.left in
      omega (arith, all, left)

  pub ends_there : (rows more : List Row) (after behind : Situation) → IsFreePart members window at turns situation rows after
      → IsFreePart members window at turns situation (rows ++ more) behind → more ≡ []
  ends_there rows [] after behind x y = refl
  ends_there rows (row ∷ more) after behind x y =
      absurd (no_longer rows (rows ++ row ∷ more) after behind row x y (found_there rows row more)
      (λ who. ap (course_of members who situation) (sym (take-append_seam rows (row ∷ more)))))
