-- What a replica saw directly after its last turn still stands at its next one.
use Rattle.std.proofs.Common.{◌≡◌, ℕ, ◌&&◌, not, if◌then◌else◌, Bool, true, false, List, [], ◌∷◌, ◌++◌, fold, length, Option, None, Some, IsSome, IfSome, refl, sym, ap, ◌∙◌, subst, inl, inr, ℤ}
use Rattle.std.proofs.lemmas.Bool.{cases_Bool}
use Rattle.zone_minutes.specs.declared.minute.Minute.{Minute}
use Rattle.zone_minutes.specs.declared.minute.Window.{Window}
use Rattle.cluster_sched.specs.declared.row.SchedRow.{SchedRow}
use Rattle.cluster_sched.specs.declared.fate.Fate.{Fate}
use Rattle.paxos_base.specs.declared.durable.Delta.{Delta}
use Rattle.save_calls.specs.Save.{is_kept}
use Rattle.step_spec.specs.Folds.{deltas_of}
use Rattle.step_spec.specs.State.{State}
use Rattle.step_spec.specs.Step.{Event, step}
use Rattle.agreement.specs.Transition.{identity_of}
use Rattle.history.specs.Book.{Row, Standing}
use Rattle.history.specs.declared.turn.CallRow.{CallRow}
use Rattle.history.specs.declared.turn.Cause.{Cause}
use Rattle.history.specs.declared.turn.Cause.TheVariants.{Campaign, Tick, Hear, Answer}
use Rattle.history.specs.declared.turn.Turn.{Turn}
use Rattle.history.specs.declared.turn.Turn.TheVariants.{Did, Stopped}
use Rattle.script_semantics.specs.Arms.{IsEnough, IsTurnByArm, TakesStep}
use Rattle.script_semantics.specs.Free.{Course, IsFreeTurn, after_all_posted, after_posted, after_row_of, begun, course_of, is_time_to_stand, is_turn_of, next_cause, next_cause_by}
use Rattle.script_semantics.specs.Round.{clock_reading}
use Rattle.script_semantics.specs.Situation.{Armed, Situation, Do, changes_in, letters_for}
use Rattle.term_core.specs.Term.{is_leader}
use Rattle.script_semantics.proofs.FreeMailLemmas.{Passes, passes_none, passes_on, passes_one}
use Rattle.script_semantics.proofs.NextLemmas.{idle_hears_none}
use Rattle.script_semantics.proofs.PartLemmas.{here_is, other_course, own_course}

module _ (members who : ℕ) where
  passes_next : (course : Course) (row : Row) → Passes who course.seen course.here
      → Passes who (after_row_of members who course row).seen (after_row_of members who course row).here
  passes_next course row so_far = elim (cases_Bool (is_turn_of who row.turn)) [
    | inl own ↦
        subst (λ (next : Course). Passes who next.seen next.here) (sym (own_course members who course row own))
        (passes_none who (after_posted members course.here row))
    | inr other ↦
        subst (λ (next : Course). Passes who next.seen next.here) (sym (other_course members who course row other))
        (passes_on who course.seen course.here (after_posted members course.here row) so_far (passes_one members who course.here row other))
  ]

  passes_from : (course : Course) (rows : List Row) → Passes who course.seen course.here
      → Passes who (fold (after_row_of members who) course rows).seen (fold (after_row_of members who) course rows).here
  passes_from course [] so_far = so_far
  passes_from course (row ∷ rows) so_far = passes_from (after_row_of members who course row) rows (passes_next course row so_far)

  -- **Between what a replica saw last and now, others alone had turns.**
  pub seen_passes : (situation : Situation) (rows : List Row) → Passes who (course_of members who situation rows).seen (after_all_posted members situation rows)
  seen_passes situation rows =
      subst (λ (here : Situation). Passes who (course_of members who situation rows).seen here) (here_is members who situation rows)
      (passes_from (begun situation) rows (passes_none who situation))

-- a letter that is heard is the first of the mail
first_of : (waits : Option SchedRow) (mail : List ℕ) (idle : Cause) (number : ℕ) → (Hear number ≡ idle → ⊥) → Hear number ≡ next_cause_by waits mail idle
    → (rest : List ℕ) × (mail ≡ number ∷ rest)
first_of (Some row) mail idle number other is = absurd cc
first_of None [] idle number other is = absurd (other is)
first_of None (first ∷ mail) idle number other is = let same : first ≡ number = cc in (mail, ap (λ n. n ∷ mail) same)

-- an answer that is taken waits
answer_of : (waits : Option SchedRow) (mail : List ℕ) (idle : Cause) → (Answer ≡ idle → ⊥) → Answer ≡ next_cause_by waits mail idle → IsSome waits
answer_of (Some row) mail idle other is = refl
answer_of None [] idle other is = absurd (other is)
answer_of None (first ∷ mail) idle other is = absurd cc

idle_takes_none : (stands : Bool) (now : Minute) → Answer ≡ (if stands then Campaign else Tick now) → ⊥
idle_takes_none true now is = cc
idle_takes_none false now is = cc

cause_is : (who : ℕ) (cause other : Cause) (made call : Option CallRow) → Did who cause made ≡ Did who other call → cause ≡ other
cause_is who cause other made call is = cc

made_is : (who : ℕ) (cause other : Cause) (made call : Option CallRow) → Did who cause made ≡ Did who other call → call ≡ made
made_is who cause other made call is = cc

no_stop : (who : ℕ) (cause : Cause) (made : Option CallRow) (why : Option Cause) (kept : Bool) → Did who cause made ≡ Stopped who why kept → ⊥
no_stop who cause made why kept is = cc

-- a turn that a replica did is a step that its disk saved
step_of : (members : ℕ) (situation : Situation) (who : ℕ) (next cause : Cause) (row : Row) (made : Option CallRow) → IsTurnByArm members situation (Do who next) row
    → row.turn ≡ Did who cause made → TakesStep members situation who next row
step_of members situation who next cause row made (inl takes) is = takes
step_of members situation who next cause row made (inr stops) is =
    absurd (no_stop who cause made (Some next) (is_kept (situation.bases who) stops.change stops.armed.left stops.armed.image) (sym is ∙ stops.is))

-- what the step of a turn changes follows from its replica
changes_stay : (members who : ℕ) (old new : Standing) (turn mine : Turn) (event : Event) → turn ≡ mine
    → changes_in members new mine event ≡ changes_in members old mine event → changes_in members new turn event ≡ changes_in members old turn event
changes_stay members who old new turn mine event is same =
    subst (λ (t : Turn). changes_in members new t event ≡ changes_in members old t event) (sym is) same

-- **A turn by what a replica saw last is one by what stands now**, where others alone had turns between.
turn_still : (members who : ℕ) (old new : Situation) (cause : Cause) (row : Row) → Passes who old new → IsTurnByArm members old (Do who cause) row
    → IsTurnByArm members new (Do who cause) row
turn_still members who old new cause row passes (inl takes) =
    let same : changes_in members new.standing row.turn row.event ≡ changes_in members old.standing row.turn row.event =
    changes_stay members who old.standing new.standing row.turn (Did who cause takes.does.made) row.event takes.does.is
    (ap (λ (state : State). deltas_of (step (identity_of members who) row.event state)) passes.replica) in
    inl (record {
      does = record {
        made = takes.does.made;
        is = takes.does.is;
        fate = subst (λ (fate : Fate). IfSome takes.does.made (λ call. call.fate ≡ fate)) (sym passes.fate) takes.does.fate;
      };
      saved =
          subst (λ (armed : Option Armed). IsEnough armed (changes_in members new.standing row.turn row.event)) (sym passes.arm)
          (subst (λ (changes : List Delta). IsEnough (old.arms who) changes) (sym same) takes.saved);
    })
turn_still members who old new cause row passes (inr stops) =
    let kept : ℕ → Bool = λ bases. is_kept bases stops.change stops.armed.left stops.armed.image in
    inr (record {
      armed = stops.armed;
      is_armed = passes.arm ∙ stops.is_armed;
      change = stops.change;
      is = stops.is ∙ ap (λ (bases : ℕ). Stopped who (Some cause) (kept bases)) (sym passes.bases);
      changes =
          changes_stay members who old.standing new.standing row.turn (Stopped who (Some cause) (kept (old.bases who))) row.event stops.is
          (ap (λ (state : State). deltas_of (step (identity_of members who) row.event state)) passes.replica)
          ∙ stops.changes;
      few = stops.few;
    })

module _ (members : ℕ) (window : Window) (at : ℤ) (turns who : ℕ) (situation : Situation) (rows : List Row) where
  abbrev course : Course
  course = course_of members who situation rows

  abbrev here : Situation
  here = after_all_posted members situation rows

  passes : Passes who course.seen here
  passes = seen_passes members who situation rows

  abbrev stands_next : Bool
  stands_next = is_time_to_stand who course.taken && not (is_leader (course.seen.standing.replicas who).term)

  abbrev reading : Minute
  reading = clock_reading window at (course.seen.skews who)

  abbrev next : Cause
  next = next_cause window at who course.taken course.seen

  pub still_runs : (row : Row) → IsFreeTurn members window at turns who course row → here.standing.runs who ≡ true
  still_runs row free = passes.runs ∙ free.runs

  pub still_first : (number : ℕ) (row : Row) (made : Option CallRow) → IsFreeTurn members window at turns who course row → row.turn ≡ Did who (Hear number) made
      → (mail : List ℕ) × (here.mails who ≡ number ∷ mail)
  still_first number row made free is =
      let takes = step_of members course.seen who next (Hear number) row made free.does is in
      let told = cause_is who (Hear number) next made takes.does.made (sym is ∙ takes.does.is) in
      let (rest, front) =
      first_of (course.seen.standing.waits who) (course.seen.mails who) (if stands_next then Campaign else Tick reading) number
      (idle_hears_none stands_next reading number) told in (
        rest ++ letters_for here (length course.seen.standing.posted) who,
        passes.mail ∙ ap (λ mail. mail ++ letters_for here (length course.seen.standing.posted) who) front,
      )

  pub still_waits : (row : Row) (made : Option CallRow) → IsFreeTurn members window at turns who course row → row.turn ≡ Did who Answer made
      → IsSome (here.standing.waits who)
  still_waits row made free is =
      let takes = step_of members course.seen who next Answer row made free.does is in
      let told = cause_is who Answer next made takes.does.made (sym is ∙ takes.does.is) in
      subst (λ (waits : Option SchedRow). IsSome waits) (sym passes.waits)
      (answer_of (course.seen.standing.waits who) (course.seen.mails who) (if stands_next then Campaign else Tick reading)
      (idle_takes_none stands_next reading) told)

  pub still_fate : (row : Row) (cause : Cause) (made : CallRow) → IsFreeTurn members window at turns who course row → row.turn ≡ Did who cause (Some made)
      → made.fate ≡ here.fates who
  still_fate row cause made free is =
      let takes = step_of members course.seen who next cause row (Some made) free.does is in
      let call = made_is who cause next (Some made) takes.does.made (sym is ∙ takes.does.is) in
      let set : made.fate ≡ course.seen.fates who = subst (λ (some : Option CallRow). IfSome some (λ c. c.fate ≡ course.seen.fates who)) call takes.does.fate in
      set ∙ sym passes.fate

  pub still_by_arm : (row : Row) → IsFreeTurn members window at turns who course row → IsTurnByArm members here (Do who next) row
  still_by_arm row free = turn_still members who course.seen here next row passes free.does
