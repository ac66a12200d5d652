-- Turns of a legal book can be told.
use Rattle.std.proofs.Common.{◌≡◌, ℕ, ◌+◌, ◌<◌, ◌≤◌, ℤ, Bool, List, [], ◌∷◌, ◌++◌, Option, None, Some, All, length, take, get_or, arith, refl, sym, subst, ◌∙◌, ap}
use Rattle.std.specs.Prelude.{IfSome}
use Rattle.std.proofs.lemmas.Int.{ints}
use Rattle.std.proofs.lemmas.List.{take_more}
use Rattle.std.proofs.lemmas.List.Elements.{All-contains, All-map}
use Rattle.std.proofs.lemmas.Option.{slice_get-get_or}
use Rattle.zone_minutes.specs.Civil.{IsCalendarMinute}
use Rattle.zone_minutes.specs.Window.{IsInWindow, IsWithinLimits}
use Rattle.zone_minutes.specs.declared.minute.Window.{Window}
use Rattle.cluster_sched.specs.Names.{IsNameIn}
use Rattle.cluster_sched.specs.declared.row.SchedRow.{SchedRow}
use Rattle.due_set.specs.Table.{IsSound, Table}
use Rattle.launch_machine.specs.Clerk.{first_rows}
use Rattle.step_spec.specs.Step.{Event}
use Rattle.history.specs.Book.{Row, Standing, after_row, standing_after}
use Rattle.history.specs.Legal.{IsEventOfCause, IsLegal, MayFollow}
use Rattle.history.specs.declared.turn.CallRow.{CallRow}
use Rattle.history.specs.declared.turn.Cause.{Cause}
use Rattle.history.specs.declared.turn.Cause.TheVariants.{Campaign, Tick, Hear, Answer}
use Rattle.history.specs.declared.turn.Turn.{Turn}
use Rattle.history.specs.declared.turn.Turn.TheVariants.{Did, Stopped, Restarted, Arrived}
use Rattle.history.proofs.Agreement.{cut_is_legal}
use Rattle.history.proofs.Standings.{waits_made}
use Rattle.history.proofs.Keeping.{stands_next}
use Rattle.launch_safety.proofs.Whole.{waiting_held}
use Rattle.launch_safety.specs.Fitting.{held_in}
use Rattle.report_text.proofs.BookLemmas.{named}
use Rattle.world_law.specs.Book.{BookState, StandsBehind}
use Rattle.journal_text.specs.Told.{CanBeTold, HasStamp, IsAnsweredBy}

calendar : (window : Window) (at : ℤ) → IsWithinLimits window → IsInWindow window at → IsCalendarMinute at
calendar window at limits inside =
    let since = limits.since in
    let until = limits.until in
    let after = inside.since in
    let before = inside.before in
    (omega (arith, ints), omega (arith, ints))

-- what a replica has its turn for has a stamp, where it is a tick
pub stamped : (members : ℕ) (table : Table) (standing : Standing) (who : ℕ) (cause : Cause) (event : Event) → IsWithinLimits table.window
    → IsEventOfCause members table standing who cause event → HasStamp cause
stamped members table standing who Campaign event limits is = tt
stamped members table standing who (Tick now) event limits is = calendar table.window now.0 limits is.0
stamped members table standing who (Hear number) event limits is = tt
stamped members table standing who Answer event limits is = tt

module _ (members : ℕ) (table : Table) (before : List Row) (row : Row) (few : members ≤ 7) (sound : IsSound table) (legal : IsLegal members table (before ++ row ∷ [])) where
  abbrev stands : Standing
  stands = standing_after members (first_rows table) before

  -- the answer that waits behind a turn is of a launch of the table
  named_answer : (who : ℕ) (cause : Cause) (made : CallRow) → row.turn ≡ Did who cause (Some made) → (answer : Option SchedRow) → made.answer ≡ answer
      → IfSome answer (λ (found : SchedRow). IsNameIn table found.name)
  named_answer who cause made turn None is = tt
  named_answer who cause made turn (Some found) is =
      let waits : (standing_after members (first_rows table) (before ++ row ∷ [])).waits who ≡ Some found =
      ap (λ (after : Standing). after.waits who) (stands_next members (first_rows table) before row)
      ∙ ap (λ (had : Turn). (after_row members stands had row.event row.letters).waits who) turn
      ∙ waits_made members stands who cause made row.event row.letters ∙ is in
      All-contains (λ (held : SchedRow). IsNameIn table held.name) (held_in members table (before ++ row ∷ [])) found
      (named table members (before ++ row ∷ []) few sound legal)
      (waiting_held members table (before ++ row ∷ []) who found few legal waits)

  answered_by : (who : ℕ) (cause : Cause) (made : Option CallRow) → row.turn ≡ Did who cause made → IsAnsweredBy table made
  answered_by who cause None turn = tt
  answered_by who cause (Some made) turn = named_answer who cause made turn made.answer refl

  stopped_for : (who : ℕ) (cause : Option Cause) (kept : Bool) → IsWithinLimits table.window → MayFollow members table stands (Stopped who cause kept) row
      → IfSome cause HasStamp
  stopped_for who None kept limits may = tt
  stopped_for who (Some cause) kept limits may = stamped members table stands who cause row.event limits may.0.event_of

  told_turn : (turn : Turn) → row.turn ≡ turn → IsWithinLimits table.window → MayFollow members table stands turn row → CanBeTold table turn
  told_turn (Did who cause made) is limits may = (stamped members table stands who cause row.event limits may.0.event_of, answered_by who cause made is)
  told_turn (Stopped who cause kept) is limits may = stopped_for who cause kept limits may
  told_turn (Restarted who) is limits may = tt
  told_turn (Arrived number) is limits may = tt

told_row : (members : ℕ) (table : Table) (rows : List Row) (k : ℕ) (d : Row) → members ≤ 7 → IsSound table → IsLegal members table rows → k < length rows
    → CanBeTold table (get_or rows k d).turn
told_row members table rows k d few sound legal lt =
    let row = get_or rows k d in
    let front : take (k + 1) rows ≡ take k rows ++ row ∷ [] = take_more rows k d lt in
    told_turn members table (take k rows) row few sound (subst (IsLegal members table) front (cut_is_legal members table rows (k + 1) legal))
    row.turn refl sound.limits (legal k row (slice_get-get_or rows k d lt))

-- the turns of a legal book can be told
pub told_turns : (table : Table) (rows : List Row) (book : BookState) → book.members ≤ 7 → IsSound table → StandsBehind table rows book
    → All (CanBeTold table) book.turns
told_turns table rows book few sound behind =
    subst (All (CanBeTold table)) (sym behind.turns)
    (All-map (CanBeTold table) (λ (row : Row). row.turn) rows
    (λ k d lt. told_row book.members table rows k d few sound behind.legal lt))
