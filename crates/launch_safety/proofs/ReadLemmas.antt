-- What is held was called at a reading of the book's clocks, and these are minutes of the window.
use Rattle.std.proofs.Common.{◌≡◌, ℕ, Option, Some, None, List, [], ◌∷◌, ◌++◌, ℤ, pos, ◌-ℤ◌, ◌≤ℤ◌, sym, ap, inl, inr, subst, arith}
use Rattle.std.specs.List.{Contains}
use Rattle.std.proofs.lemmas.Int.{ints}
use Rattle.std.proofs.lemmas.List.Elements.{All-cons, All-head, All-nil, All-tail, Contains-append_cases, Contains-append_left}
use Rattle.due_set.specs.Table.{Table}
use Rattle.cluster_sched.specs.Fates.{added, call}
use Rattle.cluster_sched.specs.declared.fate.Fate.{Fate}
use Rattle.cluster_sched.specs.declared.fate.Fate.TheVariants.{Done, LostBefore, LostAfter, Late}
use Rattle.cluster_sched.specs.declared.row.SchedRow.{SchedRow}
use Rattle.launch_machine.specs.Clerk.{first_rows}
use Rattle.step_spec.specs.Step.{Event}
use Rattle.step_spec.specs.declared.out.OutLetter.{OutLetter}
use Rattle.step_spec.proofs.Lists.{found_in, nothing_in}
use Rattle.history.specs.Book.{Row, Standing, after_row, arriving, first_standing, late_call, standing_after, under}
use Rattle.history.specs.Legal.{IsEventOfCause, IsLegal, MayFollow}
use Rattle.history.specs.declared.turn.CallRow.{CallRow}
use Rattle.history.specs.declared.turn.Cause.{Cause}
use Rattle.history.specs.declared.turn.Cause.TheVariants.{Campaign, Tick, Hear, Answer}
use Rattle.history.specs.declared.turn.Turn.{Turn}
use Rattle.history.specs.declared.turn.Turn.TheVariants.{Did, Stopped, Restarted, Arrived}
use Rattle.history.proofs.Turns.{AllFollow, after_rows, all_follow}
use Rattle.launch_safety.specs.Readings.{AreTurnsBy, IsTurnBy, ReadsBy}
use Rattle.launch_safety.proofs.CallLemmas.{call_read}
use Rattle.due_set.proofs.Rising.{Contains-cases as cons_cases}

-- ---- rows that join

only_row : (row other : SchedRow) → Contains (row ∷ []) other → row ≡ other
only_row row other has = elim (cons_cases row [] other has) [ inl same ↦ same | inr none ↦ nothing_in none ]

call_holds : (fate : Fate) (row : SchedRow) (found : Option SchedRow) (other : SchedRow) → Contains (call fate row found).held other → row ≡ other
call_holds Done row None other has = only_row row other has
call_holds LostBefore row None other has = nothing_in has
call_holds LostAfter row None other has = only_row row other has
call_holds Late row None other has = nothing_in has
call_holds Done row (Some first) other has = nothing_in has
call_holds LostBefore row (Some first) other has = nothing_in has
call_holds LostAfter row (Some first) other has = nothing_in has
call_holds Late row (Some first) other has = nothing_in has

call_is_late : (fate : Fate) (row : SchedRow) (found : Option SchedRow) (other : SchedRow) → Contains (call fate row found).late other → row ≡ other
call_is_late Done row None other has = nothing_in has
call_is_late LostBefore row None other has = nothing_in has
call_is_late LostAfter row None other has = nothing_in has
call_is_late Late row None other has = only_row row other has
call_is_late Done row (Some first) other has = nothing_in has
call_is_late LostBefore row (Some first) other has = nothing_in has
call_is_late LostAfter row (Some first) other has = nothing_in has
call_is_late Late row (Some first) other has = nothing_in has

added_is : (row : SchedRow) (found : Option SchedRow) (other : SchedRow) → Contains (added row found) other → row ≡ other
added_is row None other has = only_row row other has
added_is row (Some first) other has = nothing_in has

-- ---- turns

-- each call that is held or late was made at the instant or before
record AreCallsBy (at : ℤ) (standing : Standing) : Type 0 where
  held : (row : SchedRow) → Contains standing.held row → row.now.0 ≤ℤ at
  late : (row : SchedRow) → Contains standing.late row → row.now.0 ≤ℤ at

call_by : (n : ℕ) (table : Table) (at : ℤ) (standing : Standing) (who : ℕ) (cause : Cause) (made : CallRow) (row : Row) → MayFollow n table standing (Did who cause (Some made)) row → ReadsBy at cause → made.row.now.0 ≤ℤ at
call_by n table at standing who cause made row may by =
    let read = call_read n table standing who cause made row may in
    let within : read.now.0 ≤ℤ at = subst (ReadsBy at) read.is by in
    subst (λ now. now ≤ℤ at) (sym read.same) within

turn_by : (n : ℕ) (table : Table) (at : ℤ) (standing : Standing) (turn : Turn) (row : Row) → MayFollow n table standing turn row → IsTurnBy at turn → AreCallsBy at standing → AreCallsBy at (after_row n standing turn row.event row.letters)
unfolding after_row
turn_by n table at standing (Did who cause None) row may by calls = record { held = calls.held; late = calls.late }
turn_by n table at standing (Did who cause (Some made)) row may by calls =
    let within = call_by n table at standing who cause made row may by in
    record {
      held = λ other has. elim (Contains-append_cases standing.held _ other has) [
        | inl old ↦ calls.held other old
        | inr new ↦ subst (λ (r : SchedRow). r.now.0 ≤ℤ at) (call_holds made.fate made.row (under made.row.name standing.held) other new) within
      ];
      late = λ other has. elim (Contains-append_cases standing.late _ other has) [
        | inl old ↦ calls.late other old
        | inr new ↦ subst (λ (r : SchedRow). r.now.0 ≤ℤ at) (call_is_late made.fate made.row (under made.row.name standing.held) other new) within
      ];
    }
turn_by n table at standing (Stopped who cause kept) row may by calls = record { held = calls.held; late = calls.late }
turn_by n table at standing (Restarted who) row may by calls = record { held = calls.held; late = calls.late }
turn_by n table at standing (Arrived number) row (late, nothing) by calls = record {
  held = λ other has.
      let came : arriving (late_call number standing.late) standing.held ≡ standing.held ++ added late.row (under late.row.name standing.held) = ap (λ call. arriving call standing.held) late.there in
      elim (Contains-append_cases standing.held (added late.row (under late.row.name standing.held)) other (subst (λ rows. Contains rows other) came has)) [
        | inl old ↦ calls.held other old
        | inr new ↦ subst (λ (r : SchedRow). r.now.0 ≤ℤ at) (added_is late.row (under late.row.name standing.held) other new)
            (calls.late late.row (found_in standing.late number late.row late.there))
      ];
  late = calls.late;
}

-- ---- books

turns_by : (n : ℕ) (table : Table) (at : ℤ) (standing : Standing) (rows : List Row) → AllFollow n table standing rows → AreTurnsBy at rows → AreCallsBy at standing → AreCallsBy at (after_rows n standing rows)
turns_by n table at standing [] all by calls = calls
turns_by n table at standing (row ∷ rows) (may, all) by calls =
    turns_by n table at (after_row n standing row.turn row.event row.letters) rows all (All-tail (λ (r : Row). IsTurnBy at r.turn) row rows by)
    (turn_by n table at standing row.turn row may (All-head (λ (r : Row). IsTurnBy at r.turn) row rows by) calls)

-- each row that is held was called at the instant or before, where no clock reading is later
pub held_by : (n : ℕ) (table : Table) (at : ℤ) (book : List Row) (row : SchedRow) → IsLegal n table book → AreTurnsBy at book → Contains (standing_after n (first_rows table) book).held row → row.now.0 ≤ℤ at
held_by n table at book row legal by has =
    (turns_by n table at (first_standing n (first_rows table)) book (all_follow n table [] book legal) by
    (record { held = λ other none. nothing_in none; late = λ other none. nothing_in none })).held row has

arriving_still : (held : List SchedRow) (call : Option SchedRow) (row : SchedRow) → Contains held row → Contains (arriving call held) row
arriving_still held None row has = has
arriving_still held (Some call) row has = Contains-append_left held (added call (under call.name held)) row has

held_still : (n : ℕ) (standing : Standing) (turn : Turn) (event : Event) (letters : List OutLetter) (row : SchedRow) → Contains standing.held row → Contains (after_row n standing turn event letters).held row
unfolding after_row
held_still n standing (Did who cause None) event letters row has = has
held_still n standing (Did who cause (Some made)) event letters row has = Contains-append_left standing.held _ row has
held_still n standing (Stopped who cause kept) event letters row has = has
held_still n standing (Restarted who) event letters row has = has
held_still n standing (Arrived number) event letters row has = arriving_still standing.held (late_call number standing.late) row has

-- what is held stays
pub stays_held : (n : ℕ) (standing : Standing) (rows : List Row) (row : SchedRow) → Contains standing.held row → Contains (after_rows n standing rows).held row
stays_held n standing [] row has = has
stays_held n standing (first ∷ rows) row has =
    stays_held n (after_row n standing first.turn first.event first.letters) rows row (held_still n standing first.turn first.event first.letters row has)

-- ---- the window

cause_inside : (n : ℕ) (table : Table) (standing : Standing) (who : ℕ) (cause : Cause) (event : Event) → IsEventOfCause n table standing who cause event → ReadsBy (table.window.until.0 -ℤ pos 1) cause
cause_inside n table standing who Campaign event is = tt
cause_inside n table standing who (Tick now) event (inside, plan, is) = omega (arith, ints, inside.before)
cause_inside n table standing who (Hear number) event is = tt
cause_inside n table standing who Answer event is = tt

turn_inside : (n : ℕ) (table : Table) (standing : Standing) (turn : Turn) (row : Row) → MayFollow n table standing turn row → IsTurnBy (table.window.until.0 -ℤ pos 1) turn
turn_inside n table standing (Did who cause made) row may = cause_inside n table standing who cause row.event may.0.event_of
turn_inside n table standing (Stopped who None kept) row may = tt
turn_inside n table standing (Stopped who (Some cause) kept) row may = cause_inside n table standing who cause row.event may.0.event_of
turn_inside n table standing (Restarted who) row may = tt
turn_inside n table standing (Arrived number) row may = tt

turns_inside : (n : ℕ) (table : Table) (standing : Standing) (rows : List Row) → AllFollow n table standing rows → AreTurnsBy (table.window.until.0 -ℤ pos 1) rows
turns_inside n table standing [] all = All-nil (λ (r : Row). IsTurnBy (table.window.until.0 -ℤ pos 1) r.turn)
turns_inside n table standing (row ∷ rows) (may, all) =
    All-cons (λ (r : Row). IsTurnBy (table.window.until.0 -ℤ pos 1) r.turn) row rows (turn_inside n table standing row.turn row may)
    (turns_inside n table (after_row n standing row.turn row.event row.letters) rows all)

-- no clock of a legal book reads an instant past the window's last minute
pub book_inside : (n : ℕ) (table : Table) (book : List Row) → IsLegal n table book → AreTurnsBy (table.window.until.0 -ℤ pos 1) book
book_inside n table book legal = turns_inside n table (first_standing n (first_rows table)) book (all_follow n table [] book legal)
