-- A replica that goes freely: turns of others, and then its own.
use Rattle.std.proofs.Common.{◌≡◌, ℕ, ◌+◌, ◌<◌, Bool, true, false, List, [], ◌∷◌, ◌++◌, Some, Option, IfSome, eq-eqb, inl, inr, refl, sym, ap, ◌∙◌, subst}
use Rattle.std.specs.List.{AllZip, Contains}
use Rattle.std.proofs.lemmas.Bool.{cases_Bool}
use Rattle.std.proofs.lemmas.List.Sums.{fold-append}
use Rattle.step_spec.specs.Step.{Event}
use Rattle.step_spec.specs.declared.out.OutLetter.{OutLetter}
use Rattle.history.specs.Book.{Row, Standing, after_row, post, turn_of}
use Rattle.history.specs.declared.turn.CallRow.{CallRow}
use Rattle.history.specs.declared.turn.Cause.{Cause}
use Rattle.history.specs.declared.turn.Cause.TheVariants.{Campaign, Tick, Hear, Answer}
use Rattle.history.specs.declared.turn.Turn.{Turn}
use Rattle.history.specs.declared.turn.Turn.TheVariants.{Did, Stopped, Restarted, Arrived}
use Rattle.paxos_base.specs.declared.durable.Delta.{Delta}
use Rattle.save_calls.specs.Save.{is_kept}
use Rattle.script_semantics.specs.Arms.{IsEnough, StopsInStep}
use Rattle.script_semantics.specs.Free.{Course, after_all_posted, after_posted, is_turn_of, next_cause}
use Rattle.script_semantics.specs.Situation.{Situation, after_turn, changes_in}
use Rattle.script_semantics.specs.Others.{AreOthers, mail_behind}
use Rattle.script_semantics.proofs.FreeMailLemmas.{Passes, others_pass}
use Rattle.script_semantics.proofs.PartLemmas.{course_with_others, goes_others, goes_own, seen_next, taken_next}
use Rattle.turn_book.specs.Rows.{is_seat}
use Rattle.world_law.specs.Rows.{HasTurnOf}
use Rattle.world_law.specs.declared.row.BookRow.{BookRow}
use Rattle.world_steps.proofs.AfterTurn.{did_runs}
use Rattle.world_free.specs.Jobs.{HasStoppedFreely, HasGone, situation_in}
use Rattle.world_free.specs.Plan.{FreePlan, course_in}
use Rattle.world_free.specs.Seats.{rows_by}
use Rattle.due_set.proofs.Rising.{Contains-tail as in_rest}
use Rattle.history.proofs.Standings.{fact_here}

-- ---- rows of others

is_own : (who : ℕ) (turn : Turn) → is_seat who (turn_of turn) ≡ is_turn_of who turn
is_own who (Did other cause made) = refl
is_own who (Stopped other cause kept) = refl
is_own who (Restarted other) = refl
is_own who (Arrived number) = refl

-- where none of some rows is the seat's, no turn behind them is its replica's
pub others_behind : (who : ℕ) (rows : List BookRow) (behind : List Row) → AllZip HasTurnOf rows behind → rows_by who rows ≡ [] → AreOthers who behind
others_behind who [] [] each none = tt
others_behind who [] (next ∷ behind) each none = absurd each
others_behind who (row ∷ rows) [] each none = absurd each
others_behind who (row ∷ rows) (next ∷ behind) each none = elim (cases_Bool (is_seat who (turn_of row.turn))) [
  | inl is ↦ absurd (let some : row ∷ rows_by who rows ≡ [] = sym (rw is refl) ∙ none in cc)
  | inr differs ↦ (
    ap (is_turn_of who) each.0.turn_is ∙ sym (is_own who row.turn) ∙ differs,
    others_behind who rows behind each.1 (sym (rw differs refl) ∙ none),
  )
]

-- ---- the situation of a part that goes on

pub situation_more : (plan : FreePlan) (more others : List Row) → situation_in plan (more ++ others) ≡ after_all_posted plan.book.members (situation_in plan more) others
situation_more plan more others = fold-append (after_posted plan.book.members) plan.situation more others

pub situation_next : (plan : FreePlan) (more : List Row) (row : Row) → situation_in plan (more ++ row ∷ []) ≡ after_posted plan.book.members (situation_in plan more) row
situation_next plan more row = situation_more plan more (row ∷ [])

-- what turns of others leave of it
pub others_leave_it : (plan : FreePlan) (who : ℕ) (more others : List Row) → AreOthers who others → Passes who (situation_in plan more) (situation_in plan (more ++ others))
others_leave_it plan who more others none =
    subst (λ (s : Situation). Passes who (situation_in plan more) s) (sym (situation_more plan more others)) (others_pass plan.book.members who (situation_in plan more) others none)

-- ---- its own turn

pub own_turn : (who : ℕ) (cause : Cause) (made : Option CallRow) (turn : Turn) → turn ≡ Did who cause made → is_turn_of who turn ≡ true
own_turn who cause made turn is = ap (is_turn_of who) is ∙ rw (eq-eqb who who refl) refl

pub turn_runs : (members who : ℕ) (situation : Situation) (row : Row) (cause : Cause) (made : Option CallRow) → row.turn ≡ Did who cause made → situation.standing.runs who ≡ true
    → (after_posted members situation row).standing.runs who ≡ true
turn_runs members who situation row cause made is runs =
    ap (λ (turn : Turn). (after_turn members situation (record row { turn = turn })).standing.runs who) is
    ∙ ap (λ (all : ℕ → Bool). all who) (did_runs members situation.standing who cause made row.event row.letters) ∙ runs

-- it posts its letters
pub did_posts : (n : ℕ) (s : Standing) (turn : Turn) (who : ℕ) (cause : Cause) (made : Option CallRow) (event : Event) (letters : List OutLetter) → turn ≡ Did who cause made
    → (after_row n s turn event letters).posted ≡ s.posted ++ post who letters
unfolding after_row
did_posts n s turn who cause made event letters is = rw is refl

-- what is left of a mail was in it
pub in_mail : (cause : Cause) (mail : List ℕ) (number : ℕ) → Contains (mail_behind cause mail) number → Contains mail number
in_mail Campaign mail number has = has
in_mail (Tick now) mail number has = has
in_mail (Hear heard) [] number has = has
in_mail (Hear heard) (first ∷ mail) number has = in_rest first mail number has
in_mail Answer mail number has = has

-- turns set no cuts
pub cuts_stay : (members : ℕ) (situation : Situation) (rows : List Row) → (after_all_posted members situation rows).cuts ≡ situation.cuts
cuts_stay members situation [] = refl
cuts_stay members situation (row ∷ rows) = cuts_stay members (after_posted members situation row) rows

-- **A replica that has gone freely has with its next turn**, whatever turns of others came between, where the turn is the one that it was to take
-- by what it saw last.
pub gone_next : (plan : FreePlan) (who taken : ℕ) (more others : List Row) (row : Row) (cause : Cause) (made : Option CallRow) (changes : List Delta) → HasGone plan who taken more → taken < plan.turns
    → AreOthers who others → row.turn ≡ Did who cause made → cause ≡ next_cause plan.table.window plan.at who taken (situation_in plan more)
    → IfSome made (λ call. call.fate ≡ (situation_in plan more).fates who) → changes_in plan.book.members (situation_in plan more).standing row.turn row.event ≡ changes
    → IsEnough ((situation_in plan more).arms who) changes → HasGone plan who (taken + 1) ((more ++ others) ++ row ∷ [])
gone_next plan who taken more others row cause made changes gone left none is next fated brings saved = record {
  goes =
      goes_own plan.book.members who plan.table.window plan.at plan.turns plan.situation (more ++ others) row
      (goes_others plan.book.members who plan.table.window plan.at plan.turns plan.situation more others gone.goes none)
      (record {
        runs = ap (λ (s : Situation). s.standing.runs who) seen ∙ gone.runs;
        left = rw taken_is left;
        does = inl (record {
          does = record {
            made = made;
            is = is ∙ ap (λ (c : Cause). Did who c made) (next ∙ rw (taken_is, seen) refl);
            fate = rw seen fated;
          };
          saved = rw seen (subst (λ (l : List Delta). IsEnough ((situation_in plan more).arms who) l) (sym brings) saved);
        });
      });
  taken_is = taken_next plan.book.members who plan.situation (more ++ others) row own ∙ ap (λ n. n + 1) taken_is;
  last = seen_next plan.book.members who plan.situation (more ++ others) row own;
  runs =
      ap (λ (s : Situation). s.standing.runs who) (situation_next plan (more ++ others) row)
      ∙ turn_runs plan.book.members who (situation_in plan (more ++ others)) row cause made is ((others_leave_it plan who more others none).runs ∙ gone.runs);
}
  where
    own : is_turn_of who row.turn ≡ true
    own = own_turn who cause made row.turn is

    course : ((course_in plan who (more ++ others)).seen ≡ (course_in plan who more).seen) × ((course_in plan who (more ++ others)).taken ≡ (course_in plan who more).taken)
    course = course_with_others plan.book.members who plan.situation more others none

    seen : (course_in plan who (more ++ others)).seen ≡ situation_in plan more
    seen = course.0 ∙ gone.last

    taken_is : (course_in plan who (more ++ others)).taken ≡ taken
    taken_is = course.1 ∙ gone.taken_is

-- ---- its stop

own_stop : (who : ℕ) (cause : Option Cause) (kept : Bool) (turn : Turn) → turn ≡ Stopped who cause kept → is_turn_of who turn ≡ true
own_stop who cause kept turn is = ap (is_turn_of who) is ∙ rw (eq-eqb who who refl) refl

stop_halts : (n : ℕ) (s : Standing) (who : ℕ) (cause : Option Cause) (kept : Bool) (event : Event) (letters : List OutLetter)
    → (after_row n s (Stopped who cause kept) event letters).runs who ≡ false
unfolding after_row
stop_halts n s who cause kept event letters = fact_here who false s.runs

pub turn_halts : (members who : ℕ) (situation : Situation) (row : Row) (cause : Option Cause) (kept : Bool) → row.turn ≡ Stopped who cause kept
    → (after_posted members situation row).standing.runs who ≡ false
turn_halts members who situation row cause kept is =
    ap (λ (turn : Turn). (after_turn members situation (record row { turn = turn })).standing.runs who) is ∙ stop_halts members situation.standing who cause kept row.event row.letters

-- **A replica that has gone freely has, and has stopped, with such a stop**, whatever turns of others came between.
pub broken_next : (plan : FreePlan) (who taken : ℕ) (more others : List Row) (row : Row) (cause : Cause) → HasGone plan who taken more → taken < plan.turns
    → AreOthers who others → cause ≡ next_cause plan.table.window plan.at who taken (situation_in plan more)
    → StopsInStep plan.book.members (situation_in plan more) who cause row → HasStoppedFreely plan who ((more ++ others) ++ row ∷ [])
broken_next plan who taken more others row cause gone left none next stop = record {
  goes =
      goes_own plan.book.members who plan.table.window plan.at plan.turns plan.situation (more ++ others) row
      (goes_others plan.book.members who plan.table.window plan.at plan.turns plan.situation more others gone.goes none)
      (record {
        runs = ap (λ (s : Situation). s.standing.runs who) seen ∙ gone.runs;
        left = rw taken_is left;
        does = inr (subst (λ (here : Situation). StopsInStep plan.book.members here who (next_cause plan.table.window plan.at who course.taken here) row) (sym seen)
            (subst (λ (c : Cause). StopsInStep plan.book.members (situation_in plan more) who c row) (next ∙ rw taken_is refl) stop));
      });
  last = seen_next plan.book.members who plan.situation (more ++ others) row (own_stop who (Some cause) kept row.turn stop.is);
  stopped =
      ap (λ (s : Situation). s.standing.runs who) (situation_next plan (more ++ others) row)
      ∙ turn_halts plan.book.members who (situation_in plan (more ++ others)) row (Some cause) kept stop.is;
}
  where
    kept : Bool
    kept = is_kept ((situation_in plan more).bases who) stop.change stop.armed.left stop.armed.image

    course : Course
    course = course_in plan who (more ++ others)

    still : (course.seen ≡ (course_in plan who more).seen) × (course.taken ≡ (course_in plan who more).taken)
    still = course_with_others plan.book.members who plan.situation more others none

    seen : course.seen ≡ situation_in plan more
    seen = still.0 ∙ gone.last

    taken_is : course.taken ≡ taken
    taken_is = still.1 ∙ gone.taken_is
