-- What turns do to what stands, whatever stood.
use Rattle.std.proofs.Common.{◌≡◌, ◌≢◌, ℕ, Bool, true, false, Option, Some, None, List, [], ◌∷◌, ◌++◌, refl, sym, ap, ◌∙◌, inl, inr, arith, subst, append-nil, ◌⊎◌}
use Rattle.std.specs.List.{Contains, slice_get}
use Rattle.std.proofs.lemmas.Bool.{cases_Bool, eq-eqb, ne_eqb}
use Rattle.std.proofs.lemmas.Bool.Decides.{Decides-int_eq}
use Rattle.std.proofs.lemmas.List.Elements.{All-cons}
use Rattle.paxos_base.specs.declared.rows.JobRow.{JobRow}
use Rattle.cluster_sched.specs.Fates.{added, call}
use Rattle.cluster_sched.specs.Held.{AreNamedOnce, NoneUnder}
use Rattle.cluster_sched.specs.declared.fate.Fate.{Fate}
use Rattle.cluster_sched.specs.declared.fate.Fate.TheVariants.{Done, LostBefore, LostAfter, Late}
use Rattle.cluster_sched.specs.declared.row.Name.{Name}
use Rattle.cluster_sched.specs.declared.row.SchedRow.{SchedRow}
use Rattle.due_set.specs.Table.{Table}
use Rattle.step_spec.specs.Folds.{calls_of}
use Rattle.step_spec.specs.Step.{Event}
use Rattle.step_spec.specs.Step as told
use Rattle.step_spec.specs.declared.out.OutLetter.{OutLetter}
use Rattle.history.specs.Book.{Row, Standing, acts_at, after_row, answer_to, arriving, held_after, is_name, turn_of, under, with_fact}
use Rattle.history.specs.Legal.{IsMade, MayFollow, answered}
use Rattle.history.specs.declared.turn.CallRow.{CallRow}
use Rattle.history.specs.declared.turn.Cause.{Cause}
use Rattle.history.specs.declared.turn.Cause.TheVariants.{Answer}
use Rattle.history.specs.declared.turn.Turn.{Turn}
use Rattle.history.specs.declared.turn.Turn.TheVariants.{Did, Stopped, Restarted, Arrived}
use Rattle.std.proofs.lemmas.List.Quantifiers.{all_pairs_push}

-- ---- what is held

under_front : (name : Name) (held more : List SchedRow) (row : SchedRow) → under name held ≡ Some row → under name (held ++ more) ≡ Some row
under_front name [] more row is = absurd cc
under_front name (first ∷ held) more row is = elim (cases_Bool (is_name first.name name)) [
  | inl here ↦ let so : Some first ≡ Some row = rw here at is in rw here so
  | inr other ↦ rw other (under_front name held more row (rw other at is))
]

-- a row whose name is that is found, where none was
under_last : (held : List SchedRow) (row : SchedRow) → under row.name held ≡ None → under row.name (held ++ row ∷ []) ≡ Some row
under_last [] row none = rw (eq-eqb row.name.job row.name.job refl, (Decides-int_eq row.name.at row.name.at).1 refl) refl
under_last (first ∷ held) row none = elim (cases_Bool (is_name first.name row.name)) [
  | inl here ↦ let so : Some first ≡ None = rw here at none in absurd cc
  | inr other ↦ rw other (under_last held row (rw other at none))
]

same_name : (one other : Name) → one ≡ other → is_name one other ≡ true
same_name one other same = rw (eq-eqb one.job other.job (ap (λ (n : Name). n.job) same), (Decides-int_eq one.at other.at).1 (ap (λ (n : Name). n.at) same)) refl

none_under : (name : Name) (held : List SchedRow) → under name held ≡ None → NoneUnder held name
none_under name [] none = λ k d within. absurd (omega (arith, within))
none_under name (first ∷ held) none = elim (cases_Bool (is_name first.name name)) [
  | inl here ↦ let so : Some first ≡ None = rw here at none in absurd cc
  | inr other ↦ All-cons (λ row. row.name ≢ name) first held (λ same. let wrong : true ≡ false = sym (same_name first.name name same) ∙ other in cc) (none_under name held (rw other at none))
]

-- rows that join those that are held: none, or one whose name wasn't held
abbrev Joins : List SchedRow → List SchedRow → Type 0
Joins held more = (more ≡ []) ⊎ ((row : SchedRow) × (more ≡ row ∷ []) × (under row.name held ≡ None))

added_joins : (held : List SchedRow) (row : SchedRow) (found : Option SchedRow) → under row.name held ≡ found → Joins held (added row found)
added_joins held row None is = inr (row, refl, is)
added_joins held row (Some first) is = inl refl

call_joins : (held : List SchedRow) (fate : Fate) (row : SchedRow) (found : Option SchedRow) → under row.name held ≡ found → Joins held (call fate row found).held
call_joins held Done row None is = inr (row, refl, is)
call_joins held LostBefore row None is = inl refl
call_joins held LostAfter row None is = inr (row, refl, is)
call_joins held Late row None is = inl refl
call_joins held Done row (Some first) is = inl refl
call_joins held LostBefore row (Some first) is = inl refl
call_joins held LostAfter row (Some first) is = inl refl
call_joins held Late row (Some first) is = inl refl

joined_once : (held more : List SchedRow) → Joins held more → AreNamedOnce held → AreNamedOnce (held ++ more)
joined_once held more (inl none) once = rw (none, append-nil held) once
joined_once held more (inr (row, one, new)) once = rw one (all_pairs_push (λ a b. a.name ≢ b.name) held row once (none_under row.name held new))

held_stays : (name : Name) (row : SchedRow) (made : Option CallRow) (held : List SchedRow) → under name held ≡ Some row → under name (held_after made held) ≡ Some row
held_stays name row None held is = is
held_stays name row (Some made) held is = under_front name held (call made.fate made.row (under made.row.name held)).held row is

held_once : (made : Option CallRow) (held : List SchedRow) → AreNamedOnce held → AreNamedOnce (held_after made held)
held_once None held once = once
held_once (Some made) held once = joined_once held _ (call_joins held made.fate made.row (under made.row.name held) refl) once

arriving_stays : (name : Name) (row : SchedRow) (late : Option SchedRow) (held : List SchedRow) → under name held ≡ Some row → under name (arriving late held) ≡ Some row
arriving_stays name row None held is = is
arriving_stays name row (Some call) held is = under_front name held (added call (under call.name held)) row is

arriving_once : (late : Option SchedRow) (held : List SchedRow) → AreNamedOnce held → AreNamedOnce (arriving late held)
arriving_once None held once = once
arriving_once (Some call) held once = joined_once held _ (added_joins held call (under call.name held) refl) once

pub name_stays : (members : ℕ) (standing : Standing) (turn : Turn) (event : Event) (letters : List OutLetter) (name : Name) (row : SchedRow) → under name standing.held ≡ Some row → under name (after_row members standing turn event letters).held ≡ Some row
unfolding after_row
name_stays members standing (Did who cause made) event letters name row is = held_stays name row made standing.held is
name_stays members standing (Stopped who cause kept) event letters name row is = is
name_stays members standing (Restarted who) event letters name row is = is
name_stays members standing (Arrived number) event letters name row is = arriving_stays name row (slice_get standing.late number) standing.held is

pub names_once : (members : ℕ) (standing : Standing) (turn : Turn) (event : Event) (letters : List OutLetter) → AreNamedOnce standing.held → AreNamedOnce (after_row members standing turn event letters).held
unfolding after_row
names_once members standing (Did who cause made) event letters once = held_once made standing.held once
names_once members standing (Stopped who cause kept) event letters once = once
names_once members standing (Restarted who) event letters once = once
names_once members standing (Arrived number) event letters once = arriving_once (slice_get standing.late number) standing.held once

-- ---- what waits

pub fact_here : {A : Type 0} (who : ℕ) (fact : A) (facts : ℕ → A) → with_fact who fact facts who ≡ fact
fact_here who fact facts = rw (eq-eqb who who refl) refl

pub fact_there : {A : Type 0} (who : ℕ) (fact : A) (facts : ℕ → A) (other : ℕ) → other ≢ who → with_fact who fact facts other ≡ facts other
fact_there who fact facts other apart = rw (ne_eqb other who apart) refl

pub waits_none : (members : ℕ) (standing : Standing) (who : ℕ) (cause : Cause) (event : Event) (letters : List OutLetter) → (after_row members standing (Did who cause None) event letters).waits who ≡ None
unfolding after_row
waits_none members standing who cause event letters = fact_here who None standing.waits

pub waits_made : (members : ℕ) (standing : Standing) (who : ℕ) (cause : Cause) (made : CallRow) (event : Event) (letters : List OutLetter) → (after_row members standing (Did who cause (Some made)) event letters).waits who ≡ made.answer
unfolding after_row
waits_made members standing who cause made event letters = fact_here who made.answer standing.waits

pub waits_stopped : (members : ℕ) (standing : Standing) (who : ℕ) (cause : Option Cause) (kept : Bool) (event : Event) (letters : List OutLetter) → (after_row members standing (Stopped who cause kept) event letters).waits who ≡ None
unfolding after_row
waits_stopped members standing who cause kept event letters = fact_here who None standing.waits

-- who isn't named is another
pub is_another : (who other : ℕ) → Some who ≢ Some other → other ≢ who
is_another who other differs same = differs (ap Some (sym same))

-- a turn of one replica is no turn of another
pub is_no_turn_of : (turn : Turn) (who other : ℕ) → turn_of turn ≡ Some who → other ≢ who → turn_of turn ≢ Some other
is_no_turn_of turn who other of differs same =
    let alike : Some who ≡ Some other = sym of ∙ same in
    differs (let one : other ≡ who = cc in one)

pub waits_others : (members : ℕ) (standing : Standing) (turn : Turn) (event : Event) (letters : List OutLetter) (other : ℕ) → turn_of turn ≢ Some other → (after_row members standing turn event letters).waits other ≡ standing.waits other
unfolding after_row
waits_others members standing (Did who cause made) event letters other apart = fact_there who (answer_to made) standing.waits other (is_another who other apart)
waits_others members standing (Stopped who cause kept) event letters other apart = fact_there who None standing.waits other (is_another who other apart)
waits_others members standing (Restarted who) event letters other apart = refl
waits_others members standing (Arrived number) event letters other apart = refl

pub waits_started : (members : ℕ) (standing : Standing) (who : ℕ) (event : Event) (letters : List OutLetter) → (after_row members standing (Restarted who) event letters).waits ≡ standing.waits
unfolding after_row
waits_started members standing who event letters = refl

pub waits_arrived : (members : ℕ) (standing : Standing) (number : ℕ) (event : Event) (letters : List OutLetter) → (after_row members standing (Arrived number) event letters).waits ≡ standing.waits
unfolding after_row
waits_arrived members standing number event letters = refl

pub answer_taken : (members : ℕ) (table : Table) (standing : Standing) (who : ℕ) (made : Option CallRow) (row : Row) → MayFollow members table standing (Did who Answer made) row
    → (waiting : SchedRow) × (rows : List JobRow) × (standing.waits who ≡ Some waiting) × (row.event ≡ told.Answer waiting.name.job waiting.name.at waiting.kind rows)
answer_taken members table standing who made row may =
    let answer = may.0.event_of in (answer.row, answer.plan.rows, answer.waits, answer.is)

-- ---- calls

pub call_asked : (members : ℕ) (table : Table) (standing : Standing) (who : ℕ) (cause : Cause) (made : CallRow) (row : Row) → MayFollow members table standing (Did who cause (Some made)) row → calls_of (acts_at members standing who row.event) ≡ made.row ∷ []
call_asked members table standing who cause made row may = go (calls_of (acts_at members standing who row.event)) may.1.call
  where
    go : (calls : List SchedRow) → IsMade standing.held calls (Some made) → calls ≡ made.row ∷ []
    go [] is = absurd cc
    go (asked ∷ calls) (none, same, answers) = rw (none, same) refl

answer_is : (fate : Fate) (row : SchedRow) (found : Option SchedRow) (answer : SchedRow) → answered (call fate row found).answer ≡ Some answer → (found ≡ Some answer) ⊎ ((found ≡ None) × (answer ≡ row))
answer_is Done row None answer is = let same : row ≡ answer = cc in inr (refl, sym same)
answer_is LostBefore row None answer is = absurd cc
answer_is LostAfter row None answer is = absurd cc
answer_is Late row None answer is = absurd cc
answer_is Done row (Some first) answer is = inl is
answer_is LostBefore row (Some first) answer is = absurd cc
answer_is LostAfter row (Some first) answer is = absurd cc
answer_is Late row (Some first) answer is = inl is

pub call_answered : (members : ℕ) (table : Table) (standing : Standing) (who : ℕ) (cause : Cause) (made : CallRow) (row : Row) (answer : SchedRow) → MayFollow members table standing (Did who cause (Some made)) row → made.answer ≡ Some answer
    → (under made.row.name standing.held ≡ Some answer) ⊎ ((under made.row.name standing.held ≡ None) × (answer ≡ made.row))
call_answered members table standing who cause made row answer may is = go (calls_of (acts_at members standing who row.event)) may.1.call
  where
    go : (calls : List SchedRow) → IsMade standing.held calls (Some made) → (under made.row.name standing.held ≡ Some answer) ⊎ ((under made.row.name standing.held ≡ None) × (answer ≡ made.row))
    go [] wrong = absurd cc
    go (asked ∷ calls) (none, same, answers) =
        answer_is made.fate made.row (under made.row.name standing.held) answer
        (subst (λ (r : SchedRow). answered (call made.fate r (under r.name standing.held)).answer ≡ Some answer) (sym same) (sym answers ∙ is))

-- ---- stops

pub stop_held : (members : ℕ) (standing : Standing) (who : ℕ) (cause : Option Cause) (kept : Bool) (event : Event) (letters : List OutLetter) → (after_row members standing (Stopped who cause kept) event letters).held ≡ standing.held
unfolding after_row
stop_held members standing who cause kept event letters = refl

pub stop_late : (members : ℕ) (standing : Standing) (who : ℕ) (cause : Option Cause) (kept : Bool) (event : Event) (letters : List OutLetter) → (after_row members standing (Stopped who cause kept) event letters).late ≡ standing.late
unfolding after_row
stop_late members standing who cause kept event letters = refl

pub stop_arrived : (members : ℕ) (standing : Standing) (who : ℕ) (cause : Option Cause) (kept : Bool) (event : Event) (letters : List OutLetter) → (after_row members standing (Stopped who cause kept) event letters).arrived ≡ standing.arrived
unfolding after_row
stop_arrived members standing who cause kept event letters = refl

pub stop_posted : (members : ℕ) (standing : Standing) (who : ℕ) (cause : Option Cause) (kept : Bool) (event : Event) (letters : List OutLetter) → (after_row members standing (Stopped who cause kept) event letters).posted ≡ standing.posted
unfolding after_row
stop_posted members standing who cause kept event letters = refl

-- ---- arrivals

-- once a late call has arrived, a row is held under its name
held_then : (call : SchedRow) (held : List SchedRow) (found : Option SchedRow) → under call.name held ≡ found → (first : SchedRow) × (under call.name (held ++ added call found) ≡ Some first)
held_then call held None is = (call, under_last held call is)
held_then call held (Some first) is = (first, under_front call.name held [] first is)

pub late_arrives : (members : ℕ) (table : Table) (standing : Standing) (number : ℕ) (row : Row) → MayFollow members table standing (Arrived number) row
    → (call : SchedRow) × (slice_get standing.late number ≡ Some call) × (Contains standing.arrived number → ⊥)
    × (first : SchedRow) × (under call.name (after_row members standing (Arrived number) row.event row.letters).held ≡ Some first)
unfolding after_row
late_arrives members table standing number row may =
    let late = may.0 in
    let holds = held_then late.row standing.held (under late.row.name standing.held) refl in
    (late.row, late.there, late.first, holds.0, rw late.there holds.1)

pub arrival_marked : (members : ℕ) (standing : Standing) (number : ℕ) (event : Event) (letters : List OutLetter) → (after_row members standing (Arrived number) event letters).arrived ≡ standing.arrived ++ number ∷ []
unfolding after_row
arrival_marked members standing number event letters = refl
