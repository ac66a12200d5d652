-- A step keeps the launch table.
use Rattle.std.proofs.Common.{◌≡◌, ℕ, ◌-◌, ◌≤◌, Option, Some, None, List, [], ◌∷◌, drop, refl, sym, ◌∙◌, arith, subst}
use Rattle.std.proofs.Math.ListN.{drop_of_length-le}
use Rattle.paxos_base.specs.Durable.{after_delta}
use Rattle.paxos_base.specs.declared.durable.Durable.{Durable}
use Rattle.paxos_base.specs.declared.entry.Entry.{Entry}
use Rattle.paxos_base.specs.declared.rows.JobRow.{JobRow}
use Rattle.due_set.specs.Table.{IsSound, Table}
use Rattle.launch_machine.specs.Clerk.{AppliesAll, first_rows}
use Rattle.launch_machine.proofs.ClerkLemmas.{Applies-same, AppliesAll-push}
use Rattle.launch_machine.proofs.ExistLemmas.{all_applied}
use Rattle.step_spec.specs.Act.{Act, Learn, Rebase, Restart, after_act}
use Rattle.step_spec.specs.Folds.{after_acts}
use Rattle.step_spec.specs.May.{AllMay, May, Setting}
use Rattle.step_spec.specs.State.{State, started}
use Rattle.step_spec.specs.Step.{Event, IsLaunchTable, step}
use Rattle.agreement.specs.Transition.{identity_of}
use Rattle.history.specs.Book.{Row, acts_at, learned_in, standing_after, votes_in}
use Rattle.history.specs.Legal.{IsLegal, TakesTurn}
use Rattle.history.specs.declared.turn.Cause.{Cause}
use Rattle.history.proofs.Reached.{may_take}
use Rattle.history.specs.Launches.{LeavesTable}
use Rattle.history.proofs.BookLemmas.{stands}
use Rattle.history.proofs.TurnBounds.{step_all}

-- rows in the place of all entries are the launch table
table_taken : (table : Table) (rows : List JobRow) (learned : List Entry) → learned ≡ [] → AppliesAll table rows learned rows
table_taken table rows learned none = rw none refl

-- no start is in a step
no_start : {X : Type 0} (event : Event) (told : Option Event) → told ≡ Some event → told ≡ None → X
no_start event told some none = absurd (let wrong : Some event ≡ None = sym some ∙ none in cc)

pub acts_leave : (setting : Setting) (event : Event) (acts : List Act) (state : State) (old new : List JobRow) → setting.event ≡ Some event → AllMay setting state acts → IsLaunchTable setting.table state old → LeavesTable setting.table old acts new
    → IsLaunchTable setting.table (after_acts acts state) new
unfolding after_act after_delta May
acts_leave setting event [] state old new told may is leaves = rw leaves is
acts_leave setting event (Learn slot entry ∷ acts) state old new told may is (middle, applies, rest) =
    acts_leave setting event acts (after_act (Learn slot entry) state) middle new told may.1 (AppliesAll-push setting.table state.kept.rows state.learned entry old middle is applies) rest
acts_leave setting event (Rebase slot rows ∷ acts) state old new told may is leaves =
    acts_leave setting event acts (after_act (Rebase slot rows) state) rows new told may.1
    (table_taken setting.table rows (drop (slot - state.kept.base) state.learned) (drop_of_length-le state.learned (omega (arith, may.0.up)))) leaves
acts_leave setting event (Restart me ∷ acts) state old new told may is leaves = no_start event setting.event told may.0.told
acts_leave setting event (act ∷ acts) state old new told may is leaves = acts_leave setting event acts (after_act act state) old new told may.1 is leaves

pub table_is_left : (table : Table) (old : List JobRow) (acts : List Act) → IsSound table → (new : List JobRow) × LeavesTable table old acts new
table_is_left table old [] sound = (old, refl)
table_is_left table old (Learn slot entry ∷ acts) sound =
    let (last, applied) = all_applied table sound old (entry ∷ []) in
    let (middle, applies, same) = applied in
    let rest = table_is_left table middle acts sound in
    (rest.0, (middle, applies, rest.1))
table_is_left table old (Rebase slot rows ∷ acts) sound = table_is_left table rows acts sound
table_is_left table old (act ∷ acts) sound = table_is_left table old acts sound

pub one_is_left : (table : Table) (old : List JobRow) (acts : List Act) (one other : List JobRow) → LeavesTable table old acts one → LeavesTable table old acts other → one ≡ other
one_is_left table old [] one other a b = a ∙ sym b
one_is_left table old (Learn slot entry ∷ acts) one other (middle, applies, rest) (beside, again, more) =
    one_is_left table beside acts one other (subst (λ rows. LeavesTable table rows acts one) (Applies-same table old entry middle beside applies again) rest) more
one_is_left table old (Rebase slot rows ∷ acts) one other a b = one_is_left table rows acts one other a b
one_is_left table old (act ∷ acts) one other a b = one_is_left table old acts one other a b

pub turn_leaves : (n : ℕ) (table : Table) (book : List Row) (who : ℕ) (cause : Cause) (event : Event) (old new : List JobRow) → n ≤ 7 → IsLegal n table book → TakesTurn n table (standing_after n (first_rows table) book) who cause event
    → IsLaunchTable table ((standing_after n (first_rows table) book).replicas who) old → LeavesTable table old (acts_at n (standing_after n (first_rows table) book) who event) new
    → IsLaunchTable table (after_acts (acts_at n (standing_after n (first_rows table) book) who event) ((standing_after n (first_rows table) book).replicas who)) new
turn_leaves n table book who cause event old new few legal takes is leaves =
    let there = stands n table book few legal in
    let may = may_take n table (standing_after n (first_rows table) book) (votes_in book) (learned_in book) there.w who cause event there.matches takes in
    let all = step_all n table (first_rows table) there.w who event few there.followed may there.w.said there.w.answered (λ saying has. has) (λ ending has. has) in
    let setting : Setting = record { self = identity_of n who; table = table; event = Some event; said = there.w.said; answered = there.w.answered } in
    acts_leave setting event (acts_at n (standing_after n (first_rows table) book) who event) ((standing_after n (first_rows table) book).replicas who) old new refl
    (subst (λ s. AllMay setting s (step (identity_of n who) event s)) (there.matches.replicas who) all) is leaves

pub started_table : (table : Table) (me : ℕ) (kept : Durable) → IsLaunchTable table (started me kept) kept.rows
started_table table me kept = refl
