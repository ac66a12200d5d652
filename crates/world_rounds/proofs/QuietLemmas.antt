-- What a world in which all run tells of its replicas.
use Rattle.std.proofs.Common.{◌≡◌, ◌↔◌, ◌==◌, ℕ, suc, ◌+◌, ◌<◌, ◌≤◌, Bool, IsTrue, is_some, true, false, List, [], ◌∷◌, length, drop, ℤ, Option, None, Some, refl, sym, ap, ◌∙◌, subst, inl, inr, arith, length-drop}
use Rattle.std.specs.List.{Contains, slice_get}
use Rattle.std.proofs.lemmas.Bool.{eqb-true, eq-eqb, cases_eq}
use Rattle.std.proofs.lemmas.List.{drop_all}
use Rattle.std.proofs.lemmas.Option.{slice_get_within}
use Rattle.disk_model.specs.View.{DiskView}
use Rattle.due_set.specs.Table.{Table}
use Rattle.paxos_base.specs.declared.entry.Vote.{Vote}
use Rattle.paxos_base.specs.declared.rows.JobRow.{JobRow}
use Rattle.launch_machine.specs.Answers.{IsIntent}
use Rattle.launch_machine.specs.declared.machine.Intent.{Intent}
use Rattle.launch_machine.specs.declared.machine.Intent.TheVariants.{Call, Start, Adopt, Rest}
use Rattle.launch_machine.proofs.ClerkLemmas.{AppliesAll-same}
use Rattle.step_spec.proofs.Lists.{nothing_in}
use Rattle.step_spec.specs.State.{State, prefix_of}
use Rattle.replica_core.specs.Replica.{ReplicaState}
use Rattle.replica_core.specs.Step.{IsOfTable}
use Rattle.replica_node.specs.Node.{replica_of}
use Rattle.history.specs.Book.{Row, Standing}
use Rattle.script_semantics.specs.Settling.{AsksNothing, IsFreeTerm, IsQuiet}
use Rattle.script_semantics.specs.Situation.{Situation}
use Rattle.world_law.specs.Book.{standing_behind}
use Rattle.world_steps.specs.Steps.{IsNodeAhead}
use Rattle.world_rounds.proofs.Worlds.{some_same}
use Rattle.settling.specs.Idle.{IsIdleAt}
use Rattle.world_rounds.specs.Quiet.{AllRun, AnswersFor}
use Rattle.world_rounds.specs.World.{IsWorld, IsWorldAt}
use Rattle.world_rounds.specs.declared.member.Member.{Member}
use Rattle.world_rounds.specs.declared.world.World.{World}
use Rattle.due_set.proofs.Rising.{Contains-cases as cons_cases}
use Rattle.due_set.proofs.SoundLemmas.{at_place as found_at}

-- ---- a term

-- no votes are left from a place on just where it is the end
pub none_from : (votes from : List Vote) (place : ℕ) → place ≤ length votes → drop place votes ≡ from → IsTrue (place == length votes) ↔ (from ≡ [])
none_from votes from place within is = (
  λ end. sym is ∙ drop_all place votes (let same : place ≡ length votes = eqb-true place (length votes) end in omega (arith, same)),
  λ none.
      let left : length (drop place votes) ≡ 0 = ap length (is ∙ none) in
      let long = length-drop place votes in
      eq-eqb place (length votes) (omega (arith, left, long, within)),
)

-- ---- an answer

pub no_some : {X : Type 0} (found : Option X) → is_some found ≡ false → found ≡ None
no_some None isnt = refl
no_some (Some x) isnt = absurd cc

pub some_none : {X : Type 0} (found : Option X) → is_some found ≡ true → found ≡ None → ⊥
some_none None is none = absurd cc
some_none (Some x) is none = absurd cc

-- ---- a launch table

-- a table that asks for something doesn't rest
not_rests : (table : Table) (at : ℤ) (rows : List JobRow) (intent : Intent) → IsIntent table rows at intent → IsIntent table rows at Rest → intent ≡ Rest
not_rests table at rows (Call job call kind) is rests = absurd (rests.0 job call is.0.may)
not_rests table at rows (Start job start) is rests = absurd (rests.1 job start is.1.takes)
not_rests table at rows (Adopt version) is rests = absurd (rests.2 version is.1)
not_rests table at rows Rest is rests = refl

pub asks_none : (table : Table) (at : ℤ) (replica : ReplicaState) → IsOfTable table replica → IsIntent table replica.machine.rows at Rest → AsksNothing table at replica.state
asks_none table at replica of_table rests = record { rows = replica.machine.rows; rows_are = of_table.rows; rests = rests }

pub asks_some : (table : Table) (at : ℤ) (replica : ReplicaState) (intent : Intent) → IsOfTable table replica → IsIntent table replica.machine.rows at intent
    → AsksNothing table at replica.state → intent ≡ Rest
asks_some table at replica intent of_table is asks =
    let same : asks.rows ≡ replica.machine.rows =
    AppliesAll-same table replica.state.kept.rows replica.state.learned asks.rows replica.machine.rows asks.rows_are of_table.rows in
    not_rests table at replica.machine.rows intent is (subst (λ rows. IsIntent table rows at Rest) same asks.rests)

-- ---- a replica of the world

-- what holds of those before a place, and of the one there, holds of those before the next place
pub each_next : {X : Type 0} (holds : X → Type 0) (xs : List X) (index : ℕ) (x : X) → slice_get xs index ≡ Some x → holds x
    → ((k : ℕ) (y : X) → k < index → slice_get xs k ≡ Some y → holds y) → (k : ℕ) (y : X) → k < index + 1 → slice_get xs k ≡ Some y → holds y
each_next holds xs index x there is so_far = λ k y below found. elim (cases_eq k index) [
  | inl here ↦ subst holds (some_same (slice_get xs index) x y there (subst (λ k. slice_get xs k ≡ Some y) here found)) is
  | inr differs ↦ so_far k y (omega arith) found
]

pub each_of_all : {X : Type 0} (holds : X → Type 0) (xs : List X) (index : ℕ) → index ≡ length xs → ((k : ℕ) (y : X) → k < index → slice_get xs k ≡ Some y → holds y)
    → (k : ℕ) (y : X) → slice_get xs k ≡ Some y → holds y
each_of_all holds xs index whole so_far = λ k y found. let below : k < length xs = slice_get_within xs k y found in so_far k y (omega (arith, below, whole)) found

-- by members of a list in place of places
pub each_among : {X : Type 0} (holds : X → Type 0) (xs : List X) → ((k : ℕ) (y : X) → slice_get xs k ≡ Some y → holds y) → (y : X) → Contains xs y → holds y
each_among holds [] at = λ y has. nothing_in has
each_among holds (x ∷ xs) at = λ y has. elim (cons_cases x xs y has) [
  | inl same ↦ subst holds same (at 0 x refl)
  | inr more ↦ each_among holds xs (λ k z there. at (suc k) z there) y more
]

module _ {D : Type 0} (view : DiskView D) (table : Table) where
  node_ahead : (rows : List Row) (world : World D) (situation : Situation) (who : ℕ) (member : Member D) → IsWorldAt view table rows world situation
      → slice_get world.members.items who ≡ Some member → member.mail.runs ≡ true → IsNodeAhead view table rows world.book who [] member.node
  node_ahead rows world situation who member is there runs =
      let ahead = is.ahead.each who member there in
      ahead.running (sym (ap (λ (s : Standing). s.runs who) is.ahead.at.standing) ∙ sym ahead.mail.runs ∙ runs)

  -- a replica that runs is as the situation has it
  pub node_state : (rows : List Row) (world : World D) (situation : Situation) (who : ℕ) (member : Member D) → IsWorldAt view table rows world situation
      → slice_get world.members.items who ≡ Some member → member.mail.runs ≡ true → (replica_of member.node).state ≡ situation.standing.replicas who
  node_state rows world situation who member is there runs =
      let node = node_ahead rows world situation who member is there runs in
      ap (λ (r : ReplicaState). r.state) node.took ∙ (node.stands.state ∙ (ap (λ me. (standing_behind table rows world.book).replicas me) node.me ∙ sym (ap (λ (s : Standing). s.replicas who) is.ahead.at.standing)))

  pub node_table : (rows : List Row) (world : World D) (situation : Situation) (who : ℕ) (member : Member D) → IsWorldAt view table rows world situation
      → slice_get world.members.items who ≡ Some member → member.mail.runs ≡ true → IsOfTable table (replica_of member.node)
  node_table rows world situation who member is there runs = (node_ahead rows world situation who member is there runs).at_rest.of_table

  pub node_waits : (rows : List Row) (world : World D) (situation : Situation) (who : ℕ) (member : Member D) → IsWorldAt view table rows world situation
      → slice_get world.members.items who ≡ Some member → member.mail.waits ≡ situation.standing.waits who
  node_waits rows world situation who member is there = (is.ahead.each who member there).mail.waits

  -- what holds of the state of its replica
  pub tells_state : (world : World D) (who : ℕ) (member : Member D) (holds : State → Type 0) (answer : Bool) → AllRun world → slice_get world.members.items who ≡ Some member
      → IsTrue answer ↔ holds (replica_of member.node).state → AnswersFor view table (λ situation. holds (situation.standing.replicas who)) world answer
  tells_state world who member holds answer run there tells = λ rows situation is.
      subst (λ state. IsTrue answer ↔ holds state) (node_state rows world situation who member is there (run who member there)) tells

  -- it is at rest
  pub tells_rest : (world : World D) (who : ℕ) (at : ℤ) (member : Member D) (answer : Bool) → AllRun world → slice_get world.members.items who ≡ Some member
      → IsTrue answer ↔ ((member.mail.waits ≡ None) × IsFreeTerm (prefix_of (replica_of member.node).state) (replica_of member.node).state.term × AsksNothing table at (replica_of member.node).state)
      → AnswersFor view table (IsIdleAt table who at) world answer
  tells_rest world who at member answer run there tells = λ rows situation is.
      let state = node_state rows world situation who member is there (run who member there) in
      let waits = node_waits rows world situation who member is there in (
        λ holds.
            let three = tells.0 holds in
            record {
              free = subst (λ state. IsFreeTerm (prefix_of state) state.term) state three.1;
              answered = sym waits ∙ three.0;
              rests = subst (λ state. AsksNothing table at state) state three.2;
            },
        λ rest. tells.1 (
          waits ∙ rest.answered,
          subst (λ state. IsFreeTerm (prefix_of state) state.term) (sym state) rest.free,
          subst (λ state. AsksNothing table at state) (sym state) rest.rests,
        ),
      )

  -- all have caught up with it
  abbrev pub HaveCaughtUp : List (Member D) → ℕ → Type 0
  HaveCaughtUp members prefix = (who : ℕ) (member : Member D) → slice_get members who ≡ Some member → prefix_of (replica_of member.node).state ≡ prefix

  -- it is quiet where it is at rest and all have caught up
  pub tells_quiet : (world : World D) (who : ℕ) (at : ℤ) (member : Member D) (answer : Bool) → IsWorld view table world → AllRun world → slice_get world.members.items who ≡ Some member
      → AnswersFor view table (IsIdleAt table who at) world true → IsTrue answer ↔ HaveCaughtUp world.members.items (prefix_of (replica_of member.node).state)
      → AnswersFor view table (IsQuiet world.book.members table who at) world answer
  tells_quiet world who at member answer some run there rest caught_up = λ rows situation is.
      let state = node_state rows world situation who member is there (run who member there) in
      let count : length world.members.items ≡ world.book.members = is.ahead.count in (
        λ holds.
            let rest : IsIdleAt table who at situation = (rest rows situation is).0 refl in
            record {
              free = rest.free;
              answered = rest.answered;
              rests = rest.rests;
              caught_up = λ other below.
                  let found = found_at world.members.items other (omega (arith, below, count)) in
                  ap prefix_of (sym (node_state rows world situation other found.0 is found.1 (run other found.0 found.1)))
                  ∙ (caught_up.0 holds other found.0 found.1 ∙ ap prefix_of state);
            },
        λ quiet. caught_up.1 (λ other found there.
            let below : other < length world.members.items = slice_get_within world.members.items other found there in
            ap prefix_of (node_state rows world situation other found is there (run other found there)) ∙ (quiet.caught_up other (omega (arith, below, count)) ∙ ap prefix_of (sym state))),
      )

  pub tells_no_quiet : (world : World D) (who : ℕ) (at : ℤ) → AnswersFor view table (IsIdleAt table who at) world false
      → AnswersFor view table (IsQuiet world.book.members table who at) world false
  tells_no_quiet world who at rest = λ rows situation is. (
    λ holds. absurd (let no : false ≡ true = holds in cc),
    λ quiet. (rest rows situation is).1 (record { free = quiet.free; answered = quiet.answered; rests = quiet.rests }),
  )
