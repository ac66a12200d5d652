-- What a replay tells of its replicas.
use Rattle.std.proofs.Common.{◌≡◌, ◌⊎◌, ◌↔◌, ◌==◌, ℕ, zero, suc, ◌+◌, ◌-◌, ◌<◌, ◌≤◌, nat_lt, if◌then◌else◌, Bool, IsTrue, is_some, true, false, List, [], length, drop, ℤ, Option, None, Some, refl, sym, ap, ◌∙◌, subst, inl, inr, arith, length-drop}
use Rattle.std.specs.List.{slice_get}
use Rattle.std.proofs.lemmas.Bool.{eqb-true, eq-eqb}
use Rattle.std.proofs.lemmas.List.{drop_all}
use Rattle.std.proofs.lemmas.Option.{slice_get_within}
use Rattle.due_set.proofs.SoundLemmas.{at_place as found_at}
use Rattle.due_set.specs.Table.{Table}
use Rattle.paxos_base.specs.declared.durable.Durable.{Durable}
use Rattle.paxos_base.specs.declared.entry.Vote.{Vote}
use Rattle.paxos_base.specs.declared.rows.JobRow.{JobRow}
use Rattle.launch_machine.specs.Answers.{IsIntent}
use Rattle.launch_machine.specs.declared.machine.Intent.{Intent}
use Rattle.launch_machine.specs.declared.machine.Intent.TheVariants.{Call, Start, Adopt, Rest}
use Rattle.launch_machine.proofs.ClerkLemmas.{AppliesAll-same}
use Rattle.step_spec.specs.State.{State, prefix_of, started}
use Rattle.replica_core.specs.Replica.{ReplicaState}
use Rattle.replica_core.specs.Step.{IsOfTable}
use Rattle.history.specs.Book.{Row, Standing}
use Rattle.script_semantics.specs.Settling.{AsksNothing, IsFreeTerm, IsQuiet, furthest}
use Rattle.script_semantics.specs.Situation.{Situation}
use Rattle.world_law.specs.Book.{standing_behind}
use Rattle.world_law.specs.Replicas.{StandsStopped}
use Rattle.run_replay.specs.Quiet.{SaysWhether, HaveLearnedAs, prefix_by, prefix_in, runs_by_seat}
use Rattle.run_replay.specs.Replay.{IsReplayAt, IsRunningAt, IsThere}
use Rattle.run_replay.specs.declared.replay.Replay.{Replay}
use Rattle.run_replay.specs.declared.replay.Seat.{Seat}
use Rattle.run_replay.specs.declared.replay.Setting.{Setting}

-- ---- a term

-- no votes are left from a place on just where it is the end
pub none_from : (votes from : List Vote) (place : ℕ) → place ≤ length votes → drop place votes ≡ from → IsTrue (place == length votes) ↔ (from ≡ [])
none_from votes from place within is = (
  λ end. sym is ∙ drop_all place votes (let same : place ≡ length votes = eqb-true place (length votes) end in omega (arith, same)),
  λ none.
      let left : length (drop place votes) ≡ 0 = ap length (is ∙ none) in
      let long = length-drop place votes in
      eq-eqb place (length votes) (omega (arith, left, long, within)),
)

-- ---- an answer

pub no_some : {X : Type 0} (found : Option X) → is_some found ≡ false → found ≡ None
no_some None isnt = refl
no_some (Some x) isnt = absurd cc

pub some_none : {X : Type 0} (found : Option X) → is_some found ≡ true → found ≡ None → ⊥
some_none None is none = absurd cc
some_none (Some x) is none = absurd cc

-- ---- a launch table

-- a table that asks for something doesn't rest
not_rests : (table : Table) (at : ℤ) (rows : List JobRow) (intent : Intent) → IsIntent table rows at intent → IsIntent table rows at Rest → intent ≡ Rest
not_rests table at rows (Call job call kind) is rests = absurd (rests.0 job call is.0.may)
not_rests table at rows (Start job start) is rests = absurd (rests.1 job start is.1.takes)
not_rests table at rows (Adopt version) is rests = absurd (rests.2 version is.1)
not_rests table at rows Rest is rests = refl

pub asks_none : (table : Table) (at : ℤ) (replica : ReplicaState) → IsOfTable table replica → IsIntent table replica.machine.rows at Rest → AsksNothing table at replica.state
asks_none table at replica of_table rests = record { rows = replica.machine.rows; rows_are = of_table.rows; rests = rests }

pub asks_some : (table : Table) (at : ℤ) (replica : ReplicaState) (intent : Intent) → IsOfTable table replica → IsIntent table replica.machine.rows at intent
    → AsksNothing table at replica.state → intent ≡ Rest
asks_some table at replica intent of_table is asks =
    let same : asks.rows ≡ replica.machine.rows =
    AppliesAll-same table replica.state.kept.rows replica.state.learned asks.rows replica.machine.rows asks.rows_are of_table.rows in
    not_rests table at replica.machine.rows intent is (subst (λ rows. IsIntent table rows at Rest) same asks.rests)

-- ---- the furthest

-- of the replicas below this number it is the furthest
pub record IsFurthestTo (seats : List Seat) (other best : ℕ) : Type 0 where
  pub below : best < other
  pub is : (replicas : ℕ → State) → HaveLearnedAs replicas seats → best ≡ furthest replicas (other - 1)

furthest_next : (replicas : ℕ → State) (other best next : ℕ) → 0 < other → best ≡ furthest replicas (other - 1)
    → next ≡ (if nat_lt (prefix_of (replicas best)) (prefix_of (replicas other)) then other else best) → next ≡ furthest replicas (other + 1 - 1)
furthest_next replicas zero best next some was is = absurd (omega arith)
furthest_next replicas (suc more) best next some was is =
    let back : suc more - 1 ≡ more = omega arith in
    let here : suc more ≡ suc more + 1 - 1 = omega arith in
    is ∙ ap (λ best. if nat_lt (prefix_of (replicas best)) (prefix_of (replicas (suc more))) then suc more else best) (was ∙ ap (furthest replicas) back) ∙ ap (furthest replicas) here

pub further_on : (seats : List Seat) (other best next : ℕ) → IsFurthestTo seats other best → (next ≡ best) ⊎ (next ≡ other)
    → ((replicas : ℕ → State) → HaveLearnedAs replicas seats → next ≡ (if nat_lt (prefix_of (replicas best)) (prefix_of (replicas other)) then other else best))
    → IsFurthestTo seats (other + 1) next
further_on seats other best next so_far one_of more = record {
  below = let below = so_far.below in elim one_of [ inl same ↦ omega arith | inr same ↦ omega arith ];
  is = λ replicas learned. let below = so_far.below in furthest_next replicas other best next (omega arith) (so_far.is replicas learned) (more replicas learned);
}

-- ---- a replica of the replay

stopped_prefix : (who : ℕ) (kept : Durable) → prefix_of (started who kept) ≡ kept.base
stopped_prefix who kept = omega arith

module _ (table : Table) (rows : List Row) (replay : Replay) (situation : Situation) (is : IsReplayAt table rows replay situation) where
  pub running_at : (who : ℕ) (seat : Seat) (replica : ReplicaState) → slice_get replay.seats.items who ≡ Some seat → seat.replica ≡ Some replica → IsRunningAt table rows replay.book who seat.kept replica
  running_at who seat replica there runs = subst (λ replica. IsThere table rows replay.book who seat.kept replica) runs (is.seated.seats who seat there)

  pub stopped_at : (who : ℕ) (seat : Seat) → slice_get replay.seats.items who ≡ Some seat → seat.replica ≡ None → StandsStopped table rows replay.book who seat.kept
  stopped_at who seat there none = subst (λ replica. IsThere table rows replay.book who seat.kept replica) none (is.seated.seats who seat there)

  -- a replica that runs is as the situation has it
  pub running_state : (who : ℕ) (seat : Seat) (replica : ReplicaState) → slice_get replay.seats.items who ≡ Some seat → seat.replica ≡ Some replica → replica.state ≡ situation.standing.replicas who
  running_state who seat replica there runs =
      let at = running_at who seat replica there runs in
      at.stands.state ∙ ap (λ me. (standing_behind table rows replay.book).replicas me) at.me ∙ sym (ap (λ (s : Standing). s.replicas who) is.standing)

  -- one that is stopped has what it keeps alone
  pub stopped_state : (who : ℕ) (seat : Seat) → slice_get replay.seats.items who ≡ Some seat → seat.replica ≡ None → situation.standing.replicas who ≡ started who seat.kept
  stopped_state who seat there none = ap (λ (s : Standing). s.replicas who) is.standing ∙ (stopped_at who seat there none).state

  learned_by : (who : ℕ) (seat : Seat) (replica : Option ReplicaState) → slice_get replay.seats.items who ≡ Some seat → seat.replica ≡ replica
      → prefix_of (situation.standing.replicas who) ≡ prefix_by seat.kept replica
  learned_by who seat (Some replica) there runs = ap prefix_of (sym (running_state who seat replica there runs))
  learned_by who seat None there none = ap prefix_of (stopped_state who seat there none) ∙ stopped_prefix who seat.kept

  pub learned_in : HaveLearnedAs situation.standing.replicas replay.seats.items
  learned_in = λ who seat there. learned_by who seat seat.replica there refl

  pub setting_waits : (who : ℕ) (setting : Setting) → slice_get replay.settings.items who ≡ Some setting → setting.waits ≡ situation.standing.waits who
  setting_waits who setting there = (is.seated.settings who setting there).waits

  -- where it is quiet the replica runs
  quiet_seat : (who : ℕ) (at : ℤ) (seat : Seat) (replica : Option ReplicaState) → IsQuiet replay.book.members table who at situation → slice_get replay.seats.items who ≡ Some seat
      → seat.replica ≡ replica → is_some replica ≡ true
  quiet_seat who at seat (Some replica) quiet there runs = refl
  quiet_seat who at seat None quiet there none =
      absurd (subst (λ (state : State). IsFreeTerm (prefix_of state) state.term) (stopped_state who seat there none) quiet.free)

  pub quiet_runs : (who : ℕ) (at : ℤ) → IsQuiet replay.book.members table who at situation → (seat : Seat) → slice_get replay.seats.items who ≡ Some seat → runs_by_seat seat ≡ true
  quiet_runs who at quiet = λ seat there. quiet_seat who at seat seat.replica quiet there refl

-- ---- quiet

-- all have caught up with it
abbrev pub HaveCaughtUp : List Seat → ℕ → Type 0
HaveCaughtUp seats prefix = (who : ℕ) (seat : Seat) → slice_get seats who ≡ Some seat → prefix_in seat ≡ prefix

module _ (table : Table) (replay : Replay) (who : ℕ) (at : ℤ) (seat : Seat) (there : slice_get replay.seats.items who ≡ Some seat) where
  abbrev pub TellsQuiet : Bool → Type 0
  TellsQuiet answer = SaysWhether table (IsQuiet replay.book.members table who at) replay answer

  -- it isn't quiet where the replica is stopped
  pub stopped_tells : seat.replica ≡ None → TellsQuiet false
  stopped_tells none = λ rows situation is. (
    λ no. absurd (let e : false ≡ true = no in cc),
    λ quiet. absurd (let runs : is_some seat.replica ≡ true = quiet_runs table rows replay situation is who at quiet seat there in cc),
  )

  -- nor where an answer waits for it
  pub waiting_tells : (setting : Setting) → slice_get replay.settings.items who ≡ Some setting → is_some setting.waits ≡ true → TellsQuiet false
  waiting_tells setting set waits = λ rows situation is. (
    λ no. absurd (let e : false ≡ true = no in cc),
    λ quiet. absurd (some_none setting.waits waits (setting_waits table rows replay situation is who setting set ∙ quiet.answered)),
  )

  module _ (replica : ReplicaState) (runs : seat.replica ≡ Some replica) where
    abbrev pub IsIdle : Type 0
    IsIdle = IsFreeTerm (prefix_of replica.state) replica.state.term × AsksNothing table at replica.state

    -- nor where it has something left to do
    pub busy_tells : (idle : Bool) → idle ≡ false → IsTrue idle ↔ IsIdle → TellsQuiet false
    busy_tells idle isnt tells = λ rows situation is.
        let state = running_state table rows replay situation is who seat replica there runs in (
          λ no. absurd (let e : false ≡ true = no in cc),
          λ quiet. absurd (
              let one : idle ≡ true = tells.1 (
                subst (λ (state : State). IsFreeTerm (prefix_of state) state.term) (sym state) quiet.free,
                subst (λ state. AsksNothing table at state) (sym state) quiet.rests,
              ) in cc),
        )

    -- else it is quiet just where all have caught up with it
    pub idle_tells : (setting : Setting) (idle answer : Bool) → slice_get replay.settings.items who ≡ Some setting → is_some setting.waits ≡ false → idle ≡ true → IsTrue idle ↔ IsIdle
        → IsTrue answer ↔ HaveCaughtUp replay.seats.items (prefix_of replica.state) → TellsQuiet answer
    idle_tells setting idle answer set none idles tells caught_up = λ rows situation is.
        let state = running_state table rows replay situation is who seat replica there runs in
        let learned = learned_in table rows replay situation is in
        let count : length replay.seats.items ≡ replay.book.members = is.seated.count in
        let rests : IsIdle = tells.0 idles in (
          λ holds. record {
            free = subst (λ (state : State). IsFreeTerm (prefix_of state) state.term) state rests.0;
            answered = sym (setting_waits table rows replay situation is who setting set) ∙ no_some setting.waits none;
            rests = subst (λ state. AsksNothing table at state) state rests.1;
            caught_up = λ other below.
                let found = found_at replay.seats.items other (omega (arith, below, count)) in
                learned other found.0 found.1 ∙ (caught_up.0 holds other found.0 found.1 ∙ ap prefix_of state);
          },
          λ quiet. caught_up.1 (λ other seat found.
              let below : other < length replay.seats.items = slice_get_within replay.seats.items other seat found in
              sym (learned other seat found) ∙ (quiet.caught_up other (omega (arith, below, count)) ∙ ap prefix_of (sym state))),
        )
