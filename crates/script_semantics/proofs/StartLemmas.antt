-- What settling begins with: all that are stopped start again.
use Rattle.std.proofs.Common.{◌≡◌, ℕ, ◌<◌, ◌==◌, Bool, true, false, List, [], ◌∷◌, ◌++◌, inl, inr, refl, sym, ap, ◌∙◌, subst, if◌then◌else◌}
use Rattle.std.specs.Prelude.{Contains, flat_map}
use Rattle.std.specs.List.{range_with_len}
use Rattle.std.proofs.lemmas.Bool.{cases_Bool, eq-eqb}
use Rattle.due_set.proofs.Rising.{Contains-cases, Contains-none}
use Rattle.history.specs.Book.{Row, Standing, after_row, with_fact}
use Rattle.history.specs.declared.turn.Turn.TheVariants.{Restarted}
use Rattle.script_semantics.specs.Commands.{Plain}
use Rattle.script_semantics.specs.Settling.{cleared, coordinator, restart_tasks}
use Rattle.script_semantics.specs.Situation.{AreTurnsFor, Situation, Task, Restart, after_turn, after_turns}
use Rattle.script_semantics.proofs.ListLemmas.{in_range}

standing_started : (members : ℕ) (situation : Situation) (row : Row) (who : ℕ) → row.turn ≡ Restarted who
    → (after_turn members situation row).standing ≡ record situation.standing { runs = with_fact who true situation.standing.runs }
unfolding after_row
standing_started members situation row who is = rw is refl

-- what stands once some of them have had their start
record Started (members : ℕ) (stopped : ℕ → Bool) (whos : List ℕ) (situation after : Situation) : Type 0 where
  states : after.standing.replicas ≡ situation.standing.replicas
  kept : (who : ℕ) → situation.standing.runs who ≡ true → after.standing.runs who ≡ true
  started : (who : ℕ) → Contains whos who → stopped who ≡ false → after.standing.runs who ≡ true

still_runs : (first who : ℕ) (runs : ℕ → Bool) → runs who ≡ true → with_fact first true runs who ≡ true
still_runs first who runs is = elim (cases_Bool (who == first)) [ inl here ↦ rw here refl | inr other ↦ rw other is ]

-- the tasks of settling's start, of these replicas
abbrev start_tasks : (ℕ → Bool) → List ℕ → List Task
start_tasks runs whos = flat_map (λ who. if runs who then [] else Restart who ∷ []) whos

-- that the turns of these tasks start them, whatever stands
abbrev AllStart : ℕ → (ℕ → Bool) → List ℕ → Type 0
AllStart members runs whos =
    (situation : Situation) (rows : List Row) → AreTurnsFor members situation (start_tasks runs whos) rows
    → Started members runs whos situation (after_turns members situation rows)

passed : (members : ℕ) (runs : ℕ → Bool) (first : ℕ) (whos : List ℕ) (situation after : Situation) → runs first ≡ true
    → Started members runs whos situation after → Started members runs (first ∷ whos) situation after
passed members runs first whos situation after is have =
    record {
      states = have.states;
      kept = have.kept;
      started = λ who among not_running. elim (Contains-cases first whos who among) [
        | inl same ↦ absurd (let now : runs first ≡ false = ap runs same ∙ not_running in cc)
        | inr more ↦ have.started who more not_running
      ];
    }

begun : (members : ℕ) (runs : ℕ → Bool) (first : ℕ) (whos : List ℕ) (situation : Situation) (rows : List Row) → AllStart members runs whos
    → AreTurnsFor members situation (Restart first ∷ start_tasks runs whos) rows
    → Started members runs (first ∷ whos) situation (after_turns members situation rows)
begun members runs first whos situation [] all turns = absurd cc
begun members runs first whos situation (row ∷ rows) all (turn, turns) =
    let have = all (after_turn members situation row) rows turns in
    let now = standing_started members situation row first turn in
    record {
      states = have.states ∙ ap (λ (s : Standing). s.replicas) now;
      kept = λ who is. have.kept who (ap (λ (s : Standing). s.runs who) now ∙ still_runs first who situation.standing.runs is);
      started = λ who among not_running. elim (Contains-cases first whos who among) [
        | inl same ↦ have.kept who (ap (λ (s : Standing). s.runs who) now ∙ rw (eq-eqb who first (sym same)) refl)
        | inr more ↦ have.started who more not_running
      ];
    }

starts : (members : ℕ) (runs : ℕ → Bool) (whos : List ℕ) → AllStart members runs whos
starts members runs [] situation rows turns =
    record {
      states = rw turns refl;
      kept = λ who is. rw turns is;
      started = λ who among not_running. absurd (Contains-none who among);
    }
starts members runs (first ∷ whos) situation rows turns = elim (cases_Bool (runs first)) [
  | inl is ↦ passed members runs first whos situation (after_turns members situation rows) is
      (starts members runs whos situation rows
      (subst (λ b. AreTurnsFor members situation ((if b then [] else Restart first ∷ []) ++ start_tasks runs whos) rows) is turns))
  | inr is ↦ begun members runs first whos situation rows (λ here some. starts members runs whos here some)
      (subst (λ b. AreTurnsFor members situation ((if b then [] else Restart first ∷ []) ++ start_tasks runs whos) rows) is turns)
]

pub all_run : (members : ℕ) (situation : Situation) (rows : List Row) (who : ℕ)
    → AreTurnsFor members situation (restart_tasks members situation) rows → who < members
    → (after_turns members situation rows).standing.runs who ≡ true
all_run members situation rows who turns member =
    let have = starts members situation.standing.runs (range_with_len 0 members) situation rows turns in
    elim (cases_Bool (situation.standing.runs who)) [
      | inl is ↦ have.kept who is
      | inr is ↦ have.started who (in_range members who member) is
    ]

pub same_states : (members : ℕ) (situation : Situation) (rows : List Row)
    → AreTurnsFor members situation (restart_tasks members situation) rows
    → (after_turns members situation rows).standing.replicas ≡ situation.standing.replicas
same_states members situation rows turns = (starts members situation.standing.runs (range_with_len 0 members) situation rows turns).states

-- the coordinator is chosen among the same states, before those that are stopped start and after it
pub same_coordinator : (members : ℕ) (situation : Situation) (rows : List Row) (after : Situation)
    → Plain members (restart_tasks members) cleared situation rows after → coordinator members after ≡ coordinator members situation
same_coordinator members situation rows after parts =
    let states : after.standing.replicas ≡ situation.standing.replicas =
    ap (λ (s : Situation). s.standing.replicas) parts.two.is ∙ ap (λ (s : Situation). s.standing.replicas) parts.one.is
    ∙ same_states members situation parts.front parts.one.turns in
    rw states refl
