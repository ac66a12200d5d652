-- What begins a part goes on from turn to turn: any front of it begins the part too.
use Rattle.std.proofs.Common.{◌≡◌, ◌⊎◌, ℕ, zero, suc, ℤ, List, [], ◌∷◌, ◌++◌, Some, inl, inr, refl, ap, sym, subst, ◌∙◌, arith}
use Rattle.std.specs.Prelude.{slice_get}
use Rattle.std.specs.Int.{int_min}
use Rattle.std.proofs.Math.ListN.{get_or-append}
use Rattle.std.proofs.lemmas.List.{length-append, take-append-le}
use Rattle.std.proofs.lemmas.Option.{get_or_from_slice_get, slice_get-get_or, slice_get_within}
use Rattle.zone_minutes.specs.declared.minute.Window.{Window}
use Rattle.due_set.specs.Table.{Table}
use Rattle.script_text.specs.declared.command.Command.{Command}
use Rattle.script_text.specs.declared.command.Command.TheVariants as command
use Rattle.history.specs.Book.{Row}
use Rattle.history.specs.declared.turn.Cause.TheVariants.{Campaign}
use Rattle.script_semantics.specs.Arms.{PlaysByArms, tasks_left}
use Rattle.script_semantics.specs.Commands.{Plain, tasks_for}
use Rattle.script_semantics.specs.Free.{IsFreeTurn, course_of}
use Rattle.script_semantics.specs.Parts.{Plays}
use Rattle.script_semantics.specs.Round.{round_tasks}
use Rattle.script_semantics.specs.Settling.{Drains, IsDrainRound, Settles, cleared, coordinator, restart_tasks}
use Rattle.script_semantics.specs.Situation.{Situation, Task, Do, after_turn}
use Rattle.run_replay.specs.Tasks.{standing_tasks}
use Rattle.run_audit.specs.Begins.{BeginsDrain, BeginsDrainIn, BeginsDrainRound, BeginsFree, BeginsPart, BeginsRounds, BeginsSettling, BeginsThen, BeginsToLead, BeginsToPlay, BeginsToPlayByArms, BeginsTurnsByArms, BeginsTurnsFor, BeginsWalk, BeginsWalkIn, BeginsWalkOn, NoneYet}
use Rattle.run_audit.proofs.BeginLemmas.{BeginsAsWhole, drain_begins, drain_round_begins, plain_begins, plays_begins, plays_by_arms_begins, settling_begins}

-- a front begins where more does
abbrev pub HasFronts : (begins : Situation → List Row → Type 0) → Type 0
HasFronts begins = (situation : Situation) (rows more : List Row) → begins situation (rows ++ more) → begins situation rows

-- of two ways to cut a list, the first ends within the first part of the other, or behind it
abbrev Meets : (rows more done back : List Row) → Type 0
Meets rows more done back =
    ((rest : List Row) × (done ≡ rows ++ rest)) ⊎ ((rest : List Row) × (rows ≡ done ++ rest) × (back ≡ rest ++ more))

pub meets : (rows more done back : List Row) → rows ++ more ≡ done ++ back → Meets rows more done back
meets [] more done back same = inl (done, refl)
meets (row ∷ rows) more [] back same = inr (row ∷ rows, refl, sym same)
meets (row ∷ rows) more (other ∷ done) back same =
    let heads : row ≡ other = cc in
    let rests : rows ++ more ≡ done ++ back = cc in
    elim (meets rows more done back rests) [
      | inl within ↦ inl (within.0, (let rest = within.1 in cc))
      | inr behind ↦ inr (behind.0, (let rest = behind.1 in cc), behind.2)
    ]

pub then_fronts : (begins : Situation → List Row → Type 0) (whole : Situation → List Row → Situation → Type 0) (next : Situation → List Row → Type 0)
    → BeginsAsWhole begins whole → HasFronts begins → HasFronts next → HasFronts (BeginsThen begins whole next)
then_fronts begins whole next as_whole fronts others situation rows more is = elim is [
  | inl begun ↦ inl (fronts situation rows more begun)
  | inr into ↦ elim (meets rows more into.done into.back into.parts) [
    | inl within ↦ inl (fronts situation rows within.0 (subst (begins situation) within.1 (as_whole situation into.done into.middle into.one)))
    | inr behind ↦ inr (record {
      done = into.done;
      middle = into.middle;
      back = behind.0;
      parts = behind.1;
      one = into.one;
      two = others into.middle behind.0 more (subst (next into.middle) behind.2 into.two);
    })
  ]
]

none_fronts : HasFronts NoneYet
none_fronts situation [] more is = refl
none_fronts situation (row ∷ rows) more is = absurd cc

turns_fronts : (members : ℕ) (situation : Situation) (tasks : List Task) (rows more : List Row) → BeginsTurnsFor members situation tasks (rows ++ more)
    → BeginsTurnsFor members situation tasks rows
turns_fronts members situation tasks [] more is = tt
turns_fronts members situation [] (row ∷ rows) more is = is
turns_fronts members situation (task ∷ tasks) (row ∷ rows) more is = (is.0, turns_fronts members (after_turn members situation row) tasks rows more is.1)

arms_fronts : (members : ℕ) (situation : Situation) (tasks : List Task) (rows more : List Row) → BeginsTurnsByArms members situation tasks (rows ++ more)
    → BeginsTurnsByArms members situation tasks rows
arms_fronts members situation tasks [] more is = tt
arms_fronts members situation [] (row ∷ rows) more is = is
arms_fronts members situation (task ∷ tasks) (row ∷ rows) more is =
    (is.0, arms_fronts members (after_turn members situation row) (tasks_left row.turn tasks) rows more is.1)

play_fronts : (members : ℕ) (tasks : Situation → List Task) → HasFronts (BeginsToPlay members tasks)
play_fronts members tasks situation rows more is = turns_fronts members situation (tasks situation) rows more is

play_by_arms_fronts : (members : ℕ) (tasks : Situation → List Task) → HasFronts (BeginsToPlayByArms members tasks)
play_by_arms_fronts members tasks situation rows more is = arms_fronts members situation (tasks situation) rows more is

rounds_fronts : (members : ℕ) (window : Window) (at : ℤ) (rounds : ℕ) → HasFronts (BeginsRounds members window at rounds)
rounds_fronts members window at zero = none_fronts
rounds_fronts members window at (suc more) =
    let tasks = round_tasks members window at in
    then_fronts (BeginsToPlayByArms members tasks) (PlaysByArms members tasks) (BeginsRounds members window at more) (plays_by_arms_begins members tasks)
    (play_by_arms_fronts members tasks) (rounds_fronts members window at more)

module _ (members : ℕ) (table : Table) where
  drain_round_fronts : (who : ℕ) (at : ℤ) → HasFronts (BeginsDrainRound members table who at)
  drain_round_fronts who at =
      let round = round_tasks members table.window at in
      then_fronts (BeginsToPlay members (standing_tasks who)) (Plays members (standing_tasks who)) (BeginsToPlay members round)
      (plays_begins members (standing_tasks who)) (play_fronts members (standing_tasks who)) (play_fronts members round)

  drain_in_fronts : (rounds : ℕ) (who : ℕ) (at : ℤ) → HasFronts (BeginsDrainIn rounds members table who at)
  drain_in_fronts zero who at situation rows more is = none_fronts situation rows more is
  drain_in_fronts (suc others) who at situation rows more is = (
    is.0,
    then_fronts (BeginsDrainRound members table who at) (IsDrainRound members table who at) (BeginsDrainIn others members table who at)
        (drain_round_begins members table who at) (drain_round_fronts who at) (drain_in_fronts others who at) situation rows more is.1,
  )

  drain_fronts : (who : ℕ) (at : ℤ) → HasFronts (BeginsDrain members table who at)
  drain_fronts who at situation rows more is = (is.0, drain_in_fronts is.0 who at situation rows more is.1)

  lead_fronts : (at : ℤ) → HasFronts (BeginsToLead members table at)
  lead_fronts at situation =
      let who = coordinator members situation in
      let stands : Situation → List Task = λ here. Do who Campaign ∷ [] in
      then_fronts (BeginsToPlay members stands) (Plays members stands) (BeginsDrain members table who at) (plays_begins members stands)
      (play_fronts members stands) (drain_fronts who at) situation

  settling_fronts : (at : ℤ) → HasFronts (BeginsSettling members table at)
  settling_fronts at =
      then_fronts (BeginsToPlay members (restart_tasks members)) (Plain members (restart_tasks members) cleared) (BeginsToLead members table at)
      (plain_begins members (restart_tasks members) cleared) (play_fronts members (restart_tasks members)) (lead_fronts at)

  walk_in_fronts : (minutes : ℕ) (who : ℕ) (above to : ℤ) → HasFronts (BeginsWalkIn minutes members table who above to)
  walk_in_fronts zero who above to situation rows more is = none_fronts situation rows more is
  walk_in_fronts (suc others) who above to situation rows more (minute, next, goes) = (
    minute,
    next,
    then_fronts (BeginsDrain members table who minute) (Drains members table who minute) (BeginsWalkIn others members table who minute to)
        (drain_begins members table who minute) (drain_fronts who minute) (walk_in_fronts others who minute to) situation rows more goes,
  )

  walk_on_fronts : (who : ℕ) (above to : ℤ) → HasFronts (BeginsWalkOn members table who above to)
  walk_on_fronts who above to situation rows more is = (is.0, walk_in_fronts is.0 who above to situation rows more is.1)

  pub walk_fronts : (to : ℤ) → HasFronts (BeginsWalk members table to)
  walk_fronts to situation =
      let at = int_min situation.latest to in
      let who = coordinator members situation in
      then_fronts (BeginsSettling members table at) (Settles members table at) (BeginsWalkOn members table who at to)
      (settling_begins members table at) (settling_fronts at) (walk_on_fronts who at to) situation

  -- ---- free turns

  there_still : (rows more : List Row) (place : ℕ) (row : Row) → slice_get rows place ≡ Some row → slice_get (rows ++ more) place ≡ Some row
  there_still rows more place row is =
      let inside = slice_get_within rows place row is in
      let long = length-append rows more in
      slice_get-get_or (rows ++ more) place row (omega arith) ∙ ap Some (get_or-append rows more row place inside ∙ get_or_from_slice_get rows place row row is)

  free_fronts : (at : ℤ) (turns : ℕ) → HasFronts (BeginsFree members table.window at turns)
  free_fronts at turns situation rows more is =
      record {
        named = λ place row there. is.named place row (there_still rows more place row there);
        each = λ who member place row there own.
            let inside = slice_get_within rows place row there in
            subst (λ (l : List Row). IsFreeTurn members table.window at turns who (course_of members who situation l) row) (take-append-le place rows more (omega arith))
            (is.each who member place row (there_still rows more place row there) own);
      }

  -- ---- commands

  -- **What begins a part has fronts that begin it.**
  pub part_fronts : (given : Command) → HasFronts (BeginsPart members table given)
  part_fronts (command.Campaign who) = play_by_arms_fronts members (tasks_for (command.Campaign who))
  part_fronts (command.Round at rounds) = rounds_fronts members table.window at.0 rounds
  part_fronts (command.Settle at) = settling_fronts at.0
  part_fronts (command.Walk to) = walk_fronts to.0
  part_fronts (command.Break who pass image) = none_fronts
  part_fronts (command.Free at turns) = free_fronts at.0 turns
  part_fronts (command.Stop who) = play_fronts members (tasks_for (command.Stop who))
  part_fronts (command.Restart who) = play_fronts members (tasks_for (command.Restart who))
  part_fronts (command.Cut from to) = play_fronts members (tasks_for (command.Cut from to))
  part_fronts command.Heal = play_fronts members (tasks_for command.Heal)
  part_fronts (command.Drop from to) = play_fronts members (tasks_for (command.Drop from to))
  part_fronts (command.Repeat from to) = play_fronts members (tasks_for (command.Repeat from to))
  part_fronts (command.Reverse who) = play_fronts members (tasks_for (command.Reverse who))
  part_fronts (command.Again letter) = play_fronts members (tasks_for (command.Again letter))
  part_fronts (command.Skew who minutes) = play_fronts members (tasks_for (command.Skew who minutes))
  part_fronts (command.Fate who fate) = play_fronts members (tasks_for (command.Fate who fate))
  part_fronts (command.Arrive late) = play_fronts members (tasks_for (command.Arrive late))
