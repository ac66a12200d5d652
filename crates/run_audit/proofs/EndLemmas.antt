-- Nothing comes after a whole part: turns that go on behind it begin no such part.
use Rattle.std.proofs.Common.{◌≡◌, ◌<◌, ℕ, zero, suc, ℤ, List, [], ◌∷◌, ◌++◌, Some, inl, inr, length, append_assoc, append-nil, take, refl, ap, sym, subst, ◌∙◌, arith}
use Rattle.std.specs.Prelude.{slice_get, true}
use Rattle.std.specs.Int.{int_min}
use Rattle.std.proofs.Math.Seq.{take-append_seam}
use Rattle.zone_minutes.specs.declared.minute.Window.{Window}
use Rattle.due_set.specs.Table.{Table}
use Rattle.script_text.specs.declared.command.Command.{Command}
use Rattle.script_text.specs.declared.command.Command.TheVariants as command
use Rattle.history.specs.Book.{Row}
use Rattle.history.specs.declared.turn.Cause.TheVariants.{Campaign}
use Rattle.history.specs.declared.turn.Turn.{Turn}
use Rattle.script_semantics.specs.Arms.{AreRoundsByArms, AreTurnsByArms, PlaysByArms, armed_by, tasks_left}
use Rattle.script_semantics.specs.Commands.{Plain, set_by, tasks_for}
use Rattle.script_semantics.specs.Free.{Course, IsFreePart, begun as begun_at, course_of}
use Rattle.script_semantics.specs.Parts.{Plays, Sets, Then}
use Rattle.script_semantics.specs.Round.{round_tasks}
use Rattle.script_semantics.specs.Script.{IsPartOf}
use Rattle.script_semantics.specs.Settling.{Drains, DrainsIn, IsDrainRound, IsLedToQuiet, Settles, Walks, WalksIn, WalksOn, cleared, coordinator, restart_tasks}
use Rattle.script_semantics.specs.Situation.{AreTurnsFor, Situation, Task, Do, after_turn}
use Rattle.journal_text.proofs.Courses.{course_alike}
use Rattle.journal_text.proofs.Determined.{EndAlike, drain_round_alike, drains_alike, plain_alike, plays_alike, plays_by_alike, same_minute, settles_alike}
use Rattle.journal_text.proofs.Twins.{AreTwins, after_twin}
use Rattle.run_replay.specs.Tasks.{standing_tasks}
use Rattle.run_audit.specs.Begins.{BeginsDrain, BeginsDrainIn, BeginsDrainRound, BeginsFree, BeginsPart, BeginsRounds, BeginsSettling, BeginsThen, BeginsToLead, BeginsToPlay, BeginsToPlayByArms, BeginsTurnsByArms, BeginsTurnsFor, BeginsWalk, BeginsWalkIn, BeginsWalkOn, NoneYet}

-- no turn comes behind what is whole: of the same turns and one more, and whatever is behind that, none begin the part
abbrev pub EndsThere : ℕ → (begins : Situation → List Row → Type 0) (whole : Situation → List Row → Situation → Type 0) → Type 0
EndsThere members begins whole =
    (situation : Situation) (rows : List Row) (row : Row) (more longer : List Row) (after : Situation) → whole situation rows after → begins situation longer
    → AreTwins members situation.standing (rows ++ row ∷ more) longer → ⊥

then_ends : (members : ℕ) (begins : Situation → List Row → Type 0) (whole : Situation → List Row → Situation → Type 0) (next : Situation → List Row → Type 0)
    (second : Situation → List Row → Situation → Type 0) → EndAlike members whole whole → EndsThere members begins whole → EndsThere members next second
    → EndsThere members (BeginsThen begins whole next) (Then whole second)
then_ends members begins whole next second alike one two situation rows row more longer after x begun twins =
    let shift : rows ++ row ∷ more ≡ x.front ++ (x.back ++ row ∷ more) =
    ap (λ (l : List Row). l ++ row ∷ more) x.parts ∙ append_assoc x.front x.back (row ∷ more) in
    let split : AreTwins members situation.standing (x.front ++ (x.back ++ row ∷ more)) longer =
    subst (λ (l : List Row). AreTwins members situation.standing l longer) shift twins in
    elim begun [
      | inl first ↦ behind x.back first split
      | inr into ↦
          let same = alike situation x.front into.done (x.back ++ row ∷ more) into.back x.middle into.middle x.one into.one
          (subst (λ (l : List Row). AreTwins members situation.standing (x.front ++ (x.back ++ row ∷ more)) l) into.parts split) in
          two x.middle x.back row more into.back after x.two (subst (λ (m : Situation). next m into.back) (sym same.same) into.two) same.twins
    ]
  where
    behind : (back : List Row) → begins situation longer → AreTwins members situation.standing (x.front ++ (back ++ row ∷ more)) longer → ⊥
    behind [] first split = one situation x.front row more longer x.middle x.one first split
    behind (other ∷ back) first split = one situation x.front other (back ++ row ∷ more) longer x.middle x.one first split

sets_ends : (members : ℕ) (change : Situation → Situation) → EndsThere members NoneYet (Sets change)
sets_ends members change situation rows row more longer after x begun twins =
    subst (λ (l : List Row). AreTwins members situation.standing (row ∷ more) l) begun
    (subst (λ (l : List Row). AreTwins members situation.standing (l ++ row ∷ more) longer) x.none twins)

turns_end : (members : ℕ) (situation : Situation) (tasks : List Task) (rows : List Row) (row : Row) (more longer : List Row)
    → AreTurnsFor members situation tasks rows → BeginsTurnsFor members situation tasks longer
    → AreTwins members situation.standing (rows ++ row ∷ more) longer → ⊥
turns_end members situation tasks [] row more [] are begun twins = twins
turns_end members situation tasks (first ∷ rows) row more [] are begun twins = twins
turns_end members situation [] rows row more (other ∷ longer) are begun twins = begun
turns_end members situation (task ∷ tasks) [] row more (other ∷ longer) are begun twins = cc
turns_end members situation (task ∷ tasks) (first ∷ rows) row more (other ∷ longer) are begun twins =
    let (turn, stands, changes, others) = twins in
    let here = after_turn members situation first in
    let same : here ≡ after_turn members situation other = after_twin members situation first other turn stands changes in
    turns_end members here tasks rows row more longer are.1 (subst (λ (at : Situation). BeginsTurnsFor members at tasks longer) (sym same) begun.1) others

arms_end : (members : ℕ) (situation : Situation) (tasks : List Task) (rows : List Row) (row : Row) (more longer : List Row)
    → AreTurnsByArms members situation tasks rows → BeginsTurnsByArms members situation tasks longer
    → AreTwins members situation.standing (rows ++ row ∷ more) longer → ⊥
arms_end members situation tasks [] row more [] are begun twins = twins
arms_end members situation tasks (first ∷ rows) row more [] are begun twins = twins
arms_end members situation [] rows row more (other ∷ longer) are begun twins = begun
arms_end members situation (task ∷ tasks) [] row more (other ∷ longer) are begun twins = cc
arms_end members situation (task ∷ tasks) (first ∷ rows) row more (other ∷ longer) are begun twins =
    let (turn, stands, changes, others) = twins in
    let here = after_turn members situation first in
    let same : here ≡ after_turn members situation other = after_twin members situation first other turn stands changes in
    arms_end members here (tasks_left first.turn tasks) rows row more longer are.1
    (subst (λ (at : Situation). BeginsTurnsByArms members at (tasks_left first.turn tasks) longer) (sym same)
    (subst (λ (had : Turn). BeginsTurnsByArms members (after_turn members situation other) (tasks_left had tasks) longer) (sym turn) begun.1)) others

pub plays_ends : (members : ℕ) (tasks : Situation → List Task) → EndsThere members (BeginsToPlay members tasks) (Plays members tasks)
plays_ends members tasks situation rows row more longer after x begun twins =
    turns_end members situation (tasks situation) rows row more longer x.turns begun twins

pub plays_by_ends : (members : ℕ) (tasks : Situation → List Task) → EndsThere members (BeginsToPlayByArms members tasks) (PlaysByArms members tasks)
plays_by_ends members tasks situation rows row more longer after x begun twins =
    arms_end members situation (tasks situation) rows row more longer x.turns begun twins

-- what is set behind the turns has none
pub plain_ends : (members : ℕ) (tasks : Situation → List Task) (change : Situation → Situation) → EndsThere members (BeginsToPlay members tasks) (Plain members tasks change)
plain_ends members tasks change situation rows row more longer after x begun twins =
    let all : rows ≡ x.front = x.parts ∙ ap (λ (l : List Row). x.front ++ l) x.two.none ∙ append-nil x.front in
    plays_ends members tasks situation x.front row more longer x.middle x.one begun
    (subst (λ (l : List Row). AreTwins members situation.standing (l ++ row ∷ more) longer) all twins)

rounds_end : (members : ℕ) (window : Window) (at : ℤ) (rounds : ℕ) → EndsThere members (BeginsRounds members window at rounds) (AreRoundsByArms members window at rounds)
rounds_end members window at zero = sets_ends members (λ here. here)
rounds_end members window at (suc others) =
    let tasks = round_tasks members window at in
    then_ends members (BeginsToPlayByArms members tasks) (PlaysByArms members tasks) (BeginsRounds members window at others) (AreRoundsByArms members window at others)
    (plays_by_alike members tasks) (plays_by_ends members tasks) (rounds_end members window at others)

-- a list that has a row more is no twin of an empty one
pub nothing_longer : (members : ℕ) (situation : Situation) (rows : List Row) (row : Row) (more : List Row) → AreTwins members situation.standing (rows ++ row ∷ more) [] → ⊥
nothing_longer members situation [] row more twins = twins
nothing_longer members situation (first ∷ rows) row more twins = twins

-- a list that is longer: so many rows, and one more
record IsLonger (rows longer : List Row) : Type 0 where
  pub front : List Row
  pub next : Row
  pub rest : List Row
  pub is : longer ≡ front ++ next ∷ rest
  pub size : length rows ≡ length front

goes_on : (members : ℕ) (situation : Situation) (rows : List Row) (row : Row) (more longer : List Row) → AreTwins members situation.standing (rows ++ row ∷ more) longer
    → IsLonger rows longer
goes_on members situation [] row more [] twins = absurd twins
goes_on members situation [] row more (other ∷ longer) twins = record { front = []; next = other; rest = longer; is = refl; size = refl }
goes_on members situation (first ∷ rows) row more [] twins = absurd twins
goes_on members situation (first ∷ rows) row more (other ∷ longer) twins =
    let further = goes_on members (after_turn members situation first) rows row more longer twins.3 in
    record {
      front = other ∷ further.front;
      next = further.next;
      rest = further.rest;
      is = ap (λ (l : List Row). other ∷ l) further.is;
      size = ap (λ n. suc n) further.size;
    }

pub found_there : (front : List Row) (row : Row) (rows : List Row) → slice_get (front ++ row ∷ rows) (length front) ≡ Some row
found_there [] row rows = refl
found_there (x ∷ front) row rows = found_there front row rows

module _ (members : ℕ) (table : Table) where
  pub drain_round_ends : (who : ℕ) (at : ℤ) → EndsThere members (BeginsDrainRound members table who at) (IsDrainRound members table who at)
  drain_round_ends who at =
      let round = round_tasks members table.window at in
      then_ends members (BeginsToPlay members (standing_tasks who)) (Plays members (standing_tasks who)) (BeginsToPlay members round) (Plays members round)
      (plays_alike members (standing_tasks who)) (plays_ends members (standing_tasks who)) (plays_ends members round)

  drain_in_ends : (n m : ℕ) (who : ℕ) (at : ℤ) → EndsThere members (BeginsDrainIn m members table who at) (DrainsIn n members table who at)
  drain_in_ends zero zero who at situation rows row more longer after x begun twins =
      sets_ends members (λ here. here) situation rows row more longer after x.stays begun twins
  drain_in_ends (suc n) zero who at situation rows row more longer after x begun twins =
      nothing_longer members situation rows row more (subst (λ (l : List Row). AreTwins members situation.standing (rows ++ row ∷ more) l) begun twins)
  drain_in_ends zero (suc m) who at situation rows row more longer after x begun twins = begun.0 x.is_quiet
  drain_in_ends (suc n) (suc m) who at situation rows row more longer after x begun twins =
      then_ends members (BeginsDrainRound members table who at) (IsDrainRound members table who at) (BeginsDrainIn m members table who at)
      (DrainsIn n members table who at) (drain_round_alike members table who at) (drain_round_ends who at) (drain_in_ends n m who at) situation rows row more longer after
      x.goes_on begun.1 twins

  pub drain_ends : (who : ℕ) (at : ℤ) → EndsThere members (BeginsDrain members table who at) (Drains members table who at)
  drain_ends who at situation rows row more longer after x begun twins =
      drain_in_ends x.0 begun.0 who at situation rows row more longer after x.1 begun.1 twins

  lead_ends : (at : ℤ) → EndsThere members (BeginsToLead members table at) (IsLedToQuiet members table at)
  lead_ends at situation =
      let who = coordinator members situation in
      let stands : Situation → List Task = λ here. Do who Campaign ∷ [] in
      then_ends members (BeginsToPlay members stands) (Plays members stands) (BeginsDrain members table who at) (Drains members table who at)
      (plays_alike members stands) (plays_ends members stands) (drain_ends who at) situation

  pub settling_ends : (at : ℤ) → EndsThere members (BeginsSettling members table at) (Settles members table at)
  settling_ends at =
      then_ends members (BeginsToPlay members (restart_tasks members)) (Plain members (restart_tasks members) cleared) (BeginsToLead members table at)
      (IsLedToQuiet members table at) (plain_alike members (restart_tasks members) cleared (λ here. refl)) (plain_ends members (restart_tasks members) cleared) (lead_ends at)

  walk_in_ends : (n m : ℕ) (who : ℕ) (above to : ℤ) → EndsThere members (BeginsWalkIn m members table who above to) (WalksIn n members table who above to)
  walk_in_ends zero zero who above to situation rows row more longer after x begun twins =
      sets_ends members (λ here. here) situation rows row more longer after x.stays begun twins
  walk_in_ends (suc n) zero who above to situation rows row more longer after x begun twins =
      nothing_longer members situation rows row more (subst (λ (l : List Row). AreTwins members situation.standing (rows ++ row ∷ more) l) begun twins)
  walk_in_ends zero (suc m) who above to situation rows row more longer after x (minute, next, goes) twins =
      next.asks (x.is_quiet minute next.later next.within)
  walk_in_ends (suc n) (suc m) who above to situation rows row more longer after (minute, next, goes) (other, first, went) twins =
      let same = same_minute table (situation.standing.replicas who) above to other minute first next in
      then_ends members (BeginsDrain members table who minute) (Drains members table who minute) (BeginsWalkIn m members table who minute to)
      (WalksIn n members table who minute to) (drains_alike members table who minute) (drain_ends who minute) (walk_in_ends n m who minute to) situation rows row more
      longer after goes
      (subst (λ (now : ℤ). BeginsThen (BeginsDrain members table who now) (Drains members table who now) (BeginsWalkIn m members table who now to) situation longer)
      same went) twins

  walk_on_ends : (who : ℕ) (above to : ℤ) → EndsThere members (BeginsWalkOn members table who above to) (WalksOn members table who above to)
  walk_on_ends who above to situation rows row more longer after x begun twins =
      walk_in_ends x.0 begun.0 who above to situation rows row more longer after x.1 begun.1 twins

  pub walk_ends : (to : ℤ) → EndsThere members (BeginsWalk members table to) (Walks members table to)
  walk_ends to situation =
      let at = int_min situation.latest to in
      let who = coordinator members situation in
      then_ends members (BeginsSettling members table at) (Settles members table at) (BeginsWalkOn members table who at to) (WalksOn members table who at to)
      (settles_alike members table at) (settling_ends at) (walk_on_ends who at to) situation

  -- ---- free turns

  free_ends : (at : ℤ) (turns : ℕ) → EndsThere members (BeginsFree members table.window at turns) (IsFreePart members table.window at turns)
  free_ends at turns situation rows row more longer after x begun twins =
      let there = goes_on members situation rows row more longer twins in
      let turn_there : slice_get longer (length there.front) ≡ Some there.next =
      ap (λ (l : List Row). slice_get l (length there.front)) there.is ∙ found_there there.front there.next there.rest in
      let (who, member, own) = begun.named (length there.front) there.next turn_there in
      let first : take (length there.front) longer ≡ there.front =
      ap (take (length there.front)) there.is ∙ take-append_seam there.front (there.next ∷ there.rest) in
      let next = begun.each who member (length there.front) there.next turn_there own in
      let course : course_of members who situation rows ≡ course_of members who situation (take (length there.front) longer) =
      course_alike members who (begun_at situation) rows there.front (row ∷ more) (there.next ∷ there.rest) there.size
      (subst (λ (l : List Row). AreTwins members situation.standing (rows ++ row ∷ more) l) there.is twins)
      ∙ ap (course_of members who situation) (sym first) in
      let runs : (course_of members who situation rows).seen.standing.runs who ≡ true =
      subst (λ (c : Course). c.seen.standing.runs who ≡ true) (sym course) next.runs in
      let all : (course_of members who situation rows).taken ≡ turns = (x.each who member).all runs in
      let left : (course_of members who situation rows).taken < turns = subst (λ (c : Course). c.taken < turns) (sym course) next.left in
      omega (arith, all, left)

  -- ---- commands

  -- **Nothing comes after a whole part.**
  pub part_ends : (given : Command) → EndsThere members (BeginsPart members table given) (IsPartOf members table given)
  part_ends (command.Campaign who) = plays_by_ends members (tasks_for (command.Campaign who))
  part_ends (command.Round at rounds) = rounds_end members table.window at.0 rounds
  part_ends (command.Settle at) = settling_ends at.0
  part_ends (command.Walk to) = walk_ends to.0
  part_ends (command.Break who pass image) = sets_ends members (armed_by who pass image)
  part_ends (command.Free at turns) = free_ends at.0 turns
  part_ends (command.Stop who) = plain_ends members (tasks_for (command.Stop who)) (set_by (command.Stop who))
  part_ends (command.Restart who) = plain_ends members (tasks_for (command.Restart who)) (set_by (command.Restart who))
  part_ends (command.Cut from to) = plain_ends members (tasks_for (command.Cut from to)) (set_by (command.Cut from to))
  part_ends command.Heal = plain_ends members (tasks_for command.Heal) (set_by command.Heal)
  part_ends (command.Drop from to) = plain_ends members (tasks_for (command.Drop from to)) (set_by (command.Drop from to))
  part_ends (command.Repeat from to) = plain_ends members (tasks_for (command.Repeat from to)) (set_by (command.Repeat from to))
  part_ends (command.Reverse who) = plain_ends members (tasks_for (command.Reverse who)) (set_by (command.Reverse who))
  part_ends (command.Again letter) = plain_ends members (tasks_for (command.Again letter)) (set_by (command.Again letter))
  part_ends (command.Skew who minutes) = plain_ends members (tasks_for (command.Skew who minutes)) (set_by (command.Skew who minutes))
  part_ends (command.Fate who fate) = plain_ends members (tasks_for (command.Fate who fate)) (set_by (command.Fate who fate))
  part_ends (command.Arrive late) = plain_ends members (tasks_for (command.Arrive late)) (set_by (command.Arrive late))
