-- The parts of commands end where the turns show it.
use Rattle.std.proofs.Common.{◌≡◌, ◌<ℤ◌, ◌+◌, ℕ, zero, suc, ℤ, Bool, true, false, List, [], ◌∷◌, ◌++◌, Option, None, Some, length, append_assoc, refl, sym, subst, ap, ◌∙◌}
use Rattle.std.specs.Prelude.{if◌then◌else◌, slice_get}
use Rattle.std.specs.Ordering.{MatchOrdering, int_cmp}
use Rattle.std.specs.Int.{int_min}
use Rattle.std.specs.declared.cmp.Ordering.{Ordering}
use Rattle.std.specs.declared.cmp.Ordering.TheVariants.{Less, Equal, Greater}
use Rattle.std.proofs.lemmas.List.{length-append}
use Rattle.std.proofs.lemmas.Cmp.{int_ranked}
use Rattle.zone_minutes.specs.declared.minute.Window.{Window}
use Rattle.due_set.specs.Table.{Table}
use Rattle.script_text.specs.declared.command.Command.{Command}
use Rattle.script_text.specs.declared.command.Command.TheVariants as command
use Rattle.history.specs.Book.{PostedLetter, Row, Standing, with_fact}
use Rattle.history.specs.declared.turn.Cause.TheVariants.{Campaign}
use Rattle.history.specs.declared.turn.Turn.{Turn}
use Rattle.step_spec.specs.State.{State}
use Rattle.script_semantics.specs.Arms.{AreRoundsByArms, AreTurnsByArms, PlaysByArms, armed_by, tasks_left}
use Rattle.script_semantics.specs.Commands.{Plain, set_by, tasks_for, with_letter, with_mail}
use Rattle.script_semantics.specs.Free.{IsFreePart}
use Rattle.script_semantics.specs.Parts.{Plays, Sets, Stays, Then}
use Rattle.script_semantics.specs.Round.{round_tasks}
use Rattle.script_semantics.specs.Script.{ArePartsOf, IsPartOf}
use Rattle.script_semantics.specs.Settling.{Drains, DrainsIn, IsDrainRound, IsLedToQuiet, IsNextMinute, Settles, Walks, WalksIn, WalksOn, cleared, campaign_tasks, coordinator, restart_tasks}
use Rattle.script_semantics.specs.Situation.{Situation, Task, Do, after_turn, after_turns, delivered}
use Rattle.script_semantics.proofs.TurnLemmas.{as_many}
use Rattle.journal_text.proofs.Courses.{free_as_many, posted_alike}
use Rattle.journal_text.proofs.Twins.{AreTwins, after_twin, turned_alike}

-- as many turns, and one situation behind them, from which on the others are twins
pub record EndAt (members : ℕ) (a b more rest : List Row) (after behind : Situation) : Type 0 where
  pub size : length a ≡ length b
  pub same : after ≡ behind
  pub twins : AreTwins members after.standing more rest

-- two kinds of parts that begin in one situation end with as many of the same turns
abbrev pub EndAlike : ℕ → (one other : Situation → List Row → Situation → Type 0) → Type 0
EndAlike members one other =
    (situation : Situation) (a b more rest : List Row) (after behind : Situation) → one situation a after → other situation b behind
    → AreTwins members situation.standing (a ++ more) (b ++ rest) → EndAt members a b more rest after behind

-- a change leaves the standing
abbrev LeavesStanding : (Situation → Situation) → Type 0
LeavesStanding change = (situation : Situation) → (change situation).standing ≡ situation.standing

-- ---- parts that are put together

pub sets_alike : (members : ℕ) (change : Situation → Situation) → LeavesStanding change → EndAlike members (Sets change) (Sets change)
sets_alike members change leaves situation a b more rest after behind x y twins =
    let first : more ≡ a ++ more = ap (λ (l : List Row). l ++ more) (sym x.none) in
    let second : rest ≡ b ++ rest = ap (λ (l : List Row). l ++ rest) (sym y.none) in
    let stands : situation.standing ≡ after.standing = sym (ap (λ (here : Situation). here.standing) x.is ∙ leaves situation) in
    record {
      size = ap length (x.none ∙ sym y.none);
      same = x.is ∙ sym y.is;
      twins = subst (λ (s : Standing). AreTwins members s more rest) stands
          (subst (λ (l : List Row). AreTwins members situation.standing l rest) (sym first)
          (subst (λ (l : List Row). AreTwins members situation.standing (a ++ more) l) (sym second) twins));
    }

stays_alike : (members : ℕ) → EndAlike members Stays Stays
stays_alike members = sets_alike members (λ here. here) (λ here. refl)

pub plays_alike : (members : ℕ) (tasks : Situation → List Task) → EndAlike members (Plays members tasks) (Plays members tasks)
plays_alike members tasks situation a b more rest after behind x y twins =
    let size = as_many members situation (tasks situation) a x.turns ∙ sym (as_many members situation (tasks situation) b y.turns) in
    let ends = turned_alike members situation a b more rest size twins in
    let stands : (after_turns members situation a).standing ≡ after.standing = sym (ap (λ (here : Situation). here.standing) x.is) in
    record {
      size = size;
      same = x.is ∙ ap (λ (here : Situation). delivered (length situation.standing.posted) here) ends.after ∙ sym y.is;
      twins = subst (λ (s : Standing). AreTwins members s more rest) stands ends.twins;
    }

then_alike : (members : ℕ) (first second third fourth : Situation → List Row → Situation → Type 0) → EndAlike members first third → EndAlike members second fourth
    → EndAlike members (Then first second) (Then third fourth)
then_alike members first second third fourth one two situation a b more rest after behind x y twins =
    let left : a ++ more ≡ x.front ++ (x.back ++ more) = ap (λ (l : List Row). l ++ more) x.parts ∙ append_assoc x.front x.back more in
    let right : b ++ rest ≡ y.front ++ (y.back ++ rest) = ap (λ (l : List Row). l ++ rest) y.parts ∙ append_assoc y.front y.back rest in
    let same = one situation x.front y.front (x.back ++ more) (y.back ++ rest) x.middle y.middle x.one y.one
    (subst (λ (l : List Row). AreTwins members situation.standing l (y.front ++ (y.back ++ rest))) left
    (subst (λ (l : List Row). AreTwins members situation.standing (a ++ more) l) right twins)) in
    let next = two y.middle x.back y.back more rest after behind (subst (λ (m : Situation). second m x.back after) same.same x.two) y.two
    (subst (λ (m : Situation). AreTwins members m.standing (x.back ++ more) (y.back ++ rest)) same.same same.twins) in
    let size_a : length a ≡ length x.front + length x.back = ap length x.parts ∙ length-append x.front x.back in
    let size_b : length b ≡ length y.front + length y.back = ap length y.parts ∙ length-append y.front y.back in
    record {
      size = size_a ∙ ap (λ n. n + length x.back) same.size ∙ ap (λ n. length y.front + n) next.size ∙ sym size_b;
      same = next.same;
      twins = next.twins;
    }

pub plain_alike : (members : ℕ) (tasks : Situation → List Task) (change : Situation → Situation) → LeavesStanding change
    → EndAlike members (Plain members tasks change) (Plain members tasks change)
plain_alike members tasks change leaves =
    then_alike members (Plays members tasks) (Sets change) (Plays members tasks) (Sets change) (plays_alike members tasks) (sets_alike members change leaves)

-- ---- turns by the arms of disks

-- where a replica stops, both have the same tasks less
as_many_by : (members : ℕ) (situation : Situation) (tasks : List Task) (a b more rest : List Row) → AreTurnsByArms members situation tasks a
    → AreTurnsByArms members situation tasks b → AreTwins members situation.standing (a ++ more) (b ++ rest) → length a ≡ length b
as_many_by members situation tasks [] [] more rest x y twins = refl
as_many_by members situation [] [] (other ∷ b) more rest x y twins = absurd cc
as_many_by members situation (task ∷ tasks) [] (other ∷ b) more rest x y twins = absurd cc
as_many_by members situation [] (row ∷ a) b more rest x y twins = absurd cc
as_many_by members situation (task ∷ tasks) (row ∷ a) [] more rest x y twins = absurd cc
as_many_by members situation (task ∷ tasks) (row ∷ a) (other ∷ b) more rest x y twins =
    let (turn, stands, changes, others) = twins in
    let here = after_turn members situation row in
    let same : here ≡ after_turn members situation other = after_twin members situation row other turn stands changes in
    let second : AreTurnsByArms members here (tasks_left row.turn tasks) b =
    subst (λ (at : Situation). AreTurnsByArms members at (tasks_left row.turn tasks) b) (sym same)
    (subst (λ (had : Turn). AreTurnsByArms members (after_turn members situation other) (tasks_left had tasks) b) (sym turn) y.1) in
    ap (λ n. suc n) (as_many_by members here (tasks_left row.turn tasks) a b more rest x.1 second others)

pub plays_by_alike : (members : ℕ) (tasks : Situation → List Task) → EndAlike members (PlaysByArms members tasks) (PlaysByArms members tasks)
plays_by_alike members tasks situation a b more rest after behind x y twins =
    let size = as_many_by members situation (tasks situation) a b more rest x.turns y.turns twins in
    let ends = turned_alike members situation a b more rest size twins in
    let stands : (after_turns members situation a).standing ≡ after.standing = sym (ap (λ (here : Situation). here.standing) x.is) in
    record {
      size = size;
      same = x.is ∙ ap (λ (here : Situation). delivered (length situation.standing.posted) here) ends.after ∙ sym y.is;
      twins = subst (λ (s : Standing). AreTwins members s more rest) stands ends.twins;
    }

-- ---- turns in no order

free_alike : (members : ℕ) (window : Window) (at : ℤ) (turns : ℕ) → EndAlike members (IsFreePart members window at turns) (IsFreePart members window at turns)
free_alike members window at turns situation a b more rest after behind x y twins =
    let size = free_as_many members window at turns situation a b more rest after behind x y twins in
    let ends = posted_alike members situation a b more rest size twins in
    record {
      size = size;
      same = x.is ∙ ends.after ∙ sym y.is;
      twins = subst (λ (here : Situation). AreTwins members here.standing more rest) (sym x.is) ends.twins;
    }

-- ---- rounds

rounds_alike : (members : ℕ) (window : Window) (at : ℤ) (rounds : ℕ)
    → EndAlike members (AreRoundsByArms members window at rounds) (AreRoundsByArms members window at rounds)
rounds_alike members window at zero = stays_alike members
rounds_alike members window at (suc more) =
    let round = PlaysByArms members (round_tasks members window at) in
    let others = AreRoundsByArms members window at more in
    then_alike members round others round others (plays_by_alike members (round_tasks members window at)) (rounds_alike members window at more)

-- ---- settling

module _ (members : ℕ) (table : Table) (who : ℕ) (at : ℤ) where
  abbrev campaigns : Situation → List Task
  campaigns situation = campaign_tasks who (situation.standing.replicas who).term

  pub drain_round_alike : EndAlike members (IsDrainRound members table who at) (IsDrainRound members table who at)
  drain_round_alike =
      let campaign = Plays members campaigns in
      let round = Plays members (round_tasks members table.window at) in
      then_alike members campaign round campaign round (plays_alike members campaigns) (plays_alike members (round_tasks members table.window at))

  drains_in_alike : (n m : ℕ) → EndAlike members (DrainsIn n members table who at) (DrainsIn m members table who at)
  drains_in_alike zero zero situation a b more rest after behind x y twins =
      stays_alike members situation a b more rest after behind x.stays y.stays twins
  drains_in_alike zero (suc m) situation a b more rest after behind x y twins = absurd (y.not_yet x.is_quiet)
  drains_in_alike (suc n) zero situation a b more rest after behind x y twins = absurd (x.not_yet y.is_quiet)
  drains_in_alike (suc n) (suc m) situation a b more rest after behind x y twins =
      then_alike members (IsDrainRound members table who at) (DrainsIn n members table who at) (IsDrainRound members table who at) (DrainsIn m members table who at)
      drain_round_alike (drains_in_alike n m) situation a b more rest after behind x.goes_on y.goes_on twins

  pub drains_alike : EndAlike members (Drains members table who at) (Drains members table who at)
  drains_alike situation a b more rest after behind x y twins = drains_in_alike x.0 y.0 situation a b more rest after behind x.1 y.1 twins

led_alike : (members : ℕ) (table : Table) (at : ℤ) → EndAlike members (IsLedToQuiet members table at) (IsLedToQuiet members table at)
led_alike members table at situation =
    let who = coordinator members situation in
    let stands = Plays members (λ here. Do who Campaign ∷ []) in
    then_alike members stands (Drains members table who at) stands (Drains members table who at)
    (plays_alike members (λ here. Do who Campaign ∷ [])) (drains_alike members table who at) situation

pub settles_alike : (members : ℕ) (table : Table) (at : ℤ) → EndAlike members (Settles members table at) (Settles members table at)
settles_alike members table at =
    let starts = Plain members (restart_tasks members) cleared in
    then_alike members starts (IsLedToQuiet members table at) starts (IsLedToQuiet members table at)
    (plain_alike members (restart_tasks members) cleared (λ here. refl)) (led_alike members table at)

-- ---- walking

neither : (a b : ℤ) (found : Ordering) → MatchOrdering found (a <ℤ b) (a ≡ b) (b <ℤ a) → (a <ℤ b → ⊥) → (b <ℤ a → ⊥) → a ≡ b
neither a b Less is not_less not_more = absurd (not_less is)
neither a b Equal is not_less not_more = is
neither a b Greater is not_less not_more = absurd (not_more is)

pub same_minute : (table : Table) (state : State) (above to a b : ℤ) → IsNextMinute table state above to a → IsNextMinute table state above to b → a ≡ b
same_minute table state above to a b x y =
    neither a b (int_cmp a b) (int_ranked a b _ refl) (λ lt. x.asks (y.least a x.later lt)) (λ lt. y.asks (x.least b y.later lt))

walks_in_alike : (n m members : ℕ) (table : Table) (who : ℕ) (above to : ℤ) → EndAlike members (WalksIn n members table who above to) (WalksIn m members table who above to)
walks_in_alike zero zero members table who above to situation a b more rest after behind x y twins =
    stays_alike members situation a b more rest after behind x.stays y.stays twins
walks_in_alike zero (suc m) members table who above to situation a b more rest after behind x y twins =
    let (minute, next, goes) = y in absurd (next.asks (x.is_quiet minute next.later next.within))
walks_in_alike (suc n) zero members table who above to situation a b more rest after behind x y twins =
    let (minute, next, goes) = x in absurd (next.asks (y.is_quiet minute next.later next.within))
walks_in_alike (suc n) (suc m) members table who above to situation a b more rest after behind x y twins =
    let (minute, next, goes) = x in
    let (other, first, went) = y in
    let same = same_minute table (situation.standing.replicas who) above to other minute first next in
    then_alike members (Drains members table who minute) (WalksIn n members table who minute to) (Drains members table who minute) (WalksIn m members table who minute to)
    (drains_alike members table who minute) (walks_in_alike n m members table who minute to) situation a b more rest after behind goes
    (subst (λ (now : ℤ). Then (Drains members table who now) (WalksIn m members table who now to) situation b behind) same went) twins

walks_on_alike : (members : ℕ) (table : Table) (who : ℕ) (above to : ℤ) → EndAlike members (WalksOn members table who above to) (WalksOn members table who above to)
walks_on_alike members table who above to situation a b more rest after behind x y twins =
    walks_in_alike x.0 y.0 members table who above to situation a b more rest after behind x.1 y.1 twins

walks_alike : (members : ℕ) (table : Table) (to : ℤ) → EndAlike members (Walks members table to) (Walks members table to)
walks_alike members table to situation =
    let at = int_min situation.latest to in
    let who = coordinator members situation in
    then_alike members (Settles members table at) (WalksOn members table who at to) (Settles members table at) (WalksOn members table who at to)
    (settles_alike members table at) (walks_on_alike members table who at to) situation

-- ---- commands

either_leaves : (which : Bool) (one other : Situation) → one.standing ≡ other.standing → (if which then one else other).standing ≡ other.standing
either_leaves true one other same = same
either_leaves false one other same = refl

letter_leaves : (number : ℕ) (letter : Option PostedLetter) (situation : Situation) → (with_letter number letter situation).standing ≡ situation.standing
letter_leaves number None situation = refl
letter_leaves number (Some letter) situation =
    either_leaves (situation.standing.runs letter.to) (with_mail letter.to (situation.mails letter.to ++ number ∷ []) situation) situation refl

again_leaves : (number : ℕ) → LeavesStanding (set_by (command.Again number))
again_leaves number situation = letter_leaves number (slice_get situation.standing.posted number) situation

arm_leaves : (who pass image : ℕ) → LeavesStanding (armed_by who pass image)
arm_leaves who pass image situation =
    either_leaves (situation.standing.runs who)
    (record situation { arms = with_fact who (Some (record { left = pass; image = image })) situation.arms }) situation refl

part_alike : (members : ℕ) (table : Table) (given : Command) → EndAlike members (IsPartOf members table given) (IsPartOf members table given)
part_alike members table (command.Round at rounds) = rounds_alike members table.window at.0 rounds
part_alike members table (command.Settle at) = settles_alike members table at.0
part_alike members table (command.Walk to) = walks_alike members table to.0
part_alike members table (command.Break who pass image) = sets_alike members (armed_by who pass image) (arm_leaves who pass image)
part_alike members table (command.Free at turns) = free_alike members table.window at.0 turns
part_alike members table (command.Campaign who) = plays_by_alike members (tasks_for (command.Campaign who))
part_alike members table (command.Stop who) = plain_alike members (tasks_for (command.Stop who)) (set_by (command.Stop who)) (λ here. refl)
part_alike members table (command.Restart who) = plain_alike members (tasks_for (command.Restart who)) (set_by (command.Restart who)) (λ here. refl)
part_alike members table (command.Cut from to) = plain_alike members (tasks_for (command.Cut from to)) (set_by (command.Cut from to)) (λ here. refl)
part_alike members table command.Heal = plain_alike members (tasks_for command.Heal) (set_by command.Heal) (λ here. refl)
part_alike members table (command.Drop from to) = plain_alike members (tasks_for (command.Drop from to)) (set_by (command.Drop from to)) (λ here. refl)
part_alike members table (command.Repeat from to) = plain_alike members (tasks_for (command.Repeat from to)) (set_by (command.Repeat from to)) (λ here. refl)
part_alike members table (command.Reverse who) = plain_alike members (tasks_for (command.Reverse who)) (set_by (command.Reverse who)) (λ here. refl)
part_alike members table (command.Again letter) = plain_alike members (tasks_for (command.Again letter)) (set_by (command.Again letter)) (again_leaves letter)
part_alike members table (command.Skew who minutes) = plain_alike members (tasks_for (command.Skew who minutes)) (set_by (command.Skew who minutes)) (λ here. refl)
part_alike members table (command.Fate who fate) = plain_alike members (tasks_for (command.Fate who fate)) (set_by (command.Fate who fate)) (λ here. refl)
part_alike members table (command.Arrive late) = plain_alike members (tasks_for (command.Arrive late)) (set_by (command.Arrive late)) (λ here. refl)

-- **The parts of commands end where the turns show it.**
pub parts_alike : (members : ℕ) (table : Table) (script : List Command) → EndAlike members (ArePartsOf members table script) (ArePartsOf members table script)
parts_alike members table [] = stays_alike members
parts_alike members table (given ∷ script) =
    let part = IsPartOf members table given in
    let others = ArePartsOf members table script in
    then_alike members part others part others (part_alike members table given) (parts_alike members table script)
