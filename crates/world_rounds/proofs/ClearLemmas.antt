-- What settling begins with, in a world.
use Rattle.std.proofs.Common.{Bool, List, Some, [], ap, append-nil as append_nil, append_assoc, ap₂, arith, drop, false, if◌then◌else◌, inl, inr, length, nat_lt, pos, refl, subst, suc, sym, true, zero, ℕ, ◌++◌, ◌+◌, ◌-◌, ◌<◌, ◌∙◌, ◌∷◌, ◌≡◌, ◌≢◌, ◌≤◌, ◌⊎◌}
use Rattle.std.specs.List.{Contains, flat_map, range_with_len, slice_get}
use Rattle.std.proofs.lemmas.Int.{ints}
use Rattle.std.specs.Vec.{with_items}
use Rattle.std.proofs.Math.ListN.{set}
use Rattle.std.proofs.lemmas.List.{length-set}
use Rattle.std.proofs.lemmas.List.Concat.{flat_map-append}
use Rattle.std.proofs.lemmas.Option.{slice_get_within}
use Rattle.disk_model.specs.View.{DiskView}
use Rattle.due_set.specs.Table.{Table}
use Rattle.step_spec.proofs.Lists.{nothing_in}
use Rattle.step_spec.specs.State.{State, prefix_of}
use Rattle.history.specs.Book.{Row, Standing, after_row, with_fact}
use Rattle.history.specs.declared.turn.Turn.TheVariants.{Restarted}
use Rattle.script_semantics.proofs.StartLemmas.{all_run}
use Rattle.script_semantics.specs.Commands.{Plain}
use Rattle.script_semantics.specs.Script.{IsPartOf}
use Rattle.script_semantics.specs.Settling.{cleared, furthest, restart_tasks}
use Rattle.script_semantics.specs.Situation.{AreTurnsFor, Restart, Situation, Task, after_turn, after_turns, bases_kept, changes_in, delivered, is_cut, latest_after}
use Rattle.script_text.specs.Command.{IsSkew}
use Rattle.script_text.specs.declared.command.Command.TheVariants as command
use Rattle.world_law.specs.Book.{BookState}
use Rattle.world_rounds.proofs.Chains.{after_append, turns_append}
use Rattle.world_rounds.proofs.QuietLemmas.{node_state}
use Rattle.world_rounds.proofs.RoundsOfAll.{take_front}
use Rattle.world_rounds.proofs.Setting.{world_set}
use Rattle.world_rounds.proofs.StepsAt.{get_set_there}
use Rattle.world_rounds.proofs.Worlds.{set_cases, some_same}
use Rattle.world_rounds.specs.Cleared.{AreCleared, HaveLearned, IsCleared, RestartsAll}
use Rattle.world_rounds.specs.Mails.{Changes}
use Rattle.world_rounds.specs.Quiet.{AllRun}
use Rattle.world_rounds.specs.World.{GoesOnBy, IsWorld, IsWorldAt}
use Rattle.world_rounds.specs.declared.member.Member.{Member}
use Rattle.world_steps.specs.Parts.{armed_in}
use Rattle.world_rounds.specs.declared.world.World.{World}
use Rattle.history.proofs.Standings.{fact_there}
use Rattle.due_set.proofs.SoundLemmas.{at_place as found_at}
use Rattle.cron_io.proofs.ListLemmas.{range_more}

no_skew : IsSkew (pos 0)
no_skew = (omega (arith, ints), omega (arith, ints))

-- ---- turns

-- what stands after turns is told by what stood before them
pub same_stand : (n : ℕ) (one other : Situation) (rows : List Row) → one.standing ≡ other.standing → one.latest ≡ other.latest
    → ((after_turns n one rows).standing ≡ (after_turns n other rows).standing) × ((after_turns n one rows).latest ≡ (after_turns n other rows).latest)
same_stand n one other [] standing latest = (standing, latest)
same_stand n one other (row ∷ rows) standing latest =
    same_stand n (after_turn n one row) (after_turn n other row) rows (ap (λ s. after_row n s row.turn row.event row.letters) standing) (ap (latest_after row.turn) latest)

-- and so are the bases that were kept
pub same_bases : (n : ℕ) (one other : Situation) (rows : List Row) → one.standing ≡ other.standing → one.bases ≡ other.bases
    → (after_turns n one rows).bases ≡ (after_turns n other rows).bases
same_bases n one other [] standing bases = bases
same_bases n one other (row ∷ rows) standing bases =
    same_bases n (after_turn n one row) (after_turn n other row) rows (ap (λ s. after_row n s row.turn row.event row.letters) standing)
    (ap (λ (s : Standing). bases_kept row.turn (changes_in n s row.turn row.event) one.bases) standing ∙ ap (bases_kept row.turn (changes_in n other.standing row.turn row.event)) bases)

-- those of these that are stopped start again
abbrev pub start_tasks : (ℕ → Bool) → List ℕ → List Task
start_tasks runs whos = flat_map (λ who. if runs who then [] else Restart who ∷ []) whos

-- one start is the same turn whatever is set
same_start : (n : ℕ) (one other : Situation) (runs : Bool) (who : ℕ) (rows : List Row) → AreTurnsFor n one (if runs then [] else Restart who ∷ []) rows
    → AreTurnsFor n other (if runs then [] else Restart who ∷ []) rows
same_start n one other true who rows turns = turns
same_start n one other false who [] turns = absurd cc
same_start n one other false who (row ∷ rows) turns = turns

started_standing : (n : ℕ) (situation : Situation) (row : Row) (who : ℕ) → row.turn ≡ Restarted who
    → (after_turn n situation row).standing.runs ≡ with_fact who true situation.standing.runs
unfolding after_row
started_standing n situation row who is = rw is refl

-- the starts of others leave whether a replica runs
others_start : (n : ℕ) (situation : Situation) (runs : ℕ → Bool) (first count who : ℕ) (rows : List Row) → first + count ≤ who
    → AreTurnsFor n situation (start_tasks runs (range_with_len first count)) rows → (after_turns n situation rows).standing.runs who ≡ situation.standing.runs who
others_start n situation runs first zero who rows above turns = rw turns refl
others_start n situation runs first (suc count) who rows above turns =
    go (runs first) rows (λ situation rows turns. others_start n situation runs (first + 1) count who rows (omega arith) turns) turns
  where
    go : (flag : Bool) (rows : List Row)
        → ((situation : Situation) (rows : List Row) → AreTurnsFor n situation (start_tasks runs (range_with_len (first + 1) count)) rows
        → (after_turns n situation rows).standing.runs who ≡ situation.standing.runs who)
        → AreTurnsFor n situation ((if flag then [] else Restart first ∷ []) ++ start_tasks runs (range_with_len (first + 1) count)) rows
        → (after_turns n situation rows).standing.runs who ≡ situation.standing.runs who
    go true rows rest turns = rest situation rows turns
    go false [] rest turns = absurd cc
    go false (row ∷ rows) rest turns =
        let differs : who ≢ first = λ same. omega arith in
        rest (after_turn n situation row) rows turns.1
        ∙ ap (λ (runs : ℕ → Bool). runs who) (started_standing n situation row first turns.0) ∙ fact_there first true situation.standing.runs who differs

-- ---- one after another

-- those below a number that are stopped start again
pub record RestartsBelow (n count : ℕ) (situation : Situation) (rows : List Row) (after : Situation) : Type 0 where
  pub turns : AreTurnsFor n situation (start_tasks situation.standing.runs (range_with_len 0 count)) rows
  pub standing : after.standing ≡ (after_turns n situation rows).standing
  pub latest : after.latest ≡ (after_turns n situation rows).latest
  pub bases : after.bases ≡ (after_turns n situation rows).bases

restarts_more : (n count : ℕ) (table : Table) (situation here after : Situation) (rows more : List Row) → RestartsBelow n count situation rows here
    → IsPartOf n table (command.Restart count) here more after → RestartsBelow n (count + 1) situation (rows ++ more) after
restarts_more n count table situation here after rows more so_far part = record {
  turns =
      subst (λ whos. AreTurnsFor n situation (start_tasks situation.standing.runs whos) (rows ++ more)) (sym (range_more 0 count (0 + count) refl ∙ ap (λ n. range_with_len 0 count ++ n ∷ []) (omega arith)))
      (subst (λ tasks. AreTurnsFor n situation tasks (rows ++ more)) (sym (flat_map-append (λ who. if situation.standing.runs who then [] else Restart who ∷ []) (range_with_len 0 count) (count ∷ [])))
      (turns_append n situation (start_tasks situation.standing.runs (range_with_len 0 count)) (start_tasks situation.standing.runs (count ∷ [])) rows more so_far.turns mine));
  standing = ap (λ (s : Situation). s.standing) is ∙ stands.0 ∙ ap (λ (s : Situation). s.standing) (sym (after_append n situation rows more));
  latest = ap (λ (s : Situation). s.latest) is ∙ stands.1 ∙ ap (λ (s : Situation). s.latest) (sym (after_append n situation rows more));
  bases =
      ap (λ (s : Situation). s.bases) is ∙ same_bases n here (after_turns n situation rows) more so_far.standing so_far.bases
      ∙ ap (λ (s : Situation). s.bases) (sym (after_append n situation rows more));
}
  where
    front : more ≡ part.front
    front = part.parts ∙ ap (λ back. part.front ++ back) part.two.none ∙ append_nil part.front

    is : after ≡ delivered (length here.standing.posted) (after_turns n here more)
    is = part.two.is ∙ part.one.is ∙ ap (λ rows. delivered (length here.standing.posted) (after_turns n here rows)) (sym front)

    stands : ((after_turns n here more).standing ≡ (after_turns n (after_turns n situation rows) more).standing)
        × ((after_turns n here more).latest ≡ (after_turns n (after_turns n situation rows) more).latest)
    stands = same_stand n here (after_turns n situation rows) more so_far.standing so_far.latest

    runs : here.standing.runs count ≡ situation.standing.runs count
    runs = ap (λ (s : Standing). s.runs count) so_far.standing ∙ others_start n situation situation.standing.runs 0 count count rows (omega arith) so_far.turns

    mine : AreTurnsFor n (after_turns n situation rows) (start_tasks situation.standing.runs (count ∷ [])) more
    mine =
        subst (λ tasks. AreTurnsFor n (after_turns n situation rows) tasks more) (sym (append_nil (if situation.standing.runs count then [] else Restart count ∷ [])))
        (subst (λ flag. AreTurnsFor n (after_turns n situation rows) (if flag then [] else Restart count ∷ []) more) runs
        (same_start n here (after_turns n situation rows) (here.standing.runs count) count more
        (subst (λ rows. AreTurnsFor n here (if here.standing.runs count then [] else Restart count ∷ []) rows) (sym front) part.one.turns)))

-- ---- the furthest

-- of the replicas below this number it is the furthest
pub record IsFurthestTo {D : Type 0} (members : List (Member D)) (other best : ℕ) : Type 0 where
  pub below : best < other
  pub is : (replicas : ℕ → State) → HaveLearned replicas members → best ≡ furthest replicas (other - 1)

furthest_next : (replicas : ℕ → State) (other best next : ℕ) → 0 < other → best ≡ furthest replicas (other - 1)
    → next ≡ (if nat_lt (prefix_of (replicas best)) (prefix_of (replicas other)) then other else best) → next ≡ furthest replicas (other + 1 - 1)
furthest_next replicas zero best next some was is = absurd (omega arith)
furthest_next replicas (suc more) best next some was is =
    let back : suc more - 1 ≡ more = omega arith in
    let here : suc more ≡ suc more + 1 - 1 = omega arith in
    is ∙ ap (λ best. if nat_lt (prefix_of (replicas best)) (prefix_of (replicas (suc more))) then suc more else best) (was ∙ ap (furthest replicas) back) ∙ ap (furthest replicas) here

pub further_on : {D : Type 0} (members : List (Member D)) (other best next : ℕ) → IsFurthestTo members other best → (next ≡ best) ⊎ (next ≡ other)
    → ((replicas : ℕ → State) → HaveLearned replicas members → next ≡ (if nat_lt (prefix_of (replicas best)) (prefix_of (replicas other)) then other else best))
    → IsFurthestTo members (other + 1) next
further_on members other best next so_far one_of more = record {
  below = let below = so_far.below in elim one_of [ inl same ↦ omega arith | inr same ↦ omega arith ];
  is = λ replicas learned. let below = so_far.below in furthest_next replicas other best next (omega arith) (so_far.is replicas learned) (more replicas learned);
}

-- ---- faults end, one replica after another

module _ {D : Type 0} where
  pub record HasClearedTo (index : ℕ) (old new : List (Member D)) : Type 0 where
    pub count : length new ≡ length old
    pub done : (who : ℕ) (one two : Member D) → who < index → slice_get old who ≡ Some one → slice_get new who ≡ Some two → IsCleared one two
    pub rest : (who : ℕ) → index ≤ who → slice_get new who ≡ slice_get old who

  pub cleared_next : (index : ℕ) (old now : List (Member D)) (member next : Member D) → HasClearedTo index old now → slice_get now index ≡ Some member → IsCleared member next
      → HasClearedTo (index + 1) old (set now index next)
  cleared_next index old now member next so_far there clears = record {
    count = length-set now index next ∙ so_far.count;
    done = λ who one two below first second. elim (set_cases now index next who two second) [
      | inl here ↦
          let was : one ≡ member = some_same (slice_get old index) one member (subst (λ k. slice_get old k ≡ Some one) here.0 first) (sym (so_far.rest index (omega arith)) ∙ there) in
          subst (λ two. IsCleared one two) (sym here.1) (subst (λ m. IsCleared m next) (sym was) clears)
      | inr other ↦ let less : who < index = (let differs : who ≢ index = other.0 in omega arith) in so_far.done who one two less first other.1
    ];
    rest = λ who above. let differs : who ≢ index = λ same. omega arith in get_set_there now index next who differs ∙ so_far.rest who (omega arith);
  }

  pub all_cleared : (index : ℕ) (old now : List (Member D)) → index ≡ length old → HasClearedTo index old now → AreCleared old now
  all_cleared index old now whole so_far = record {
    count = so_far.count;
    each = λ who one two first second. so_far.done who one two (let within : who < length old = slice_get_within old who one first in omega arith) first second;
  }

  pub cleared_held : (world : World D) (members : List (Member D)) → AreCleared world.members.items members → AreCleared world.members.items (with_items world.members members).items
  cleared_held world members all =
      subst (λ members. AreCleared world.members.items members)
      (sym (take_front world.members.len members (drop (length members) world.members.items) (world.members.ok.0 ∙ sym all.count))) all

module _ {D : Type 0} (view : DiskView D) where
  pub world_cleared : (old new : World D) → new.book ≡ old.book → new.latest ≡ old.latest → new.cuts.items ≡ [] → AreCleared old.members.items new.members.items
      → Changes view cleared old new
  world_cleared old new book latest cuts members = λ table rows situation is.
      world_set view table rows old new situation (cleared situation) is book latest members.count refl refl refl (λ from to. ap (is_cut from to) cuts)
      (λ who next found.
      let below : who < length new.members.items = slice_get_within new.members.items who next found in
      let count = members.count in
      let was = found_at old.members.items who (omega (arith, below, count)) in
      let clears = members.each who was.0 next was.1 found in
      let mail = (is.ahead.each who was.0 was.1).mail in (
        was.0,
        was.1,
        clears.node,
        clears.steps,
        record {
          runs = clears.runs ∙ mail.runs;
          letters_are = sym clears.letters;
          skew = clears.skew;
          small = subst IsSkew (sym clears.skew) no_skew;
          fate = clears.fate;
          waits = clears.waits ∙ mail.waits;
          arm = ap armed_in clears.arm;
          sent = λ number has. nothing_in (subst (λ items. Contains items number) clears.letters has);
        },
      ))

module _ {D : Type 0} (view : DiskView D) (table : Table) where
  pub record HasRestartedTo (count : ℕ) (old new : World D) : Type 0 where
    pub goes : GoesOnBy view table (RestartsBelow old.book.members count) old new
    pub members : new.book.members ≡ old.book.members
    pub world : IsWorld view table new

  pub restarted_none : (world : World D) → IsWorld view table world → HasRestartedTo 0 world world
  restarted_none world is = record {
    goes = λ rows situation here. (
      [],
      situation,
      record { turns = refl; standing = refl; latest = refl; bases = refl },
      subst (λ rows. IsWorldAt view table rows world situation) (sym (append_nil rows)) here,
    );
    members = refl;
    world = is;
  }

  pub restarted_next : (count : ℕ) (old now new : World D) → HasRestartedTo count old now
      → GoesOnBy view table (IsPartOf now.book.members table (command.Restart count)) now new → new.book.members ≡ now.book.members → HasRestartedTo (count + 1) old new
  restarted_next count old now new so_far goes members = record {
    goes = λ rows situation is.
        let front = so_far.goes rows situation is in
        let back = goes (rows ++ front.0) front.1 front.3 in (
          front.0 ++ back.0,
          back.1,
          restarts_more old.book.members count table situation front.1 back.1 front.0 back.0 front.2
              (subst (λ n. IsPartOf n table (command.Restart count) front.1 back.0 back.1) so_far.members back.2),
          subst (λ rows. IsWorldAt view table rows new back.1) (append_assoc rows front.0 back.0) back.3,
        );
    members = members ∙ so_far.members;
    world = let here = so_far.world in let back = goes here.rows here.situation here.is in record { rows = here.rows ++ back.0; situation = back.1; is = back.3 };
  }

  pub restarted_all : (count : ℕ) (old new : World D) → IsWorld view table old → count ≡ length old.members.items → HasRestartedTo count old new
      → GoesOnBy view table (RestartsAll old.book.members) old new
  restarted_all count old new world whole so_far = λ rows situation is.
      let part = so_far.goes rows situation is in
      let all : count ≡ old.book.members = whole ∙ is.ahead.count in (
        part.0,
        part.1,
        record {
          turns = subst (λ n. AreTurnsFor old.book.members situation (start_tasks situation.standing.runs (range_with_len 0 n)) part.0) all part.2.turns;
          standing = part.2.standing;
          latest = part.2.latest;
          bases = part.2.bases;
        },
        part.3,
      )

  -- ---- both

  same_cleared : (n : ℕ) (situation here : Situation) (rows : List Row) → RestartsAll n situation rows here → cleared here ≡ cleared (delivered (length situation.standing.posted) (after_turns n situation rows))
  same_cleared n situation here rows all =
      ap₂ (λ standing latest. cleared (record here { standing = standing; latest = latest })) all.standing all.latest
      ∙ ap (λ (bases : ℕ → ℕ). cleared (record here { standing = (after_turns n situation rows).standing; latest = (after_turns n situation rows).latest; bases = bases })) all.bases

  cleared_same : (n : ℕ) (situation here : Situation) (rows : List Row) → RestartsAll n situation rows here → Plain n (restart_tasks n) cleared situation rows (cleared here)
  cleared_same n situation here rows all =
      let middle : Situation = delivered (length situation.standing.posted) (after_turns n situation rows) in
      record {
        front = rows;
        middle = middle;
        back = [];
        parts = sym (append_nil rows);
        one = record { turns = all.turns; is = refl };
        two = record { none = refl; is = same_cleared n situation here rows all };
      }

  pub started_over : (n : ℕ) (old now new : World D) → GoesOnBy view table (RestartsAll n) old now → Changes view cleared now new
      → GoesOnBy view table (Plain n (restart_tasks n) cleared) old new
  started_over n old now new goes changes = λ rows situation is.
      let part = goes rows situation is in
      (part.0, cleared part.1, cleared_same n situation part.1 part.0 part.2, changes table (rows ++ part.0) part.1 part.3)

  pub all_started : (old now new : World D) → IsWorld view table old → GoesOnBy view table (RestartsAll old.book.members) old now
      → now.book.members ≡ old.book.members → Changes view cleared now new → new.book ≡ now.book → AllRun new
  all_started old now new world goes members changes book = λ who member found.
      let part = goes world.rows world.situation world.is in
      let is = changes table (world.rows ++ part.0) part.1 part.3 in
      let below : who < length new.members.items = slice_get_within new.members.items who member found in
      let count : length new.members.items ≡ old.book.members = is.ahead.count ∙ ap (λ (b : BookState). b.members) book ∙ members in
      (is.ahead.each who member found).mail.runs ∙ (ap (λ (s : Standing). s.runs who) part.2.standing
      ∙ all_run old.book.members world.situation part.0 who part.2.turns (omega (arith, below, count)))

  -- ---- the coordinator

  pub learned_in : (world : World D) (rows : List Row) (situation : Situation) → IsWorldAt view table rows world situation → AllRun world
      → HaveLearned situation.standing.replicas world.members.items
  learned_in world rows situation is run = λ who member there.
      ap prefix_of (sym (node_state view table rows world situation who member is there (run who member there)))
