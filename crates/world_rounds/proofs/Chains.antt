-- Turns after turns.
use Rattle.std.proofs.Common.{List, [], append-nil as append_nil, append_assoc, refl, subst, sym, ℕ, ◌++◌, ◌∙◌, ◌∷◌, ◌≡◌}
use Rattle.disk_model.specs.View.{DiskView}
use Rattle.due_set.specs.Table.{Table}
use Rattle.history.specs.Book.{Row}
use Rattle.script_semantics.specs.Situation.{AreTurnsFor, Situation, Task, after_turn, after_turns}
use Rattle.world_steps.specs.declared.steps.Taken.{Taken}
use Rattle.world_rounds.specs.Taking.{HasTakenTurns}
use Rattle.world_rounds.specs.World.{IsWorldAhead, book_of}
use Rattle.world_rounds.specs.declared.world.World.{World}

pub after_append : (n : ℕ) (situation : Situation) (rows more : List Row) → after_turns n situation (rows ++ more) ≡ after_turns n (after_turns n situation rows) more
after_append n situation [] more = refl
after_append n situation (row ∷ rows) more = after_append n (after_turn n situation row) rows more

pub turns_append : (n : ℕ) (situation : Situation) (tasks others : List Task) (rows more : List Row) → AreTurnsFor n situation tasks rows
    → AreTurnsFor n (after_turns n situation rows) others more → AreTurnsFor n situation (tasks ++ others) (rows ++ more)
turns_append n situation [] others [] more one two = two
turns_append n situation [] others (row ∷ rows) more one two = absurd cc
turns_append n situation (task ∷ tasks) others [] more one two = absurd cc
turns_append n situation (task ∷ tasks) others (row ∷ rows) more one two = (one.0, turns_append n (after_turn n situation row) tasks others rows more one.1 two)

module _ {D : Type 0} (view : DiskView D) (table : Table) where
  -- no turn at all
  pub taken_none : (rows : List Row) (situation : Situation) (left : ℕ → List Taken) (world : World D) → IsWorldAhead view table rows world situation left
      → HasTakenTurns view table (book_of world).members rows situation [] left world
  taken_none rows situation left world ahead = record {
    members_are = refl;
    more = [];
    turns = refl;
    ahead = subst (λ rows. IsWorldAhead view table rows world situation left) (sym (append_nil rows)) ahead;
  }

  -- some turns and then others
  pub taken_then : (n : ℕ) (rows : List Row) (situation : Situation) (tasks others : List Task) (left later : ℕ → List Taken) (middle world : World D)
      → HasTakenTurns view table n rows situation tasks left middle
      → ((rows : List Row) (situation : Situation) → IsWorldAhead view table rows middle situation left
      → HasTakenTurns view table (book_of middle).members rows situation others later world)
      → HasTakenTurns view table n rows situation (tasks ++ others) later world
  taken_then n rows situation tasks others left later middle world one two =
      let next = two (rows ++ one.more) (after_turns n situation one.more) one.ahead in
      record {
        members_are = next.members_are ∙ one.members_are;
        more = one.more ++ next.more;
        turns =
            turns_append n situation tasks others one.more next.more one.turns
            (subst (λ members. AreTurnsFor members (after_turns n situation one.more) others next.more) one.members_are next.turns);
        ahead =
            subst (λ situation. IsWorldAhead view table (rows ++ (one.more ++ next.more)) world situation later) (sym (after_append n situation one.more next.more))
            (subst (λ rows. IsWorldAhead view table rows world (after_turns n (after_turns n situation one.more) next.more) later) (append_assoc rows one.more next.more)
            (subst (λ members. IsWorldAhead view table ((rows ++ one.more) ++ next.more) world (after_turns members (after_turns n situation one.more) next.more) later)
            one.members_are next.ahead));
      }
