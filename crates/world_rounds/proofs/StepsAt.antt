-- The steps that the replicas of a world have at hand.
use Rattle.std.proofs.Common.{List, Some, [], add-one, ap, append-nil as append_nil, arith, drop, drop-cons, get_or, inl, inr, length, refl, subst, suc, sym, take, zero, ℕ, ◌++◌, ◌+◌, ◌<◌, ◌∙◌, ◌∷◌, ◌≡◌, ◌≢◌}
use Rattle.std.specs.List.{slice_get}
use Rattle.std.proofs.Math.ListN.{set}
use Rattle.std.proofs.lemmas.List.{length-set, map-append}
use Rattle.due_set.specs.Table.{Table}
use Rattle.history.specs.Book.{Row, with_fact}
use Rattle.script_semantics.specs.Situation.{Do, Situation, Task, after_turns, is_cut}
use Rattle.std.proofs.Math.Seq.{take-suc}
use Rattle.disk_model.specs.View.{DiskView}
use Rattle.world_steps.specs.Steps.{causes_of}
use Rattle.world_steps.specs.declared.steps.Taken.{Taken}
use Rattle.world_rounds.proofs.Chains.{taken_none, taken_then}
use Rattle.world_rounds.proofs.Worlds.{set_cases}
use Rattle.world_rounds.specs.Taking.{TakesTurns, CommitsOwn, HasTakenTurns, KeepsSteps, MayCommit, MayCommitOwn, PutsDown, steps_at, steps_left_to, tasks_by}
use Rattle.world_rounds.specs.World.{IsMemberAhead, IsWorldAhead, book_of}
use Rattle.world_rounds.specs.declared.member.Member.{Member}
use Rattle.world_rounds.specs.declared.world.World.{World}
use Rattle.history.proofs.Standings.{fact_here, fact_there}
use Rattle.std.proofs.lemmas.Bool.{cases_eq}

pub get_set_here : {X : Type 0} (xs : List X) (i : ℕ) (y : X) → i < length xs → slice_get (set xs i y) i ≡ Some y
get_set_here [] i y below = absurd (omega arith)
get_set_here (x ∷ xs) zero y below = refl
get_set_here (x ∷ xs) (suc i) y below = get_set_here xs i y (omega arith)

pub get_set_there : {X : Type 0} (xs : List X) (i : ℕ) (y : X) (k : ℕ) → k ≢ i → slice_get (set xs i y) k ≡ slice_get xs k
get_set_there [] i y k differs = refl
get_set_there (x ∷ xs) zero y zero differs = absurd (differs refl)
get_set_there (x ∷ xs) zero y (suc k) differs = refl
get_set_there (x ∷ xs) (suc i) y zero differs = refl
get_set_there (x ∷ xs) (suc i) y (suc k) differs = get_set_there xs i y k (λ same. differs (ap suc same))

take_whole : {X : Type 0} (xs : List X) (n : ℕ) → n ≡ length xs → take n xs ≡ xs
take_whole [] zero is = refl
take_whole [] (suc n) is = refl
take_whole (x ∷ xs) zero is = absurd (omega arith)
take_whole (x ∷ xs) (suc n) is = ap (λ xs. x ∷ xs) (take_whole xs n (omega arith))

drop_whole : {X : Type 0} (xs : List X) (n : ℕ) → n ≡ length xs → drop n xs ≡ []
drop_whole [] zero is = refl
drop_whole [] (suc n) is = refl
drop_whole (x ∷ xs) zero is = absurd (omega arith)
drop_whole (x ∷ xs) (suc n) is = drop_whole xs n (omega arith)

-- a replica of which the steps are the same
pub keeps_at : {D : Type 0} (old new : World D) (who : ℕ) (member next : Member D) → slice_get old.members.items who ≡ Some member → who < length old.members.items
    → new.members.items ≡ set old.members.items who next → next.steps.items ≡ member.steps.items → KeepsSteps old new
keeps_at old new who member next there below members same = record {
  each = λ k. ap (λ members. steps_left_to (slice_get members k)) members ∙ elim (cases_eq k who) [
    | inl here ↦ rw here (ap steps_left_to (get_set_here old.members.items who next below) ∙ same ∙ sym (ap steps_left_to there))
    | inr other ↦ ap steps_left_to (get_set_there old.members.items who next k other)
  ];
  count = ap length members ∙ length-set old.members.items who next;
}

pub keeps_then : {D : Type 0} (one two three : World D) → KeepsSteps one two → KeepsSteps two three → KeepsSteps one three
keeps_then one two three first second = record { each = λ who. second.each who ∙ first.each who; count = second.count ∙ first.count }

pub keeps_none : {D : Type 0} (world : World D) → KeepsSteps world world
keeps_none world = record { each = λ who. refl; count = refl }

module _ {D : Type 0} (view : DiskView D) (table : Table) where
  pub ahead_same : (rows : List Row) (world : World D) (situation : Situation) (one other : ℕ → List Taken) → ((who : ℕ) → one who ≡ other who)
      → IsWorldAhead view table rows world situation one → IsWorldAhead view table rows world situation other
  ahead_same rows world situation one other same ahead = record {
    at = ahead.at;
    count = ahead.count;
    each = λ who member found. subst (λ steps. IsMemberAhead view table rows world.book situation who steps member) (same who) (ahead.each who member found);
    cuts = ahead.cuts;
    latest = ahead.latest;
  }

  pub taken_same : (n : ℕ) (rows : List Row) (situation : Situation) (tasks : List Task) (one other : ℕ → List Taken) (world : World D) → ((who : ℕ) → one who ≡ other who)
      → HasTakenTurns view table n rows situation tasks one world → HasTakenTurns view table n rows situation tasks other world
  taken_same n rows situation tasks one other world same taken =
      record { members_are = taken.members_are; more = taken.more; turns = taken.turns; ahead = ahead_same _ world _ one other same taken.ahead }

  -- a replica has put down its steps, and is as many ahead as before
  pub stripped : (rows : List Row) (world new : World D) (situation : Situation) (ahead_by : ℕ → List Taken) (who : ℕ) (member next : Member D) → slice_get world.members.items who ≡ Some member
      → new.members.items ≡ set world.members.items who next → next.node ≡ member.node → next.mail ≡ member.mail → new.book ≡ world.book → new.cuts ≡ world.cuts → new.latest ≡ world.latest
      → IsWorldAhead view table rows world situation ahead_by → IsWorldAhead view table rows new situation ahead_by
  stripped rows world new situation ahead_by who member next there members node mail book cuts latest ahead = record {
    at = rw book ahead.at;
    count = rw book (ap length members ∙ length-set world.members.items who next ∙ ahead.count);
    each = λ k x found. rw book (elim (set_cases world.members.items who next k x (subst (λ members. slice_get members k ≡ Some x) members found)) [
      | inl here ↦ subst (λ k. IsMemberAhead view table rows world.book situation k (ahead_by k) x) (sym here.0)
          (subst (λ x. IsMemberAhead view table rows world.book situation who (ahead_by who) x) (sym here.1)
          (let was = ahead.each who member there in record { mail = rw mail was.mail; running = rw node was.running; stopped = rw node was.stopped }))
      | inr other ↦ ahead.each k x other.1
    ]);
    cuts = λ from to. ap (λ cuts. is_cut from to cuts.items) cuts ∙ ahead.cuts from to;
    latest = ap (λ minute. minute.0) latest ∙ ahead.latest;
  }

  -- the loop over a replica's steps: so many of them are turns
  pub record HasCommitted (who : ℕ) (steps : List Taken) (count : ℕ) (old new : World D) : Type 0 where
    pub did : (rows : List Row) (situation : Situation) (ahead_by : ℕ → List Taken) → IsWorldAhead view table rows old situation ahead_by → ahead_by who ≡ steps
        → HasTakenTurns view table (book_of old).members rows situation (tasks_by who (causes_of (take count steps))) (with_fact who (drop count steps) ahead_by) new
    pub keeps : KeepsSteps old new

  pub committed_none : (who : ℕ) (steps : List Taken) (world : World D) → HasCommitted who steps 0 world world
  committed_none who steps world = record {
    did = λ rows situation ahead_by ahead mine.
        taken_same world.book.members rows situation [] ahead_by (with_fact who steps ahead_by) world
        (λ k. elim (cases_eq k who) [ inl here ↦ rw here (mine ∙ sym (fact_here who steps ahead_by)) | inr other ↦ sym (fact_there who steps ahead_by k other) ])
        (taken_none view table rows situation ahead_by world ahead);
    keeps = keeps_none world;
  }

  one_more : (steps : List Taken) (count : ℕ) (taken : Taken) → count < length steps → taken ≡ get_or steps count taken → take (count + 1) steps ≡ take count steps ++ taken ∷ []
  one_more steps count taken below is = ap (λ n. take n steps) (add-one count) ∙ take-suc steps count taken below ∙ ap (λ t. take count steps ++ t ∷ []) (sym is)

  pub rest_of : (steps : List Taken) (count : ℕ) (taken : Taken) → count < length steps → taken ≡ get_or steps count taken → drop count steps ≡ taken ∷ drop (count + 1) steps
  rest_of steps count taken below is = drop-cons steps count taken below ∙ ap (λ t. t ∷ drop (suc count) steps) (sym is) ∙ ap (λ n. taken ∷ drop n steps) (sym (add-one count))

  tasks_next : (who : ℕ) (steps : List Taken) (count : ℕ) (taken : Taken) → count < length steps → taken ≡ get_or steps count taken
      → tasks_by who (causes_of (take count steps)) ++ tasks_by who (causes_of (taken ∷ [])) ≡ tasks_by who (causes_of (take (count + 1) steps))
  tasks_next who steps count taken below is =
      sym (map-append (Do who) (causes_of (take count steps)) (causes_of (taken ∷ []))) ∙ ap (tasks_by who) (sym (map-append (λ (t : Taken). t.cause) (take count steps) (taken ∷ [])))
      ∙ ap (λ front. tasks_by who (causes_of front)) (sym (one_more steps count taken below is))

  -- what the next turn needs
  pub may_commit_next : (who : ℕ) (steps : List Taken) (count : ℕ) (taken : Taken) (first world : World D) → count < length steps → taken ≡ get_or steps count taken
      → MayCommit view table first who steps → HasCommitted who steps count first world
      → MayCommit view table world who (taken ∷ drop (count + 1) steps)
  may_commit_next who steps count taken first world below is may committed =
      let so_far = committed.did may.rows may.situation may.ahead_by may.ahead may.mine in
      record {
        rows = may.rows ++ so_far.more;
        situation = after_turns first.book.members may.situation so_far.more;
        ahead_by = with_fact who (drop count steps) may.ahead_by;
        ahead = so_far.ahead;
        mine = fact_here who (drop count steps) may.ahead_by ∙ rest_of steps count taken below is;
        member = rw committed.keeps.count may.member;
      }

  pub committed_next : (who : ℕ) (steps : List Taken) (count : ℕ) (taken : Taken) (first world next : World D) → count < length steps → taken ≡ get_or steps count taken
      → HasCommitted who steps count first world → TakesTurns view table who (taken ∷ []) (drop (count + 1) steps) world next → KeepsSteps world next
      → HasCommitted who steps (count + 1) first next
  committed_next who steps count taken first world next below is committed commits keeps = record {
    did = λ rows situation ahead_by ahead mine.
        subst (λ tasks. HasTakenTurns view table first.book.members rows situation tasks (with_fact who (drop (count + 1) steps) ahead_by) next) (tasks_next who steps count taken below is)
        (taken_same first.book.members rows situation _ (with_fact who (drop (count + 1) steps) (with_fact who (drop count steps) ahead_by)) (with_fact who (drop (count + 1) steps) ahead_by) next
        (λ k. elim (cases_eq k who) [
          | inl here ↦ rw here (fact_here who (drop (count + 1) steps) (with_fact who (drop count steps) ahead_by) ∙ sym (fact_here who (drop (count + 1) steps) ahead_by))
          | inr other ↦ fact_there who (drop (count + 1) steps) (with_fact who (drop count steps) ahead_by) k other ∙ fact_there who (drop count steps) ahead_by k other
              ∙ sym (fact_there who (drop (count + 1) steps) ahead_by k other)
        ])
        (taken_then view table first.book.members rows situation (tasks_by who (causes_of (take count steps))) (tasks_by who (causes_of (taken ∷ [])))
        (with_fact who (drop count steps) ahead_by) (with_fact who (drop (count + 1) steps) (with_fact who (drop count steps) ahead_by)) world next
        (committed.did rows situation ahead_by ahead mine)
        (λ rows situation now. commits rows situation (with_fact who (drop count steps) ahead_by) now
        (fact_here who (drop count steps) ahead_by ∙ rest_of steps count taken below is))));
    keeps = keeps_then first world next committed.keeps keeps;
  }

  pub committed_all : (who : ℕ) (steps : List Taken) (count : ℕ) (first world : World D) → count ≡ length steps → HasCommitted who steps count first world
      → TakesTurns view table who steps [] first world
  committed_all who steps count first world whole committed = λ rows situation ahead_by ahead mine.
      subst (λ left. HasTakenTurns view table first.book.members rows situation (tasks_by who (causes_of steps)) (with_fact who left ahead_by) world) (drop_whole steps count whole)
      (subst (λ front. HasTakenTurns view table first.book.members rows situation (tasks_by who (causes_of front)) (with_fact who (drop count steps) ahead_by) world) (take_whole steps count whole)
      (committed.did rows situation ahead_by ahead (mine ∙ append_nil steps)))

  -- a replica puts down its steps, and they become turns
  pub commits_own : (who : ℕ) (steps : List Taken) (old middle new : World D) (member next : Member D) → slice_get old.members.items who ≡ Some member → who < length old.members.items
      → middle.members.items ≡ set old.members.items who next → next.node ≡ member.node → next.mail ≡ member.mail → next.steps.items ≡ [] → middle.book ≡ old.book → middle.cuts ≡ old.cuts
      → middle.latest ≡ old.latest → steps ≡ member.steps.items → TakesTurns view table who steps [] middle new → KeepsSteps middle new
      → CommitsOwn view table who old new × PutsDown who old new
  commits_own who steps old middle new member next there below members node mail down book cuts latest own commits keeps = (
    λ rows situation ahead.
        subst (λ steps. HasTakenTurns view table old.book.members rows situation (tasks_by who (causes_of steps)) (steps_at new) new) mine
        (taken_same old.book.members rows situation (tasks_by who (causes_of steps)) (with_fact who [] (steps_at old)) (steps_at new) new
        (λ k. elim (cases_eq k who) [
          | inl here ↦ rw here (fact_here who [] (steps_at old) ∙ sym puts.mine)
          | inr other ↦ fact_there who [] (steps_at old) k other ∙ sym (puts.others k other)
        ])
        (subst (λ (members : ℕ). HasTakenTurns view table members rows situation (tasks_by who (causes_of steps)) (with_fact who [] (steps_at old)) new) (ap (λ book. book.members) book)
        (commits rows situation (steps_at old) (stripped rows old middle situation (steps_at old) who member next there members node mail book cuts latest ahead) (sym mine ∙ sym (append_nil steps))))),
    puts,
  )
    where
      mine : steps ≡ steps_at old who
      mine = own ∙ sym (ap steps_left_to there)

      puts : PutsDown who old new
      puts = record {
        mine = keeps.each who ∙ ap (λ members. steps_left_to (slice_get members who)) members ∙ ap steps_left_to (get_set_here old.members.items who next below) ∙ down;
        others = λ other differs. keeps.each other ∙ ap (λ members. steps_left_to (slice_get members other)) members ∙ ap steps_left_to (get_set_there old.members.items who next other differs);
        count = keeps.count ∙ ap length members ∙ length-set old.members.items who next;
      }

  -- the steps that it puts down may become turns
  pub may_commit_own : (who : ℕ) (steps : List Taken) (old middle : World D) (member next : Member D) → slice_get old.members.items who ≡ Some member → who < length old.members.items
      → middle.members.items ≡ set old.members.items who next → next.node ≡ member.node → next.mail ≡ member.mail → middle.book ≡ old.book → middle.cuts ≡ old.cuts
      → middle.latest ≡ old.latest → steps ≡ member.steps.items → MayCommitOwn view table old → MayCommit view table middle who steps
  may_commit_own who steps old middle member next there below members node mail book cuts latest own may = record {
    rows = may.rows;
    situation = may.situation;
    ahead_by = steps_at old;
    ahead = stripped may.rows old middle may.situation (steps_at old) who member next there members node mail book cuts latest may.ahead;
    mine = ap steps_left_to there ∙ sym own;
    member = rw (ap length members ∙ length-set old.members.items who next) below;
  }
