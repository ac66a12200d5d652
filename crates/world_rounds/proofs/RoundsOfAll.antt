-- Rounds of a world.
use Rattle.std.proofs.Common.{Err, List, None, Ok, OnErr, OnOk, Option, Result, Some, [], add-one, ap, append-nil as append_nil, append_assoc, arith, drop, inl, inr, length, refl, subst, suc, sym, take, zero, ℕ, ℤ, ◌++◌, ◌+◌, ◌<◌, ◌∙◌, ◌∷◌, ◌≡◌, ◌≢◌, ◌≤◌}
use Rattle.std.specs.List.{flat_map, range_with_len, slice_get}
use Rattle.std.specs.Vec.{with_items}
use Rattle.std.proofs.Math.ListN.{set}
use Rattle.std.proofs.lemmas.List.{length-map, length-set}
use Rattle.std.proofs.lemmas.List.Concat.{flat_map-append}
use Rattle.std.proofs.lemmas.Option.{slice_get_past, slice_get_within}
use Rattle.std.proofs.lemmas.Bool.{cases_lt, cases_eq}
use Rattle.disk_model.specs.View.{DiskView}
use Rattle.due_set.specs.Table.{Table}
use Rattle.zone_minutes.specs.declared.minute.Window.{Window}
use Rattle.history.specs.Book.{Row, Standing}
use Rattle.script_semantics.specs.Arms.{AreRoundsByArms, PlaysByArms}
use Rattle.script_semantics.specs.Round.{IsRound, round_tasks, tasks_of}
use Rattle.script_semantics.specs.Situation.{Performs, Situation, Task, after_turns, delivered, is_cut}
use Rattle.world_law.specs.Book.{BookState, IsLegalBook, posted_as}
use Rattle.world_steps.specs.Steps.{causes_of}
use Rattle.world_rounds.proofs.Chains.{taken_none, taken_then}
use Rattle.world_steps.specs.Parts.{armed_in}
use Rattle.world_rounds.proofs.Led.{plain_turns, round_below}
use Rattle.world_rounds.proofs.StepsAt.{ahead_same, get_set_there}
use Rattle.world_rounds.proofs.Worlds.{set_cases}
use Rattle.world_rounds.specs.Mails.{Changes}
use Rattle.world_rounds.specs.Rounds.{AllTakeRounds, CommitsAll, HasTakenRound, MayTakeRound, TakesRound, tasks_at_hand}
use Rattle.world_rounds.specs.Taking.{CommitsOwn, HasTakenTurns, IsAhead, MayCommitOwn, PutsDown, steps_at, steps_left_to, tasks_by}
use Rattle.world_steps.specs.Parts.{IsBookAt}
use Rattle.world_rounds.specs.World.{GoesOnBy, IsMemberAhead, IsWorld, IsWorldAt, book_of, none_taken}
use Rattle.world_rounds.specs.declared.member.Member.{Member}
use Rattle.world_rounds.specs.declared.world.World.{World}
use Rattle.due_set.proofs.SoundLemmas.{at_place as found_below}
use Rattle.cron_io.proofs.ListLemmas.{range_more}

some_one : {X : Type 0} (found : Option X) (one other : X) → found ≡ Some one → found ≡ Some other → one ≡ other
some_one found one other a b = cc

pub take_front : {X : Type 0} (n : ℕ) (xs ys : List X) → n ≡ length xs → take n (xs ++ ys) ≡ xs
take_front zero [] [] is = refl
take_front zero [] (y ∷ ys) is = refl
take_front (suc n) [] ys is = absurd (omega arith)
take_front zero (x ∷ xs) ys is = absurd (omega arith)
take_front (suc n) (x ∷ xs) ys is = ap (λ xs. x ∷ xs) (take_front n xs ys (omega arith))

pub on_any : {X E : Type 0} (result : Result X E) (P : Type 0) → P → OnOk result P
on_any (Ok answer) P holds = holds
on_any (Err fault) P holds = tt

pub on_err : {X E : Type 0} (result : Result X E) (P : Type 0) → P → OnErr result P
on_err (Ok answer) P holds = tt
on_err (Err fault) P holds = holds

same_flat : {X : Type 0} (f g : ℕ → List X) (first count : ℕ) → ((k : ℕ) → first ≤ k → k < first + count → f k ≡ g k) → flat_map f (range_with_len first count) ≡ flat_map g (range_with_len first count)
same_flat f g first zero same = refl
same_flat f g first (suc count) same =
    ap (λ front. front ++ flat_map f (range_with_len (first + 1) count)) (same first (omega arith) (omega arith))
    ∙ ap (λ back. g first ++ back) (same_flat f g (first + 1) count (λ k low high. same k (omega arith) (omega arith)))

module _ {D : Type 0} (view : DiskView D) (table : Table) where
  -- ---- each replica takes its steps

  pub record HasTakenTo (book : BookState) (at : ℤ) (index : ℕ) (old new : List (Member D)) : Type 0 where
    pub count : length new ≡ length old
    pub done : (who : ℕ) (one two : Member D) → who < index → slice_get old who ≡ Some one → slice_get new who ≡ Some two → TakesRound view table book at one two
    pub rest : (who : ℕ) → index ≤ who → slice_get new who ≡ slice_get old who

  pub taken_next : (book : BookState) (at : ℤ) (index : ℕ) (old now : List (Member D)) (member next : Member D) → HasTakenTo book at index old now → slice_get now index ≡ Some member
      → TakesRound view table book at member next → HasTakenTo book at (index + 1) old (set now index next)
  taken_next book at index old now member next so_far there takes = record {
    count = length-set now index next ∙ so_far.count;
    done = λ who one two below first second. elim (set_cases now index next who two second) [
      | inl here ↦
          let was : one ≡ member = some_one (slice_get old index) one member (subst (λ k. slice_get old k ≡ Some one) here.0 first) (sym (so_far.rest index (omega arith)) ∙ there) in
          subst (λ two. TakesRound view table book at one two) (sym here.1) (subst (λ m. TakesRound view table book at m next) (sym was) takes)
      | inr other ↦ let less : who < index = (let differs : who ≢ index = other.0 in omega arith) in so_far.done who one two less first other.1
    ];
    rest = λ who above. let differs : who ≢ index = λ same. omega arith in get_set_there now index next who differs ∙ so_far.rest who (omega arith);
  }

  pub all_taken : (book : BookState) (at : ℤ) (index : ℕ) (old now : List (Member D)) → index ≡ length old → HasTakenTo book at index old now → AllTakeRounds view table book at old now
  all_taken book at index old now whole so_far = record {
    count = so_far.count;
    each = λ who one two first second. so_far.done who one two (let within : who < length old = slice_get_within old who one first in omega arith) first second;
  }

  -- ---- the turns of all

  abbrev pub tasks_below : World D → ℕ → List Task
  tasks_below world count = flat_map (λ who. tasks_by who (causes_of (steps_at world who))) (range_with_len 0 count)

  pub record HasCommittedTo (number : ℕ) (old new : World D) : Type 0 where
    pub did : (rows : List Row) (situation : Situation) → IsAhead view table rows old situation
        → HasTakenTurns view table (book_of old).members rows situation (tasks_below old number) (steps_at new) new
    pub below : (who : ℕ) → who < number → steps_at new who ≡ []
    pub above : (who : ℕ) → number ≤ who → steps_at new who ≡ steps_at old who
    pub count : length new.members.items ≡ length old.members.items

  pub committed_at_first : (world : World D) → HasCommittedTo 0 world world
  committed_at_first world = record {
    did = λ rows situation ahead. taken_none view table rows situation (steps_at world) world ahead;
    below = λ who less. absurd (omega arith);
    above = λ who up. refl;
    count = refl;
  }

  pub may_commit_on : (number : ℕ) (old now : World D) → HasCommittedTo number old now → MayCommitOwn view table old → MayCommitOwn view table now
  may_commit_on number old now so_far may =
      let taken = so_far.did may.rows may.situation may.ahead in
      record { rows = may.rows ++ taken.more; situation = after_turns old.book.members may.situation taken.more; ahead = taken.ahead }

  tasks_more : (world : World D) (number : ℕ) → tasks_below world (number + 1) ≡ tasks_below world number ++ tasks_by number (causes_of (steps_at world number))
  tasks_more world number =
      ap (flat_map (λ who. tasks_by who (causes_of (steps_at world who)))) (range_more 0 number (0 + number) refl ∙ ap (λ n. range_with_len 0 number ++ n ∷ []) (omega arith))
      ∙ flat_map-append (λ who. tasks_by who (causes_of (steps_at world who))) (range_with_len 0 number) (number ∷ [])
      ∙ ap (λ last. tasks_below world number ++ last) (append_nil (tasks_by number (causes_of (steps_at world number))))

  pub committed_one_more : (number : ℕ) (old now new : World D) → HasCommittedTo number old now → CommitsOwn view table number now new → PutsDown number now new
      → HasCommittedTo (number + 1) old new
  committed_one_more number old now new so_far commits puts = record {
    did = λ rows situation ahead.
        subst (λ tasks. HasTakenTurns view table (book_of old).members rows situation tasks (steps_at new) new) (sym (tasks_more old number))
        (taken_then view table (book_of old).members rows situation (tasks_below old number) (tasks_by number (causes_of (steps_at old number))) (steps_at now) (steps_at new) now new
        (so_far.did rows situation ahead)
        (λ rows situation here. subst (λ steps. HasTakenTurns view table (book_of now).members rows situation (tasks_by number (causes_of steps)) (steps_at new) new)
        (so_far.above number (omega arith)) (commits rows situation here)));
    below = λ who less. elim (cases_eq who number) [
      | inl here ↦ ap (steps_at new) here ∙ puts.mine
      | inr other ↦ puts.others who other ∙ so_far.below who (omega arith)
    ];
    above = λ who up. let differs : who ≢ number = λ same. omega arith in puts.others who differs ∙ so_far.above who (omega arith);
    count = puts.count ∙ so_far.count;
  }

  pub commits_all : (number : ℕ) (old new : World D) → number ≡ length old.members.items → HasCommittedTo number old new → CommitsAll view table old new
  commits_all number old new whole so_far = record {
    commits = λ rows situation ahead. subst (λ n. HasTakenTurns view table (book_of old).members rows situation (tasks_below old n) (steps_at new) new) whole (so_far.did rows situation ahead);
    down = λ who. elim (cases_lt who number) [
      | inl less ↦ so_far.below who less
      | inr up ↦ so_far.above who up ∙ ap steps_left_to (slice_get_past old.members.items who (omega arith))
    ];
  }

  -- ---- a round

  -- a world with other replicas
  abbrev pub with_members : World D → List (Member D) → World D
  with_members world members = record world { members = with_items world.members members }

  pub all_held : (world : World D) (members : List (Member D)) (at : ℤ) → AllTakeRounds view table world.book at world.members.items members
      → AllTakeRounds view table world.book at world.members.items (with_members world members).members.items
  all_held world members at all =
      subst (λ members. AllTakeRounds view table world.book at world.members.items members)
      (sym (take_front world.members.len members (drop (length members) world.members.items) (world.members.ok.0 ∙ sym all.count))) all

  -- all have taken their steps
  round_at : (rows : List Row) (world middle : World D) (situation : Situation) (at : ℤ) (who : ℕ) (one two : Member D) → IsWorldAt view table rows world situation
      → AllTakeRounds view table world.book at world.members.items middle.members.items → slice_get world.members.items who ≡ Some one
      → slice_get middle.members.items who ≡ Some two → HasTakenRound view table rows world.book situation at who two
  round_at rows world middle situation at who one two is all first second =
      all.each who one two first second rows situation who (record { at = is.ahead.at; ahead = is.ahead.each who one first; none = is.idle who one first })

  rounds_ahead : (rows : List Row) (world middle : World D) (situation : Situation) (at : ℤ) → IsWorldAt view table rows world situation
      → AllTakeRounds view table world.book at world.members.items middle.members.items → middle.book ≡ world.book → middle.cuts ≡ world.cuts → middle.latest ≡ world.latest
      → IsAhead view table rows middle situation
  rounds_ahead rows world middle situation at is all book cuts latest = record {
    at = subst (λ book. IsBookAt table rows book situation) (sym book) is.ahead.at;
    count = all.count ∙ is.ahead.count ∙ sym (ap (λ (book : BookState). book.members) book);
    each = λ who two found.
        let one = found_below world.members.items who (let within : who < length middle.members.items = slice_get_within middle.members.items who two found in let same = all.count in omega arith) in
        let taken = round_at rows world middle situation at who one.0 two is all one.1 found in
        subst (λ book. IsMemberAhead view table rows book situation who (steps_at middle who) two) (sym book)
        (subst (λ steps. IsMemberAhead view table rows world.book situation who steps two) (sym (ap steps_left_to found)) taken.ahead);
    cuts = λ from to. ap (λ cuts. is_cut from to cuts.items) cuts ∙ is.ahead.cuts from to;
    latest = ap (λ minute. minute.0) latest ∙ is.ahead.latest;
  }

  -- and so the tasks of the round are at hand
  round_at_hand : (rows : List Row) (world middle : World D) (situation : Situation) (at : ℤ) → IsWorldAt view table rows world situation
      → AllTakeRounds view table world.book at world.members.items middle.members.items
      → tasks_at_hand middle ≡ round_tasks world.book.members table.window at situation
  round_at_hand rows world middle situation at is all =
      ap (λ n. flat_map (λ who. tasks_by who (causes_of (steps_at middle who))) (range_with_len 0 n)) (all.count ∙ is.ahead.count)
      ∙ same_flat (λ who. tasks_by who (causes_of (steps_at middle who))) (tasks_of table.window at situation) 0 world.book.members
      (λ who low high.
      let one = found_below world.members.items who (let same = is.ahead.count in omega arith) in
      let two = found_below middle.members.items who (let same = is.ahead.count in let count = all.count in omega arith) in
      let taken = round_at rows world middle situation at who one.0 two.0 is all one.1 two.1 in
      ap (λ found. tasks_by who (causes_of (steps_left_to found))) two.1 ∙ taken.tasks)

  -- no step is left
  pub put_down : (rows : List Row) (world : World D) (situation : Situation) → IsAhead view table rows world situation → ((who : ℕ) → steps_at world who ≡ [])
      → IsWorldAt view table rows world situation
  put_down rows world situation ahead down = record {
    ahead = ahead_same view table rows world situation (steps_at world) none_taken down ahead;
    idle = λ who member found. sym (ap steps_left_to found) ∙ down who;
  }

  pub posted_so_far : (rows : List Row) (world : World D) (situation : Situation) → IsWorldAt view table rows world situation
      → length world.book.letters ≡ length situation.standing.posted
  posted_so_far rows world situation is =
      sym (length-map world.book.letters posted_as) ∙ ap length is.ahead.at.behind.letters ∙ ap (λ (s : Standing). length s.posted) (sym is.ahead.at.standing)

  -- the turns of some tasks are taken, and then the letters join the mails
  pub performed : (rows : List Row) (world middle now new : World D) (situation : Situation) (tasks : List Task) → IsWorldAt view table rows world situation
      → HasTakenTurns view table world.book.members rows situation tasks (steps_at now) now → ((who : ℕ) → steps_at now who ≡ [])
      → Changes view (delivered (length world.book.letters)) now new
      → (more : List Row) × (after : Situation) × Performs world.book.members tasks situation more after × IsWorldAt view table (rows ++ more) new after
  performed rows world middle now new situation tasks is taken down changes = (
    taken.more,
    delivered (length world.book.letters) (after_turns world.book.members situation taken.more),
    record { turns = taken.turns; is = ap (λ n. delivered n (after_turns world.book.members situation taken.more)) (posted_so_far rows world situation is) },
    changes table (rows ++ taken.more) (after_turns world.book.members situation taken.more)
        (put_down (rows ++ taken.more) now (after_turns world.book.members situation taken.more) taken.ahead down),
  )

  pub round_goes : (world middle now new : World D) (at : ℤ) → AllTakeRounds view table world.book at world.members.items middle.members.items → middle.book ≡ world.book
      → middle.cuts ≡ world.cuts → middle.latest ≡ world.latest → CommitsAll view table middle now
      → Changes view (delivered (length world.book.letters)) now new
      → GoesOnBy view table (IsRound world.book.members table.window at) world new
  round_goes world middle now new at all book cuts latest commits changes = λ rows situation is.
      performed rows world middle now new situation (round_tasks world.book.members table.window at situation) is
      (subst (λ tasks. HasTakenTurns view table world.book.members rows situation tasks (steps_at now) now) (round_at_hand rows world middle situation at is all)
      (subst (λ n. HasTakenTurns view table n rows situation (tasks_at_hand middle) (steps_at now) now) (ap (λ (book : BookState). book.members) book)
      (commits.commits rows situation (rounds_ahead rows world middle situation at is all book cuts latest))))
      commits.down changes

  pub may_commit_round : (world middle : World D) (at : ℤ) → IsWorld view table world → AllTakeRounds view table world.book at world.members.items middle.members.items
      → middle.book ≡ world.book → middle.cuts ≡ world.cuts → middle.latest ≡ world.latest → MayCommitOwn view table middle
  may_commit_round world middle at is all book cuts latest =
      record { rows = is.rows; situation = is.situation; ahead = rounds_ahead is.rows world middle is.situation at is.is all book cuts latest }

  pub members_committed : (middle now : World D) → CommitsAll view table middle now → MayCommitOwn view table middle → now.book.members ≡ middle.book.members
  members_committed middle now commits may = (commits.commits may.rows may.situation may.ahead).members_are

  -- a replica of a world at rest may take its steps
  pub may_take_round : (world : World D) (who : ℕ) (member : Member D) → IsWorld view table world → slice_get world.members.items who ≡ Some member
      → MayTakeRound view table world.book member
  may_take_round world who member is found = record {
    rows = is.rows;
    situation = is.situation;
    who = who;
    idle = record { at = is.is.ahead.at; ahead = is.is.ahead.each who member found; none = is.is.idle who member found };
  }

  pub legal_world : (world : World D) → IsWorld view table world → IsLegalBook table world.book
  legal_world world is = (is.rows, is.is.ahead.at.behind)

  -- the world after all turns, for the letters that are to join the mails
  pub world_committed : (middle now : World D) → CommitsAll view table middle now → MayCommitOwn view table middle → IsWorld view table now
  world_committed middle now commits may =
      let taken = commits.commits may.rows may.situation may.ahead in
      record {
        rows = may.rows ++ taken.more;
        situation = after_turns middle.book.members may.situation taken.more;
        is = put_down (may.rows ++ taken.more) now (after_turns middle.book.members may.situation taken.more) taken.ahead commits.down;
      }

-- ---- rounds in which no disk is armed

module _ {D : Type 0} (view : DiskView D) (table : Table) where
  -- no replica of the world has a disk that is armed
  pub none_armed : (rows : List Row) (world : World D) (situation : Situation) → IsWorldAt view table rows world situation
      → ((who : ℕ) (member : Member D) → slice_get world.members.items who ≡ Some member → member.mail.arm ≡ None) → (who : ℕ) → who < world.book.members → situation.arms who ≡ None
  none_armed rows world situation is none who below =
      let found = found_below world.members.items who (let same = is.ahead.count in omega (arith, same, below)) in
      sym (is.ahead.each who found.0 found.1).mail.arm ∙ ap armed_in (none who found.0 found.1)

  pub unarmed_goes : (world new : World D) (at : ℤ) → ((who : ℕ) (member : Member D) → slice_get world.members.items who ≡ Some member → member.mail.arm ≡ None)
      → GoesOnBy view table (IsRound world.book.members table.window at) world new
      → GoesOnBy view table (PlaysByArms world.book.members (round_tasks world.book.members table.window at)) world new
  unarmed_goes world new at none goes = λ rows situation is.
      let part = goes rows situation is in (
        part.0,
        part.1,
        record {
          turns =
              plain_turns world.book.members world.book.members situation (round_tasks world.book.members table.window at situation) part.0 (none_armed rows world situation is none)
              (round_below table.window at situation world.book.members) part.2.turns;
          is = part.2.is;
        },
        part.3,
      )

-- ---- rounds after rounds

rounds_push : (n : ℕ) (window : Window) (at : ℤ) (count : ℕ) (situation middle after : Situation) (rows more : List Row) → AreRoundsByArms n window at count situation rows middle
    → PlaysByArms n (round_tasks n window at) middle more after → AreRoundsByArms n window at (suc count) situation (rows ++ more) after
rounds_push n window at zero situation middle after rows more rounds round = record {
  front = more;
  middle = after;
  back = [];
  parts = ap (λ rows. rows ++ more) rounds.none ∙ sym (append_nil more);
  one = subst (λ (s : Situation). PlaysByArms n (round_tasks n window at) s more after) rounds.is round;
  two = record { none = refl; is = refl };
}
rounds_push n window at (suc count) situation middle after rows more rounds round = record {
  front = rounds.front;
  middle = rounds.middle;
  back = rounds.back ++ more;
  parts = ap (λ rows. rows ++ more) rounds.parts ∙ append_assoc rounds.front rounds.back more;
  one = rounds.one;
  two = rounds_push n window at count rounds.middle middle after rounds.back more rounds.two round;
}

rounds_then : (n : ℕ) (window : Window) (at : ℤ) (count : ℕ) (situation middle after : Situation) (rows more : List Row) → AreRoundsByArms n window at count situation rows middle
    → PlaysByArms n (round_tasks n window at) middle more after → AreRoundsByArms n window at (count + 1) situation (rows ++ more) after
rounds_then n window at count situation middle after rows more rounds round =
    subst (λ k. AreRoundsByArms n window at k situation (rows ++ more) after) (sym (add-one count)) (rounds_push n window at count situation middle after rows more rounds round)

module _ {D : Type 0} (view : DiskView D) (table : Table) where
  pub record HasGone (at : ℤ) (count : ℕ) (old new : World D) : Type 0 where
    pub goes : GoesOnBy view table (AreRoundsByArms old.book.members table.window at count) old new
    pub members : new.book.members ≡ old.book.members
    pub world : IsWorld view table new

  pub gone_none : (at : ℤ) (world : World D) → IsWorld view table world → HasGone at 0 world world
  gone_none at world is = record {
    goes = λ rows situation here. ([], situation, record { none = refl; is = refl }, subst (λ rows. IsWorldAt view table rows world situation) (sym (append_nil rows)) here);
    members = refl;
    world = is;
  }

  pub gone_next : (at : ℤ) (count : ℕ) (old now new : World D) → HasGone at count old now → GoesOnBy view table (PlaysByArms now.book.members (round_tasks now.book.members table.window at)) now new
      → new.book.members ≡ now.book.members → HasGone at (count + 1) old new
  gone_next at count old now new so_far goes members = record {
    goes = λ rows situation is.
        let front = so_far.goes rows situation is in
        let back = goes (rows ++ front.0) front.1 front.3 in (
          front.0 ++ back.0,
          back.1,
          rounds_then old.book.members table.window at count situation front.1 back.1 front.0 back.0 front.2 (subst (λ n. PlaysByArms n (round_tasks n table.window at) front.1 back.0 back.1) so_far.members back.2),
          subst (λ rows. IsWorldAt view table rows new back.1) (append_assoc rows front.0 back.0) back.3,
        );
    members = members ∙ so_far.members;
    world = let here = so_far.world in let back = goes here.rows here.situation here.is in record { rows = here.rows ++ back.0; situation = back.1; is = back.3 };
  }
