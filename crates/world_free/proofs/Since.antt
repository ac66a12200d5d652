-- What stands at a seat's next turn, and behind it: others alone have had turns since the seat's last.
use Rattle.std.proofs.Common.{◌≡◌, ◌⊎◌, ℕ, zero, suc, ◌<◌, ◌≤◌, true, List, [], ◌∷◌, ◌++◌, length, map, Some, None, refl, sym, ap, ◌∙◌, subst, inl, inr, arith, append_assoc}
use Rattle.std.specs.List.{slice_get}
use Rattle.std.proofs.lemmas.List.{length-append, length-map}
use Rattle.std.proofs.lemmas.List.Elements.{filter-append}
use Rattle.paxos_base.specs.declared.durable.Delta.{Delta}
use Rattle.step_spec.specs.Folds.{deltas_of}
use Rattle.step_spec.specs.State.{State}
use Rattle.step_spec.specs.Step.{Event, step}
use Rattle.agreement.specs.Transition.{identity_of}
use Rattle.history.specs.Book.{PostedLetter, Row, Standing, acts_at, turn_of}
use Rattle.history.specs.Legal.{IsLegal, MayFollow, TakesTurn}
use Rattle.history.specs.declared.turn.Cause.{Cause}
use Rattle.history.specs.declared.turn.Cause.TheVariants.{Campaign, Tick, Hear, Answer}
use Rattle.replica_core.specs.Replica.{ReplicaState}
use Rattle.replica_core.specs.Step.{IsEventOf, IsInputInside}
use Rattle.replica_core.specs.declared.input.Input.{Input}
use Rattle.script_semantics.specs.Free.{after_all_posted, after_posted}
use Rattle.script_semantics.specs.Situation.{Situation}
use Rattle.script_semantics.specs.Others.{AreOthers}
use Rattle.script_semantics.proofs.FreeMailLemmas.{Passes}
use Rattle.turn_book.specs.Rows.{BeginsWith, is_seat}
use Rattle.turn_book.specs.Turns.{first_rows_by, own_rows, seen_by}
use Rattle.world_law.specs.Book.{BookState, StandsBehind, posted_as, standing_behind}
use Rattle.world_law.specs.Replicas.{IsInputOf, IsLetterInput, StandsAt}
use Rattle.world_law.specs.Rows.{HasRows, HasTurnOf}
use Rattle.world_law.specs.declared.letter.LetterRow.{LetterRow}
use Rattle.world_law.specs.declared.row.BookRow.{BookRow}
use Rattle.world_law.proofs.Rows.{turns_are, turns_behind}
use Rattle.world_law.proofs.Steps.{takes_turn}
use Rattle.world_steps.specs.Nodes.{bases_behind}
use Rattle.world_steps.specs.Steps.{IsToldOf, waits_in}
use Rattle.world_steps.proofs.Bases.{deltas_at}
use Rattle.world_steps.proofs.Foreseen.{is_input}
use Rattle.world_free.specs.Jobs.{ArePlayedRows, IsOfPlan, situation_in}
use Rattle.world_free.specs.Plan.{ArePlayed, FreePlan, Seat, SharedBook}
use Rattle.world_free.specs.Seats.{IsSeatAt, rows_by}
use Rattle.world_free.proofs.BaseLemmas.{bases_still, situation_bases}
use Rattle.world_free.proofs.Gone.{others_behind, others_leave_it, situation_more, situation_next}
use Rattle.world_free.proofs.Lists.{cut_front, none_behind, zip_one, zip_split}
use Rattle.world_free.proofs.Played.{Split, played_stand, situation_stands, split_played, stands_in}
use Rattle.world_free.proofs.Stepping.{posted_row}
use Rattle.history.proofs.FrontLemmas.{follows_there as may_next}
use Rattle.step_spec.proofs.ListLemmas.{found_still as found_more}

-- ---- what others have added

-- what others have added to the rows that a seat has seen
pub record Since (who : ℕ) (after now : List BookRow) : Type 0 where
  pub gone : List BookRow
  pub goes_on : now ≡ after ++ gone
  pub others : rows_by who gone ≡ []

pub since : (book : SharedBook) (who : ℕ) (first after now : List BookRow) (seat : Seat) → IsSeatAt book who after seat → ((rows : List BookRow) → first_rows_by seat ≡ Some rows → rows ≡ first)
    → own_rows seat ≡ rows_by who now → BeginsWith (first ++ now) (seen_by seat) → Since who after now
since book who first after now seat at same owns begins = go at.seen
  where
    go : ((first_rows_by seat ≡ None) × (seen_by seat ≡ []) × (after ≡ [])) ⊎ ((begun : List BookRow) × (first_rows_by seat ≡ Some begun) × (seen_by seat ≡ begun ++ after)) → Since who after now
    go (inl nothing) = record {
      gone = now;
      goes_on = ap (λ (l : List BookRow). l ++ now) (sym nothing.2);
      others = sym owns ∙ at.own ∙ ap (rows_by who) nothing.2;
    }
    go (inr shown) =
        let begun : shown.0 ≡ first = same shown.0 shown.1 in
        let more : now ≡ after ++ begins.0 =
        cut_front first now (after ++ begins.0)
        (begins.1 ∙ ap (λ (l : List BookRow). l ++ begins.0) (shown.2 ∙ ap (λ (l : List BookRow). l ++ after) begun) ∙ append_assoc first after begins.0) in
        record {
          gone = begins.0;
          goes_on = more;
          others =
              none_behind (rows_by who after) (rows_by who begins.0)
              (sym (filter-append (λ (row : BookRow). is_seat who (turn_of row.turn)) after begins.0) ∙ ap (rows_by who) (sym more) ∙ sym owns ∙ at.own);
        }

-- ---- the rows behind the book as it is now

-- these rows of the part have what the book has, and stand behind it
pub record IsHere (plan : FreePlan) (rows : List BookRow) (state : BookState) : Type 0 where
  pub begun : List Row
  pub more : List Row
  pub are : ArePlayed plan rows begun more
  pub behind : StandsBehind plan.table (begun ++ more) state

pub is_here : (plan : FreePlan) (first rows : List BookRow) (state : BookState) → HasRows plan.table first plan.book → HasRows plan.table (first ++ rows) state → state.members ≡ plan.book.members
    → IsHere plan rows state
is_here plan first rows state begins has members =
    let two = zip_split HasTurnOf first rows has.behind has.each in
    record {
      begun = two.one;
      more = two.other;
      are = record {
        legal = subst (λ n. IsLegal n plan.table (two.one ++ two.other)) members (subst (λ all. IsLegal state.members plan.table all) two.parts has.stands.legal);
        turns = sym (turns_are plan.table first plan.book begins) ∙ sym (turns_behind first two.one two.first);
        each = two.second;
      };
      behind = subst (λ all. StandsBehind plan.table all state) two.parts has.stands;
    }

pub stands_here : (plan : FreePlan) (rows : List BookRow) (state : BookState) (here : IsHere plan rows state) → state.members ≡ plan.book.members
    → standing_behind plan.table (here.begun ++ here.more) state ≡ stands_in plan (here.begun ++ here.more)
stands_here plan rows state here members = rw members refl

-- ---- what stands after turns of others

pub record StandsStill (who : ℕ) (old new : Standing) : Type 0 where
  pub replica : new.replicas who ≡ old.replicas who
  pub runs : new.runs who ≡ old.runs who
  pub waits : new.waits who ≡ old.waits who
  pub posted : List PostedLetter
  pub posted_is : new.posted ≡ old.posted ++ posted

pub still_of : (who : ℕ) (old new : Situation) → Passes who old new → StandsStill who old.standing new.standing
still_of who old new passes = record { replica = passes.replica; runs = passes.runs; waits = passes.waits; posted = passes.posted; posted_is = passes.posted_is }

-- ---- letters, and the cause

pub told_still : (old new : Standing) (letters now : List LetterRow) (who : ℕ) (cause : Cause) (input : Input) → StandsStill who old new → map posted_as letters ≡ old.posted → map posted_as now ≡ new.posted
    → IsToldOf letters (old.waits who) who cause input → IsToldOf now (new.waits who) who cause input
told_still old new letters now who Campaign input still were are told = told
told_still old new letters now who (Tick at) input still were are told = told
told_still old new letters now who (Hear number) input still were are told =
    let old_there : slice_get old.posted number ≡ Some (posted_as told.sent.letter) = ap (λ l. slice_get l number) (sym were) ∙ mapped letters number told.sent.letter told.sent.there in
    let there : slice_get (map posted_as now) number ≡ Some (posted_as told.sent.letter) =
    ap (λ l. slice_get l number) (are ∙ still.posted_is) ∙ found_more old.posted still.posted number (posted_as told.sent.letter) old_there in
    let row = posted_row now number (posted_as told.sent.letter) there in
    record {
      sent = record { letter = row.0; there = row.1; to = ap (λ (l : PostedLetter). l.to) row.2 ∙ told.sent.to };
      is = subst (λ bytes. IsLetterInput input bytes) (sym (ap (λ (l : PostedLetter). l.bytes) row.2)) told.is;
    }
  where
    mapped : (xs : List LetterRow) (k : ℕ) (x : LetterRow) → slice_get xs k ≡ Some x → slice_get (map posted_as xs) k ≡ Some (posted_as x)
    mapped [] k x is = absurd cc
    mapped (y ∷ xs) zero x is = ap (λ (z : LetterRow). Some (posted_as z)) (let same : y ≡ x = cc in same)
    mapped (y ∷ xs) (suc k) x is = mapped xs k x is
told_still old new letters now who Answer input still were are told = record { row = told.row; waiting = still.waits ∙ told.waiting; is = told.is }

-- Rows that have what a seat has seen, and rows of others behind that, and then one row, which may follow these rows of the book.
pub record Lately (plan : FreePlan) (who : ℕ) (after : List BookRow) (state : BookState) (rows_now : List Row) (row_now : BookRow) (begun more : List Row) : Type 0 where
  pub one : List Row
  pub other : List Row
  pub row : Row
  pub first : ArePlayed plan after begun one
  pub is : HasTurnOf row_now row
  pub others : AreOthers who other
  pub parts : more ≡ (one ++ other) ++ row ∷ []
  pub stands : (after_all_posted plan.book.members (situation_in plan one) other).standing ≡ standing_behind plan.table rows_now state
  pub may : MayFollow state.members plan.table (standing_behind plan.table rows_now state) row.turn row

-- What the seat of a replica has seen since the part began; and the book as it is now, where others alone have had turns since.
module _ (plan : FreePlan) (book : SharedBook) (who : ℕ) (after : List BookRow) (of_plan : IsOfPlan plan book) (some : ArePlayedRows plan after) (gone : List BookRow) (others : rows_by who gone ≡ [])
    (state : BookState) (here : IsHere plan (after ++ gone) state) (rest : state.pending ≡ None) (members : state.members ≡ plan.book.members) where
  abbrev pub rows_now : List Row
  rows_now = here.begun ++ here.more

  abbrev pub rows_seen : List Row
  rows_seen = some.begun ++ some.more

  -- the rows that the seat has seen, and those of others behind them
  abbrev pub two : Split plan after gone here.begun here.more
  two = split_played plan after gone here.begun here.more here.are

  none : AreOthers who two.other
  none = others_behind who gone two.other two.second others

  now : (situation_in plan here.more).standing ≡ standing_behind plan.table rows_now state
  now = situation_stands plan book (after ++ gone) here.begun here.more of_plan here.are ∙ sym (stands_here plan (after ++ gone) state here members)

  -- where the step was taken
  then : (situation_in plan two.one).standing ≡ standing_behind plan.table rows_seen some.book
  then =
      situation_stands plan book after here.begun two.one of_plan two.first
      ∙ played_stand plan after here.begun two.one some.begun some.more two.first some.are ∙ rw some.members refl

  passes : Passes who (situation_in plan two.one) (situation_in plan here.more)
  passes = subst (λ (more : List Row). Passes who (situation_in plan two.one) (situation_in plan more)) (sym two.parts) (others_leave_it plan who two.one two.other none)

  still : StandsStill who (standing_behind plan.table rows_seen some.book) (standing_behind plan.table rows_now state)
  still =
      subst (λ (old : Standing). StandsStill who old (standing_behind plan.table rows_now state)) then
      (subst (λ (new : Standing). StandsStill who (situation_in plan two.one).standing new) now (still_of who (situation_in plan two.one) (situation_in plan here.more) passes))

  -- ---- what the replica was told it is told here

  pub few_here : state.members ≤ 7
  few_here = rw members of_plan.at.few

  pub still_at : (old : ReplicaState) → StandsAt plan.table rows_seen some.book old → old.identity.me ≡ who → StandsAt plan.table rows_now state old
  still_at old stands me = record {
    identity = stands.identity ∙ rw (members, some.members) refl;
    member = rw members (subst (λ n. old.identity.me < n) some.members stands.member);
    runs = rw me (still.runs ∙ subst (λ me. (standing_behind plan.table rows_seen some.book).runs me ≡ true) me stands.runs);
    state =
        stands.state ∙ ap (standing_behind plan.table rows_seen some.book).replicas me ∙ sym still.replica
        ∙ ap (standing_behind plan.table rows_now state).replicas (sym me);
    of_table = stands.of_table;
  }

  pub told_here : (cause : Cause) (input : Input) → IsToldOf some.book.letters (waits_in plan.table rows_seen some.book who) who cause input
      → IsToldOf state.letters (waits_in plan.table rows_now state who) who cause input
  told_here cause input told =
      told_still (standing_behind plan.table rows_seen some.book) (standing_behind plan.table rows_now state) some.book.letters state.letters who cause
      input still some.behind.letters here.behind.letters told

  pub input_here : (cause : Cause) (input : Input) (me : ℕ) → me ≡ who → IsToldOf state.letters (waits_in plan.table rows_now state who) who cause input
      → IsInputOf (standing_behind plan.table rows_now state) state me cause input
  input_here cause input me same told =
      subst (λ (w : ℕ). IsInputOf (standing_behind plan.table rows_now state) state w cause input) (sym same)
      (is_input (standing_behind plan.table rows_now state) state state.letters (waits_in plan.table rows_now state who) who cause input (λ number letter there. there) (λ row is. is) told)

  pub takes_here : (cause : Cause) (input : Input) (old : ReplicaState) (event : Event) → StandsAt plan.table rows_now state old → old.identity.me ≡ who
      → IsToldOf state.letters (waits_in plan.table rows_now state who) who cause input → IsInputInside plan.table input → IsEventOf plan.table old input event
      → TakesTurn state.members plan.table (standing_behind plan.table rows_now state) old.identity.me cause event
  takes_here cause input old event at me told inside is =
      takes_turn plan.table rows_now state cause input old event here.behind at (input_here cause input old.identity.me me told) inside is

  -- the replica has kept as many bases
  pub bases_here : (begun more : List Row) → ArePlayed plan after begun more → bases_behind plan.table rows_seen some.book who ≡ (situation_in plan more).bases who
  bases_here begun more are =
      rw some.members refl ∙ ap (λ (bases : ℕ → ℕ). bases who) (sym (situation_bases plan book after some.begun some.more of_plan some.are))
      ∙ bases_still plan book who after some.begun some.more begun more of_plan some.are are

  -- no letter was looked at that isn't there
  pub looked_here : (looked : ℕ) → looked ≡ length (situation_in plan two.one).standing.posted → looked ≤ length state.letters
  looked_here looked was =
      let long = ap length passes.posted_is in
      let sum = length-append (situation_in plan two.one).standing.posted passes.posted in
      let same = ap (λ (s : Standing). length s.posted) now ∙ ap length (sym here.behind.letters) ∙ length-map state.letters posted_as in
      omega (arith, was, long, sum, same)

  -- ---- with one row more

  -- whatever rows have what the seat has seen with one row more
  pub lately : (row_now : BookRow) (begun more : List Row) → ArePlayed plan ((after ++ gone) ++ row_now ∷ []) begun more → Lately plan who after state rows_now row_now begun more
  lately row_now begun more are = record {
    one = front.one;
    other = front.other;
    row = one_row.0;
    first = front.first;
    is = one_row.2;
    others = others_behind who gone front.other front.second others;
    parts = last.parts ∙ ap (λ rows. last.one ++ rows) one_row.1 ∙ ap (λ rows. rows ++ one_row.0 ∷ []) front.parts;
    stands =
        ap (λ (s : Situation). s.standing) (sym (situation_more plan front.one front.other) ∙ ap (situation_in plan) (sym front.parts))
        ∙ situation_stands plan book (after ++ gone) begun last.one of_plan last.first ∙ stands_before;
    may =
        subst (λ (n : ℕ). MayFollow n plan.table (standing_behind plan.table rows_now state) one_row.0.turn one_row.0) (sym members)
        (subst (λ (s : Standing). MayFollow plan.book.members plan.table s one_row.0.turn one_row.0) stands_before
        (may_next plan.book.members plan.table (begun ++ last.one) [] one_row.0
        (subst (λ rows. IsLegal plan.book.members plan.table rows)
        (ap (λ rows. begun ++ rows) (last.parts ∙ ap (λ rows. last.one ++ rows) one_row.1) ∙ sym (append_assoc begun last.one (one_row.0 ∷ []))) are.legal)));
  }
    where
      last : Split plan (after ++ gone) (row_now ∷ []) begun more
      last = split_played plan (after ++ gone) (row_now ∷ []) begun more are

      front : Split plan after gone begun last.one
      front = split_played plan after gone begun last.one last.first

      one_row : (row : Row) × (last.other ≡ row ∷ []) × HasTurnOf row_now row
      one_row = zip_one HasTurnOf row_now last.other last.second

      stands_before : stands_in plan (begun ++ last.one) ≡ standing_behind plan.table rows_now state
      stands_before =
          played_stand plan (after ++ gone) begun last.one here.begun here.more last.first here.are ∙ sym (stands_here plan (after ++ gone) state here members)

-- ---- at the last row

module _ (plan : FreePlan) (who : ℕ) (after : List BookRow) (state : BookState) (rows_now : List Row) (row_now : BookRow) (begun more : List Row)
    (lately : Lately plan who after state rows_now row_now begun more) (members : state.members ≡ plan.book.members) where
  -- the situation that the seat saw last, and the one before the row
  abbrev pub saw : Situation
  saw = situation_in plan lately.one

  abbrev pub before : Situation
  before = after_all_posted plan.book.members saw lately.other

  pub left_by : Passes who saw before
  left_by = subst (λ (s : Situation). Passes who saw s) (situation_more plan lately.one lately.other) (others_leave_it plan who lately.one lately.other lately.others)

  pub is_then : situation_in plan more ≡ after_posted plan.book.members before lately.row
  is_then =
      ap (situation_in plan) lately.parts ∙ situation_next plan (lately.one ++ lately.other) lately.row
      ∙ ap (λ s. after_posted plan.book.members s lately.row) (situation_more plan lately.one lately.other)

  -- of a step for the cause that the replica has begun here, the row's change is that of the step
  pub changes_before : (cause : Cause) (old : ReplicaState) (event : Event) (changes : List Delta) → StandsAt plan.table rows_now state old → old.identity.me ≡ who
      → TakesTurn state.members plan.table (standing_behind plan.table rows_now state) old.identity.me cause event → deltas_of (step old.identity event old.state) ≡ changes
      → TakesTurn state.members plan.table (standing_behind plan.table rows_now state) who cause lately.row.event
      → deltas_of (acts_at plan.book.members before.standing who lately.row.event) ≡ changes
  changes_before cause old event changes at me takes is mine =
      let s = standing_behind plan.table rows_now state in
      ap (λ (one : Standing). deltas_of (acts_at plan.book.members one who lately.row.event)) lately.stands
      ∙ ap (λ (n : ℕ). deltas_of (acts_at n s who lately.row.event)) (sym members)
      ∙ subst (λ (w : ℕ). deltas_of (acts_at state.members s w lately.row.event) ≡ deltas_of (step old.identity event old.state)) me
      (deltas_at plan.table rows_now state old cause event at takes lately.row.event (subst (λ (w : ℕ). TakesTurn state.members plan.table s w cause lately.row.event) (sym me) mine))
      ∙ is

  -- and it was so when the seat saw the book last
  pub changes_seen : (changes : List Delta) → deltas_of (acts_at plan.book.members before.standing who lately.row.event) ≡ changes
      → deltas_of (acts_at plan.book.members saw.standing who lately.row.event) ≡ changes
  changes_seen changes is = ap (λ (one : State). deltas_of (step (identity_of plan.book.members who) lately.row.event one)) (sym left_by.replica) ∙ is
