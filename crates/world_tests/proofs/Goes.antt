-- The book, and the replica whose turn it is, after the turn.
use Rattle.std.proofs.Common.{◌≡◌, ℕ, List, [], ◌∷◌, ◌++◌, length, Option, Some, None, IsSome, IsNone, Contains, refl, ap, ◌∙◌, sym, subst, false, true}
use Rattle.std.specs.Option.{option_to_list}
use Rattle.std.proofs.lemmas.Bool.{eq-eqb, false≢true, true≢false}
use Rattle.paxos_base.specs.declared.durable.Durable.{Durable}
use Rattle.cluster_sched.specs.declared.row.SchedRow.{SchedRow}
use Rattle.due_set.specs.Table.{Table}
use Rattle.zone_minutes.specs.declared.minute.Minute.{Minute}
use Rattle.launch_machine.specs.Clerk.{first_rows}
use Rattle.step_spec.specs.Act.{Act}
use Rattle.step_spec.specs.State.{Identity, State, started}
use Rattle.step_spec.specs.Step.{Event, step}
use Rattle.step_spec.specs.Step as told
use Rattle.step_spec.specs.declared.out.OutLetter.{OutLetter}
use Rattle.history.specs.Book.{Row, Standing, after_row, answer_to, durable_after, late_call, standing_after, turn_of}
use Rattle.history.specs.Legal.{BringsNothing, IsMade, MayFollow}
use Rattle.history.specs.declared.turn.CallRow.{CallRow}
use Rattle.history.specs.declared.turn.Cause.{Cause}
use Rattle.history.specs.declared.turn.Cause.TheVariants.{Tick}
use Rattle.history.specs.declared.turn.Turn.{Turn}
use Rattle.history.specs.declared.turn.Turn.TheVariants.{Did, Stopped, Restarted, Arrived}
use Rattle.history.proofs.Acts.{with_here}
use Rattle.replica_core.specs.Replica.{ReplicaState}
use Rattle.replica_core.specs.declared.out.StepOut.{StepOut}
use Rattle.world_law.specs.Book.{BookState, Commits, HasRoom, IsSameBook, IsNext, IsRowOf, MayTickFor, StandsBehind, standing_behind}
use Rattle.world_law.specs.Replicas.{IsInputOf, IsTurnOf, StandsAt}
use Rattle.world_law.proofs.Called.{alike_stands, late_at_rest}
use Rattle.world_law.proofs.Steps.{step_is_turn, step_may_call}
use Rattle.world_tests.specs.Scene.{HasArrived}
use Rattle.world_tests.specs.Seat.{GoesOnByTurn, HasTakenStep, IsBookAtRest, IsDown, IsInBook, IsWhereLeft, IsNothing, RunsThere, IsSeated, IsStarted, SeatState}
use Rattle.world_tests.proofs.Kept.{kept_after}
use Rattle.world_tests.proofs.Left.{next_stands}

-- The book `during` has the rows of `book` behind it, with a call that was made since; `after` has one row more.
pub record Joins (table : Table) (book during after : BookState) (turn : Turn) (out : StepOut) : Type 0 where
  pub members : during.members ≡ book.members
  pub stands : (rows : List Row) → StandsBehind table rows book → StandsBehind table rows during
  pub commits : Commits turn out.letters during after
  pub added : (rows : List Row) (row : Row) → StandsBehind table rows during → IsRowOf turn out row
      → MayFollow during.members table (standing_behind table rows during) row.turn row → StandsBehind table (rows ++ row ∷ []) after

-- the book is at rest with the row of the turn
rests_next : (table : Table) (book during after : BookState) (turn : Turn) (out : StepOut) (rows : List Row) (row : Row) → Joins table book during after turn out
    → IsBookAtRest table rows book → IsRowOf turn out row → MayFollow book.members table (standing_behind table rows book) row.turn row
    → IsBookAtRest table (rows ++ row ∷ []) after
rests_next table book during after turn out rows row joins rests is may = record {
  behind = joins.added rows row (joins.stands rows rests.behind) is (rw joins.members may);
  few = rw (joins.commits.members ∙ joins.members) rests.few;
  rest = joins.commits.pending;
}

next_of : (table : Table) (book during : BookState) (turn : Turn) (out : StepOut) (rows : List Row) (row : Row) → during.members ≡ book.members
    → StandsBehind table rows during → IsRowOf turn out row → MayFollow book.members table (standing_behind table rows book) row.turn row → IsNext table during turn out
next_of table book during turn out rows row members behind is may = record { rows = rows; behind = behind; row = row; is = is; may = rw members may }

-- ---- a step

-- a replica that runs is as the rows leave it
running_left : (table : Table) (rows : List Row) (book : BookState) (who : ℕ) (durable : Durable) (running : Option ReplicaState) (replica : ReplicaState)
    → running ≡ Some replica → IsWhereLeft table rows book who durable running → RunsThere table rows book who replica
running_left table rows book who durable running replica is left = subst (IsWhereLeft table rows book who durable) is left

-- the turn of a step
turn_of_step : (table : Table) (rows : List Row) (book : BookState) (who : ℕ) (cause : Cause) (made : Option CallRow) (old new : SeatState) (out : StepOut)
    → IsBookAtRest table rows book → IsSeated table rows book who old → (taken : HasTakenStep table book who cause old new out)
    → IsMade (standing_behind table rows book).held (option_to_list out.call) made → IsTurnOf table rows book who cause made out taken.steps.after
turn_of_step table rows book who cause made old new out rests seated taken call =
    let left = running_left table rows book who old.durable old.running taken.steps.before taken.steps.was seated.left in
    subst (λ who. IsTurnOf table rows book who cause made out taken.steps.after) left.me
    (step_is_turn table rows book cause made taken.input taken.steps.before taken.steps.after out rests.few rests.behind left.stands
    (subst (λ who. IsInputOf (standing_behind table rows book) book who cause taken.input) (sym left.me) (taken.told (standing_behind table rows book) seated.waits)) taken.inside
    taken.steps.steps call)

-- it may come next
pub step_may_come : (table : Table) (book during : BookState) (who : ℕ) (cause : Cause) (made : Option CallRow) (old new : SeatState) (out : StepOut)
    → (given : IsInBook table book who old) → HasTakenStep table book who cause old new out → during.members ≡ book.members
    → ((rows : List Row) → StandsBehind table rows book → StandsBehind table rows during)
    → ((rows : List Row) → StandsBehind table rows book → IsMade (standing_behind table rows book).held (option_to_list out.call) made)
    → IsNext table during (Did who cause made) out
step_may_come table book during who cause made old new out given taken members stands call =
    let turn = turn_of_step table given.rows book who cause made old new out given.rests given.seated taken (call given.rows given.rests.behind) in
    next_of table book during (Did who cause made) out given.rows turn.row members (stands given.rows given.rests.behind) turn.is turn.may

-- the answer of a call waits for the replica
answer_waits : (n : ℕ) (s : Standing) (turn : Turn) (who : ℕ) (cause : Cause) (made : Option CallRow) (event : Event) (letters : List OutLetter)
    → turn ≡ Did who cause made → (after_row n s turn event letters).waits who ≡ answer_to made
unfolding after_row
answer_waits n s turn who cause made event letters is = rw (is, eq-eqb who who refl) refl

-- what is kept after a step is on the disk
kept_stored : (table : Table) (rows : List Row) (book : BookState) (who : ℕ) (cause : Cause) (old new : SeatState) (out : StepOut) → IsSeated table rows book who old
    → (taken : HasTakenStep table book who cause old new out) → taken.steps.after.state.kept ≡ new.durable
kept_stored table rows book who cause old new out seated taken =
    let left = running_left table rows book who old.durable old.running taken.steps.before taken.steps.was seated.left in
    let acts : List Act = step taken.steps.before.identity taken.steps.steps.event taken.steps.before.state in
    let kept : taken.steps.before.state.kept ≡ old.durable =
    ap (λ (s : State). s.kept) (left.stands.state ∙ ap (standing_behind table rows book).replicas left.me) ∙ seated.kept in
    ap (λ (s : State). s.kept) taken.steps.steps.took.state ∙ kept_after acts taken.steps.before.state
    ∙ ap (λ deltas. durable_after deltas taken.steps.before.state.kept) taken.steps.steps.took.delta ∙ ap (durable_after (option_to_list out.delta)) kept
    ∙ sym taken.steps.durable

-- and the book goes on by it
pub step_goes_on : (table : Table) (book during after : BookState) (who : ℕ) (cause : Cause) (made : Option CallRow) (old new : SeatState) (out : StepOut)
    → HasTakenStep table book who cause old new out → Joins table book during after (Did who cause made) out
    → ((rows : List Row) → StandsBehind table rows book → IsMade (standing_behind table rows book).held (option_to_list out.call) made)
    → (rows : List Row) → IsBookAtRest table rows book → IsSeated table rows book who old
    → GoesOnByTurn table rows book after who (record { members = new.members; running = new.running; durable = new.durable; waits = answer_to made })
step_goes_on table book during after who cause made old new out taken joins call rows rests seated =
    let turn = turn_of_step table rows book who cause made old new out rests seated taken (call rows rests.behind) in
    let left = running_left table rows book who old.durable old.running taken.steps.before taken.steps.was seated.left in
    let me : taken.steps.after.identity.me ≡ who = ap (λ (self : Identity). self.me) taken.steps.steps.took.identity ∙ left.me in
    let same : after.members ≡ book.members = joins.commits.members ∙ joins.members in
    let at : StandsAt table (rows ++ turn.row ∷ []) after taken.steps.after = turn.stands after same in
    record {
      row = turn.row;
      whose = ap turn_of turn.is.turn_is;
      rests = rests_next table book during after (Did who cause made) out rows turn.row joins rests turn.is turn.may;
      members = same;
      seated = record {
        member = rw same seated.member;
        members = taken.steps.members ∙ seated.members ∙ sym same;
        kept =
            ap (λ (s : State). s.kept) (sym (at.state ∙ ap (standing_behind table (rows ++ turn.row ∷ []) after).replicas me))
            ∙ kept_stored table rows book who cause old new out seated taken;
        waits =
            ap (λ (s : Standing). s.waits who) (next_stands table rows turn.row book after same)
            ∙ answer_waits book.members (standing_behind table rows book) turn.row.turn who cause made turn.row.event turn.row.letters turn.is.turn_is;
        left =
            subst (IsWhereLeft table (rows ++ turn.row ∷ []) after who new.durable) (sym taken.steps.is) (record { me = me; stands = at });
      };
    }

-- the call of a tick may be made, once there is room for its turn
pub step_may_ask : (table : Table) (book during : BookState) (who : ℕ) (cause : Cause) (now : Minute) (old new : SeatState) (out : StepOut) (row : SchedRow)
    → (given : IsInBook table book who old) → HasTakenStep table book who cause old new out → IsSameBook during book → HasRoom (length out.letters) during
    → out.call ≡ Some row → cause ≡ Tick now → MayTickFor table during row
step_may_ask table book during who cause now old new out row given taken alike room call is =
    let left = running_left table given.rows book who old.durable old.running taken.steps.before taken.steps.was given.seated.left in
    step_may_call table given.rows during now taken.input taken.steps.before taken.steps.after out row
    (alike_stands table given.rows book during alike given.rests.behind)
    (record {
      identity = rw alike.members left.stands.identity;
      member = rw alike.members left.stands.member;
      runs = rw alike.members left.stands.runs;
      state = rw alike.members left.stands.state;
      of_table = left.stands.of_table;
    })
    (subst (λ cause. IsInputOf (standing_behind table given.rows book) book who cause taken.input) is
    (taken.told (standing_behind table given.rows book) given.seated.waits)) taken.inside taken.steps.steps call room

-- a call that was made once there was room for the turn
pub made_before : (table : Table) (book during : BookState) (calls : List SchedRow) (made : Option CallRow) → IsSameBook during book
    → ((rows : List Row) → StandsBehind table rows during → IsMade (standing_behind table rows during).held calls made)
    → (rows : List Row) → StandsBehind table rows book → IsMade (standing_behind table rows book).held calls made
made_before table book during calls made alike call rows behind =
    subst (λ n. IsMade (standing_after n (first_rows table) rows).held calls made) alike.members (call rows (alike_stands table rows book during alike behind))

-- ---- turns of which nothing comes

-- the row of such a turn
abbrev pub still_row : Turn → Row
still_row turn = record { turn = turn; event = told.Campaign; letters = []; votes = []; learnt = [] }

still_is : (turn : Turn) (out : StepOut) → IsNothing out → IsRowOf turn out (still_row turn)
still_is turn out nothing = record { turn_is = refl; letters = sym nothing.letters; votes = rw nothing.delta refl; learnt = sym nothing.learnt }

still_brings : (turn : Turn) → BringsNothing (still_row turn)
still_brings turn = record { letters = refl; votes = refl; learnt = refl }

still_next : (table : Table) (book during : BookState) (turn : Turn) (out : StepOut) (rows : List Row) → IsBookAtRest table rows book → IsSameBook during book → IsNothing out
    → MayFollow book.members table (standing_behind table rows book) turn (still_row turn) → IsNext table during turn out
still_next table book during turn out rows rests alike nothing may =
    next_of table book during turn out rows (still_row turn) alike.members (alike_stands table rows book during alike rests.behind) (still_is turn out nothing) may

still_joins : (table : Table) (book during after : BookState) (turn : Turn) (out : StepOut) → IsSameBook during book → Commits turn out.letters during after
    → ((rows : List Row) (row : Row) → StandsBehind table rows during → IsRowOf turn out row
    → MayFollow during.members table (standing_behind table rows during) row.turn row → StandsBehind table (rows ++ row ∷ []) after)
    → Joins table book during after turn out
still_joins table book during after turn out alike commits added = record {
  members = alike.members;
  stands = λ rows behind. alike_stands table rows book during alike behind;
  commits = commits;
  added = added;
}

-- a stop between two steps
some_of : {X : Type 0} (found : Option X) → IsSome found → (x : X) × (found ≡ Some x)
some_of (Some x) is = (x, refl)
some_of None is = absurd (false≢true is)

none_of : {X : Type 0} (found : Option X) → IsNone found → found ≡ None
none_of (Some x) is = absurd (true≢false is)
none_of None is = refl

stop_may : (table : Table) (rows : List Row) (book : BookState) (who : ℕ) (seat : SeatState) (replica : ReplicaState) → IsSeated table rows book who seat
    → seat.running ≡ Some replica → MayFollow book.members table (standing_behind table rows book) (Stopped who None false) (still_row (Stopped who None false))
stop_may table rows book who seat replica seated is =
    let left = running_left table rows book who seat.durable seat.running replica is seated.left in
    (seated.member, sym (ap (standing_behind table rows book).runs left.me) ∙ left.stands.runs, refl, still_brings (Stopped who None false))

pub stop_may_come : (table : Table) (book during : BookState) (who : ℕ) (seat : SeatState) (out : StepOut) → IsInBook table book who seat
    → IsSome seat.running → IsSameBook during book → IsNothing out → IsNext table during (Stopped who None false) out
stop_may_come table book during who seat out given is alike nothing =
    let found = some_of seat.running is in
    still_next table book during (Stopped who None false) out given.rows given.rests alike nothing (stop_may table given.rows book who seat found.0 given.seated found.1)

record IsStopped (s after : Standing) (who : ℕ) : Type 0 where
  pub runs : after.runs who ≡ false
  pub waits : after.waits who ≡ None
  pub state : after.replicas who ≡ started who (s.replicas who).kept

stopped_there : (n : ℕ) (s : Standing) (who : ℕ) (event : Event) (letters : List OutLetter) → IsStopped s (after_row n s (Stopped who None false) event letters) who
unfolding after_row
stopped_there n s who event letters = record {
  runs = rw (eq-eqb who who refl) refl;
  waits = rw (eq-eqb who who refl) refl;
  state = with_here who (started who (s.replicas who).kept) s.replicas;
}

pub stop_goes_on : (table : Table) (book during after : BookState) (who : ℕ) (seat : SeatState) (out : StepOut) → IsSome seat.running
    → IsSameBook during book → IsNothing out → Commits (Stopped who None false) out.letters during after
    → ((rows : List Row) (row : Row) → StandsBehind table rows during → IsRowOf (Stopped who None false) out row
    → MayFollow during.members table (standing_behind table rows during) row.turn row → StandsBehind table (rows ++ row ∷ []) after)
    → (rows : List Row) → IsBookAtRest table rows book → IsSeated table rows book who seat
    → GoesOnByTurn table rows book after who (record { members = seat.members; running = None; durable = seat.durable; waits = None })
stop_goes_on table book during after who seat out is alike nothing commits added rows rests seated =
    let found = some_of seat.running is in
    let turn : Turn = Stopped who None false in
    let same : after.members ≡ book.members = commits.members ∙ alike.members in
    let there : IsStopped (standing_behind table rows book) (standing_behind table (rows ++ still_row turn ∷ []) after) who =
    subst (λ s. IsStopped (standing_behind table rows book) s who) (sym (next_stands table rows (still_row turn) book after same))
    (stopped_there book.members (standing_behind table rows book) who told.Campaign []) in
    let state = there.state ∙ ap (started who) seated.kept in
    record {
      row = still_row turn;
      whose = refl;
      rests =
          rests_next table book during after turn out rows (still_row turn) (still_joins table book during after turn out alike commits added) rests
          (still_is turn out nothing) (stop_may table rows book who seat found.0 seated found.1);
      members = same;
      seated = record {
        member = rw same seated.member;
        members = seated.members ∙ sym same;
        kept = ap (λ (s : State). s.kept) state;
        waits = there.waits;
        left = record { runs = there.runs; state = state };
      };
    }

-- a start after a stop
down_left : (table : Table) (rows : List Row) (book : BookState) (who : ℕ) (durable : Durable) (running : Option ReplicaState)
    → running ≡ None → IsWhereLeft table rows book who durable running → IsDown (standing_behind table rows book) who durable
down_left table rows book who durable running is left = subst (IsWhereLeft table rows book who durable) is left

restart_may : (table : Table) (rows : List Row) (book : BookState) (who : ℕ) (seat : SeatState) → IsSeated table rows book who seat → seat.running ≡ None
    → MayFollow book.members table (standing_behind table rows book) (Restarted who) (still_row (Restarted who))
restart_may table rows book who seat seated is =
    (seated.member, (down_left table rows book who seat.durable seat.running is seated.left).runs, still_brings (Restarted who))

pub restart_may_come : (table : Table) (book during : BookState) (who : ℕ) (seat : SeatState) (out : StepOut) → IsInBook table book who seat → IsNone seat.running
    → IsSameBook during book → IsNothing out → IsNext table during (Restarted who) out
restart_may_come table book during who seat out given is alike nothing =
    still_next table book during (Restarted who) out given.rows given.rests alike nothing
    (restart_may table given.rows book who seat given.seated (none_of seat.running is))

record HasRestarted (s after : Standing) (who : ℕ) : Type 0 where
  pub runs : after.runs who ≡ true
  pub waits : after.waits who ≡ s.waits who
  pub state : after.replicas who ≡ s.replicas who

restarted_there : (n : ℕ) (s : Standing) (who : ℕ) (event : Event) (letters : List OutLetter) → HasRestarted s (after_row n s (Restarted who) event letters) who
unfolding after_row
restarted_there n s who event letters = record { runs = rw (eq-eqb who who refl) refl; waits = refl; state = refl }

pub restart_goes_on : (table : Table) (book during after : BookState) (who : ℕ) (seat : SeatState) (replica : ReplicaState) (out : StepOut) → IsNone seat.running
    → IsStarted table who seat.members seat.durable replica → IsSameBook during book → IsNothing out → Commits (Restarted who) out.letters during after
    → ((rows : List Row) (row : Row) → StandsBehind table rows during → IsRowOf (Restarted who) out row
    → MayFollow during.members table (standing_behind table rows during) row.turn row → StandsBehind table (rows ++ row ∷ []) after)
    → (rows : List Row) → IsBookAtRest table rows book → IsSeated table rows book who seat
    → GoesOnByTurn table rows book after who (record { members = seat.members; running = Some replica; durable = seat.durable; waits = seat.waits })
restart_goes_on table book during after who seat replica out is begun alike nothing commits added rows rests seated =
    let turn : Turn = Restarted who in
    let same : after.members ≡ book.members = commits.members ∙ alike.members in
    let there : HasRestarted (standing_behind table rows book) (standing_behind table (rows ++ still_row turn ∷ []) after) who =
    subst (λ s. HasRestarted (standing_behind table rows book) s who) (sym (next_stands table rows (still_row turn) book after same))
    (restarted_there book.members (standing_behind table rows book) who told.Campaign []) in
    let down = down_left table rows book who seat.durable seat.running (none_of seat.running is) seated.left in
    let me : replica.identity.me ≡ who = ap (λ (self : Identity). self.me) begun.identity in
    record {
      row = still_row turn;
      whose = refl;
      rests =
          rests_next table book during after turn out rows (still_row turn) (still_joins table book during after turn out alike commits added) rests
          (still_is turn out nothing) (restart_may table rows book who seat seated (none_of seat.running is));
      members = same;
      seated = record {
        member = rw same seated.member;
        members = seated.members ∙ sym same;
        kept = ap (λ (s : State). s.kept) there.state ∙ seated.kept;
        waits = there.waits ∙ seated.waits;
        left = record {
          me = me;
          stands = record {
            identity = begun.identity ∙ rw (me, same, seated.members) refl;
            member = rw (me, same) seated.member;
            runs = ap (standing_behind table (rows ++ still_row turn ∷ []) after).runs me ∙ there.runs;
            state =
                begun.state ∙ sym down.state ∙ sym there.state ∙ sym (ap (standing_behind table (rows ++ still_row turn ∷ []) after).replicas me);
            of_table = begun.of_table;
          };
        };
      };
    }

-- ---- an arrival

-- the late call has not arrived yet
pub record IsAwaited (book : BookState) (late : ℕ) : Type 0 where
  pub there : IsSome (late_call late book.ledger.late)
  pub first : Contains book.arrived late → ⊥

arrival_may : (table : Table) (rows : List Row) (book : BookState) (late : ℕ) → IsBookAtRest table rows book → IsAwaited book late
    → MayFollow book.members table (standing_behind table rows book) (Arrived late) (still_row (Arrived late))
arrival_may table rows book late rests awaited =
    let found = some_of (late_call late book.ledger.late) awaited.there in (
      record {
        row = found.0;
        there = ap (late_call late) (sym (late_at_rest table rows book rests.rest rests.behind)) ∙ found.1;
        first = λ has. awaited.first (subst (λ arrived. Contains arrived late) (sym rests.behind.arrived) has);
      },
      still_brings (Arrived late),
    )

pub arrival_may_come : (table : Table) (rows : List Row) (book during : BookState) (late : ℕ) (out : StepOut) → IsBookAtRest table rows book → IsAwaited book late
    → IsSameBook during book → IsNothing out → IsNext table during (Arrived late) out
arrival_may_come table rows book during late out rests awaited alike nothing =
    still_next table book during (Arrived late) out rows rests alike nothing (arrival_may table rows book late rests awaited)

pub arrival_goes_on : (table : Table) (book during after : BookState) (late : ℕ) (out : StepOut) → IsAwaited book late → IsSameBook during book → IsNothing out
    → Commits (Arrived late) out.letters during after
    → ((rows : List Row) (row : Row) → StandsBehind table rows during → IsRowOf (Arrived late) out row
    → MayFollow during.members table (standing_behind table rows during) row.turn row → StandsBehind table (rows ++ row ∷ []) after)
    → (rows : List Row) → IsBookAtRest table rows book → HasArrived table rows book after late
arrival_goes_on table book during after late out awaited alike nothing commits added rows rests = record {
  row = still_row (Arrived late);
  turn = refl;
  rests =
      rests_next table book during after (Arrived late) out rows (still_row (Arrived late))
      (still_joins table book during after (Arrived late) out alike commits added) rests (still_is (Arrived late) out nothing)
      (arrival_may table rows book late rests awaited);
  members = commits.members ∙ alike.members;
}
