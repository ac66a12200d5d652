-- What a turn of a seat shows of the shared book, and what it leaves.
use Rattle.std.proofs.Common.{◌≡◌, ℕ, Bool, ◌+◌, ◌<◌, ◌≤◌, ◌^◌, List, [], ◌∷◌, ◌++◌, length, Some, None, Option, IfSome, refl, sym, ap, ◌∙◌, subst, inr, append_assoc}
use Rattle.std.specs.Prelude.{is_some}
use Rattle.std.specs.Option.{option_to_list}
use Rattle.disk_model.specs.View.{DiskView}
use Rattle.due_set.specs.Table.{Table}
use Rattle.history.specs.Book.{Row, turn_of}
use Rattle.history.specs.Legal.{IsMade}
use Rattle.history.specs.declared.turn.CallRow.{CallRow}
use Rattle.history.specs.declared.turn.Cause.{Cause}
use Rattle.history.specs.declared.turn.Turn.TheVariants.{Stopped}
use Rattle.paxos_base.specs.declared.durable.Delta.{Delta}
use Rattle.script_semantics.specs.Situation.{calls_for}
use Rattle.step_spec.specs.State.{started}
use Rattle.replica_core.specs.declared.out.StepOut.{StepOut}
use Rattle.replica_node.specs.Node.{replica_of}
use Rattle.replica_node.specs.declared.node.Node.{Node}
use Rattle.turn_book.specs.Turns.{IsSeatOf, IsTurnAt, ShowsHistory, ShowsRest, book_at, first_rows_at, first_rows_by, number_at, number_of, opening_at, opening_of, own_at, own_rows, seen_by, shown_at, state_at}
use Rattle.turn_book.specs.declared.turn.Turn.{Turn}
use Rattle.turn_book.specs.declared.view.Opening.{Opening}
use Rattle.turn_book.proofs.RowLemmas.{is_own}
use Rattle.world_law.specs.contracts.turns.BookLaw.TheImpl as law
use Rattle.world_law.specs.Book.{BookState, StandsBehind, standing_behind}
use Rattle.world_law.specs.Replicas.{change_alone}
use Rattle.world_law.specs.Rows.{HasRows, MayComeNext}
use Rattle.world_law.specs.declared.row.BookRow.{BookRow}
use Rattle.world_steps.specs.Nodes.{IsDiskAt}
use Rattle.world_steps.specs.Turns.{IsHalted, MayJoin, noted}
use Rattle.world_steps.specs.declared.steps.Taken.{Taken}
use Rattle.world_free.specs.Board.{TakesOneTurn}
use Rattle.world_free.specs.Jobs.{IsBroken, IsNodeFit, IsOfPlan, IsRunner, IsStepper, IsStopper, situation_in}
use Rattle.world_free.specs.Mails.{HasLooked}
use Rattle.world_free.specs.Plan.{FreePlan, Seat, SharedBook}
use Rattle.world_free.specs.Ready.{row_of_step, row_of_stop}
use Rattle.world_free.specs.Seats.{IsSeatAt, rows_by}
use Rattle.world_free.specs.declared.job.FreeJob.{FreeJob}
use Rattle.world_free.specs.declared.job.FreeMail.{FreeMail}
use Rattle.world_free.proofs.Halting as halted
use Rattle.world_free.proofs.Joining.{disk_then, gone_then, looked_within, mail_then, may_join, played_then, state_then}
use Rattle.world_free.proofs.Since.{IsHere, Since, is_here, since}

abbrev pub SeatTurn : Type 0
SeatTurn = Turn BookState Table BookRow StepOut

-- a row that may come next after the book's rows may after those that the turn shows
pub follows_there : (table : Table) (book : SharedBook) (seat : Seat) (turn : SeatTurn) (row : BookRow) (state : BookState) → (opening_of book).key.value ≡ table → IsTurnAt book seat turn
    → ShowsRest law.ghosts turn → state ≡ state_at turn → ((rows : List BookRow) → HasRows table rows state → MayComeNext state.members table rows row)
    → MayComeNext (opening_at turn).state.value.members table (shown_at turn) row
follows_there table book seat turn row state of at rests same next =
    let opening : opening_at turn ≡ opening_of book = ap (λ (b : SharedBook). opening_of b) at.of_book in
    let key : (opening_at turn).key.value ≡ table = ap (λ (o : Opening BookState Table). o.key.value) opening ∙ of in
    subst (λ (n : ℕ). MayComeNext n table (shown_at turn) row) (ap (λ (s : BookState). s.members) same ∙ rests.number)
    (next (shown_at turn)
    (subst (λ (s : BookState). HasRows table (shown_at turn) s) (sym same)
    (subst (λ (t : Table). HasRows t (shown_at turn) (state_at turn)) key rests.rows)))

-- In a turn of the seat the book has what the seat has seen, and rows of others behind that.
pub record Shows (plan : FreePlan) (who : ℕ) (after : List BookRow) (seat : Seat) (turn : SeatTurn) : Type 0 where
  pub first : List BookRow
  pub first_is : first_rows_at turn ≡ Some first
  pub gone : List BookRow
  pub others : rows_by who gone ≡ []
  pub shown : shown_at turn ≡ first ++ (after ++ gone)
  pub own : own_at turn ≡ rows_by who (after ++ gone)
  pub number : number_at turn ≡ who
  pub here : IsHere plan (after ++ gone) (state_at turn)
  pub rest : (state_at turn).pending ≡ None
  pub members : (state_at turn).members ≡ plan.book.members

pub shows_book : (plan : FreePlan) (book : SharedBook) (who : ℕ) (after : List BookRow) (seat : Seat) (turn : SeatTurn) → IsOfPlan plan book → IsSeatAt book who after seat → IsTurnAt book seat turn
    → ShowsHistory law.ghosts seat turn → ShowsRest law.ghosts turn → Shows plan who after seat turn
shows_book plan book who after seat turn of at turn_at shows rests = record {
  first = shows.first;
  first_is = shows.first_is;
  gone = gone.gone;
  others = gone.others;
  shown = shows.shown ∙ ap (λ rows. shows.first ++ rows) gone.goes_on;
  own = turn_at.own ∙ owns ∙ ap (rows_by who) gone.goes_on;
  number = turn_at.number ∙ at.number;
  here = is_here plan shows.first (after ++ gone.gone) (state_at turn) begins rows members;
  rest = rests.rest;
  members = members;
}
  where
    opening : opening_at turn ≡ opening_of book
    opening = ap (λ (b : SharedBook). opening_of b) turn_at.of_book

    key : (opening_at turn).key.value ≡ plan.table
    key = ap (λ (o : Opening BookState Table). o.key.value) opening ∙ of.key

    book_is : (opening_at turn).state.value ≡ plan.book
    book_is = ap (λ (o : Opening BookState Table). o.state.value) opening ∙ of.state

    owns : own_rows seat ≡ rows_by who shows.after
    owns = shows.history.own ∙ ap (λ n. rows_by n shows.after) at.number

    gone : Since who after shows.after
    gone = since book who shows.first after shows.after seat at shows.same owns shows.history.saw

    begins : HasRows plan.table shows.first plan.book
    begins = subst (λ (state : BookState). HasRows plan.table shows.first state) book_is (subst (λ (table : Table). HasRows table shows.first (opening_at turn).state.value) key shows.history.begins)

    rows : HasRows plan.table (shows.first ++ (after ++ gone.gone)) (state_at turn)
    rows =
        subst (λ (rows : List BookRow). HasRows plan.table rows (state_at turn)) (shows.shown ∙ ap (λ rows. shows.first ++ rows) gone.goes_on)
        (subst (λ (table : Table). HasRows table (shown_at turn) (state_at turn)) key rests.rows)

    members : (state_at turn).members ≡ plan.book.members
    members = rests.number ∙ ap (λ (state : BookState). state.members) book_is

-- the seat after the turn
pub seat_then : (plan : FreePlan) (book : SharedBook) (who : ℕ) (after : List BookRow) (seat new : Seat) (turn : SeatTurn) (row : BookRow) → (shows : Shows plan who after seat turn)
    → turn_of row.turn ≡ Some who → IsSeatOf book new → number_of new ≡ who → first_rows_by new ≡ first_rows_at turn → own_rows new ≡ own_at turn ++ row ∷ [] → seen_by new ≡ shown_at turn ++ row ∷ []
    → IsSeatAt book who ((after ++ shows.gone) ++ row ∷ []) new
seat_then plan book who after seat new turn row shows mine of_book number first owns saw = record {
  of_book = of_book;
  number = number;
  seen = inr (
    shows.first,
    first ∙ shows.first_is,
    saw ∙ ap (λ rows. rows ++ row ∷ []) shows.shown ∙ append_assoc shows.first (after ++ shows.gone) (row ∷ []),
  );
  own = owns ∙ ap (λ rows. rows ++ row ∷ []) shows.own ∙ sym (is_own (λ (r : BookRow). turn_of r.turn) who (after ++ shows.gone) row mine);
}

-- so it has taken one
pub takes_one : (plan : FreePlan) (book : SharedBook) (who : ℕ) (seat new : Seat) (turn : SeatTurn) (row : BookRow) → IsOfPlan plan book → IsTurnAt book seat turn
    → ShowsHistory law.ghosts seat turn → ShowsRest law.ghosts turn
    → turn_of row.turn ≡ Some who → IsSeatOf (book_at turn) new → number_of new ≡ number_at turn → first_rows_by new ≡ first_rows_at turn
    → own_rows new ≡ own_at turn ++ row ∷ [] → seen_by new ≡ shown_at turn ++ row ∷ [] → TakesOneTurn book who seat new
takes_one plan book who seat new turn row of at shows rests mine of_book number first owns saw after seat_at =
    let here = shows_book plan book who after seat turn of seat_at at shows rests in
    record {
      gone = here.gone;
      others = here.others;
      row = row;
      mine = mine;
      at = seat_then plan book who after seat new turn row here mine (subst (λ (b : SharedBook). IsSeatOf b new) at.of_book of_book) (number ∙ here.number) first owns saw;
    }

module _ {D : Type 0} (view : DiskView D) (plan : FreePlan) (book : SharedBook) (who taken : ℕ) (step : Taken) (job : FreeJob D)
    (stepper : IsStepper view plan book who taken step job) (turn : SeatTurn) (at : IsTurnAt book job.seat turn) (shows : ShowsHistory law.ghosts job.seat turn)
    (rests : ShowsRest law.ghosts turn) where
  abbrev shown : Shows plan who stepper.after job.seat turn
  shown = shows_book plan book who stepper.after job.seat turn stepper.of_plan stepper.seat at shows rests

  pub may_join_here : MayJoin plan.table (state_at turn) who step
  may_join_here = may_join view plan book who taken step job stepper shown.gone shown.others (state_at turn) shown.here shown.rest shown.members

  pub looked_here : job.mail.looked ≤ length (state_at turn).letters
  looked_here = looked_within view plan book who taken step job stepper shown.gone shown.others (state_at turn) shown.here shown.rest shown.members

  -- the thread of a replica whose step has become a turn of a book that was in this state has what it has after one turn more
  abbrev pub Commits : BookState → Type 0
  Commits state =
      (made : Option CallRow) (during : BookState) (looked : FreeMail) (new : FreeJob D)
      → ((rows : List Row) → StandsBehind plan.table rows state → IsMade (standing_behind plan.table rows state).held (option_to_list step.out.call) made)
      → ((rows : List Row) → StandsBehind plan.table rows state → StandsBehind plan.table rows during) → during.pending ≡ made → during.members ≡ state.members
      → length state.turns + 1 < 2 ^ 31 → IfSome made (λ call. call.fate ≡ job.mail.mail.fate) → HasLooked plan.cuts state.letters who step job.mail looked
      → new.node ≡ job.node → new.mail.mail ≡ noted made (calls_for (option_to_list step.out.delta)) looked.mail → new.mail.looked ≡ looked.looked → new.mail.bytes.items ≡ looked.bytes.items
      → IsSeatOf (book_at turn) new.seat → number_of new.seat ≡ number_at turn → first_rows_by new.seat ≡ first_rows_at turn → own_rows new.seat ≡ own_at turn ++ row_of_step who step made ∷ []
      → seen_by new.seat ≡ shown_at turn ++ row_of_step who step made ∷ [] → IsRunner view plan book who (taken + 1) new

  has_committed : Commits (state_at turn)
  has_committed made during looked new call stands pending members few fated looks node mail looked_is bytes of_book number first owns saw = record {
    of_plan = stepper.of_plan;
    node = subst (λ (n : Node D). IsNodeFit view plan who n) (sym node) stepper.node;
    after = (stepper.after ++ shown.gone) ++ row_of_step who step made ∷ [];
    seat = seat_then plan book who stepper.after job.seat new.seat turn (row_of_step who step made) shown refl (subst (λ (b : SharedBook). IsSeatOf b new.seat) at.of_book of_book)
        (number ∙ shown.number) first owns saw;
    some = played_then view plan book who taken step job stepper shown.gone shown.others (state_at turn) shown.here shown.rest shown.members made
        (call (shown.here.begun ++ shown.here.more) shown.here.behind) during (stands (shown.here.begun ++ shown.here.more) shown.here.behind) pending members few;
    gone = λ begun more are.
        gone_then view plan book who taken step job stepper shown.gone shown.others (state_at turn) shown.here shown.rest shown.members made
        (call (shown.here.begun ++ shown.here.more) shown.here.behind) during (stands (shown.here.begun ++ shown.here.more) shown.here.behind) pending members few begun more are fated;
    state = λ begun more are.
        ap (λ (n : Node D). (replica_of n).state) node
        ∙ state_then view plan book who taken step job stepper shown.gone shown.others (state_at turn) shown.here shown.rest shown.members made
        (call (shown.here.begun ++ shown.here.more) shown.here.behind) during (stands (shown.here.begun ++ shown.here.more) shown.here.behind) pending members few begun more are;
    disk = λ begun more are.
        subst (λ (n : Node D). IsDiskAt view ((situation_in plan more).bases who) n) (sym node)
        (disk_then view plan book who taken step job stepper shown.gone shown.others (state_at turn) shown.here shown.rest shown.members made
        (call (shown.here.begun ++ shown.here.more) shown.here.behind) during (stands (shown.here.begun ++ shown.here.more) shown.here.behind) pending members few begun more are);
    mail = λ begun more are.
        mail_then view plan book who taken step job stepper shown.gone shown.others (state_at turn) shown.here shown.rest shown.members made
        (call (shown.here.begun ++ shown.here.more) shown.here.behind) during (stands (shown.here.begun ++ shown.here.more) shown.here.behind) pending members few begun more are looked new.mail looks mail
        looked_is bytes;
  }

  -- the same of a state that is the one that the turn shows
  pub may_join_in : (state : BookState) → state ≡ state_at turn → MayJoin plan.table state who step
  may_join_in state same = subst (λ (s : BookState). MayJoin plan.table s who step) (sym same) may_join_here

  pub looked_in : (state : BookState) → state ≡ state_at turn → job.mail.looked ≤ length state.letters
  looked_in state same = subst (λ (s : BookState). job.mail.looked ≤ length s.letters) (sym same) looked_here

  pub has_committed_in : (state : BookState) → state ≡ state_at turn → Commits state
  has_committed_in state same = subst (λ (s : BookState). Commits s) (sym same) has_committed

-- ---- a stop

pub stop_row : (who : ℕ) (cause : Cause) (change : Option Delta) (kept : Bool) (out : StepOut) → kept ≡ is_some change → out ≡ change_alone change
    → record { turn = Stopped who (Some cause) kept; out = out } ≡ row_of_stop who cause change
stop_row who cause change kept out is alone =
    ap (λ (k : Bool). stopped_row k out) is ∙ ap (stopped_row (is_some change)) alone
  where
    stopped_row : Bool → StepOut → BookRow
    stopped_row k o = record { turn = Stopped who (Some cause) k; out = o }

module _ {D : Type 0} (view : DiskView D) (plan : FreePlan) (book : SharedBook) (who taken : ℕ) (cause : Cause)
    (change : Option Delta) (job : FreeJob D) (stopper : IsStopper view plan book who taken cause change job) (turn : SeatTurn) (at : IsTurnAt book job.seat turn)
    (shows : ShowsHistory law.ghosts job.seat turn) (rests : ShowsRest law.ghosts turn) where
  abbrev halts : Shows plan who stopper.after job.seat turn
  halts = shows_book plan book who stopper.after job.seat turn stopper.of_plan stopper.seat at shows rests

  -- its turn may come next
  pub stop_comes_in : (state : BookState) → state ≡ state_at turn → (rows : List BookRow) → HasRows plan.table rows state → MayComeNext state.members plan.table rows (row_of_stop who cause change)
  stop_comes_in state same =
      subst (λ (s : BookState). (rows : List BookRow) → HasRows plan.table rows s → MayComeNext s.members plan.table rows (row_of_stop who cause change)) (sym same)
      (halted.stop_comes_next view plan book who taken cause change job stopper halts.gone halts.others (state_at turn) halts.here halts.rest halts.members)

  -- and once it is one, the replica has stopped within the part
  pub has_broken : (row : BookRow) (new : FreeJob D) → row ≡ row_of_stop who cause change → new.node ≡ job.node → IsHalted job.mail.mail new.mail.mail → IsSeatOf (book_at turn) new.seat → number_of new.seat ≡ number_at turn
      → first_rows_by new.seat ≡ first_rows_at turn → own_rows new.seat ≡ own_at turn ++ row ∷ [] → seen_by new.seat ≡ shown_at turn ++ row ∷ []
      → IsBroken view plan book who new
  has_broken row new row_is node mail of_book number first owns saw = record {
    of_plan = stopper.of_plan;
    node = subst (λ (n : Node D). IsNodeFit view plan who n) (sym node)
        (halted.node_then view plan book who taken cause change job stopper halts.gone halts.others (state_at turn) halts.here halts.rest halts.members);
    after = (stopper.after ++ halts.gone) ++ row_of_stop who cause change ∷ [];
    seat = seat_then plan book who stopper.after job.seat new.seat turn (row_of_stop who cause change) halts refl (subst (λ (b : SharedBook). IsSeatOf b new.seat) at.of_book of_book)
        (number ∙ halts.number) first (owns ∙ ap (λ (r : BookRow). own_at turn ++ r ∷ []) row_is) (saw ∙ ap (λ (r : BookRow). shown_at turn ++ r ∷ []) row_is);
    halted = mail.runs;
    started_with =
        ap (λ (n : Node D). (replica_of n).state) node ∙ stopper.attached.started_with
        ∙ ap (λ (n : Node D). started who (replica_of n).state.kept) (sym node);
    broken = halted.broken_then view plan book who taken cause change job stopper halts.gone halts.others (state_at turn) halts.here halts.rest halts.members;
    kept = λ begun more are.
        halted.kept_then view plan book who taken cause change job stopper halts.gone halts.others (state_at turn) halts.here halts.rest halts.members begun more are
        ∙ ap (λ (n : Node D). started who (replica_of n).state.kept) (sym node);
    disk = λ begun more are.
        subst (λ (n : Node D). IsDiskAt view ((situation_in plan more).bases who) n) (sym node)
        (halted.disk_then view plan book who taken cause change job stopper halts.gone halts.others (state_at turn) halts.here halts.rest halts.members begun more are);
    mail = λ begun more are.
        halted.mail_then view plan book who taken cause change job stopper halts.gone halts.others (state_at turn) halts.here halts.rest halts.members begun more are
        new.mail.mail mail;
  }
