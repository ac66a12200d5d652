-- A campaign of a replica comes next in its book, and the replica is as its book says again.
use Rattle.std.proofs.Common.{◌≡◌, ◌≤◌, ℕ, None, List, [], ◌∷◌, ◌++◌, refl, sym, ap, ◌∙◌, inl, inr, arith, subst}
use Rattle.std.specs.List.{AllZip, flat_map}
use Rattle.std.specs.Option.{option_to_list}
use Rattle.std.proofs.lemmas.Bool.{cases_Bool}
use Rattle.due_set.specs.Table.{Table}
use Rattle.launch_machine.specs.Clerk.{first_rows}
use Rattle.paxos_base.specs.Members.{has_majority, only_member}
use Rattle.step_spec.specs.Act.{Act}
use Rattle.step_spec.specs.Folds.{after_acts, calls_by, calls_of, learnt_of, letters_of}
use Rattle.step_spec.specs.Letters.{IsSpelled}
use Rattle.step_spec.specs.Propose.{campaign, lead_if}
use Rattle.step_spec.specs.State.{Identity, State}
use Rattle.step_spec.specs.Step.{Event, step}
use Rattle.step_spec.specs.declared.out.OutLetter.{OutLetter}
use Rattle.step_spec.specs.Step as told
use Rattle.agreement.specs.Transition.{identity_of}
use Rattle.history.specs.Book.{Row, Standing, acts_at, after_row, standing_after, vote_of_delta, votes_of}
use Rattle.history.specs.Legal.{IsMade, MayFollow, TakesTurn}
use Rattle.history.specs.declared.turn.Cause.TheVariants.{Campaign}
use Rattle.history.specs.declared.turn.Turn.TheVariants.{Did}
use Rattle.history.specs.Steps.{step_row}
use Rattle.history.proofs.Keeping.{stands_next, votes_changed}
use Rattle.history.proofs.Posted.{letters_for_members}
use Rattle.replica_core.specs.Replica.{ReplicaState}
use Rattle.replica_core.specs.Step.{Steps, Takes}
use Rattle.replica_core.specs.declared.input.Input.TheVariants as input
use Rattle.replica_core.specs.declared.out.StepOut.{StepOut}
use Rattle.world_law.specs.Book.{BookState, Commits, IsSameBook, IsNext, IsRowOf, StandsBehind, standing_behind}
use Rattle.book_bench.specs.Booked.{BookedState, IsAsBooked}

-- ---- the acts of a campaign

lead_calls : (members heard : ℕ) → calls_of (lead_if members heard) ≡ []
unfolding calls_by
lead_calls members heard = elim (cases_Bool (has_majority members heard)) [ inl enough ↦ rw enough refl | inr few ↦ rw few refl ]

campaign_calls : (self : Identity) (state : State) → calls_of (step self told.Campaign state) ≡ []
unfolding step campaign calls_by
campaign_calls self state = lead_calls self.members (only_member self.me)

same_acts : (booked : BookedState) (now : IsAsBooked booked) → step booked.replica.identity told.Campaign booked.replica.state ≡ acts_at booked.book.members (standing_behind booked.table now.rows booked.book) 0 told.Campaign
same_acts booked now =
    ap (λ (self : Identity). step self told.Campaign booked.replica.state) (now.identity ∙ ap (λ n. identity_of n 0) (sym now.members))
    ∙ ap (λ (state : State). step (identity_of booked.book.members 0) told.Campaign state) (sym now.state)

-- ---- the turn

-- the row of the campaign's turn
abbrev row_of : StepOut → Row
row_of out = step_row 0 Campaign None told.Campaign (option_to_list out.delta) out.letters out.learnt

is_row : (out : StepOut) → IsRowOf (Did 0 Campaign None) out (row_of out)
is_row out = record { turn_is = refl; letters = refl; votes = refl; learnt = refl }

may_follow : (booked : BookedState) (now : IsAsBooked booked) (new : ReplicaState) (out : StepOut) → Takes booked.table booked.replica new (step booked.replica.identity told.Campaign booked.replica.state) out
    → MayFollow booked.book.members booked.table (standing_behind booked.table now.rows booked.book) (Did 0 Campaign None) (row_of out)
may_follow booked now new out took = (
  takes,
  record {
    letters = letters_for_members booked.book.members booked.table now.rows 0 Campaign told.Campaign out.letters few now.behind.legal takes spelled;
    votes = ap (flat_map vote_of_delta) (sym took.delta) ∙ sym (votes_changed (step booked.replica.identity told.Campaign booked.replica.state)) ∙ ap votes_of (same_acts booked now);
    learnt = took.learnt ∙ ap learnt_of (same_acts booked now);
    call = subst (λ calls. IsMade before.held calls None) (sym (campaign_calls (identity_of booked.book.members 0) (before.replicas 0))) refl;
  },
)
  where
    before : Standing
    before = standing_behind booked.table now.rows booked.book

    few : booked.book.members ≤ 7
    few = omega (arith, now.members)

    takes : TakesTurn booked.book.members booked.table (standing_behind booked.table now.rows booked.book) 0 Campaign told.Campaign
    takes = record { member = omega (arith, now.members); runs = now.runs; event_of = refl; planned = tt }

    spelled : AllZip (IsSpelled 7 0) (letters_of (identity_of booked.book.members 0) (acts_at booked.book.members (standing_behind booked.table now.rows booked.book) 0 told.Campaign)) out.letters
    spelled = subst (λ (acts : List Act). AllZip (IsSpelled 7 0) (letters_of (identity_of booked.book.members 0) acts) out.letters) (same_acts booked now)
        (subst (λ (self : Identity). AllZip (IsSpelled 7 self.me) (letters_of self (step booked.replica.identity told.Campaign booked.replica.state)) out.letters)
        (now.identity ∙ ap (λ n. identity_of n 0) (sym now.members)) took.letters)

-- ---- the book

-- the replica with another book that is alike
stays_booked : (table : Table) (replica : ReplicaState) (new old : BookState) → IsSameBook new old → IsAsBooked (record { table = table; replica = replica; book = old }) → IsAsBooked (record { table = table; replica = replica; book = new })
stays_booked table replica new old alike now = record {
  rows = now.rows;
  behind = record {
    legal = rw alike.members now.behind.legal;
    turns = rw alike.turns now.behind.turns;
    letters = rw (alike.letters, alike.members) now.behind.letters;
    posting = rw alike.letters now.behind.posting;
    held = rw (alike.ledger.held, alike.pending, alike.members) now.behind.held;
    late = rw (alike.ledger.late, alike.pending, alike.members) now.behind.late;
    arrived = rw (alike.arrived, alike.members) now.behind.arrived;
  };
  members = alike.members ∙ now.members;
  pending = alike.pending ∙ now.pending;
  identity = now.identity;
  of_table = now.of_table;
  state = rw alike.members now.state;
  runs = rw alike.members now.runs;
}

taken : (booked : BookedState) (new : ReplicaState) (out : StepOut) → Steps booked.table input.Campaign booked.replica new out → Takes booked.table booked.replica new (step booked.replica.identity told.Campaign booked.replica.state) out
taken booked new out steps = subst (λ (event : Event). Takes booked.table booked.replica new (step booked.replica.identity event booked.replica.state) out) steps.event_is steps.took

-- the turn comes next in the book that has made room for it
pub comes_next : (table : Table) (old new : ReplicaState) (out : StepOut) (book roomy : BookState) → IsAsBooked (record { table = table; replica = old; book = book }) → IsSameBook roomy book
    → Steps table input.Campaign old new out → IsNext table roomy (Did 0 Campaign None) out
comes_next table old new out book roomy now alike steps = record {
  rows = stays.rows;
  behind = stays.behind;
  row = row_of out;
  is = is_row out;
  may = may_follow (record { table = table; replica = old; book = roomy }) stays new out (taken (record { table = table; replica = old; book = roomy }) new out steps);
}
  where
    stays : IsAsBooked (record { table = table; replica = old; book = roomy })
    stays = stays_booked table old roomy book alike now

-- ---- after the turn
after_turn : (booked : BookedState) (now : IsAsBooked booked) (new : ReplicaState) (out : StepOut) (after : BookState) → after.members ≡ booked.book.members
    → standing_behind booked.table (now.rows ++ row_of out ∷ []) after ≡ after_row booked.book.members (standing_behind booked.table now.rows booked.book) (Did 0 Campaign None) told.Campaign out.letters
after_turn booked now new out after members =
    ap (λ n. standing_after n (first_rows booked.table) (now.rows ++ row_of out ∷ [])) members ∙ stands_next booked.book.members (first_rows booked.table) now.rows (row_of out)

has_turned : (n : ℕ) (before : Standing) (letters : List OutLetter) → (after_row n before (Did 0 Campaign None) told.Campaign letters).replicas 0 ≡ after_acts (acts_at n before 0 told.Campaign) (before.replicas 0)
unfolding after_row
has_turned n before letters = refl

still_runs : (n : ℕ) (before : Standing) (letters : List OutLetter) → (after_row n before (Did 0 Campaign None) told.Campaign letters).runs 0 ≡ before.runs 0
unfolding after_row
still_runs n before letters = refl

-- the replica is as its book says again
pub is_booked_again : (table : Table) (old new : ReplicaState) (out : StepOut) (book roomy after : BookState) → IsAsBooked (record { table = table; replica = old; book = book }) → IsSameBook roomy book
    → Steps table input.Campaign old new out → Commits (Did 0 Campaign None) out.letters roomy after
    → ((rows : List Row) (row : Row) → StandsBehind table rows roomy → IsRowOf (Did 0 Campaign None) out row
    → MayFollow roomy.members table (standing_behind table rows roomy) row.turn row → StandsBehind table (rows ++ row ∷ []) after)
    → IsAsBooked (record { table = table; replica = new; book = after })
is_booked_again table old new out book roomy after now alike steps commits stands = record {
  rows = stays.rows ++ row_of out ∷ [];
  behind = stands stays.rows (row_of out) stays.behind (is_row out) (may_follow booked stays new out took);
  members = commits.members ∙ stays.members;
  pending = commits.pending;
  identity = took.identity ∙ stays.identity;
  of_table = took.of_table;
  state =
      ap (λ (s : Standing). s.replicas 0) stood ∙ has_turned roomy.members before out.letters
      ∙ ap (λ (acts : List Act). after_acts acts (before.replicas 0)) (sym (same_acts booked stays)) ∙ ap (λ (state : State). after_acts (step old.identity told.Campaign old.state) state) stays.state
      ∙ sym took.state;
  runs = ap (λ (s : Standing). s.runs 0) stood ∙ still_runs roomy.members before out.letters ∙ stays.runs;
}
  where
    booked : BookedState
    booked = record { table = table; replica = old; book = roomy }

    stays : IsAsBooked (record { table = table; replica = old; book = roomy })
    stays = stays_booked table old roomy book alike now

    took : Takes table old new (step old.identity told.Campaign old.state) out
    took = taken (record { table = table; replica = old; book = roomy }) new out steps

    before : Standing
    before = standing_behind table stays.rows roomy

    stood : standing_behind table (stays.rows ++ row_of out ∷ []) after ≡ after_row roomy.members (standing_behind table stays.rows roomy) (Did 0 Campaign None) told.Campaign out.letters
    stood = after_turn booked stays new out after commits.members
