-- What the thread of a replica has shown: after each of its turns what its replica has learned, where that was more than was shown.
use Rattle.std.proofs.Common.{◌≡◌, ◌⊎◌, ℕ, ◌+◌, ◌<◌, ◌≤◌, max, true, List, [], ◌∷◌, ◌++◌, Some, None, Option, refl, sym, ap, ◌∙◌, subst, inl, inr, ⊎_elim, arith, append_assoc}
use Rattle.std.specs.List.{Contains}
use Rattle.std.proofs.lemmas.Bool.{cases_Bool}
use Rattle.std.proofs.lemmas.List.{append-nil}
use Rattle.std.proofs.lemmas.List.Elements.{Contains-push_cases}
use Rattle.disk_model.specs.View.{DiskView}
use Rattle.due_set.specs.Table.{Table}
use Rattle.paxos_base.specs.declared.rows.JobRow.{JobRow}
use Rattle.step_spec.proofs.Lists.{nothing_in}
use Rattle.step_spec.specs.State.{State, prefix_of}
use Rattle.step_spec.specs.Step.{IsLaunchTable}
use Rattle.history.specs.Book.{Row, Standing}
use Rattle.history.specs.Legal.{IsLegal}
use Rattle.history.proofs.FrontLemmas.{front_legal}
use Rattle.replica_core.specs.Replica.{ReplicaState}
use Rattle.replica_core.specs.Step.{IsOfTable}
use Rattle.replica_node.specs.Node.{replica_of}
use Rattle.script_semantics.specs.Free.{is_turn_of}
use Rattle.script_semantics.specs.Others.{AreOthers}
use Rattle.script_semantics.specs.Situation.{Situation}
use Rattle.status_board.specs.Shown.{shown_state_of}
use Rattle.status_board.specs.Writing.{HasNext, Writing}
use Rattle.status_board.specs.declared.shown.Shown.{Shown}
use Rattle.world_law.specs.Rows.{HasTurnOf}
use Rattle.world_law.specs.declared.row.BookRow.{BookRow}
use Rattle.world_free.specs.Board.{HasShown, HasTurnMore, IsOfBook, OnBoard, ShowsPart, ShowsReplica, TakesOneTurn, highest_after}
use Rattle.world_free.specs.Jobs.{HasNotBegun, IsBroken, IsJobAt, IsRunner, situation_in}
use Rattle.world_free.specs.Plan.{ArePlayed, FreePlan, Seat, SharedBook}
use Rattle.world_free.specs.Seats.{HasSeen, IsSeatAt}
use Rattle.world_free.specs.declared.job.FreeJob.{FreeJob}
use Rattle.world_free.proofs.BoardLemmas.{highest_next, highest_with_others, still_of_book, table_of_book}
use Rattle.world_free.proofs.Closed.{named_by}
use Rattle.world_free.proofs.Gone.{others_behind}
use Rattle.world_free.proofs.Lists.{cut_front, zip_one}
use Rattle.world_free.proofs.Played.{situation_stands, split_played, stands_in}

-- ---- what a seat has seen

-- a seat has seen one list
pub same_after : (book : SharedBook) (who : ℕ) (one other : List BookRow) (seat : Seat) → IsSeatAt book who one seat → IsSeatAt book who other seat → one ≡ other
same_after book who one other seat at also = go at.seen also.seen
  where
    go : HasSeen seat one → HasSeen seat other → one ≡ other
    go (inl nothing) (inl none) = nothing.2 ∙ sym none.2
    go (inl nothing) (inr shown) = absurd (let no : None ≡ Some shown.0 = sym nothing.0 ∙ shown.1 in cc)
    go (inr shown) (inl none) = absurd (let no : None ≡ Some shown.0 = sym none.0 ∙ shown.1 in cc)
    go (inr shown) (inr more) =
        let first : Some shown.0 ≡ Some more.0 = sym shown.1 ∙ more.1 in
        let same : shown.0 ≡ more.0 = cc in
        cut_front shown.0 one other (sym shown.2 ∙ more.2 ∙ ap (λ (l : List BookRow). l ++ other) (sym same))

-- ---- a part that has more

module _ (members who : ℕ) (table : Table) (situation : Situation) (begun more : List Row) (few : members ≤ 7) (old : Writing) where
  abbrev Part : List Row → Writing → Type 0
  Part rows new = ShowsPart members who table situation begun rows old new

  -- before any row
  pub shows_none : ShowsPart members who table situation begun [] old old
  shows_none = record {
    board = refl;
    added = [];
    states = sym (append-nil old.states);
    each = λ state has. nothing_in has;
    highest = refl;
    last = λ of_book. subst (λ (rows : List Row). IsOfBook members table rows old.prefix old.machine.rows) (sym (append-nil begun)) of_book;
  }

  module _ (now : Writing) (tail : List Row) (legal : IsLegal members table (begun ++ (more ++ tail))) where
    longer : begun ++ (more ++ tail) ≡ (begun ++ more) ++ tail
    longer = sym (append_assoc begun more tail)

    still : (prefix : ℕ) (rows : List JobRow) → IsOfBook members table (begun ++ more) prefix rows → IsOfBook members table (begun ++ (more ++ tail)) prefix rows
    still prefix rows of_book =
        subst (λ (all : List Row). IsOfBook members table all prefix rows) (sym longer)
        (still_of_book members table (begun ++ more) tail prefix rows few (subst (λ (all : List Row). IsLegal members table all) longer legal) of_book)

    -- nothing more was published, and the prefix is still the highest
    pub shows_still : Part more now → now.prefix ≡ highest_after members who old.prefix situation (more ++ tail) → Part (more ++ tail) now
    shows_still shown highest = record {
      board = shown.board;
      added = shown.added;
      states = shown.states;
      each = λ state has. still state.prefix state.rows (shown.each state has);
      highest = highest;
      last = λ of_book. still now.prefix now.machine.rows (shown.last of_book);
    }

    -- turns of others leave it
    pub shows_with_others : AreOthers who tail → Part more now → Part (more ++ tail) now
    shows_with_others none shown = shows_still shown (shown.highest ∙ sym (highest_with_others members who old.prefix situation more tail none))

    -- one state more was published
    pub shows_next : (new : Writing) (prefix : ℕ) (rows : List JobRow) → Part more now → new.board ≡ now.board → HasNext now new prefix rows
        → IsOfBook members table (begun ++ (more ++ tail)) prefix rows → prefix ≡ highest_after members who old.prefix situation (more ++ tail)
        → Part (more ++ tail) new
    shows_next new prefix rows shown board next of_book highest = record {
      board = board ∙ shown.board;
      added = shown.added ++ shown_state_of prefix rows ∷ [];
      states = next.states ∙ ap (λ (l : List Shown). l ++ shown_state_of prefix rows ∷ []) shown.states ∙ append_assoc old.states shown.added (shown_state_of prefix rows ∷ []);
      each = λ state has. each state (Contains-push_cases shown.added (shown_state_of prefix rows) state has);
      highest = next.prefix_is ∙ highest;
      last = λ was. rw (next.prefix_is, next.rows_are) of_book;
    }
      where
        each : (state : Shown) → Contains shown.added state ⊎ (shown_state_of prefix rows ≡ state) → IsOfBook members table (begun ++ (more ++ tail)) state.prefix state.rows
        each state (inl before) = still state.prefix state.rows (shown.each state before)
        each state (inr is) = subst (λ (s : Shown). IsOfBook members table (begun ++ (more ++ tail)) s.prefix s.rows) is of_book

-- ---- a turn

module _ {D : Type 0} (view : DiskView D) (plan : FreePlan) (book : SharedBook) (who taken : ℕ) (before after_turn : FreeJob D) (runner : IsRunner view plan book who taken before)
    (takes : TakesOneTurn book who before.seat after_turn.seat) (job : IsJobAt view plan book who (taken + 1) after_turn) where
  -- the replica after the turn is one of the table
  pub table_there : IsOfTable plan.table (replica_of after_turn.node)
  table_there = elim (cases_Bool after_turn.mail.mail.runs) [
    | inl runs ↦ (job.running runs).node.at_rest.of_table
    | inr stopped ↦ ⊎_elim
        (λ (idle : HasNotBegun view plan book who after_turn). (idle.node runner.of_plan.rows runner.of_plan.at).at_rest.of_table)
        (λ (broken : IsBroken view plan book who after_turn). broken.node.at_rest.of_table)
        (job.stopped stopped)
  ]

  -- and stands where the rows leave it
  replica_there : (after : List BookRow) (begun more : List Row) → IsSeatAt book who after after_turn.seat → ArePlayed plan after begun more → (after ≡ [] → ⊥)
      → (replica_of after_turn.node).state ≡ (situation_in plan more).standing.replicas who
  replica_there after begun more at are some = elim (cases_Bool after_turn.mail.mail.runs) [
    | inl runs ↦
        let now = job.running runs in
        let same : after ≡ now.after = same_after book who after now.after after_turn.seat at now.seat in
        now.state begun more (subst (λ l. ArePlayed plan l begun more) same are)
    | inr stopped ↦ ⊎_elim
        (λ (idle : HasNotBegun view plan book who after_turn). absurd (some (same_after book who after [] after_turn.seat at idle.seat)))
        (λ (broken : IsBroken view plan book who after_turn).
        let same : after ≡ broken.after = same_after book who after broken.after after_turn.seat at broken.seat in
        broken.started_with ∙ sym (broken.kept begun more (subst (λ l. ArePlayed plan l begun more) same are)))
        (job.stopped stopped)
  ]

  -- the rows that the seat has seen by then
  record Seen (begun more : List Row) : Type 0 where
    one : List Row
    other : List Row
    row : Row
    first : ArePlayed plan runner.after begun one
    others : AreOthers who other
    own : is_turn_of who row.turn ≡ true
    parts : more ≡ (one ++ other) ++ row ∷ []

  none_there : (rows : List BookRow) (row : BookRow) → rows ++ row ∷ [] ≡ [] → ⊥
  none_there [] row is = cc
  none_there (x ∷ rows) row is = cc

  seen : (after : List BookRow) (begun more : List Row) → ArePlayed plan after begun more → (one : HasTurnMore book who runner.after after_turn.seat)
      → after ≡ (runner.after ++ one.gone) ++ one.row ∷ [] → Seen begun more
  seen after begun more are one same =
      let last = split_played plan (runner.after ++ one.gone) (one.row ∷ []) begun more (subst (λ l. ArePlayed plan l begun more) same are) in
      let own = zip_one HasTurnOf one.row last.other last.second in
      let front = split_played plan runner.after one.gone begun last.one last.first in
      record {
        one = front.one;
        other = front.other;
        row = own.0;
        first = front.first;
        others = others_behind who one.gone front.other front.second one.others;
        own = ap (is_turn_of who) own.2.turn_is ∙ named_by one.row.turn who one.mine;
        parts = last.parts ∙ ap (λ l. last.one ++ l) own.1 ∙ ap (λ l. l ++ own.0 ∷ []) front.parts;
      }

  -- **what the thread has shown behind a turn**
  pub shows_turn : (old now new : Writing) → HasShown plan book who before.seat old now → IsOfTable plan.table (replica_of after_turn.node)
      → ShowsReplica (replica_of after_turn.node) now new → HasShown plan book who after_turn.seat old new
  shows_turn old now new shown of_table shows after begun more at are =
      let one = takes runner.after runner.seat in
      let same : after ≡ (runner.after ++ one.gone) ++ one.row ∷ [] = same_after book who after ((runner.after ++ one.gone) ++ one.row ∷ []) after_turn.seat at one.at in
      let there = seen after begun more are one same in
      let whole : ArePlayed plan after begun ((there.one ++ there.other) ++ there.row ∷ []) = subst (λ l. ArePlayed plan after begun l) there.parts are in
      let state = replica_there after begun ((there.one ++ there.other) ++ there.row ∷ []) at whole (λ none. none_there (runner.after ++ one.gone) one.row (sym same ∙ none)) in
      let first = shown runner.after begun there.one runner.seat there.first in
      subst (λ l. ShowsPart plan.book.members who plan.table plan.situation begun l old new) (sym there.parts)
      (next begun there.one there.other there.row after whole there.others there.own state first)
    where
      few : plan.book.members ≤ 7
      few = runner.of_plan.at.few

      replica : ReplicaState
      replica = replica_of after_turn.node

      next : (begun one other : List Row) (row : Row) (after : List BookRow) → ArePlayed plan after begun ((one ++ other) ++ row ∷ []) → AreOthers who other
          → is_turn_of who row.turn ≡ true → replica.state ≡ (situation_in plan ((one ++ other) ++ row ∷ [])).standing.replicas who
          → ShowsPart plan.book.members who plan.table plan.situation begun one old now
          → ShowsPart plan.book.members who plan.table plan.situation begun ((one ++ other) ++ row ∷ []) old new
      next begun one other row after are others own state first = ⊎_elim
          (λ (low : (prefix_of replica.state ≤ now.prefix) × (new ≡ now)).
          subst (λ (w : Writing). ShowsPart plan.book.members who plan.table plan.situation begun ((one ++ other) ++ row ∷ []) old w) (sym low.1)
          (shows_still plan.book.members who plan.table plan.situation begun (one ++ other) few old now (row ∷ []) are.legal middle
          (omega (arith, low.0, middle.highest, highest))))
          (λ (above : (now.prefix < prefix_of replica.state) × HasNext now new (prefix_of replica.state) replica.machine.rows).
          shows_next plan.book.members who plan.table plan.situation begun (one ++ other) few old now (row ∷ []) are.legal new (prefix_of replica.state) replica.machine.rows middle
          shows.board above.1 of_book (omega (arith, above.0, middle.highest, highest)))
          shows.shows
        where
          front_legal_there : IsLegal plan.book.members plan.table (begun ++ (one ++ other))
          front_legal_there = front_legal plan.book.members plan.table (begun ++ (one ++ other)) (row ∷ [])
              (subst (λ all. IsLegal plan.book.members plan.table all) (sym (append_assoc begun (one ++ other) (row ∷ []))) are.legal)

          middle : ShowsPart plan.book.members who plan.table plan.situation begun (one ++ other) old now
          middle = shows_with_others plan.book.members who plan.table plan.situation begun one few old now other front_legal_there others first

          highest : highest_after plan.book.members who old.prefix plan.situation ((one ++ other) ++ row ∷ [])
              ≡ max (highest_after plan.book.members who old.prefix plan.situation (one ++ other)) (prefix_of replica.state)
          highest =
              highest_next plan.book.members who old.prefix plan.situation (one ++ other) row own
              ∙ ap (λ (s : State). max (highest_after plan.book.members who old.prefix plan.situation (one ++ other)) (prefix_of s)) (sym state)

          stands : replica.state ≡ (stands_in plan (begun ++ ((one ++ other) ++ row ∷ []))).replicas who
          stands =
              state ∙ ap (λ (s : Standing). s.replicas who)
              (situation_stands plan book after begun ((one ++ other) ++ row ∷ []) runner.of_plan are)

          of_book : IsOfBook plan.book.members plan.table (begun ++ ((one ++ other) ++ row ∷ [])) (prefix_of replica.state) replica.machine.rows
          of_book =
              subst (λ (s : State). IsOfBook plan.book.members plan.table (begun ++ ((one ++ other) ++ row ∷ [])) (prefix_of s) replica.machine.rows) (sym stands)
              (table_of_book plan.book.members plan.table (begun ++ ((one ++ other) ++ row ∷ [])) who replica.machine.rows few are.legal
              (subst (λ (s : State). IsLaunchTable plan.table s replica.machine.rows) stands of_table.rows))

  -- the same, where there may be no board
  pub shows_turn_on : (old now new : Option Writing) → OnBoard (HasShown plan book who before.seat) old now → IsOfTable plan.table (replica_of after_turn.node)
      → OnBoard (ShowsReplica (replica_of after_turn.node)) now new → OnBoard (HasShown plan book who after_turn.seat) old new
  shows_turn_on None None None shown of_table shows = tt
  shows_turn_on None None (Some new) shown of_table shows = absurd shows
  shows_turn_on None (Some now) new shown of_table shows = absurd shown
  shows_turn_on (Some old) None new shown of_table shows = absurd shown
  shows_turn_on (Some old) (Some now) None shown of_table shows = absurd shows
  shows_turn_on (Some old) (Some now) (Some new) shown of_table shows = shows_turn old now new shown of_table shows
