-- A stop within a step beside what its seat has seen becomes a turn of the shared book, whatever others have done since.
use Rattle.std.proofs.Common.{◌≡◌, ◌⊎◌, ℕ, ◌<◌, Bool, true, false, List, [], ◌∷◌, ◌++◌, length, ℤ, Some, None, Option, refl, sym, ap, ◌∙◌, subst, inl, inr, append_assoc}
use Rattle.std.specs.Prelude.{is_some}
use Rattle.std.specs.Option.{option_to_list}
use Rattle.disk_model.specs.View.{DiskView}
use Rattle.launch_machine.specs.Clerk.{first_rows}
use Rattle.paxos_base.specs.declared.durable.Delta.{Delta}
use Rattle.save_calls.specs.Save.{is_kept}
use Rattle.step_spec.specs.Folds.{deltas_of}
use Rattle.step_spec.specs.State.{started}
use Rattle.agreement.specs.Transition.{identity_of}
use Rattle.history.specs.Book.{Row, Standing, acts_at, after_row, standing_after}
use Rattle.history.specs.Legal.{IsLegal, MayFollow, TakesTurn}
use Rattle.history.specs.declared.turn.Cause.{Cause}
use Rattle.history.specs.declared.turn.Turn.{Turn}
use Rattle.history.specs.declared.turn.Turn.TheVariants.{Stopped}
use Rattle.replica_core.specs.Commit.{kept_after}
use Rattle.replica_core.specs.Replica.{ReplicaState}
use Rattle.replica_node.specs.Node.{replica_of}
use Rattle.script_text.specs.Command.{IsSkew}
use Rattle.script_semantics.specs.Arms.{StopsInStep}
use Rattle.script_semantics.specs.Free.{after_all_posted, after_posted}
use Rattle.script_semantics.specs.Situation.{Situation, after_turn, arms_after, bases_kept, bases_with, changes_in, fates_after, letters_for, mails_after}
use Rattle.script_semantics.proofs.FreeMailLemmas.{Passes}
use Rattle.world_law.specs.Book.{BookState, StandsBehind, standing_behind}
use Rattle.world_law.specs.Replicas.{IsStopOf, StandsStopped, change_alone}
use Rattle.world_law.specs.Rows.{HasRows, HasTurnOf, MayComeNext}
use Rattle.world_law.specs.declared.row.BookRow.{BookRow}
use Rattle.world_law.proofs.Behind.{turn_is_added}
use Rattle.world_law.proofs.Settled.{come_here}
use Rattle.world_law.proofs.Stops.{stop_within}
use Rattle.world_steps.specs.Nodes.{IsDiskAt, bases_behind}
use Rattle.world_steps.specs.Parts.{armed_in}
use Rattle.world_steps.specs.declared.mail.MemberMail.{MemberMail}
use Rattle.world_steps.specs.Stops.{IsNextStop, change_kept}
use Rattle.world_steps.specs.Turns.{IsHalted}
use Rattle.world_steps.proofs.Foreseen.{added, adds}
use Rattle.world_steps.proofs.Stopping.{kept_is}
use Rattle.world_free.specs.Jobs.{HasStoppedFreely, IsNodeFit, IsStopper, situation_in}
use Rattle.world_free.specs.Mails.{IsMailIn, IsStoppedMailIn}
use Rattle.world_free.specs.Plan.{ArePlayed, FreePlan, SharedBook}
use Rattle.world_free.specs.Ready.{row_of_stop}
use Rattle.world_free.specs.Seats.{rows_by}
use Rattle.world_free.specs.declared.job.FreeJob.{FreeJob}
use Rattle.world_free.proofs.Gone.{broken_next, turn_halts}
use Rattle.world_free.proofs.Letters.{no_letters}
use Rattle.world_free.proofs.Played.{played_stand, situation_stands}
use Rattle.world_free.proofs.Since.{IsHere, Lately, bases_here, changes_before, changes_seen, few_here, input_here, is_then, lately, left_by, still_at, takes_here, told_here}
use Rattle.history.proofs.Standings.{fact_here, waits_stopped}
use Rattle.step_spec.proofs.Lists.{AllZip-append}

-- ---- what a stop leaves

-- a change is kept or lost
kept_or_lost : (kept : Bool) (change : Delta) (answer : Option Delta) → answer ≡ change_kept kept change → (answer ≡ Some change) ⊎ (answer ≡ None)
kept_or_lost true change answer is = inl is
kept_or_lost false change answer is = inr is

-- the bases with the change that was kept
stop_bases : (who : ℕ) (cause : Cause) (change : Delta) (answer : Option Delta) (bases : ℕ → ℕ) → (answer ≡ Some change) ⊎ (answer ≡ None)
    → bases_kept (Stopped who (Some cause) (is_some answer)) (change ∷ []) bases who ≡ bases_with (option_to_list answer) (bases who)
stop_bases who cause change answer bases (inl kept) =
    rw kept (fact_here who (bases_with (change ∷ []) (bases who)) bases)
stop_bases who cause change answer bases (inr lost) = rw lost refl

module _ {D : Type 0} (view : DiskView D) (plan : FreePlan) (book : SharedBook) (who taken : ℕ) (cause : Cause)
    (change : Option Delta) (job : FreeJob D) (stopper : IsStopper view plan book who taken cause change job) (gone : List BookRow) (others : rows_by who gone ≡ [])
    (state : BookState) (here : IsHere plan (stopper.after ++ gone) state) (rest : state.pending ≡ None) (members : state.members ≡ plan.book.members) where
  abbrev rows_now : List Row
  rows_now = here.begun ++ here.more

  abbrev row_now : BookRow
  row_now = row_of_stop who cause change

  abbrev rows_then : List BookRow
  rows_then = (stopper.after ++ gone) ++ row_now ∷ []

  abbrev old : ReplicaState
  old = stopper.stop.old

  -- ---- the stop may become a turn here

  next_here : IsNextStop plan.table rows_now state who cause old stopper.stop.change
  next_here = record {
    behind = here.behind;
    rest = rest;
    few = few_here plan book who stopper.after stopper.of_plan stopper.some gone others state here rest members;
    stands = still_at plan book who stopper.after stopper.of_plan stopper.some gone others state here rest members old stopper.stop.next.stands stopper.stop.next.me;
    me = stopper.stop.next.me;
    began = record {
      input = stopper.stop.next.began.input;
      is_told = told_here plan book who stopper.after stopper.of_plan stopper.some gone others state here rest members cause stopper.stop.next.began.input stopper.stop.next.began.is_told;
      inside = stopper.stop.next.began.inside;
      event = stopper.stop.next.began.event;
      event_is = stopper.stop.next.began.event_is;
      changes = stopper.stop.next.began.changes;
    };
  }

  takes_now : TakesTurn state.members plan.table (standing_behind plan.table rows_now state) old.identity.me cause next_here.began.event
  takes_now =
      takes_here plan book who stopper.after stopper.of_plan stopper.some gone others state here rest members cause next_here.began.input old next_here.began.event
      next_here.stands next_here.me next_here.began.is_told next_here.began.inside next_here.began.event_is

  either : (change ≡ Some stopper.stop.change) ⊎ (change ≡ None)
  either =
      kept_or_lost (is_kept (bases_behind plan.table (stopper.some.begun ++ stopper.some.more) stopper.some.book who) stopper.stop.change stopper.arm.left stopper.arm.image) stopper.stop.change change
      stopper.stop.is_kept

  turn : IsStopOf plan.table rows_now state who (Some cause) change (kept_after change old.state.kept)
  turn =
      subst (λ (w : ℕ). IsStopOf plan.table rows_now state w (Some cause) change (kept_after change old.state.kept)) next_here.me
      (stop_within plan.table rows_now state cause next_here.began.input old next_here.began.event stopper.stop.change here.behind next_here.stands
      (input_here plan book who stopper.after stopper.of_plan stopper.some gone others state here rest members cause next_here.began.input old.identity.me next_here.me next_here.began.is_told)
      next_here.began.inside next_here.began.event_is next_here.began.changes change either)

  pub stop_comes_next : (rows : List BookRow) → HasRows plan.table rows state → MayComeNext state.members plan.table rows row_now
  stop_comes_next rows has = record {
    behind = has.behind;
    legal = has.stands.legal;
    each = has.each;
    next = turn.row;
    is = turn.is;
    may = subst (λ (s : Standing). MayFollow state.members plan.table s turn.row.turn turn.row) (come_here plan.table rows_now has.behind state here.behind has.stands).stands turn.may;
  }

  -- ---- the node

  pub node_then : IsNodeFit view plan who job.node
  node_then = record {
    at_rest = stopper.attached.at_rest;
    trusted = stopper.attached.trusted;
    identity = stopper.attached.identity ∙ ap (λ (n : ℕ). identity_of n who) stopper.some.members;
    member = subst (λ (w : ℕ). w < plan.book.members) next_here.me (subst (λ (n : ℕ). old.identity.me < n) members next_here.stands.member);
  }

  -- ---- the turn

  abbrev book_then : BookState
  book_then = added (Stopped who (Some cause) (is_some change)) [] state

  behind_then : StandsBehind plan.table (rows_now ++ turn.row ∷ []) book_then
  behind_then =
      turn_is_added plan.table (Stopped who (Some cause) (is_some change)) (change_alone change) state book_then rest (adds (Stopped who (Some cause) (is_some change)) [] state)
      rows_now turn.row here.behind turn.is turn.may

  are_then : ArePlayed plan rows_then here.begun (here.more ++ turn.row ∷ [])
  are_then = record {
    legal = subst (λ n. IsLegal n plan.table (here.begun ++ (here.more ++ turn.row ∷ []))) members
        (subst (λ all. IsLegal state.members plan.table all) (append_assoc here.begun here.more (turn.row ∷ [])) behind_then.legal);
    turns = here.are.turns;
    each = AllZip-append HasTurnOf (stopper.after ++ gone) (row_now ∷ []) here.more (turn.row ∷ []) here.are.each (turn.is, tt);
  }

  -- the replica keeps what the node keeps
  pub kept_then : (begun more : List Row) → ArePlayed plan rows_then begun more → (situation_in plan more).standing.replicas who ≡ started who (replica_of job.node).state.kept
  kept_then begun more are =
      let at : StandsStopped plan.table (rows_now ++ turn.row ∷ []) book_then who (kept_after change old.state.kept) = turn.stands book_then refl in
      let standing : standing_behind plan.table (rows_now ++ turn.row ∷ []) book_then ≡ (situation_in plan more).standing =
      ap (λ rows. standing_behind plan.table rows book_then) (append_assoc here.begun here.more (turn.row ∷ []))
      ∙ ap (λ n. standing_after n (first_rows plan.table) (here.begun ++ (here.more ++ turn.row ∷ []))) members
      ∙ played_stand plan rows_then here.begun (here.more ++ turn.row ∷ []) begun more are_then are ∙ sym (situation_stands plan book rows_then begun more stopper.of_plan are) in
      ap (λ (s : Standing). s.replicas who) (sym standing) ∙ at.state ∙ ap (started who) (sym stopper.stop.keeps)

  -- ---- whatever rows have what the seat has seen then

  module _ (begun more : List Row) (are : ArePlayed plan rows_then begun more) where
    late : Lately plan who stopper.after state rows_now row_now begun more
    late = lately plan book who stopper.after stopper.of_plan stopper.some gone others state here rest members row_now begun more are

    abbrev seen_last : Situation
    seen_last = situation_in plan late.one

    abbrev here_before : Situation
    here_before = after_all_posted plan.book.members seen_last late.other

    mail_was : IsMailIn seen_last who job.mail
    mail_was = stopper.mail begun late.one late.first

    left : Passes who seen_last here_before
    left = left_by plan who stopper.after state rows_now row_now begun more late members

    then : situation_in plan more ≡ after_posted plan.book.members here_before late.row
    then = is_then plan who stopper.after state rows_now row_now begun more late members

    -- ---- the change of the step

    changes_now : deltas_of (acts_at plan.book.members here_before.standing who late.row.event) ≡ stopper.stop.change ∷ []
    changes_now =
        changes_before plan who stopper.after state rows_now row_now begun more late members cause old next_here.began.event (stopper.stop.change ∷ [])
        next_here.stands next_here.me takes_now next_here.began.changes
        (subst (λ (turn : Turn). MayFollow state.members plan.table (standing_behind plan.table rows_now state) turn late.row) late.is.turn_is late.may).0

    changes_of : (s : Standing) → deltas_of (acts_at plan.book.members s who late.row.event) ≡ stopper.stop.change ∷ []
        → changes_in plan.book.members s late.row.turn late.row.event ≡ stopper.stop.change ∷ []
    changes_of s are = ap (λ (turn : Turn). changes_in plan.book.members s turn late.row.event) late.is.turn_is ∙ are

    stops : StopsInStep plan.book.members seen_last who cause late.row
    stops = record {
      armed = record { left = stopper.arm.left; image = stopper.arm.image };
      is_armed = sym mail_was.arm ∙ ap armed_in stopper.armed;
      change = stopper.stop.change;
      is = late.is.turn_is ∙ ap (λ (kept : Bool). Stopped who (Some cause) kept) (ap is_some stopper.stop.is_kept ∙ kept_is (by_numbers (bases_behind plan.table (stopper.some.begun ++ stopper.some.more) stopper.some.book who)) stopper.stop.change)
          ∙ ap (λ (bases : ℕ). Stopped who (Some cause) (by_numbers bases))
          (bases_here plan book who stopper.after stopper.of_plan stopper.some gone others state here rest members begun late.one late.first);
      changes = changes_of seen_last.standing (changes_seen plan who stopper.after state rows_now row_now begun more late members (stopper.stop.change ∷ []) changes_now);
      few = stopper.stop.few;
    }
      where
        by_numbers : ℕ → Bool
        by_numbers bases = is_kept bases stopper.stop.change stopper.arm.left stopper.arm.image

    pub broken_then : HasStoppedFreely plan who more
    broken_then =
        subst (λ rows. HasStoppedFreely plan who rows) (sym late.parts)
        (broken_next plan who taken late.one late.other late.row cause (stopper.gone begun late.one late.first) stopper.left late.others (stopper.cause_is begun late.one late.first) stops)

    -- the disk is where the turn leaves it
    pub disk_then : IsDiskAt view ((situation_in plan more).bases who) job.node
    disk_then = subst (λ (count : ℕ). IsDiskAt view count job.node) (sym bases_then) stopper.attached.disk
      where
        bases_then : (situation_in plan more).bases who ≡ bases_with (option_to_list change) (bases_behind plan.table (stopper.some.begun ++ stopper.some.more) stopper.some.book who)
        bases_then =
            ap (λ (s : Situation). s.bases who) then
            ∙ ap (λ (changes : List Delta). bases_kept late.row.turn changes here_before.bases who) (changes_of here_before.standing changes_now)
            ∙ ap (λ (turn : Turn). bases_kept turn (stopper.stop.change ∷ []) here_before.bases who) late.is.turn_is
            ∙ stop_bases who cause stopper.stop.change change here_before.bases either
            ∙ ap (bases_with (option_to_list change)) (left.bases ∙ sym (bases_here plan book who stopper.after stopper.of_plan stopper.some gone others state here rest members begun late.one late.first))

    -- nothing is on its way to the replica
    letters_then : (situation_in plan more).mails who ≡ []
    letters_then =
        ap (λ (s : Situation). s.mails who) then
        ∙ ap (λ (l : List ℕ). l ++ letters_for (after_turn plan.book.members here_before late.row) (length here_before.standing.posted) who)
        (ap (λ (turn : Turn). mails_after turn here_before.mails who) late.is.turn_is ∙ fact_here who [] here_before.mails)
        ∙ no_letters (after_turn plan.book.members here_before late.row) (length here_before.standing.posted) who
        (turn_halts plan.book.members who here_before late.row (Some cause) (is_some change) late.is.turn_is)

    pub mail_then : (new : MemberMail) → IsHalted job.mail.mail new → IsStoppedMailIn (situation_in plan more) who new
    mail_then new halted = record {
      none = halted.letters;
      letters_are = letters_then;
      skew = halted.skew ∙ mail_was.skew ∙ ap (λ (skews : ℕ → ℤ). skews who) (sym left.skews) ∙ ap (λ (s : Situation). s.skews who) (sym then);
      small = subst IsSkew (sym halted.skew) mail_was.small;
      fate = halted.fate ∙ mail_was.fate ∙ sym left.fate ∙ ap (λ (turn : Turn). fates_after turn here_before.fates who) (sym late.is.turn_is) ∙ ap (λ (s : Situation). s.fates who) (sym then);
      waits = halted.waits ∙ sym (waits_stopped plan.book.members here_before.standing who (Some cause) (is_some change) late.row.event late.row.letters)
          ∙ ap (λ (turn : Turn). (after_row plan.book.members here_before.standing turn late.row.event late.row.letters).waits who) (sym late.is.turn_is)
          ∙ ap (λ (s : Situation). s.standing.waits who) (sym then);
      arm = ap armed_in halted.arm ∙ sym (fact_here who None here_before.arms)
          ∙ ap (λ (turn : Turn). arms_after turn (changes_in plan.book.members here_before.standing late.row.turn late.row.event) here_before.arms who) (sym late.is.turn_is)
          ∙ ap (λ (s : Situation). s.arms who) (sym then);
    }
