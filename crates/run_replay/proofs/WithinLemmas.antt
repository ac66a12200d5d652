-- What a stop within a step that is judged leaves of a replay.
use Rattle.std.proofs.Common.{◌≡◌, ◌⊎◌, ℕ, Bool, true, false, not, is_some, List, [], ◌∷◌, ◌++◌, length, Option, None, Some, refl, sym, ap, ◌∙◌, subst, inl, inr}
use Rattle.std.specs.List.{slice_get}
use Rattle.std.proofs.Math.ListN.{set}
use Rattle.due_set.specs.Table.{Table}
use Rattle.step_spec.specs.Folds.{deltas_of}
use Rattle.step_spec.specs.Step.{Event}
use Rattle.history.specs.Book.{Row, Standing, acts_at, turn_of}
use Rattle.history.specs.Legal.{MayFollow, StopsWithin, TakesTurn}
use Rattle.history.specs.declared.turn.Cause.{Cause}
use Rattle.history.specs.declared.turn.Turn.TheVariants.{Stopped}
use Rattle.journal_line.specs.Told.{StopWithinTurn, TurnLine}
use Rattle.journal_line.specs.declared.line.Count.TheVariants.{Number}
use Rattle.journal_text.specs.Line.{Tells, told_cause}
use Rattle.paxos_base.specs.declared.durable.Delta.{Delta}
use Rattle.replica_core.specs.Commit.{kept_after}
use Rattle.replica_core.specs.Replica.{ReplicaState}
use Rattle.replica_core.specs.Step.{IsInputInside}
use Rattle.replica_core.specs.declared.input.Input.{Input}
use Rattle.replica_core.specs.declared.out.StepOut.{StepOut}
use Rattle.script_semantics.specs.Situation.{Situation}
use Rattle.world_law.proofs.Called.{alike_stands}
use Rattle.world_law.proofs.Stops.{stop_within}
use Rattle.world_law.specs.Book.{HasRoom, IsRowOf, IsSameBook, standing_behind}
use Rattle.world_law.specs.Replicas.{IsInputOf, IsStopOf, StandsStopped, change_alone}
use Rattle.run_replay.proofs.JudgeLemmas.{seated_then, told_acts, turns_are}
use Rattle.run_replay.proofs.QuietLemmas.{running_at}
use Rattle.run_replay.proofs.ToldLemmas.{within_told}
use Rattle.run_replay.specs.Judged.{ChangesNothing, IsChangeKept, IsJudged, MayBeTold, WouldChange, changes_with, kept_change}
use Rattle.run_replay.specs.Replay.{IsReplayAt, IsThere}
use Rattle.run_replay.specs.declared.replay.Replay.{Replay}
use Rattle.run_replay.specs.declared.replay.Seat.{Seat}

-- a change was kept, or it wasn't
kept_or_lost : (kept : Bool) (change : Delta) → (kept_change kept change ≡ Some change) ⊎ (kept_change kept change ≡ None)
kept_or_lost true change = inl refl
kept_or_lost false change = inr refl

is_kept : (kept : Bool) (change : Delta) → is_some (kept_change kept change) ≡ kept
is_kept true change = refl
is_kept false change = refl

-- the change of the step is the one that is kept, or the one that is lost
one_change : (kept : Bool) (change : Delta) → changes_with (kept_change kept change) (kept_change (not kept) change) ≡ change ∷ []
one_change true change = refl
one_change false change = refl

-- what such a stop changes
change_is : (members : ℕ) (standing : Standing) (who : ℕ) (why : Cause) (kept : Bool) (event : Event) (change : Delta) → deltas_of (acts_at members standing who event) ≡ change ∷ []
    → IsChangeKept members standing (Stopped who (Some why) kept) event (kept_change kept change)
change_is members standing who why true event change changes = changes
change_is members standing who why false event change changes = refl

module _ (table : Table) (rows : List Row) (old : Replay) (situation : Situation) (who : ℕ) (why : Cause) (kept : Bool) (is : IsReplayAt table rows old situation) where
  abbrev standing : Standing
  standing = standing_behind table rows old.book

  -- a turn that the line tells is such a stop
  pub within_may : (row : Row) → MayBeTold table rows old.book (TurnLine (Number (length old.book.turns)) (Number who) (StopWithinTurn kept (told_cause why))) row
      → TakesTurn old.book.members table standing who why row.event × StopsWithin old.book.members standing who row kept
  within_may row told =
      let turn = within_told table (length rows) (length old.book.turns) who kept why row.turn told.tells in
      subst (λ turn. MayFollow old.book.members table standing turn row) turn told.may

  module _ (seat : Seat) (replica : ReplicaState) (input : Input) (there : slice_get old.seats.items who ≡ Some seat) (runs : seat.replica ≡ Some replica) (told : IsInputOf standing old.book who why input) (inside : IsInputInside table input) where
    -- no line tells a stop within a step that changes nothing
    pub changes_none : (row : Row) → ChangesNothing table input replica → MayBeTold table rows old.book (TurnLine (Number (length old.book.turns)) (Number who) (StopWithinTurn kept (told_cause why))) row → ⊥
    changes_none row nothing line =
        let at = running_at table rows old situation is who seat replica there runs in
        let may = within_may row line in
        let acts = told_acts table rows old.book who why input replica nothing.event row.event is.behind at.stands at.me told inside nothing.event_is may.0 in
        let both : [] ≡ may.1.delta ∷ [] = sym nothing.changes ∙ sym (ap deltas_of acts) ∙ may.1.changes in
        cc

    module _ (change : Delta) (would : WouldChange table input replica change) where
      abbrev answer : Option Delta
      answer = kept_change kept change

      stop : IsStopOf table rows old.book who (Some why) answer (kept_after answer replica.state.kept)
      stop =
          let at = running_at table rows old situation is who seat replica there runs in
          subst (λ me. IsStopOf table rows old.book me (Some why) answer (kept_after answer replica.state.kept)) at.me
          (stop_within table rows old.book why input replica would.event change is.behind at.stands (subst (λ me. IsInputOf standing old.book me why input) (sym at.me) told) inside would.event_is would.changes
          answer (kept_or_lost kept change))

      row_is : IsRowOf (Stopped who (Some why) kept) (change_alone answer) stop.row
      row_is = subst (λ keeps. IsRowOf (Stopped who (Some why) keeps) (change_alone answer) stop.row) (is_kept kept change) stop.is

      may : MayFollow old.book.members table standing (Stopped who (Some why) kept) stop.row
      may = subst (λ turn. MayFollow old.book.members table standing turn stop.row) row_is.turn_is stop.may

      changes : deltas_of (acts_at old.book.members standing who stop.row.event) ≡ change ∷ []
      changes =
          let at = running_at table rows old situation is who seat replica there runs in
          ap deltas_of (told_acts table rows old.book who why input replica would.event stop.row.event is.behind at.stands at.me told inside would.event_is may.0) ∙ would.changes

      -- a stop that the line tells was judged
      pub judged_within : (new : Replay) (next : Seat) (out : StepOut) (lost : Option Delta) → out ≡ change_alone answer → lost ≡ kept_change (not kept) change → IsSameBook new.book old.book → HasRoom (length out.letters) new.book → new.seats.items ≡ set old.seats.items who next
          → next.replica ≡ None → next.kept ≡ kept_after out.delta seat.kept → new.settings ≡ old.settings → new.cuts ≡ old.cuts → new.latest ≡ old.latest
          → IsJudged table rows (TurnLine (Number (length old.book.turns)) (Number who) (StopWithinTurn kept (told_cause why))) old new (record { turn = Stopped who (Some why) kept; out = out; lost = lost })
      judged_within new next out lost alone loses book room seats stopped keeps settings cuts latest =
          let at = running_at table rows old situation is who seat replica there runs in
          let delta : out.delta ≡ answer = ap (λ (out : StepOut). out.delta) alone in
          let left : kept_after answer replica.state.kept ≡ next.kept =
          ap (kept_after answer) (sym at.keeps) ∙ sym (ap (λ delta. kept_after delta seat.kept) delta) ∙ sym keeps in
          record {
            row = stop.row;
            is = subst (λ (out : StepOut). IsRowOf (Stopped who (Some why) kept) out stop.row) (sym alone) row_is;
            told_by = record {
              may = stop.may;
              tells = subst (λ turn. Tells table (length rows) turn (TurnLine (Number (length old.book.turns)) (Number who) (StopWithinTurn kept (told_cause why)))) (sym row_is.turn_is)
                  (ap (λ number. TurnLine (Number number) (Number who) (StopWithinTurn kept (told_cause why))) (turns_are table rows old situation is));
            };
            change = subst (λ delta. IsChangeKept old.book.members standing (Stopped who (Some why) kept) stop.row.event delta) (sym delta)
                (change_is old.book.members standing who why kept stop.row.event change changes);
            changes = changes ∙ sym (one_change kept change) ∙ ap (λ found. changes_with found (kept_change (not kept) change)) (sym delta) ∙ ap (changes_with out.delta) (sym loses);
            behind = alike_stands table rows old.book new.book book is.behind;
            members = book.members;
            pending = book.pending ∙ is.rest;
            room = room;
            seated = seated_then table rows stop.row old new situation who next is (ap turn_of row_is.turn_is) seats
                (λ after same. subst (λ replica. IsThere table (rows ++ stop.row ∷ []) after who next.kept replica) (sym stopped)
                (subst (λ kept. StandsStopped table (rows ++ stop.row ∷ []) after who kept) left (stop.stands after same)));
            settings = settings;
            cuts = cuts;
            latest = latest;
          }
