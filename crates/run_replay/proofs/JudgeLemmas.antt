-- What a turn that is judged leaves of a replay.
use Rattle.std.proofs.Common.{◌≡◌, ◌≢◌, ◌<◌, ◌==◌, ◌||◌, eq-eqb, ℕ, is_some, true, false, List, [], ◌∷◌, ◌++◌, length, Option, None, Some, refl, sym, ap, ◌∙◌, subst, inl, inr}
use Rattle.std.specs.List.{Contains, list_any, slice_get}
use Rattle.std.proofs.lemmas.Bool.{cases_Bool}
use Rattle.due_set.proofs.Rising.{Contains-cases as cons_cases}
use Rattle.due_set.proofs.SoundLemmas.{at_place as found_at}
use Rattle.step_spec.proofs.Lists.{nothing_in}
use Rattle.step_spec.specs.Step.{Campaign, Event, step}
use Rattle.step_spec.specs.State.{Identity, State, started}
use Rattle.agreement.specs.Transition.{identity_of}
use Rattle.replica_core.specs.Step.{IsEventOf, IsInputInside, IsOfTable}
use Rattle.replica_core.specs.declared.input.Input.{Input}
use Rattle.std.proofs.Math.ListN.{set}
use Rattle.std.proofs.lemmas.List.{length-map, length-set}
use Rattle.due_set.specs.Table.{Table}
use Rattle.history.specs.Book.{Row, acts_at, turn_of}
use Rattle.history.proofs.Keeping.{one_event}
use Rattle.history.specs.Legal.{IsMade, MayFollow, TakesTurn}
use Rattle.history.specs.declared.turn.CallRow.{CallRow}
use Rattle.history.specs.declared.turn.Cause.{Cause}
use Rattle.cluster_sched.specs.declared.row.SchedRow.{SchedRow}
use Rattle.step_spec.specs.Folds.{calls_of, deltas_of}
use Rattle.std.specs.Option.{option_to_list}
use Rattle.history.specs.declared.turn.Turn.TheVariants.{Did, Stopped, Restarted, Arrived}
use Rattle.journal_line.specs.Told.{ToldTurn, ArrivalLine, TurnLine, DidTurn, RestartTurn, StopTurn}
use Rattle.journal_line.specs.declared.line.Count.{Count}
use Rattle.journal_line.specs.declared.line.Count.TheVariants.{Number}
use Rattle.journal_text.specs.Line.{Tells, TellsStep, told_cause}
use Rattle.paxos_base.specs.declared.durable.Delta.{Delta}
use Rattle.paxos_base.specs.declared.durable.Durable.{Durable}
use Rattle.replica_core.specs.Replica.{ReplicaState}
use Rattle.replica_core.specs.declared.out.StepOut.{StepOut}
use Rattle.script_semantics.specs.Situation.{Situation}
use Rattle.world_law.proofs.Called.{alike_stands, late_at_rest}
use Rattle.world_law.proofs.Others.{others_stand, others_stopped}
use Rattle.world_law.proofs.Stops.{restarts, stop_between}
use Rattle.world_law.specs.Book.{BookState, HasRoom, IsRowOf, IsSameBook, StandsBehind, standing_behind}
use Rattle.world_law.specs.Replicas.{IsInputOf, IsStopOf, IsTurnOf, StandsAt, StandsStopped, change_alone}
use Rattle.world_law.proofs.Steps.{step_is_turn, takes_turn}
use Rattle.run_replay.proofs.QuietLemmas.{running_at, stopped_at}
use Rattle.run_replay.proofs.SettingLemmas.{set_cases, some_same}
use Rattle.run_replay.proofs.ToldLemmas.{did_told}
use Rattle.run_replay.specs.Judged.{AreSeatedThen, HasMadeStep, IsJudged, MayBeTold, changes_with}
use Rattle.run_replay.specs.Replay.{IsReplayAt, IsSeatOf, IsThere}
use Rattle.run_replay.specs.declared.replay.Replay.{Replay}
use Rattle.run_replay.specs.declared.replay.Seat.{Seat}

pub some_of : {X : Type 0} (found : Option X) → is_some found ≡ true → (x : X) × (found ≡ Some x)
some_of None is = absurd cc
some_of (Some x) is = (x, refl)

-- ---- where the replicas are

other_there : (table : Table) (rows : List Row) (row : Row) (book after : BookState) (who : ℕ) (kept : Durable) (replica : Option ReplicaState) → after.members ≡ book.members → turn_of row.turn ≢ Some who
    → IsThere table rows book who kept replica → IsThere table (rows ++ row ∷ []) after who kept replica
other_there table rows row book after who kept None same differs is = others_stopped table rows row book after who kept same differs is
other_there table rows row book after who kept (Some replica) same differs is = record {
  me = is.me;
  stands = others_stand table rows row book after replica same (λ mine. differs (mine ∙ ap Some is.me)) is.stands;
  keeps = is.keeps;
}

-- one replica has a turn, and is there; the others stay
pub seated_then : (table : Table) (rows : List Row) (row : Row) (old new : Replay) (situation : Situation) (who : ℕ) (next : Seat) → IsReplayAt table rows old situation → turn_of row.turn ≡ Some who
    → new.seats.items ≡ set old.seats.items who next → ((after : BookState) → after.members ≡ old.book.members → IsThere table (rows ++ row ∷ []) after who next.kept next.replica) → AreSeatedThen table rows row old new
seated_then table rows row old new situation who next is mine seats there = record {
  count = ap length seats ∙ length-set old.seats.items who next;
  each = λ k seat found after same. elim (set_cases old.seats.items who next k seat (subst (λ seats. slice_get seats k ≡ Some seat) seats found)) [
    | inl here ↦ subst (λ k. IsSeatOf table (rows ++ row ∷ []) after k seat) (sym here.0) (subst (λ (seat : Seat). IsSeatOf table (rows ++ row ∷ []) after who seat) (sym here.1) (there after same))
    | inr other ↦ other_there table rows row old.book after k seat.kept seat.replica same (λ theirs. other.0 (some_same (turn_of row.turn) k who theirs mine)) (is.seated.seats k seat other.1)
  ];
}

-- ---- the number of the next turn

pub turns_are : (table : Table) (rows : List Row) (replay : Replay) (situation : Situation) → IsReplayAt table rows replay situation → length replay.book.turns ≡ length rows
turns_are table rows replay situation is = ap length is.behind.turns ∙ length-map _ _

-- ---- a stop between two turns

pub judged_stop : (table : Table) (rows : List Row) (old new : Replay) (situation : Situation) (who : ℕ) (seat next : Seat) (out : StepOut) → IsReplayAt table rows old situation
    → slice_get old.seats.items who ≡ Some seat → is_some seat.replica ≡ true → out ≡ change_alone None → IsSameBook new.book old.book → HasRoom (length out.letters) new.book
    → new.seats.items ≡ set old.seats.items who next → next.replica ≡ None → next.kept ≡ seat.kept → new.settings ≡ old.settings → new.cuts ≡ old.cuts → new.latest ≡ old.latest
    → IsJudged table rows (TurnLine (Number (length old.book.turns)) (Number who) StopTurn) old new (record { turn = Stopped who None false; out = out; lost = None })
judged_stop table rows old new situation who seat next out is there runs alone book room seats stopped kept settings cuts latest =
    let replica = some_of seat.replica runs in
    let at = running_at table rows old situation is who seat replica.0 there replica.1 in
    let stop : IsStopOf table rows old.book who None None replica.0.state.kept = subst (λ me. IsStopOf table rows old.book me None None replica.0.state.kept) at.me (stop_between table rows old.book replica.0 at.stands) in
    let turn : stop.row.turn ≡ Stopped who None false = stop.is.turn_is in
    record {
      row = stop.row;
      is = subst (λ (out : StepOut). IsRowOf (Stopped who None false) out stop.row) (sym alone) stop.is;
      told_by = record {
        may = stop.may;
        tells = subst (λ turn. Tells table (length rows) turn (TurnLine (Number (length old.book.turns)) (Number who) StopTurn)) (sym turn)
            (ap (λ number. TurnLine (Number number) (Number who) StopTurn) (turns_are table rows old situation is));
      };
      change = ap (λ (out : StepOut). out.delta) alone;
      changes = sym (ap (λ (out : StepOut). changes_with out.delta None) alone);
      behind = alike_stands table rows old.book new.book book is.behind;
      members = book.members;
      pending = book.pending ∙ is.rest;
      room = room;
      seated = seated_then table rows stop.row old new situation who next is (ap turn_of turn) seats
          (λ after same. subst (λ replica. IsThere table (rows ++ stop.row ∷ []) after who next.kept replica) (sym stopped)
          (subst (λ kept. StandsStopped table (rows ++ stop.row ∷ []) after who kept) (sym (kept ∙ at.keeps)) (stop.stands after same)));
      settings = settings;
      cuts = cuts;
      latest = latest;
    }

-- ---- an arrival

pub not_any : (late : ℕ) (numbers : List ℕ) → list_any (λ other. other == late) numbers ≡ false → Contains numbers late → ⊥
not_any late [] none has = nothing_in has
not_any late (number ∷ numbers) none has = elim (cases_Bool (number == late)) [
  | inl same ↦ let any : list_any (λ other. other == late) (number ∷ numbers) ≡ true = rw same refl in cc
  | inr differs ↦
      let rest : list_any (λ other. other == late) numbers ≡ false = (let none : list_any (λ other. other == late) (number ∷ numbers) ≡ false = none in subst (λ b. (b || list_any (λ other. other == late) numbers) ≡ false) differs none) in
      elim (cons_cases number numbers late has) [
        | inl here ↦ let same : (number == late) ≡ true = eq-eqb number late here in cc
        | inr there ↦ not_any late numbers rest there
      ]
]

pub judged_arrival : (table : Table) (rows : List Row) (old new : Replay) (situation : Situation) (late : ℕ) (told : Count) (out : StepOut) → IsReplayAt table rows old situation → told ≡ Number late → late < length old.book.ledger.late
    → (Contains old.book.arrived late → ⊥) → out ≡ change_alone None → IsSameBook new.book old.book → HasRoom (length out.letters) new.book → new.seats ≡ old.seats
    → new.settings ≡ old.settings → new.cuts ≡ old.cuts → new.latest ≡ old.latest
    → IsJudged table rows (ArrivalLine (Number (length old.book.turns)) told) old new (record { turn = Arrived late; out = out; lost = None })
judged_arrival table rows old new situation late told out is tells below first alone book room seats settings cuts latest =
    let found = found_at old.book.ledger.late late below in
    let row : Row = record { turn = Arrived late; event = Campaign; letters = []; votes = []; learnt = [] } in
    record {
      row = row;
      is = subst (λ (out : StepOut). IsRowOf (Arrived late) out row) (sym alone) (record { turn_is = refl; letters = refl; votes = refl; learnt = refl });
      told_by = record {
        may = (
          record {
            row = found.0;
            there = ap (λ rows. slice_get rows late) (sym (late_at_rest table rows old.book is.rest is.behind)) ∙ found.1;
            first = λ has. first (subst (λ arrived. Contains arrived late) (sym is.behind.arrived) has);
          },
          record { letters = refl; votes = refl; learnt = refl },
        );
        tells = ap (λ number. ArrivalLine (Number number) told) (turns_are table rows old situation is) ∙ ap (λ told. ArrivalLine (Number (length rows)) told) tells;
      };
      change = ap (λ (out : StepOut). out.delta) alone;
      changes = sym (ap (λ (out : StepOut). changes_with out.delta None) alone);
      behind = alike_stands table rows old.book new.book book is.behind;
      members = book.members;
      pending = book.pending ∙ is.rest;
      room = room;
      seated = record {
        count = ap (λ seats. length seats.items) seats;
        each = λ k seat there after same.
            other_there table rows row old.book after k seat.kept seat.replica same (λ mine. let none : None ≡ Some k = mine in cc)
            (is.seated.seats k seat (ap (λ seats. slice_get seats.items k) (sym seats) ∙ there));
      };
      settings = settings;
      cuts = cuts;
      latest = latest;
    }

-- ---- a restart

pub judged_restart : (table : Table) (rows : List Row) (old new : Replay) (situation : Situation) (who : ℕ) (seat next : Seat) (replica : ReplicaState) (out : StepOut) → IsReplayAt table rows old situation
    → slice_get old.seats.items who ≡ Some seat → seat.replica ≡ None → replica.identity ≡ identity_of old.book.members who → replica.state ≡ started who seat.kept → IsOfTable table replica
    → out ≡ change_alone None → IsSameBook new.book old.book → HasRoom (length out.letters) new.book
    → new.seats.items ≡ set old.seats.items who next → next.replica ≡ Some replica → next.kept ≡ seat.kept → new.settings ≡ old.settings → new.cuts ≡ old.cuts → new.latest ≡ old.latest
    → IsJudged table rows (TurnLine (Number (length old.book.turns)) (Number who) RestartTurn) old new (record { turn = Restarted who; out = out; lost = None })
judged_restart table rows old new situation who seat next replica out is there stopped identity state of_table alone book room seats runs kept settings cuts latest =
    let me : replica.identity.me ≡ who = ap (λ (self : Identity). self.me) identity in
    let begins = restarts table rows old.book seat.kept replica (subst (λ me. StandsStopped table rows old.book me seat.kept) (sym me) (stopped_at table rows old situation is who seat there stopped))
    (identity ∙ ap (identity_of old.book.members) (sym me)) (state ∙ ap (λ me. started me seat.kept) (sym me)) of_table in
    let turn : begins.row.turn ≡ Restarted who = begins.is.turn_is ∙ ap (λ me. Restarted me) me in
    record {
      row = begins.row;
      is = subst (λ (out : StepOut). IsRowOf (Restarted who) out begins.row) (sym alone) (subst (λ me. IsRowOf (Restarted me) (change_alone None) begins.row) me begins.is);
      told_by = record {
        may = begins.may;
        tells = subst (λ turn. Tells table (length rows) turn (TurnLine (Number (length old.book.turns)) (Number who) RestartTurn)) (sym turn)
            (ap (λ number. TurnLine (Number number) (Number who) RestartTurn) (turns_are table rows old situation is));
      };
      change = ap (λ (out : StepOut). out.delta) alone;
      changes = sym (ap (λ (out : StepOut). changes_with out.delta None) alone);
      behind = alike_stands table rows old.book new.book book is.behind;
      members = book.members;
      pending = book.pending ∙ is.rest;
      room = room;
      seated = seated_then table rows begins.row old new situation who next is (ap turn_of turn) seats
          (λ after same. subst (λ found. IsThere table (rows ++ begins.row ∷ []) after who next.kept found) (sym runs)
          (record { me = me; stands = begins.stands after same; keeps = kept ∙ ap (λ (state : State). state.kept) (sym state) }));
      settings = settings;
      cuts = cuts;
      latest = latest;
    }

-- ---- a step

-- the acts of a turn for a cause are those of the step that a replica takes when it is told of it
pub told_acts : (table : Table) (rows : List Row) (book : BookState) (who : ℕ) (why : Cause) (input : Input) (before : ReplicaState) (mine event : Event) → StandsBehind table rows book → StandsAt table rows book before
    → before.identity.me ≡ who → IsInputOf (standing_behind table rows book) book who why input → IsInputInside table input → IsEventOf table before input mine
    → TakesTurn book.members table (standing_behind table rows book) who why event → acts_at book.members (standing_behind table rows book) who event ≡ step before.identity mine before.state
told_acts table rows book who why input before mine event behind stands me told inside is takes =
    let standing = standing_behind table rows book in
    let own : TakesTurn book.members table standing who why mine =
    subst (λ me. TakesTurn book.members table standing me why mine) me
    (takes_turn table rows book why input before mine behind stands (subst (λ me. IsInputOf standing book me why input) (sym me) told) inside is) in
    let one : event ≡ mine = one_event book.members table standing who why event mine takes own in
    let identity : before.identity ≡ identity_of book.members who = stands.identity ∙ ap (identity_of book.members) me in
    let state : before.state ≡ standing.replicas who = stands.state ∙ ap standing.replicas me in
    ap (λ event. acts_at book.members standing who event) one
    ∙ ap (λ self. step self mine (standing.replicas who)) (sym identity)
    ∙ ap (λ (state : State). step before.identity mine state) (sym state)

step_acts : (table : Table) (rows : List Row) (old new : Replay) (situation : Situation) (who : ℕ) (why : Cause) (out : StepOut) (event : Event) → IsReplayAt table rows old situation
    → (stepped : HasMadeStep table rows who why old new out) → TakesTurn old.book.members table (standing_behind table rows old.book) who why event
    → acts_at old.book.members (standing_behind table rows old.book) who event ≡ step stepped.before.identity stepped.steps.event stepped.before.state
step_acts table rows old new situation who why out event is stepped takes =
    told_acts table rows old.book who why stepped.input stepped.before stepped.steps.event event is.behind stepped.stands stepped.me stepped.told stepped.inside stepped.steps.event_is takes

-- the calls that such a turn asks for are that of the step
pub step_calls : (table : Table) (rows : List Row) (old new : Replay) (situation : Situation) (who : ℕ) (why : Cause) (out : StepOut) (event : Event) → IsReplayAt table rows old situation
    → HasMadeStep table rows who why old new out → TakesTurn old.book.members table (standing_behind table rows old.book) who why event
    → calls_of (acts_at old.book.members (standing_behind table rows old.book) who event) ≡ option_to_list out.call
step_calls table rows old new situation who why out event is stepped takes =
    ap calls_of (step_acts table rows old new situation who why out event is stepped takes) ∙ stepped.steps.took.call

-- and its changes are that of the step
step_changes : (table : Table) (rows : List Row) (old new : Replay) (situation : Situation) (who : ℕ) (why : Cause) (out : StepOut) (event : Event) → IsReplayAt table rows old situation
    → HasMadeStep table rows who why old new out → TakesTurn old.book.members table (standing_behind table rows old.book) who why event
    → deltas_of (acts_at old.book.members (standing_behind table rows old.book) who event) ≡ option_to_list out.delta
step_changes table rows old new situation who why out event is stepped takes =
    ap deltas_of (step_acts table rows old new situation who why out event is stepped takes) ∙ stepped.steps.took.delta

-- the turn of a step
pub did_turn : (table : Table) (rows : List Row) (old middle : Replay) (situation : Situation) (who : ℕ) (why : Cause) (made : Option CallRow) (out : StepOut) → IsReplayAt table rows old situation
    → (stepped : HasMadeStep table rows who why old middle out) → IsMade (standing_behind table rows old.book).held (option_to_list out.call) made → IsTurnOf table rows old.book who why made out stepped.after
did_turn table rows old middle situation who why made out is stepped is_made =
    subst (λ me. IsTurnOf table rows old.book me why made out stepped.after) stepped.me
    (step_is_turn table rows old.book why made stepped.input stepped.before stepped.after out is.few is.behind stepped.stands
    (subst (λ me. IsInputOf (standing_behind table rows old.book) old.book me why stepped.input) (sym stepped.me) stepped.told) stepped.inside stepped.steps is_made)

-- a step has lost no change
none_lost : (kept : Option Delta) → changes_with kept None ≡ option_to_list kept
none_lost None = refl
none_lost (Some change) = refl

pub judged_did : (table : Table) (rows : List Row) (old middle new : Replay) (situation : Situation) (who : ℕ) (why : Cause) (made : Option CallRow) (told : ToldTurn) (out : StepOut)
    → IsReplayAt table rows old situation → HasMadeStep table rows who why old middle out → IsMade (standing_behind table rows old.book).held (option_to_list out.call) made → TellsStep table why made told
    → StandsBehind table rows new.book → new.book.members ≡ old.book.members → new.book.pending ≡ made → HasRoom (length out.letters) new.book
    → new.seats ≡ middle.seats → new.settings ≡ middle.settings → new.cuts ≡ middle.cuts → new.latest ≡ middle.latest
    → IsJudged table rows (TurnLine (Number (length old.book.turns)) (Number who) told) old new (record { turn = Did who why made; out = out; lost = None })
judged_did table rows old middle new situation who why made told out is stepped is_made tells behind members pending room seats settings cuts latest =
    let did = did_turn table rows old middle situation who why made out is stepped is_made in
    let turn : did.row.turn ≡ Did who why made = did.is.turn_is in
    let standing = standing_behind table rows old.book in
    let may : MayFollow old.book.members table standing (Did who why made) did.row = subst (λ turn. MayFollow old.book.members table standing turn did.row) turn did.may in
    record {
      row = did.row;
      is = did.is;
      told_by = record {
        may = did.may;
        tells = subst (λ turn. Tells table (length rows) turn (TurnLine (Number (length old.book.turns)) (Number who) told)) (sym turn)
            (told, tells, ap (λ number. TurnLine (Number number) (Number who) told) (turns_are table rows old situation is));
      };
      change = step_changes table rows old middle situation who why out did.row.event is stepped may.0;
      changes = step_changes table rows old middle situation who why out did.row.event is stepped may.0 ∙ sym (none_lost out.delta);
      behind = behind;
      members = members;
      pending = pending;
      room = room;
      seated = seated_then table rows did.row old new situation who stepped.seat is (ap turn_of turn) (ap (λ seats. seats.items) seats ∙ stepped.seats)
          (λ after same. subst (λ found. IsThere table (rows ++ did.row ∷ []) after who stepped.seat.kept found) (sym stepped.runs)
          (record { me = ap (λ (self : Identity). self.me) stepped.steps.took.identity ∙ stepped.me; stands = did.stands after same; keeps = stepped.keeps }));
      settings = settings ∙ stepped.settings;
      cuts = cuts ∙ stepped.cuts;
      latest = latest ∙ stepped.latest;
    }

-- a step without a call
pub judged_step : (table : Table) (rows : List Row) (old new : Replay) (situation : Situation) (who : ℕ) (why : Cause) (out : StepOut) → IsReplayAt table rows old situation → HasMadeStep table rows who why old new out
    → out.call ≡ None → IsJudged table rows (TurnLine (Number (length old.book.turns)) (Number who) (DidTurn (told_cause why))) old new (record { turn = Did who why None; out = out; lost = None })
judged_step table rows old new situation who why out is stepped none =
    judged_did table rows old new new situation who why None (DidTurn (told_cause why)) out is stepped
    (subst (λ call. IsMade (standing_behind table rows old.book).held (option_to_list call) None) (sym none) refl) (tells_none table why)
    (alike_stands table rows old.book new.book stepped.book is.behind) stepped.book.members (stepped.book.pending ∙ is.rest) stepped.room refl refl refl refl
  where
    tells_none : (table : Table) (why : Cause) → TellsStep table why None (DidTurn (told_cause why))
    tells_none table why = refl

-- ---- a step that has made a call is told by no line of a step without one

made_none : (held calls : List SchedRow) → IsMade held calls None → calls ≡ []
made_none held [] made = refl
made_none held (row ∷ calls) made = absurd made

pub step_none : (table : Table) (rows : List Row) (old new : Replay) (situation : Situation) (who : ℕ) (why : Cause) (out : StepOut) → IsReplayAt table rows old situation → HasMadeStep table rows who why old new out
    → is_some out.call ≡ true → (row : Row) → MayBeTold table rows old.book (TurnLine (Number (length old.book.turns)) (Number who) (DidTurn (told_cause why))) row → ⊥
step_none table rows old new situation who why out is stepped calls row told =
    let call = some_of out.call calls in
    let turn = did_told table (length rows) (length old.book.turns) who why row.turn told.tells in
    let standing = standing_behind table rows old.book in
    let may : MayFollow old.book.members table standing (Did who why None) row = subst (λ turn. MayFollow old.book.members table standing turn row) turn told.may in
    let none = made_none standing.held (calls_of (acts_at old.book.members standing who row.event)) may.1.call in
    let some : option_to_list out.call ≡ call.0 ∷ [] = ap option_to_list call.1 in
    let both : [] ≡ call.0 ∷ [] = sym none ∙ step_calls table rows old new situation who why out row.event is stepped may.0 ∙ some in
    cc
