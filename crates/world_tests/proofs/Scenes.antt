-- All replicas after a turn of one of them, and after an arrival.
use Rattle.std.proofs.Common.{◌≡◌, ◌≢◌, ◌+◌, ◌≤◌, ◌<◌, ℕ, List, [], ◌∷◌, ◌++◌, length, Some, None, refl, ap, ◌∙◌, sym, subst, inl, inr}
use Rattle.std.specs.List.{slice_get}
use Rattle.std.proofs.lemmas.Bool.{lt-ltb, cases_eq}
use Rattle.std.proofs.lemmas.List.{length-append}
use Rattle.due_set.specs.Table.{Table}
use Rattle.launch_machine.proofs.MachineLemmas.{push_before, push_last}
use Rattle.step_spec.specs.State.{Identity, started}
use Rattle.world_law.specs.Book.{BookState, StandsBehind}
use Rattle.history.proofs.Standings.{is_no_turn_of}
use Rattle.world_tests.specs.Scene.{AreNew, HasArrived, IsLegalScene}
use Rattle.world_tests.specs.Seat.{GoesOnByTurn, IsWhereLeft, IsNew, IsSeated, SeatState}
use Rattle.world_tests.proofs.Left.{all_seated, others_seated}

-- one of them takes a turn, and the others are as they were
pub scene_goes_on : (table : Table) (book after : BookState) (seats new : List SeatState) (who : ℕ) (seat : SeatState) (scene : IsLegalScene table book seats)
    → GoesOnByTurn table scene.rows book after who seat → ((found : SeatState) → slice_get new who ≡ Some found → found ≡ seat)
    → ((other : ℕ) → other ≢ who → slice_get new other ≡ slice_get seats other) → IsLegalScene table after new
scene_goes_on table book after seats new who seat scene goes here there = record {
  rows = scene.rows ++ goes.row ∷ [];
  rests = goes.rests;
  seated = λ other found is.
      elim (cases_eq other who) [
        | inl same ↦
            subst (λ other. IsSeated table (scene.rows ++ goes.row ∷ []) after other found) (sym same)
            (subst (IsSeated table (scene.rows ++ goes.row ∷ []) after who) (sym (here found (subst (λ other. slice_get new other ≡ Some found) same is))) goes.seated)
        | inr differs ↦
            others_seated table scene.rows goes.row book after other found goes.members (is_no_turn_of goes.row.turn who other goes.whose differs)
            (scene.seated other found (sym (there other differs) ∙ is))
      ];
}

-- a late call arrives, and all are as they were
pub scene_arrives : (table : Table) (book after : BookState) (seats : List SeatState) (late : ℕ) (scene : IsLegalScene table book seats)
    → HasArrived table scene.rows book after late → IsLegalScene table after seats
scene_arrives table book after seats late scene arrives = record {
  rows = scene.rows ++ arrives.row ∷ [];
  rests = arrives.rests;
  seated = λ who found is. all_seated table scene.rows arrives.row late book after who found arrives.members arrives.turn (scene.seated who found is);
}

-- ---- the beginning

-- so many of them that have started for the first time
pub record AreFirst (table : Table) (members count : ℕ) (seats : List SeatState) : Type 0 where
  pub long : length seats ≡ count
  pub new : AreNew table members seats

pub first_next : (table : Table) (members count : ℕ) (seats : List SeatState) (seat : SeatState) → AreFirst table members count seats → IsNew table count members seat
    → AreFirst table members (count + 1) (seats ++ seat ∷ [])
first_next table members count seats seat first new = record {
  long = length-append seats (seat ∷ []) ∙ ap (λ n. n + 1) first.long;
  new = λ who found is.
      elim (cases_eq who (length seats)) [
        | inl same ↦
            subst (IsNew table who members) (push_last seats seat found (subst (λ who. slice_get (seats ++ seat ∷ []) who ≡ Some found) same is))
            (subst (λ who. IsNew table who members seat) (sym (same ∙ first.long)) new)
        | inr differs ↦ first.new who found (sym (push_before seats seat who differs) ∙ is)
      ];
}

new_seated : (table : Table) (book : BookState) (who members : ℕ) (seat : SeatState) → book.members ≡ members → IsNew table who members seat
    → IsSeated table [] book who seat
new_seated table book who members seat same new =
    let me : new.replica.identity.me ≡ who = ap (λ (self : Identity). self.me) new.started.identity in
    let few : who < book.members = rw same new.started.member in
    record {
      member = few;
      members = new.of ∙ sym same;
      kept = sym new.durable;
      waits = sym new.waits;
      left =
          subst (IsWhereLeft table [] book who seat.durable) (sym new.running) (record {
            me = me;
            stands = record {
              identity = new.started.identity ∙ rw (me, same) refl;
              member = rw me few;
              runs = rw me (lt-ltb who book.members few);
              state = new.started.state ∙ ap (started who) new.durable ∙ rw me refl;
              of_table = new.started.of_table;
            };
          });
    }

pub scene_begins : (table : Table) (book : BookState) (members : ℕ) (seats : List SeatState) → StandsBehind table [] book → book.members ≡ members → members ≤ 7
    → book.pending ≡ None → AreNew table members seats → IsLegalScene table book seats
scene_begins table book members seats behind same few rest new = record {
  rows = [];
  rests = record { behind = behind; few = rw same few; rest = rest };
  seated = λ who seat is. new_seated table book who members seat same (new who seat is);
}
