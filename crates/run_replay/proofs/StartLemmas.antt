-- A replay before any turn.
use Rattle.std.proofs.Common.{◌≡◌, ◌⊎◌, ℕ, zero, suc, ◌+◌, ◌<◌, ◌≤◌, List, [], ◌∷◌, ◌++◌, length, None, Some, refl, sym, ap, ◌∙◌, subst, inl, inr, arith}
use Rattle.std.specs.List.{slice_get}
use Rattle.std.proofs.lemmas.Bool.{lt-ltb}
use Rattle.std.proofs.lemmas.Int.{ints}
use Rattle.std.proofs.lemmas.List.{length_push}
use Rattle.std.proofs.lemmas.Option.{slice_get_within}
use Rattle.agreement.specs.Transition.{identity_of}
use Rattle.agreement.specs.World.{fresh}
use Rattle.due_set.specs.Table.{IsSound, Table}
use Rattle.launch_machine.specs.Clerk.{first_rows}
use Rattle.step_spec.specs.State.{Identity, State, started}
use Rattle.history.specs.Book.{first_standing}
use Rattle.script_semantics.specs.Situation.{first_situation, is_cut}
use Rattle.world_law.specs.Book.{BookState, StandsBehind}
use Rattle.run_replay.specs.Replay.{IsReplayAt, IsSeatOf, IsThere, armed_of}
use Rattle.run_replay.specs.Start.{AreFreshSeats, AreFreshSettings, IsFreshSeat, IsFreshSetting}
use Rattle.run_replay.specs.declared.replay.Replay.{Replay}
use Rattle.run_replay.specs.declared.replay.Seat.{Seat}
use Rattle.run_replay.specs.declared.replay.Setting.{Setting}

pub found_last : {X : Type 0} (xs : List X) (y : X) (k : ℕ) (x : X) → slice_get (xs ++ y ∷ []) k ≡ Some x → (slice_get xs k ≡ Some x) ⊎ ((k ≡ length xs) × (x ≡ y))
found_last [] y zero x is = inr (refl, cc)
found_last [] y (suc k) x is = absurd cc
found_last (z ∷ xs) y zero x is = inl is
found_last (z ∷ xs) y (suc k) x is = elim (found_last xs y k x is) [ inl old ↦ inl old | inr new ↦ inr (ap suc new.0, new.1) ]

-- ---- seats

pub no_seats : (table : Table) (members : ℕ) → AreFreshSeats table members 0 []
no_seats table members = record { count_is = refl; each = λ who seat found. absurd cc }

pub seats_next : (table : Table) (members count : ℕ) (seats after : List Seat) (seat : Seat) → AreFreshSeats table members count seats → IsFreshSeat table members count seat
    → after ≡ seats ++ seat ∷ [] → AreFreshSeats table members (count + 1) after
seats_next table members count seats after seat so_far new is = record {
  count_is = ap length is ∙ length_push seats seat ∙ ap (λ n. n + 1) so_far.count_is;
  each = λ who x found. elim (found_last seats seat who x (subst (λ xs. slice_get xs who ≡ Some x) is found)) [
    | inl old ↦ so_far.each who x old
    | inr last ↦ subst (λ who. IsFreshSeat table members who x) (sym (last.0 ∙ so_far.count_is)) (subst (λ x. IsFreshSeat table members count x) (sym last.1) new)
  ];
}

-- ---- what is set

pub no_settings : AreFreshSettings 0 []
no_settings = record { count_is = refl; each = λ who setting found. absurd cc }

pub settings_next : (count : ℕ) (settings after : List Setting) (setting : Setting) → AreFreshSettings count settings → IsFreshSetting setting
    → after ≡ settings ++ setting ∷ [] → AreFreshSettings (count + 1) after
settings_next count settings after setting so_far new is = record {
  count_is = ap length is ∙ length_push settings setting ∙ ap (λ n. n + 1) so_far.count_is;
  each = λ who x found. elim (found_last settings setting who x (subst (λ xs. slice_get xs who ≡ Some x) is found)) [
    | inl old ↦ so_far.each who x old
    | inr last ↦ subst (λ (x : Setting). IsFreshSetting x) (sym last.1) new
  ];
}

-- ---- the replay

fresh_seated : (table : Table) (members who : ℕ) (book : BookState) (seat : Seat) → book.members ≡ members → who < members → IsFreshSeat table members who seat → IsSeatOf table [] book who seat
fresh_seated table members who book seat same below new =
    let replica = new.replica in
    let is = new.is in
    let me : replica.identity.me ≡ who = ap (λ (self : Identity). self.me) is.identity in
    subst (λ replica. IsThere table [] book who seat.kept replica) (sym new.runs) (record {
      me = me;
      stands = record {
        identity = is.identity ∙ ap (λ n. identity_of n who) (sym same) ∙ ap (identity_of book.members) (sym me);
        member = rw (me, same) below;
        runs = rw (me, same) (lt-ltb who members below);
        state = is.state ∙ ap (λ who. started who (fresh (first_rows table))) (sym me);
        of_table = is.of_table;
      };
      keeps = new.kept ∙ ap (λ (state : State). state.kept) (sym is.state);
    })

pub replay_starts : (table : Table) (members : ℕ) (replay : Replay) → IsSound table → 0 < members → members ≤ 7 → StandsBehind table [] replay.book → replay.book.pending ≡ None → replay.book.members ≡ members
    → AreFreshSeats table members members replay.seats.items → AreFreshSettings members replay.settings.items → replay.cuts.items ≡ [] → replay.latest ≡ table.window.from
    → IsReplayAt table [] replay (first_situation members table)
replay_starts table members replay sound some few behind rest same seats settings cuts latest = record {
  sound = sound;
  behind = behind;
  rest = rest;
  some = rw same some;
  few = rw same few;
  standing = ap (λ n. first_standing n (first_rows table)) (sym same);
  seated = record {
    count = seats.count_is ∙ sym same;
    seats = λ who seat found.
        let within : who < length replay.seats.items = slice_get_within replay.seats.items who seat found in
        fresh_seated table members who replay.book seat same (let count = seats.count_is in omega arith) (seats.each who seat found);
    set = settings.count_is ∙ sym same;
    settings = λ who setting found.
        let new = settings.each who setting found in
        record { mail = new.mail; skew = new.skew; fate = new.fate; waits = new.waits; arm = ap armed_of new.arm; area = new.area };
  };
  cuts = λ from to. ap (is_cut from to) cuts;
  latest = ap (λ minute. minute.0) latest;
  since = omega (arith, ints);
}
