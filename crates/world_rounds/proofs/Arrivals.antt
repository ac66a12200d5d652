-- Late calls that arrive.
use Rattle.std.proofs.Common.{◌≡◌, ℕ, ◌<◌, ◌==◌, ◌&&◌, nat_lt, not, Bool, true, false, List, [], ◌∷◌, length, None, Some, refl, sym, ap, ◌∙◌, subst, inl, inr, arith, if◌then◌else◌}
use Rattle.std.specs.List.{list_any, slice_get}
use Rattle.std.proofs.lemmas.Bool.{cases_Bool, ltb-true}
use Rattle.std.proofs.lemmas.Option.{slice_get_cases}
use Rattle.disk_model.specs.View.{DiskView}
use Rattle.due_set.specs.Table.{Table}
use Rattle.step_spec.specs.Step as event
use Rattle.history.specs.Book.{Row, Standing, late_after}
use Rattle.history.specs.Legal.{IsLate}
use Rattle.history.specs.declared.turn.Turn.TheVariants.{Arrived}
use Rattle.script_semantics.specs.Commands.{Plain, arrival_tasks, has_number}
use Rattle.script_semantics.specs.Situation.{Arrive, Situation}
use Rattle.script_semantics.proofs.MailLemmas.{no_arrival}
use Rattle.world_law.specs.Book.{standing_behind}
use Rattle.world_steps.proofs.AfterTurn.{leaves_all}
use Rattle.world_rounds.proofs.AfterTurn.{member_stays}
use Rattle.world_rounds.proofs.Halts.{goes_alone, has_same}
use Rattle.world_rounds.specs.Alone.{HasJoinedAlone, IsAlone}
use Rattle.world_rounds.specs.World.{GoesOnBy, IsWorld, IsWorldAt}
use Rattle.world_rounds.specs.declared.world.World.{World}

pub any_number : (number : ℕ) (numbers : List ℕ) → list_any (λ other. other == number) numbers ≡ has_number number numbers
any_number number [] = refl
any_number number (first ∷ numbers) = elim (cases_Bool (first == number)) [
  | inl same ↦ rw same refl
  | inr differs ↦ rw differs (any_number number numbers)
]

both : (a b : Bool) → (a && b) ≡ true → a ≡ true
both true b is = refl
both false b is = absurd cc

-- a call of which the turn is asked for is late
asked_late : (late : ℕ) (situation : Situation) → arrival_tasks late situation ≡ Arrive late ∷ [] → late < length situation.standing.late → IsLate situation.standing late
asked_late late situation asks within = elim ((slice_get_cases situation.standing.late late).1) [
  | inl found ↦ record {
    row = found.0;
    there = found.2;
    first = λ has. let e : Arrive late ∷ [] ≡ [] = sym asks ∙ no_arrival late situation (λ is. is.first has) in cc;
  }
  | inr past ↦ absurd (omega (arith, past.0))
]

abbrev row_arrived : ℕ → Row
row_arrived late = record { turn = Arrived late; event = event.Campaign; letters = []; votes = []; learnt = [] }

module _ {D : Type 0} (view : DiskView D) (table : Table) where
  -- the book has of late calls what the situation has
  late_alike : (rows : List Row) (world : World D) (situation : Situation) (late : ℕ) → IsWorldAt view table rows world situation
      → (nat_lt late (length world.book.ledger.late) && not (has_number late world.book.arrived)) ≡ (nat_lt late (length situation.standing.late) && not (has_number late situation.standing.arrived))
  late_alike rows world situation late is =
      let s = standing_behind table rows world.book in
      let calls : world.book.ledger.late ≡ situation.standing.late =
      is.ahead.at.behind.late ∙ ap (λ pending. late_after pending s.held s.late) is.ahead.at.rest ∙ sym (ap (λ (s : Standing). s.late) is.ahead.at.standing) in
      let arrived : world.book.arrived ≡ situation.standing.arrived = is.ahead.at.behind.arrived ∙ sym (ap (λ (s : Standing). s.arrived) is.ahead.at.standing) in
      ap (λ calls. nat_lt late (length calls) && not (has_number late world.book.arrived)) calls
      ∙ ap (λ arrived. nat_lt late (length situation.standing.late) && not (has_number late arrived)) arrived

  pub asks_arrival : (rows : List Row) (world : World D) (situation : Situation) (late : ℕ) (may : Bool) → IsWorldAt view table rows world situation
      → (nat_lt late (length world.book.ledger.late) && not (has_number late world.book.arrived)) ≡ may → arrival_tasks late situation ≡ (if may then Arrive late ∷ [] else [])
  asks_arrival rows world situation late may is answer = ap (λ (b : Bool). if b then Arrive late ∷ [] else []) (sym (late_alike rows world situation late is) ∙ answer)

  arrives_alone : (rows : List Row) (world : World D) (situation : Situation) (late : ℕ) → IsWorldAt view table rows world situation
      → (nat_lt late (length world.book.ledger.late) && not (has_number late world.book.arrived)) ≡ true → IsAlone table rows world.book (Arrived late) None (row_arrived late)
  arrives_alone rows world situation late is answer =
      let within : late < length situation.standing.late =
      ltb-true late (length situation.standing.late) (both _ _ (sym (late_alike rows world situation late is) ∙ answer)) in
      record {
        behind = is.ahead.at.behind;
        rest = is.ahead.at.rest;
        call = refl;
        is = record { turn_is = refl; letters = refl; votes = refl; learnt = refl };
        may = (
          subst (λ (s : Standing). IsLate s late) is.ahead.at.standing (asked_late late situation (asks_arrival rows world situation late true is answer) within),
          record { letters = refl; votes = refl; learnt = refl },
        );
      }

  pub may_come : (world : World D) (late : ℕ) → IsWorld view table world
      → (nat_lt late (length world.book.ledger.late) && not (has_number late world.book.arrived)) ≡ true → (rows : List Row) × (row : Row) × IsAlone table rows world.book (Arrived late) None row
  may_come world late is answer = (is.rows, row_arrived late, arrives_alone is.rows world is.situation late is.is answer)

  pub arrival_goes : (world new : World D) (late : ℕ) → (nat_lt late (length world.book.ledger.late) && not (has_number late world.book.arrived)) ≡ true
      → new.members ≡ world.members → new.cuts ≡ world.cuts → new.latest ≡ world.latest
      → ((rows : List Row) (row : Row) → IsAlone table rows world.book (Arrived late) None row → HasJoinedAlone table rows world.book new.book row)
      → GoesOnBy view table (Plain world.book.members (arrival_tasks late) (λ situation. situation)) world new
  arrival_goes world new late answer members cuts latest joins = λ rows situation is.
      let row = row_arrived late in
      let joined = joins rows row (arrives_alone rows world situation late is answer) in
      goes_alone view table rows world new situation row (Arrive late) (arrival_tasks late) is joined refl (asks_arrival rows world situation late true is answer)
      (ap (λ members. length members.items) members) cuts (ap (λ minute. minute.0) latest ∙ is.ahead.latest)
      (λ k x found. member_stays view table rows row world.book new.book situation k [] x is.ahead.at joined.members (has_same world.book new.book joined.letters)
      (leaves_all world.book.members situation row late k refl) (is.ahead.each k x (subst (λ members. slice_get members.items k ≡ Some x) members found)))
      (λ k x found. is.idle k x (subst (λ members. slice_get members.items k ≡ Some x) members found))
