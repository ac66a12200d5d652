-- The jobs of seats, and the seats of jobs.
use Rattle.std.proofs.Common.{◌≡◌, ℕ, zero, suc, ◌+◌, List, [], ◌∷◌, ◌++◌, length, map, take, drop, slice_get, slice_index_or, Some, refl, sym, ap, ◌∙◌, subst, arith}
use Rattle.std.proofs.lemmas.Option.{get_or_from_slice_get, none-some, slice_get-get_or, slice_get_within}
use Rattle.std.proofs.lemmas.List.{length-map}
use Rattle.std.proofs.Math.Seq.{take-append_seam}
use Rattle.turn_book.specs.declared.book.TurnBook.{TurnBook}
use Rattle.turn_book.specs.declared.book.TurnSeat.{TurnSeat}
use Rattle.turn_book.specs.Turns.{AreAllSeats, AreNewSeats, IsSeatOf, number_of, seats_of}
use Rattle.turn_tests.specs.declared.job.Job.{Job}
use Rattle.turn_tests.specs.Jobs.{AreJobs, seat_of}

module _ {A B : Type 0} (f : A → B) where
  mapped_at : (xs : List A) (place : ℕ) (x : A) → slice_get xs place ≡ Some x → slice_get (map f xs) place ≡ Some (f x)
  mapped_at [] place x is = absurd (none-some x is)
  mapped_at (y ∷ ys) zero x is = ap (λ (z : A). Some (f z)) (let same : y ≡ x = cc in same)
  mapped_at (y ∷ ys) (suc place) x is = mapped_at ys place x is

  mapped_from : (xs : List A) (place : ℕ) (y : B) → slice_get (map f xs) place ≡ Some y → (x : A) × (slice_get xs place ≡ Some x) × (f x ≡ y)
  mapped_from [] place y is = absurd (none-some y is)
  mapped_from (x ∷ xs) zero y is = (x, refl, (let same : f x ≡ y = cc in same))
  mapped_from (x ∷ xs) (suc place) y is = mapped_from xs place y is

-- what was written to a whole `Vec` through a slice
pub written_back : {A : Type 0} (len : ℕ) (old new : List A) → length new ≡ length old → len ≡ length old → take len (new ++ drop (length new) old) ≡ new
written_back len old new same is = ap (λ (n : ℕ). take n (new ++ drop (length new) old)) (is ∙ sym same) ∙ take-append_seam new (drop (length new) old)

module _ {L K R M : Type 0} where
  pub jobs_fit : (book : TurnBook L K R M) (jobs : List (Job L K R M)) (seats : List (TurnSeat L K R M)) → map seat_of jobs ≡ seats → AreNewSeats book 0 seats → AreJobs book jobs
  jobs_fit book jobs seats are new place job below =
      let it = slice_index_or jobs place job in
      let there = mapped_at seat_of jobs place it (slice_get-get_or jobs place job below) in
      let is = new place it.seat (subst (λ (l : List (TurnSeat L K R M)). slice_get l place ≡ Some it.seat) are there) in
      (is.seat_of, is.number_is ∙ (let none : 0 + place ≡ place = omega arith in none))

  pub seats_fit : (book : TurnBook L K R M) (jobs : List (Job L K R M)) (seats : List (TurnSeat L K R M)) → seats ≡ map seat_of jobs → length jobs ≡ seats_of book → AreJobs book jobs → AreAllSeats book seats
  seats_fit book jobs seats are count fit =
      record {
        count = ap length are ∙ length-map jobs seat_of ∙ count;
        each = λ place seat is. (at place seat (subst (λ (l : List (TurnSeat L K R M)). slice_get l place ≡ Some seat) are is)).0;
        number = λ place seat is. (at place seat (subst (λ (l : List (TurnSeat L K R M)). slice_get l place ≡ Some seat) are is)).1;
      }
    where
      at : (place : ℕ) (seat : TurnSeat L K R M) → slice_get (map seat_of jobs) place ≡ Some seat → IsSeatOf book seat × (number_of seat ≡ place)
      at place seat is =
          let from = mapped_from seat_of jobs place seat is in
          let it = get_or_from_slice_get jobs place from.0 from.0 from.1 in
          subst (λ (s : TurnSeat L K R M). IsSeatOf book s × (number_of s ≡ place)) (ap seat_of it ∙ from.2) (fit place from.0 (slice_get_within jobs place from.0 from.1))

  -- jobs that were lent as a slice
  pub lent_jobs : (book : TurnBook L K R M) (len : ℕ) (old now new : List (Job L K R M)) → now ≡ old → length new ≡ length now → len ≡ length old → AreJobs book new
      → AreJobs book (take len (new ++ drop (length new) old))
  lent_jobs book len old now new is count long fit =
      subst (λ (l : List (Job L K R M)). AreJobs book l) (sym (written_back len old new (count ∙ ap length is) long)) fit
