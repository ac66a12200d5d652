-- The work of threads at a book. Private functions alone cite it.
use Rattle.std.specs.Prelude.{◌≡◌, ℕ, ◌<◌, List, length, slice_index_or}
use Rattle.turn_book.specs.declared.book.TurnBook.{TurnBook}
use Rattle.turn_book.specs.declared.book.TurnSeat.{TurnSeat}
use Rattle.turn_book.specs.Turns.{IsSeatOf, number_of}
use Rattle.turn_tests.specs.declared.job.Job.{Job}

module _ {L K R M : Type 0} where
  abbrev pub seat_of : Job L K R M → TurnSeat L K R M
  seat_of job = job.seat

  -- each job has the seat of its place
  abbrev pub AreJobs : TurnBook L K R M → List (Job L K R M) → Type 0
  AreJobs book jobs = (place : ℕ) (job : Job L K R M) → place < length jobs
      → IsSeatOf book (slice_index_or jobs place job).seat × (number_of (slice_index_or jobs place job).seat ≡ place)
