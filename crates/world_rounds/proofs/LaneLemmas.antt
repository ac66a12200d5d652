-- What lanes leave of the replicas of a round.
use Rattle.std.proofs.Common.{◌≡◌, ℕ, zero, suc, ◌<◌, List, [], ◌∷◌, length, ℤ, Bool, false, Some, subst}
use Rattle.std.specs.List.{slice_get, slice_index_or}
use Rattle.std.proofs.lemmas.Option.{slice_get_within}
use Rattle.disk_model.specs.View.{DiskView}
use Rattle.due_set.specs.Table.{Table}
use Rattle.history.specs.Book.{Row}
use Rattle.script_semantics.specs.Situation.{Situation}
use Rattle.world_law.specs.Book.{BookState}
use Rattle.world_rounds.specs.Rounds.{AllTakeRounds, HasTakenRound, RunsRound}
use Rattle.world_rounds.specs.declared.member.Member.{Member}

got : {X : Type 0} (xs : List X) (k : ℕ) (x none : X) → slice_get xs k ≡ Some x → slice_index_or xs k none ≡ x
got [] k x none is = absurd cc
got (y ∷ xs) zero x none is = let same : y ≡ x = cc in same
got (y ∷ xs) (suc k) x none is = got xs k x none is

module _ {D : Type 0} (view : DiskView D) (table : Table) where
  pub taken_beside_note : (rows : List Row) (book : BookState) (situation : Situation) (at : ℤ) (who : ℕ) (member : Member D) (short : Bool)
      → HasTakenRound view table rows book situation at who member → HasTakenRound view table rows book situation at who (record member { short = short })
  taken_beside_note rows book situation at who member short taken =
      record { ahead = record { mail = taken.ahead.mail; running = taken.ahead.running; stopped = taken.ahead.stopped }; tasks = taken.tasks }

  pub all_run : (book : BookState) (at : ℤ) (old new : List (Member D)) → length new ≡ length old
      → ((who : ℕ) (none : Member D) → who < length old → RunsRound view table book at (slice_index_or old who none) (slice_index_or new who none))
      → ((who : ℕ) (member : Member D) → slice_get new who ≡ Some member → member.short ≡ false) → AllTakeRounds view table book at old new
  all_run book at old new count runs none = record {
    count = count;
    each = λ who one two first second.
        let within = slice_get_within old who one first in
        subst (λ one. RunsRound view table book at one two) (got old who one one first)
        (subst (λ two. RunsRound view table book at (slice_index_or old who one) two) (got new who two one second) (runs who one within))
        (none who two second);
  }
