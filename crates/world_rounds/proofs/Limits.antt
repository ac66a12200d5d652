-- The bounds of a world's book are those of its rows.
use Rattle.std.proofs.Common.{◌≡◌, ◌*◌, ◌^◌, ◌<◌, List, length, ap, ◌∙◌, subst}
use Rattle.std.specs.List.{Contains}
use Rattle.std.proofs.lemmas.List.{length-map}
use Rattle.disk_model.specs.View.{DiskView}
use Rattle.due_set.specs.Table.{Table}
use Rattle.history.specs.Book.{PostedLetter, Row}
use Rattle.script_semantics.specs.Situation.{Situation}
use Rattle.settling.specs.Rounds.{IsWithinBounds}
use Rattle.world_law.specs.Book.{posted_as}
use Rattle.world_rounds.proofs.Waiting.{posted_are}
use Rattle.world_rounds.specs.Bounds.{IsBookBounded}
use Rattle.world_rounds.specs.World.{IsWorldAt}
use Rattle.world_rounds.specs.declared.world.World.{World}
use Rattle.step_spec.proofs.ListLemmas.{from_map}

module _ {D : Type 0} (view : DiskView D) (table : Table) where
  pub within_bounds : (rows : List Row) (world : World D) (situation : Situation) → IsWorldAt view table rows world situation → IsBookBounded world.book
      → IsWithinBounds rows situation.standing.posted
  within_bounds rows world situation is bounded = record {
    turns =
        let many : length world.book.turns ≡ length rows = ap length is.ahead.at.behind.turns ∙ length-map rows (λ (row : Row). row.turn) in
        subst (λ n. n < 2 ^ 59) many bounded.turns;
    letters = λ letter has.
        let from = from_map posted_as world.book.letters letter (subst (λ posted. Contains posted letter) (posted_are view table rows world situation is) has) in
        subst (λ (l : PostedLetter). length l.bytes < 56 * 2 ^ 31) from.is (bounded.letters from.origin from.among);
  }
