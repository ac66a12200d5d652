-- What is so of the first turns of a legal book.
use Rattle.std.proofs.Common.{◌≡◌, ℕ, Some, List, [], ◌∷◌, ◌++◌, length, take, refl, ap, subst, ◌≢◌}
use Rattle.std.specs.List.{slice_get}
use Rattle.due_set.specs.Table.{Table}
use Rattle.launch_machine.specs.Clerk.{first_rows}
use Rattle.history.specs.Book.{Row, standing_after}
use Rattle.history.specs.Legal.{IsLegal, MayFollow}
use Rattle.history.proofs.Agreement.{cut_is_legal}
use Rattle.step_spec.specs.State.{State}
use Rattle.agreement.specs.World.{with_replica}
use Rattle.std.proofs.lemmas.Bool.{ne_eqb}

pub finds_first : {X : Type 0} (front : List X) (x : X) (back : List X) → slice_get (front ++ x ∷ back) (length front) ≡ Some x
finds_first [] x back = refl
finds_first (y ∷ front) x back = finds_first front x back

pub take_front : {X : Type 0} (front back : List X) → take (length front) (front ++ back) ≡ front
take_front [] back = refl
take_front (x ∷ front) back = ap (λ rest. x ∷ rest) (take_front front back)

pub front_legal : (n : ℕ) (table : Table) (book rows : List Row) → IsLegal n table (book ++ rows) → IsLegal n table book
front_legal n table book rows legal = subst (λ front. IsLegal n table front) (take_front book rows) (cut_is_legal n table (book ++ rows) (length book) legal)

-- a turn of a legal book may follow those before it
pub follows_there : (n : ℕ) (table : Table) (front back : List Row) (row : Row) → IsLegal n table (front ++ row ∷ back) → MayFollow n table (standing_after n (first_rows table) front) row.turn row
follows_there n table front back row legal =
    subst (λ rows. MayFollow n table (standing_after n (first_rows table) rows) row.turn row) (take_front front (row ∷ back)) (legal (length front) row (finds_first front row back))

pub replica_there : (who : ℕ) (state : State) (replicas : ℕ → State) (other : ℕ) → other ≢ who → with_replica who state replicas other ≡ replicas other
replica_there who state replicas other apart = rw (ne_eqb other who apart) refl
