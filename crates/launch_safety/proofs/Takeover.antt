-- What is held after the takeover of history.
use Rattle.std.proofs.Common.{◌≡◌, ℕ, ℤ, true, [], ◌∷◌, refl}
use Rattle.std.proofs.lemmas.Bool.{eq-eqb}
use Rattle.std.proofs.lemmas.Bool.Decides.{Decides-int_eq}
use Rattle.due_set.specs.Table.{Table}
use Rattle.history.specs.Book.{after_row, is_name}
use Rattle.history.specs.Takeover.{launch_row}
use Rattle.history.proofs.Takeover.{book}
use Rattle.launch_safety.specs.Fitting.{held_in}

same_name : (job : ℕ) (at : ℤ) → is_name (record { job = job; at = at }) (record { job = job; at = at }) ≡ true
same_name job at = rw (eq-eqb job job refl, (Decides-int_eq at at).1 refl) refl

-- the call that went late and arrived, and was answered then
pub takeover_holds : (table : Table) (job : ℕ) (at now : ℤ) → held_in 3 table (book table job at now) ≡ launch_row job at now ∷ []
unfolding after_row
takeover_holds table job at now = rw (same_name job at) refl
