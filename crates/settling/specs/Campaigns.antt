-- The campaign of one replica in a legal book.
use Rattle.std.specs.Prelude.{ℕ, ℤ, List, [], ◌∷◌, None}
use Rattle.due_set.specs.Table.{Table}
use Rattle.history.specs.Book.{Row, with_fact}
use Rattle.history.specs.declared.turn.Cause.TheVariants.{Campaign}
use Rattle.synchronous_rounds.specs.Cluster.{Cluster}
use Rattle.script_semantics.specs.Parts.{Plays}
use Rattle.script_semantics.specs.Situation.{Situation, Do}
use Rattle.settling.specs.Rounds.{GoesOnWithin}

-- the answer that waits for a replica is lost
abbrev pub unanswered : (who : ℕ) → Cluster → Cluster
unanswered who cluster = record cluster { waits = with_fact who None cluster.waits }

-- the book is legal and goes on with the campaign of a replica, and nothing else
abbrev pub GoesCampaign : ℕ → Table → (who : ℕ) → (at : ℤ) → (book rows : List Row) → (situation after : Situation) → Type 0
GoesCampaign members table who at = GoesOnWithin (Plays members (λ situation. Do who Campaign ∷ [])) members table at
