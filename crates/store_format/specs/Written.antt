-- What was written behind other bodies. Private functions alone cite it.
use Rattle.std.specs.Prelude.{◌≡◌, ℕ, List, ◌++◌}
use Rattle.store_format.specs.declared.body.Record.{Record}
use Rattle.store_format.specs.Records.{AreRecords}

-- the new bodies are the old ones and those of the records
pub record AddsRecords (items : List Record) (old new : List (List ℕ)) : Type 0 where
  pub bodies : List (List ℕ)
  pub added : new ≡ old ++ bodies
  pub are_records : AreRecords bodies items
