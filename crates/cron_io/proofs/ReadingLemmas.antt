-- Reads one after the other.
use Rattle.std.proofs.Common.{ℕ, ◌≤◌, List, length}
use Rattle.std.specs.Io.KnownBytes.{Consumes}
use Rattle.cron_io.specs.Reading.{StaysReliable}
use Rattle.cron_io.specs.Views.{SourceView}

-- as far as `read_all` has come
pub record IsReading (old now : SourceView) (sure still : Type 0) (bytes : List ℕ) (most : ℕ) : Type 0 where
  pub taken : Consumes old.left now.left bytes
  pub later : old.faults ≤ now.faults
  pub short : length bytes ≤ most
  pub lasting : sure → StaysReliable old now still
