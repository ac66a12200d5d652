-- What a hashed field is picked by.
use Rattle.std.specs.Prelude.{ℕ, List}
use Rattle.cron_fields.specs.declared.hash.HashSeed.{HashSeed}

-- the owner of an entry, and its command as it is written
pub record Seed : Type 0 where
  pub owner : List ℕ
  pub command : List ℕ

-- the bytes of a seed
abbrev pub seed_of : HashSeed → Seed
seed_of seed = record { owner = seed.owner.now; command = seed.command.now }
