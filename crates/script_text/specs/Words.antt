-- The first words of commands, by what stands behind them. Private functions alone cite it.
use Rattle.std.specs.Prelude.{◌≡◌, ℕ, List, codes}

-- in front of a replica
pub data IsMemberWord (word : List ℕ) : Type 0 where
  campaign : word ≡ codes "campaign" → IsMemberWord word
  stop : word ≡ codes "stop" → IsMemberWord word
  restart : word ≡ codes "restart" → IsMemberWord word
  reverse : word ≡ codes "reverse" → IsMemberWord word

-- in front of two replicas
pub data IsMembersWord (word : List ℕ) : Type 0 where
  cut : word ≡ codes "cut" → IsMembersWord word
  drop : word ≡ codes "drop" → IsMembersWord word
  repeat : word ≡ codes "repeat" → IsMembersWord word

-- in front of a number
pub data IsNumberWord (word : List ℕ) : Type 0 where
  again : word ≡ codes "again" → IsNumberWord word
  arrive : word ≡ codes "arrive" → IsNumberWord word

-- in front of an instant
pub data IsInstantWord (word : List ℕ) : Type 0 where
  settle : word ≡ codes "settle" → IsInstantWord word
  walk : word ≡ codes "walk" → IsInstantWord word
