-- The draws of a seed: a linear congruential generator of 64 bits (Knuth's multiplier and increment).
-- Source: multiplier and increment of Knuth's MMIX.
use Rattle.std.specs.Prelude.{ℕ, zero, suc, ◌+◌, ◌*◌, ◌/◌, ◌%◌, ◌^◌}

-- the state behind a state
unfoldable pub next_state : ℕ → ℕ
next_state state = (state * 6_364_136_223_846_793_005 + 1_442_695_040_888_963_407) % 2 ^ 64

-- the state of a seed behind so many draws
unfoldable pub state_at : (seed : ℕ) → ℕ → ℕ
state_at seed zero = seed
state_at seed (suc draws) = next_state (state_at seed draws)

-- the draw of a seed behind so many others, below a limit: the upper bits of the next state
abbrev pub draw : (seed draws limit : ℕ) → ℕ
draw seed draws limit = state_at seed (suc draws) / 2 ^ 33 % limit
