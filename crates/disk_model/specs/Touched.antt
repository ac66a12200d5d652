-- The places of a file that were written since its last sync, and what a stop may make of it.
use Rattle.std.specs.Prelude.{◌≡◌, ◌⊎◌, ℕ, ◌<◌, ◌≤◌, nat_le, nat_lt, Bool, false, ◌&&◌, ◌||◌, List, [], ◌∷◌, length, get_or}
use Rattle.disk_model.specs.declared.span.Span.{Span}

-- a place lies in a span: at its start or after it, and before its end
abbrev pub is_in : Span → ℕ → Bool
is_in span place = nat_le span.from place && nat_lt place span.until

-- a place is in one of the spans
abbrev pub is_touched : List Span → ℕ → Bool
is_touched [] place = false
is_touched (span ∷ spans) place = is_in span place || is_touched spans place

-- what was last synced and what is there now have the same bytes where nothing was written
abbrev pub Agree : List ℕ → List ℕ → List Span → Type 0
Agree synced bytes touched =
    (place : ℕ) → place < length synced → place < length bytes → is_touched touched place ≡ false → get_or bytes place 0 ≡ get_or synced place 0

-- a number is one of two or lies between them
abbrev pub IsBetween : ℕ → ℕ → ℕ → Type 0
IsBetween one other number = ((one ≤ number) × (number ≤ other)) ⊎ ((other ≤ number) × (number ≤ one))

-- What a stop may leave of a file, of which the last sync left these bytes, whose length is so now, and of which these
-- places were touched since: each touched byte, and each past the old end, is any byte; the others are those of the last
-- sync; the length is the old one, the new one or between.
pub record IsLeft (synced : List ℕ) (now : ℕ) (touched : ℕ → Bool) (image : List ℕ) : Type 0 where
  pub size : IsBetween (length synced) now (length image)
  pub others : (place : ℕ) → place < length image → place < length synced → touched place ≡ false → get_or image place 0 ≡ get_or synced place 0
