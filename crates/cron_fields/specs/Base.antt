-- What the parts of the reader answer, in the words of the grammar. Private functions alone cite it.
use Rattle.std.specs.Prelude.{◌≡◌, ◌⊎◌, ◌↔◌, ◌<◌, ℕ, List, [], length, map, slice_index_or, IsBitSet}
use Rattle.std.specs.Char.{to_ascii_lowercase}
use Rattle.cron_fields.specs.Item.{IsStepped, StepsTo, IsSingle, IsWide}
use Rattle.cron_fields.specs.declared.field.FieldKind.{FieldKind}
use Rattle.cron_fields.specs.declared.item.Base.{Base}
use Rattle.cron_fields.specs.declared.item.Base.TheVariants.{Single, Wide}
use Rattle.cron_fields.specs.declared.item.Progression.{Progression}

-- the place of a name in a table, where the case doesn't count
pub record IsPlaceInTable (names : List (List ℕ)) (text : List ℕ) (index : ℕ) : Type 0 where
  pub within : index < length names
  pub same : map to_ascii_lowercase (slice_index_or names index []) ≡ map to_ascii_lowercase text

-- the text is this base
abbrev pub IsBase : FieldKind → List ℕ → Base → Type 0
IsBase kind text (Single value) = IsSingle kind text value
IsBase kind text (Wide low high) = IsWide kind text low high

-- the numbers of a progression
abbrev pub steps_of : Progression → IsStepped
steps_of p = record { low = p.low; high = p.high; step = p.step }

-- the bits that a set has once the values of some steps have joined it
abbrev pub Joins : FieldKind → ℕ → IsStepped → ℕ → Type 0
Joins kind before steps after = (value : ℕ) → IsBitSet after value ↔ (IsBitSet before value ⊎ StepsTo kind steps value)
