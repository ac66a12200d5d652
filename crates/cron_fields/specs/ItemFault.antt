-- What is wrong with an item: first the atoms, then their numbers, then the step. A place counts the item's bytes from 0.
-- Source: crontab(5); the order of faults is this project's.
use Rattle.std.specs.Prelude.{◌≡◌, ◌≢◌, ℕ, ◌+◌, ◌<◌, List, [], length, codes}
use Rattle.cron_fields.specs.Atom.{HasNo, IsSplitAt, IsNumber, IsAtom, IsAtomFault, TakesNumber}
use Rattle.cron_fields.specs.Item.{IsSingle, IsWide}
use Rattle.cron_fields.specs.declared.field.FieldKind.{FieldKind}
use Rattle.cron_fields.specs.Cause.{cause_number}
use Rattle.cron_fields.specs.declared.cause.Cause.TheVariants.{Empty, BadNumber, OutOfRange, BadOrder, ZeroStep, StepAfterAtom}

-- what is wrong with an atom alone: the atom itself, or its number is one that the kind doesn't take
pub data IsSingleFault (kind : FieldKind) (base : List ℕ) (cause : ℕ) : Type 0 where
  bad_atom : base ≢ codes "*" → HasNo 45 base → IsAtomFault kind base cause → IsSingleFault kind base cause
  bad_number : (value : ℕ) → HasNo 45 base → IsAtom kind base value → (TakesNumber kind value → ⊥) → cause ≡ cause_number OutOfRange
      → IsSingleFault kind base cause

-- what is wrong with a range: the low atom, the high atom, the low number, the high number, or their order. The order
-- counts at the item, the others at their atom.
pub data IsRangeFault (kind : FieldKind) (low high : List ℕ) (cause place : ℕ) : Type 0 where
  bad_low_atom : IsAtomFault kind low cause → place ≡ 0 → IsRangeFault kind low high cause place
  bad_high_atom : (a : ℕ) → IsAtom kind low a → IsAtomFault kind high cause → place ≡ length low + 1 → IsRangeFault kind low high cause place
  bad_low_number : (a b : ℕ) → IsAtom kind low a → IsAtom kind high b → (TakesNumber kind a → ⊥) → cause ≡ cause_number OutOfRange → place ≡ 0
      → IsRangeFault kind low high cause place
  bad_high_number : (a b : ℕ) → IsAtom kind low a → IsAtom kind high b → TakesNumber kind a → (TakesNumber kind b → ⊥)
      → cause ≡ cause_number OutOfRange → place ≡ length low + 1 → IsRangeFault kind low high cause place
  bad_order : (a b : ℕ) → IsAtom kind low a → IsAtom kind high b → TakesNumber kind a → TakesNumber kind b → b < a → cause ≡ cause_number BadOrder
      → place ≡ 0 → IsRangeFault kind low high cause place

-- what is wrong with a base
pub data IsBaseFault (kind : FieldKind) (base : List ℕ) (cause place : ℕ) : Type 0 where
  bad_single : IsSingleFault kind base cause → place ≡ 0 → IsBaseFault kind base cause place
  bad_range : (low high : List ℕ) → IsSplitAt 45 base low high → IsRangeFault kind low high cause place → IsBaseFault kind base cause place

-- what is wrong with a step: it is empty, no number of one to nine digits, or 0
pub data IsStepFault (step : List ℕ) (cause : ℕ) : Type 0 where
  empty_step : step ≡ [] → cause ≡ cause_number Empty → IsStepFault step cause
  no_number : 0 < length step → ((number : ℕ) → IsNumber step number → ⊥) → cause ≡ cause_number BadNumber → IsStepFault step cause
  zero_step : IsNumber step 0 → cause ≡ cause_number ZeroStep → IsStepFault step cause

-- what is wrong with an item: its base, a step after an atom alone, or its step. The last two count where the step begins.
pub data IsItemFault (kind : FieldKind) (item : List ℕ) (cause place : ℕ) : Type 0 where
  bad_item : HasNo 47 item → IsBaseFault kind item cause place → IsItemFault kind item cause place
  bad_base : (base step : List ℕ) → IsSplitAt 47 item base step → IsBaseFault kind base cause place → IsItemFault kind item cause place
  step_after_atom : (base step : List ℕ) (value : ℕ) → IsSplitAt 47 item base step → IsSingle kind base value → cause ≡ cause_number StepAfterAtom
      → place ≡ length base + 1 → IsItemFault kind item cause place
  bad_step : (base step : List ℕ) (low high : ℕ) → IsSplitAt 47 item base step → IsWide kind base low high → IsStepFault step cause
      → place ≡ length base + 1 → IsItemFault kind item cause place
