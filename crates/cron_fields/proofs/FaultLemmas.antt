-- The place of a fault lies in its text.
use Rattle.std.proofs.Common.{◌≡◌, ℕ, suc, ◌+◌, ◌<◌, ◌≤◌, List, ◌∷◌, ◌++◌, length, get_or, take, drop, inl, inr, ap, ◌∙◌, arith, length-append}
use Rattle.cron_fields.specs.Atom.{IsSplitAt, IsAtomFault, empty_atom, long_number, unknown_name, no_atom}
use Rattle.cron_fields.specs.ItemFault.{bad_atom, bad_number, IsStepFault, empty_step, no_number, zero_step, IsRangeFault, bad_low_atom, bad_high_atom, bad_low_number, bad_high_number, bad_order, IsBaseFault, bad_single, bad_range, IsItemFault, bad_item, bad_base, step_after_atom, bad_step}
use Rattle.cron_fields.specs.Field.{IsTilde, IsListFault, IsFieldFault}
use Rattle.cron_fields.specs.declared.field.FieldKind.{FieldKind}
use Rattle.cron_fields.proofs.ListLemmas.{Reading, AreItems-pieces, item_in_text, pieces_at, pieces_of, reach_of, sound_from_each}

length-split : (byte : ℕ) (text before after : List ℕ) → IsSplitAt byte text before after → length text ≡ length before + (length after + 1)
length-split byte text before after split =
    ap length split.text_is ∙ omega (arith, length-append before (byte ∷ after))

range_fault_within : (kind : FieldKind) (low high : List ℕ) (cause place : ℕ) → IsRangeFault kind low high cause place → place ≤ length low + 1
range_fault_within kind low high cause place (bad_low_atom fault at) = omega arith
range_fault_within kind low high cause place (bad_high_atom a read fault at) = omega arith
range_fault_within kind low high cause place (bad_low_number a b p q none is at) = omega arith
range_fault_within kind low high cause place (bad_high_number a b p q taken none is at) = omega arith
range_fault_within kind low high cause place (bad_order a b p q r s less is at) = omega arith

base_fault_within : (kind : FieldKind) (base : List ℕ) (cause place : ℕ) → IsBaseFault kind base cause place → place ≤ length base
base_fault_within kind base cause place (bad_single fault at) = omega arith
base_fault_within kind base cause place (bad_range low high split fault) =
    let within = range_fault_within kind low high cause place fault in
    omega (arith, length-split 45 base low high split)

-- the place of an item's fault
pub item_fault_within : (kind : FieldKind) (item : List ℕ) (cause place : ℕ) → IsItemFault kind item cause place → place ≤ length item
item_fault_within kind item cause place (bad_item whole fault) = base_fault_within kind item cause place fault
item_fault_within kind item cause place (bad_base base step split fault) =
    let within = base_fault_within kind base cause place fault in
    omega (arith, length-split 47 item base step split)
item_fault_within kind item cause place (step_after_atom base step value split single is at) =
    omega (arith, length-split 47 item base step split)
item_fault_within kind item cause place (bad_step base step low high split wide fault at) =
    omega (arith, length-split 47 item base step split)

-- the place of a list's fault
pub list_fault_within : (kind : FieldKind) (text : List ℕ) (cause place : ℕ) → IsListFault kind text cause place → place ≤ length text
list_fault_within kind text cause place fault =
    let offset = item_fault_within kind fault.item cause fault.offset fault.fault in
    let item = item_in_text text fault.before fault.item fault.after fault.split in
    let at = fault.place_is in
    omega arith

-- the place of a `~`
pub tilde_within : (text : List ℕ) (cause place : ℕ) → IsTilde text cause place → place ≤ length text
tilde_within text cause place tilde =
    let at = tilde.place_is in omega (arith, length-split 126 text tilde.before tilde.after tilde.split)

-- the place of a field's fault
pub field_fault_within : (kind : FieldKind) (text : List ℕ) (cause place : ℕ) → IsFieldFault kind text cause place → place ≤ length text
field_fault_within kind text cause place (inl tilde) = tilde_within text cause place tilde
field_fault_within kind text cause place (inr (none, no_mark, fault)) = list_fault_within kind text cause place fault

atom_cause : (kind : FieldKind) (text : List ℕ) (cause : ℕ) → IsAtomFault kind text cause → (1 ≤ cause) × (cause ≤ 9)
atom_cause kind text cause (empty_atom e is) = (omega arith, omega arith)
atom_cause kind text cause (long_number g l is) = (omega arith, omega arith)
atom_cause kind text cause (unknown_name s l n is) = (omega arith, omega arith)
atom_cause kind text cause (no_atom s g l is) = (omega arith, omega arith)

range_cause : (kind : FieldKind) (low high : List ℕ) (cause place : ℕ) → IsRangeFault kind low high cause place → (1 ≤ cause) × (cause ≤ 9)
range_cause kind low high cause place (bad_low_atom fault at) = atom_cause kind low cause fault
range_cause kind low high cause place (bad_high_atom a read fault at) = atom_cause kind high cause fault
range_cause kind low high cause place (bad_low_number a b p q none is at) = (omega arith, omega arith)
range_cause kind low high cause place (bad_high_number a b p q taken none is at) = (omega arith, omega arith)
range_cause kind low high cause place (bad_order a b p q r s less is at) = (omega arith, omega arith)

base_cause : (kind : FieldKind) (base : List ℕ) (cause place : ℕ) → IsBaseFault kind base cause place → (1 ≤ cause) × (cause ≤ 9)
base_cause kind base cause place (bad_single (bad_atom no_star alone fault) at) = atom_cause kind base cause fault
base_cause kind base cause place (bad_single (bad_number value alone atom none is) at) = (omega arith, omega arith)
base_cause kind base cause place (bad_range low high split fault) = range_cause kind low high cause place fault

step_cause : (step : List ℕ) (cause : ℕ) → IsStepFault step cause → (1 ≤ cause) × (cause ≤ 9)
step_cause step cause (empty_step e is) = (omega arith, omega arith)
step_cause step cause (no_number some none is) = (omega arith, omega arith)
step_cause step cause (zero_step number is) = (omega arith, omega arith)

item_cause : (kind : FieldKind) (item : List ℕ) (cause place : ℕ) → IsItemFault kind item cause place → (1 ≤ cause) × (cause ≤ 9)
item_cause kind item cause place (bad_item whole fault) = base_cause kind item cause place fault
item_cause kind item cause place (bad_base base step split fault) = base_cause kind base cause place fault
item_cause kind item cause place (step_after_atom base step value split single is at) = (omega arith, omega arith)
item_cause kind item cause place (bad_step base step low high split wide fault at) = step_cause step cause fault

-- the cause of a field's fault
pub field_cause : (kind : FieldKind) (text : List ℕ) (cause place : ℕ) → IsFieldFault kind text cause place → (1 ≤ cause) × (cause ≤ 9)
field_cause kind text cause place (inl tilde) = let is = tilde.cause_is in (omega arith, omega arith)
field_cause kind text cause place (inr (none, no_mark, fault)) =
    item_cause kind fault.item cause fault.offset fault.fault

-- the next piece lies in the text
pub piece_in_text : (text : List ℕ) (n : ℕ) (piece : List ℕ) → n < length (pieces_of text) → piece ≡ get_or (pieces_of text) n piece → reach_of (take n (pieces_of text)) + length piece ≤ length text
piece_in_text text n piece within is =
    item_in_text text (take n (pieces_of text)) piece (drop (suc n) (pieces_of text))
    (let whole = ap (λ p. take n (pieces_of text) ++ (p ∷ drop (suc n) (pieces_of text))) is ∙ pieces_at (pieces_of text) n piece within in
    rw whole (AreItems-pieces text))

-- the first piece that is no item is the fault of its text
pub list_fault : (kind : FieldKind) (text : List ℕ) (read : List (List ℕ)) (bits place : ℕ) (piece : List ℕ) (cause offset : ℕ) → Reading kind read bits place → read ≡ take (length read) (pieces_of text) → length read < length (pieces_of text) → piece ≡ get_or (pieces_of text) (length read) piece → IsItemFault kind piece cause offset → IsListFault kind text cause (place + offset)
list_fault kind text read bits place piece cause offset so_far are within is fault = record {
  before = read;
  item = piece;
  after = drop (suc (length read)) (pieces_of text);
  split =
      let whole = ap (λ p. take (length read) (pieces_of text) ++ (p ∷ drop (suc (length read)) (pieces_of text))) is ∙ pieces_at (pieces_of text) (length read) piece within in
      let cut = ap (λ front. front ++ (piece ∷ drop (suc (length read)) (pieces_of text))) are ∙ whole in
      rw cut (AreItems-pieces text);
  sound = sound_from_each kind read so_far.parts so_far.each;
  offset = offset;
  fault = fault;
  place_is = ap (λ n. n + offset) so_far.place_is;
}
