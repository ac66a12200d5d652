-- The bytes and the values of a field.
use Rattle.std.proofs.Common.{◌≡◌, ◌⊎◌, ℕ, ◌+◌, ◌*◌, ◌<◌, ◌≤◌, List, [], ◌∷◌, ◌++◌, length, get_or, All, inl, inr, refl, arith, lit<, length-append}
use Rattle.std.specs.Char.{IsAsciiAlphabetic}
use Rattle.std.specs.List.{AllZip, join_with_byte}
use Rattle.std.proofs.lemmas.List.Elements.{All-nil, All-cons, All-append, All-from_get_or}
use Rattle.std.proofs.lemmas.Str.Parse.{digit_at}
use Rattle.cron_fields.specs.FieldSet.{Has, least_of, greatest_of, value_of}
use Rattle.cron_fields.specs.Seed.{Seed}
use Rattle.cron_fields.specs.Atom.{HasNo, IsNumber, IsAtom}
use Rattle.cron_fields.specs.Hash.{pick_of}
use Rattle.cron_fields.specs.Item.{last_of, IsStepped, StepsTo, IsWide, star, range, IsItem, single, wide, stepped}
use Rattle.cron_fields.specs.Field.{AnyStepsTo, IsField, IsFieldByte}
use Rattle.cron_fields.specs.declared.field.FieldKind.{FieldKind}
use Rattle.cron_fields.specs.declared.field.FieldKind.TheVariants.{Minute, Hour, MonthDay, Month, WeekDay}
use Rattle.cron_fields.specs.declared.field.FieldSet.{FieldSet}
use Rattle.cron_fields.proofs.AtomReading.{name_letters, name_some}

letter_byte : (c : ℕ) → IsAsciiAlphabetic c → IsFieldByte c
letter_byte c (inl upper) = inl (inl (inr upper))
letter_byte c (inr lower) = inl (inr lower)

number_bytes : (text : List ℕ) (value : ℕ) → IsNumber text value → All IsFieldByte text
number_bytes text value number = All-from_get_or IsFieldByte text 0 (λ i within. inl (inl (inl (digit_at text i number.digits within))))

atom_bytes : (kind : FieldKind) (text : List ℕ) (value : ℕ) → IsAtom kind text value → All IsFieldByte text
atom_bytes kind text value (inl number) = number_bytes text value number
atom_bytes kind text value (inr name) = All-from_get_or IsFieldByte text 0 (λ i within. letter_byte (get_or text i 0) (name_letters kind text value name i within))

atom_some : (kind : FieldKind) (text : List ℕ) (value : ℕ) → IsAtom kind text value → 0 < length text
atom_some kind text value (inl number) = number.some
atom_some kind text value (inr name) = name_some kind text value name

parts_bytes : (byte : ℕ) (before after : List ℕ) → IsFieldByte byte → All IsFieldByte before → All IsFieldByte after → All IsFieldByte (before ++ (byte ∷ after))
parts_bytes byte before after is p q = All-append IsFieldByte before (byte ∷ after) p (All-cons IsFieldByte byte after is q)

wide_bytes : (kind : FieldKind) (base : List ℕ) (low high : ℕ) → IsWide kind base low high → All IsFieldByte base
wide_bytes kind base low high (star is p q) = rw is (All-cons IsFieldByte 42 [] (inr (inl refl)) (All-nil IsFieldByte))
wide_bytes kind base low high (range a b split r) =
    rw split.text_is (parts_bytes 45 a b (inr (inr (inr (inl refl)))) (atom_bytes kind a low r.low_atom) (atom_bytes kind b high r.high_atom))

wide_some : (kind : FieldKind) (base : List ℕ) (low high : ℕ) → IsWide kind base low high → 0 < length base
wide_some kind base low high (star is p q) = rw is (lit< tt)
wide_some kind base low high (range a b split r) = rw split.text_is (omega (arith, length-append a (45 ∷ b)))

item_bytes : (kind : FieldKind) (item : List ℕ) (steps : IsStepped) → IsItem kind item steps → All IsFieldByte item
item_bytes kind item steps (single value whole s is) = atom_bytes kind item value s.atom
item_bytes kind item steps (wide low high whole w is) = wide_bytes kind item low high w
item_bytes kind item steps (stepped base step low high by split w number some is) =
    rw split.text_is (parts_bytes 47 base step (inr (inr (inr (inr (inl refl))))) (wide_bytes kind base low high w) (number_bytes step by number))

item_some : (kind : FieldKind) (item : List ℕ) (steps : IsStepped) → IsItem kind item steps → 0 < length item
item_some kind item steps (single value whole s is) = atom_some kind item value s.atom
item_some kind item steps (wide low high whole w is) = wide_some kind item low high w
item_some kind item steps (stepped base step low high by split w number some is) =
    rw split.text_is (omega (arith, length-append base (47 ∷ step)))

items_bytes : (kind : FieldKind) (items : List (List ℕ)) (parts : List IsStepped) → AllZip (IsItem kind) items parts → All IsFieldByte (join_with_byte 44 items)
items_bytes kind [] parts each = All-nil IsFieldByte
items_bytes kind (item ∷ items) [] each = absurd each
items_bytes kind (item ∷ []) (part ∷ parts) each = item_bytes kind item part each.0
items_bytes kind (item ∷ next ∷ items) (part ∷ parts) each =
    parts_bytes 44 item (join_with_byte 44 (next ∷ items)) (inr (inr (inl refl))) (item_bytes kind item part each.0) (items_bytes kind (next ∷ items) parts each.1)

items_some : (kind : FieldKind) (items : List (List ℕ)) (parts : List IsStepped) → 0 < length items → AllZip (IsItem kind) items parts → 0 < length (join_with_byte 44 items)
items_some kind [] parts some each = some
items_some kind (item ∷ items) [] some each = absurd each
items_some kind (item ∷ []) (part ∷ parts) some each = item_some kind item part each.0
items_some kind (item ∷ next ∷ items) (part ∷ parts) some each =
    let first = item_some kind item part each.0 in omega (arith, length-append item (44 ∷ join_with_byte 44 (next ∷ items)))

-- a field has text, and only bytes of a field
pub field_bytes : (kind : FieldKind) (text : List ℕ) (seed : Seed) (set : FieldSet) → IsField kind text seed set → (0 < length text) × All IsFieldByte text
field_bytes kind text seed set (inl hashed) =
    rw hashed.text_is (lit< tt, All-cons IsFieldByte 63 [] (inr (inr (inr (inr (inr refl))))) (All-nil IsFieldByte))
field_bytes kind text seed set (inr list) =
    rw list.split.text_is
    (items_some kind list.items list.parts list.split.some list.each, items_bytes kind list.items list.parts list.each)

-- a byte of a field is no `~`
pub no_tilde : (text : List ℕ) → All IsFieldByte text → HasNo 126 text
no_tilde text bytes i within is = other (get_or text i 0) (bytes i 0 within) is
  where
    other : (c : ℕ) → IsFieldByte c → c ≡ 126 → ⊥
    other c (inl (inl (inl digit))) is = omega arith
    other c (inl (inl (inr upper))) is = omega arith
    other c (inl (inr lower)) is = omega arith
    other c (inr rest) is = marks rest is
      where
        marks : (c ≡ 42) ⊎ (c ≡ 44) ⊎ (c ≡ 45) ⊎ (c ≡ 47) ⊎ (c ≡ 63) → c ≡ 126 → ⊥
        marks (inl p) is = omega arith
        marks (inr (inl p)) is = omega arith
        marks (inr (inr (inl p))) is = omega arith
        marks (inr (inr (inr (inl p)))) is = omega arith
        marks (inr (inr (inr (inr p)))) is = omega arith

-- the bounds of an item's numbers
pub record InBounds (kind : FieldKind) (steps : IsStepped) : Type 0 where
  pub least : least_of kind ≤ steps.low
  pub greatest : steps.high ≤ greatest_of kind
  pub some : 0 < steps.step

pub star_bounds : (kind : FieldKind) → last_of kind ≤ greatest_of kind
star_bounds Minute = omega arith
star_bounds Hour = omega arith
star_bounds MonthDay = omega arith
star_bounds Month = omega arith
star_bounds WeekDay = omega arith

wide_bounds : (kind : FieldKind) (base : List ℕ) (low high : ℕ) → IsWide kind base low high → (least_of kind ≤ low) × (high ≤ greatest_of kind)
wide_bounds kind base low high (star is p q) = let last = star_bounds kind in (omega arith, omega arith)
wide_bounds kind base low high (range a b split r) = (r.low_taken.least, r.high_taken.greatest)

pub item_bounds : (kind : FieldKind) (item : List ℕ) (steps : IsStepped) → IsItem kind item steps → InBounds kind steps
item_bounds kind item steps (single value whole s is) =
    rw is (record { least = s.taken.least; greatest = s.taken.greatest; some = lit< tt })
item_bounds kind item steps (wide low high whole w is) =
    let bounds = wide_bounds kind item low high w in
    rw is (record { least = bounds.0; greatest = bounds.1; some = lit< tt })
item_bounds kind item steps (stepped base step low high by split w number some is) =
    let bounds = wide_bounds kind base low high w in
    rw is (record { least = bounds.0; greatest = bounds.1; some = some })

value_bounds : (kind : FieldKind) (n value : ℕ) → least_of kind ≤ n → n ≤ greatest_of kind → value ≡ value_of kind n → (least_of kind ≤ value) × (value ≤ last_of kind)
value_bounds Minute n value least greatest is = (omega arith, omega arith)
value_bounds Hour n value least greatest is = (omega arith, omega arith)
value_bounds MonthDay n value least greatest is = (omega arith, omega arith)
value_bounds Month n value least greatest is = (omega arith, omega arith)
value_bounds WeekDay n value least greatest is = (omega arith, omega arith)

steps_bounds : (kind : FieldKind) (steps : IsStepped) (value : ℕ) → InBounds kind steps → StepsTo kind steps value → (least_of kind ≤ value) × (value ≤ last_of kind)
steps_bounds kind steps value bounds s =
    let least = bounds.least in
    let greatest = bounds.greatest in
    let up_to = s.up_to in
    value_bounds kind (steps.low + s.times * steps.step) value (omega arith) (omega arith) s.is

any_bounds : (kind : FieldKind) (items : List (List ℕ)) (parts : List IsStepped) (value : ℕ) → AllZip (IsItem kind) items parts → AnyStepsTo kind parts value → (least_of kind ≤ value) × (value ≤ last_of kind)
any_bounds kind items [] value each any = absurd any
any_bounds kind [] (part ∷ parts) value each any = absurd each
any_bounds kind (item ∷ items) (part ∷ parts) value each (inl s) =
    steps_bounds kind part value (item_bounds kind item part each.0) s
any_bounds kind (item ∷ items) (part ∷ parts) value each (inr any) = any_bounds kind items parts value each.1 any

pick_bounds : (kind : FieldKind) (hash value : ℕ) → value ≡ pick_of kind hash → (least_of kind ≤ value) × (value ≤ last_of kind)
pick_bounds Minute hash value is = (omega arith, omega arith)
pick_bounds Hour hash value is = (omega arith, omega arith)
pick_bounds MonthDay hash value is = (omega arith, omega arith)
pick_bounds Month hash value is = (omega arith, omega arith)
pick_bounds WeekDay hash value is = (omega arith, omega arith)

-- the values of a field are values of its kind
pub field_values : (kind : FieldKind) (text : List ℕ) (seed : Seed) (set : FieldSet) (value : ℕ) → IsField kind text seed set → Has set value → (least_of kind ≤ value) × (value ≤ last_of kind)
field_values kind text seed set value (inl hashed) has = pick_bounds kind _ value ((hashed.has value).0 has)
field_values kind text seed set value (inr list) has = any_bounds kind list.items list.parts value list.each ((list.has value).0 has)
