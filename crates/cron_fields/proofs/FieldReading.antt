-- A field is read in one way.
use Rattle.std.proofs.Common.{◌≡◌, ◌≢◌, ◌⊎◌, ◌↔◌, ℕ, zero, suc, ◌+◌, ◌<◌, ◌≤◌, Bool, true, false, eqb, List, [], ◌∷◌, ◌++◌, length, get_or, codes, IsBitSet, Result, Ok, Err, inl, inr, ⊎_elim, refl, sym, ap, ◌∙◌, arith, lit<}
use Rattle.std.specs.List.{AllByRecursion, AllZip}
use Rattle.std.proofs.lemmas.Bool.{cases_lt}
use Rattle.cron_fields.specs.FieldSet.{Has, greatest_of, value_of}
use Rattle.cron_fields.specs.Seed.{Seed}
use Rattle.cron_fields.specs.Atom.{HasNo, no_atom}
use Rattle.cron_fields.specs.Base.{Joins}
use Rattle.cron_fields.specs.Hash.{hashed_value}
use Rattle.cron_fields.specs.Item.{IsStepped, IsItem}
use Rattle.cron_fields.specs.ItemFault.{bad_atom, bad_single, IsItemFault, bad_item}
use Rattle.cron_fields.specs.Field.{AnyStepsTo, IsList, IsField, IsItemText, IsListFault, IsFieldFault}
use Rattle.cron_fields.specs.declared.field.FieldKind.{FieldKind}
use Rattle.cron_fields.specs.declared.field.FieldKind.TheVariants.{Minute, Hour, MonthDay, Month, WeekDay}
use Rattle.cron_fields.specs.declared.field.FieldSet.{FieldSet}
use Rattle.cron_fields.proofs.BitLemmas.{IsBitSet-zero, same_from_sets}
use Rattle.cron_fields.proofs.Choice.{HasNo-nil, HasNo-cons, split_exists, split_or_none, split_same, text_or_not}
use Rattle.cron_fields.proofs.FieldText.{InBounds, field_bytes, item_bounds, no_tilde}
use Rattle.cron_fields.proofs.ItemReading.{At, ReadsItem, item_exists, item_same}
use Rattle.cron_fields.proofs.JoinLemmas.{Joining, Joining-none, Joining-next, Joins-done, one_bit}
use Rattle.cron_fields.proofs.ListLemmas.{AreItems-pieces, items_are_pieces, pieces_of, reach_of}

same_set : (a b : FieldSet) → ((value : ℕ) → Has a value ↔ Has b value) → a.star ≡ b.star → a.hashed ≡ b.hashed → a ≡ b
same_set a b same star hashed =
    ap (λ bits. make bits a.star a.hashed) (same_from_sets a.bits b.bits same)
    ∙ (ap (λ s. make b.bits s a.hashed) star ∙ ap (λ h. make b.bits b.star h) hashed)
  where
    make : ℕ → Bool → Bool → FieldSet
    make bits s h = record { bits = bits; star = s; hashed = h }

-- `?` is no item
mark_fault : (kind : FieldKind) → IsItemFault kind (codes "?") 9 0
mark_fault kind =
    bad_item (HasNo-cons 47 63 [] (λ is. omega arith) (HasNo-nil 47)) (bad_single (bad_atom (λ is. cc) (HasNo-cons 45 63 [] (λ is. omega arith) (HasNo-nil 45)) (no_atom (lit< tt) (λ digits. let digit = digits.0 in omega arith) (λ letters. elim (letters 0 (lit< tt)) [ inl upper ↦ omega arith | inr lower ↦ omega arith ]) refl)) refl)

item_or_fault : (kind : FieldKind) (item : List ℕ) (steps : IsStepped) (cause place : ℕ) → IsItem kind item steps → IsItemFault kind item cause place → ⊥
item_or_fault kind item steps cause place read fault =
    let same = item_same kind item (Ok steps) (Err (cause, place)) read fault in cc

mark_alone : (kind : FieldKind) (parts : List IsStepped) → AllZip (IsItem kind) (codes "?" ∷ []) parts → ⊥
mark_alone kind [] each = each
mark_alone kind (part ∷ parts) each = item_or_fault kind (codes "?") part 9 0 each.0 (mark_fault kind)

mark_no_list : (kind : FieldKind) (text : List ℕ) (set : FieldSet) → text ≡ codes "?" → IsList kind text set → ⊥
mark_no_list kind text set is list =
    let items : codes "?" ∷ [] ≡ list.items = ap pieces_of (sym is) ∙ items_are_pieces text list.items list.split in
    mark_alone kind list.parts (rw (← items) at list.each)

parts_same : (kind : FieldKind) (items : List (List ℕ)) (a b : List IsStepped) → AllZip (IsItem kind) items a → AllZip (IsItem kind) items b → a ≡ b
parts_same kind [] [] [] p q = refl
parts_same kind [] [] (y ∷ b) p q = absurd q
parts_same kind [] (x ∷ a) b p q = absurd p
parts_same kind (item ∷ items) [] b p q = absurd p
parts_same kind (item ∷ items) (x ∷ a) [] p q = absurd q
parts_same kind (item ∷ items) (x ∷ a) (y ∷ b) p q =
    let heads = item_same kind item (Ok x) (Ok y) p.0 q.0 in
    let tails = parts_same kind items a b p.1 q.1 in
    cc

list_same : (kind : FieldKind) (text : List ℕ) (a b : FieldSet) → IsList kind text a → IsList kind text b → a ≡ b
list_same kind text a b p q =
    let items : p.items ≡ q.items = sym (items_are_pieces text p.items p.split) ∙ items_are_pieces text q.items q.split in
    let parts = parts_same kind q.items p.parts q.parts (rw items at p.each) q.each in
    let has : (value : ℕ) → Has b value ↔ AnyStepsTo kind p.parts value = λ value. rw parts (q.has value) in
    same_set a b (λ value. (λ set. (has value).1 ((p.has value).0 set), λ set. (p.has value).1 ((has value).0 set)))
    (p.star ∙ sym q.star) (p.hashed ∙ sym q.hashed)

-- a text stands for one set at most
pub field_same : (kind : FieldKind) (text : List ℕ) (seed : Seed) (a b : FieldSet) → IsField kind text seed a → IsField kind text seed b → a ≡ b
field_same kind text seed a b (inl p) (inl q) =
    same_set a b (λ value. (λ set. (q.has value).1 ((p.has value).0 set), λ set. (p.has value).1 ((q.has value).0 set)))
    (p.star ∙ sym q.star) (p.hashed ∙ sym q.hashed)
field_same kind text seed a b (inl p) (inr q) = absurd (mark_no_list kind text b p.text_is q)
field_same kind text seed a b (inr p) (inl q) = absurd (mark_no_list kind text a q.text_is p)
field_same kind text seed a b (inr p) (inr q) = list_same kind text a b p q

each_or_fault : (kind : FieldKind) (before : List (List ℕ)) (item : List ℕ) (after : List (List ℕ)) (parts : List IsStepped) (cause place : ℕ) → AllZip (IsItem kind) (before ++ (item ∷ after)) parts → IsItemFault kind item cause place → ⊥
each_or_fault kind [] item after [] cause place each fault = each
each_or_fault kind [] item after (part ∷ parts) cause place each fault = item_or_fault kind item part cause place each.0 fault
each_or_fault kind (b ∷ before) item after [] cause place each fault = each
each_or_fault kind (b ∷ before) item after (part ∷ parts) cause place each fault =
    each_or_fault kind before item after parts cause place each.1 fault

-- a text that stands for a set breaks no rule
pub field_or_fault : (kind : FieldKind) (text : List ℕ) (seed : Seed) (set : FieldSet) (cause place : ℕ) → IsField kind text seed set → IsFieldFault kind text cause place → ⊥
field_or_fault kind text seed set cause place field (inl tilde) =
    split_or_none 126 text tilde.before tilde.after (no_tilde text (field_bytes kind text seed set field).1) tilde.split
field_or_fault kind text seed set cause place (inl hashed) (inr (none, no_mark, fault)) = no_mark hashed.text_is
field_or_fault kind text seed set cause place (inr list) (inr (none, no_mark, fault)) =
    let items : list.items ≡ fault.before ++ (fault.item ∷ fault.after) = sym (items_are_pieces text list.items list.split) ∙ items_are_pieces text (fault.before ++ (fault.item ∷ fault.after)) fault.split in
    each_or_fault kind fault.before fault.item fault.after list.parts cause fault.offset (rw items at list.each) fault.fault

sound_or_fault : (kind : FieldKind) (item : List ℕ) (cause place : ℕ) → IsItemText kind item → IsItemFault kind item cause place → ⊥
sound_or_fault kind item cause place sound fault = item_or_fault kind item sound.0 cause place sound.1 fault

first_same : (kind : FieldKind) (a : List (List ℕ)) (x : List ℕ) (b c : List (List ℕ)) (y : List ℕ) (d : List (List ℕ)) (e f g h : ℕ) → AllByRecursion (IsItemText kind) a → IsItemFault kind x e f → AllByRecursion (IsItemText kind) c → IsItemFault kind y g h → a ++ (x ∷ b) ≡ c ++ (y ∷ d) → (a ≡ c) × (x ≡ y)
first_same kind [] x b [] y d e f g h p q r s is = (refl, cc)
first_same kind [] x b (z ∷ c) y d e f g h p q r s is =
    let head : x ≡ z = cc in absurd (sound_or_fault kind z e f r.0 (rw head at q))
first_same kind (z ∷ a) x b [] y d e f g h p q r s is =
    let head : y ≡ z = cc in absurd (sound_or_fault kind z g h p.0 (rw head at s))
first_same kind (z ∷ a) x b (w ∷ c) y d e f g h p q r s is =
    let rest = first_same kind a x b c y d e f g h p.1 q r.1 s (cc) in
    let head : z ≡ w = cc in
    (cc (head, rest.0), rest.1)

fault_of : Result IsStepped At → At
fault_of (Ok steps) = (0, 0)
fault_of (Err fault) = fault

abbrev fault_at : ℕ → ℕ → Result IsStepped At
fault_at c p = Err (c, p)

err_same : (c p d q : ℕ) → fault_at c p ≡ fault_at d q → (c ≡ d) × (p ≡ q)
unfolding fault_of
err_same c p d q is = (ap (λ r. (fault_of r).0) is, ap (λ r. (fault_of r).1) is)

list_fault_same : (kind : FieldKind) (text : List ℕ) (c p d q : ℕ) → IsListFault kind text c p → IsListFault kind text d q → (c ≡ d) × (p ≡ q)
list_fault_same kind text c p d q v w =
    let items : v.before ++ (v.item ∷ v.after) ≡ w.before ++ (w.item ∷ w.after) = sym (items_are_pieces text (v.before ++ (v.item ∷ v.after)) v.split) ∙ items_are_pieces text (w.before ++ (w.item ∷ w.after)) w.split in
    let first = first_same kind v.before v.item v.after w.before w.item w.after c v.offset d w.offset v.sound v.fault w.sound w.fault items in
    let faults = item_same kind w.item (Err (c, v.offset)) (Err (d, w.offset)) (rw first.1 at v.fault) w.fault in
    let (causes, offsets) = err_same c v.offset d w.offset faults in
    (causes, v.place_is ∙ (ap (λ before. reach_of before + v.offset) first.0 ∙ (ap (λ n. reach_of w.before + n) offsets ∙ sym w.place_is)))

-- a text breaks one rule first, at one place
pub field_fault_same : (kind : FieldKind) (text : List ℕ) (c p d q : ℕ) → IsFieldFault kind text c p → IsFieldFault kind text d q → (c ≡ d) × (p ≡ q)
field_fault_same kind text c p d q (inl v) (inl w) =
    let parts = split_same 126 text v.before v.after w.before w.after v.split w.split in
    (v.cause_is ∙ sym w.cause_is, v.place_is ∙ (ap length parts.0 ∙ sym w.place_is))
field_fault_same kind text c p d q (inl v) (inr (none, no_mark, w)) = absurd (split_or_none 126 text v.before v.after none v.split)
field_fault_same kind text c p d q (inr (none, no_mark, v)) (inl w) = absurd (split_or_none 126 text w.before w.after none w.split)
field_fault_same kind text c p d q (inr (none, no_mark, v)) (inr (none', no_mark', w)) = list_fault_same kind text c p d q v w

value_le : (kind : FieldKind) (n : ℕ) → value_of kind n ≤ n
value_le Minute n = omega arith
value_le Hour n = omega arith
value_le MonthDay n = omega arith
value_le Month n = omega arith
value_le WeekDay n = omega arith

below_64 : (kind : FieldKind) → greatest_of kind < 64
below_64 Minute = lit< tt
below_64 Hour = lit< tt
below_64 MonthDay = lit< tt
below_64 Month = lit< tt
below_64 WeekDay = lit< tt

join_from : (kind : FieldKind) (before : ℕ) (steps : IsStepped) (fuel bits number : ℕ) → InBounds kind steps → steps.high < number + fuel → Joining kind before steps bits number → (after : ℕ) × Joins kind before steps after
join_from kind before steps zero bits number bounds enough so_far =
    (bits, Joins-done kind before steps bits number bounds.some (omega arith) so_far)
join_from kind before steps (suc fuel) bits number bounds enough so_far = ⊎_elim
    (λ past. (bits, Joins-done kind before steps bits number bounds.some past so_far))
    (λ up_to.
    let small : value_of kind number < 64 = let greatest = bounds.greatest in let top = below_64 kind in let le = value_le kind number in omega arith in
    let some = bounds.some in
    join_from kind before steps fuel _ (number + steps.step) bounds (omega arith) (Joining-next kind before steps bits number up_to small so_far))
    (cases_lt steps.high number)

joins_exist : (kind : FieldKind) (before : ℕ) (steps : IsStepped) → InBounds kind steps → (after : ℕ) × Joins kind before steps after
joins_exist kind before steps bounds =
    join_from kind before steps (steps.high + 1) before steps.low bounds (omega arith) (Joining-none kind before steps)

bits_exist : (kind : FieldKind) (items : List (List ℕ)) (parts : List IsStepped) → AllZip (IsItem kind) items parts → (bits : ℕ) × ((value : ℕ) → IsBitSet bits value ↔ AnyStepsTo kind parts value)
bits_exist kind items [] each = (0, λ value. (λ set. absurd (IsBitSet-zero value set), λ none. absurd none))
bits_exist kind [] (part ∷ parts) each = absurd each
bits_exist kind (item ∷ items) (part ∷ parts) each =
    let (rest, has) = bits_exist kind items parts each.1 in
    let (bits, joins) = joins_exist kind rest part (item_bounds kind item part each.0) in (
      bits,
      λ value. (
        λ set. ⊎_elim (λ old. inr ((has value).0 old)) (λ s. inl s) ((joins value).0 set),
        λ any. (joins value).1 (⊎_elim (λ s. inr s) (λ old. inl ((has value).1 old)) any),
      ),
    )

-- each item is read, or the first that isn't has a fault
pub record FirstFault (kind : FieldKind) (items : List (List ℕ)) : Type 0 where
  pub before : List (List ℕ)
  pub item : List ℕ
  pub after : List (List ℕ)
  pub items_are : items ≡ before ++ (item ∷ after)
  pub sound : AllByRecursion (IsItemText kind) before
  pub cause : ℕ
  pub place : ℕ
  pub fault : IsItemFault kind item cause place

pub record AllRead (kind : FieldKind) (items : List (List ℕ)) : Type 0 where
  pub parts : List IsStepped
  pub each : AllZip (IsItem kind) items parts

item_first : (kind : FieldKind) (item : List ℕ) → IsItemText kind item ⊎ ((cause : ℕ) × (place : ℕ) × IsItemFault kind item cause place)
item_first kind item = let found = item_exists kind item in by found.0 found.1
  where
    by : (out : Result IsStepped At) → ReadsItem kind item out → IsItemText kind item ⊎ ((cause : ℕ) × (place : ℕ) × IsItemFault kind item cause place)
    by (Ok steps) read = inl (steps, read)
    by (Err (cause, place)) fault = inr (cause, place, fault)

scan : (kind : FieldKind) (items : List (List ℕ)) → AllRead kind items ⊎ FirstFault kind items
scan kind [] = inl (record { parts = []; each = tt })
scan kind (item ∷ items) = ⊎_elim
    (λ (steps, read). ⊎_elim
    (λ rest. inl (record { parts = steps ∷ rest.parts; each = (read, rest.each) }))
    (λ rest. inr (record {
      before = item ∷ rest.before;
      item = rest.item;
      after = rest.after;
      items_are = ap (λ more. item ∷ more) rest.items_are;
      sound = ((steps, read), rest.sound);
      cause = rest.cause;
      place = rest.place;
      fault = rest.fault;
    }))
    (scan kind items))
    (λ (cause, place, fault). inr (record {
      before = [];
      item = item;
      after = items;
      items_are = refl;
      sound = tt;
      cause = cause;
      place = place;
      fault = fault;
    }))
    (item_first kind item)

hashed_exists : (kind : FieldKind) (text : List ℕ) (seed : Seed) → text ≡ codes "?" → (set : FieldSet) × IsField kind text seed set
hashed_exists kind text seed is =
    let (bits, has) = one_bit (hashed_value kind seed) in (
      record { bits = bits; star = false; hashed = true },
      inl (record {
        text_is = is;
        has = has;
        star = refl;
        hashed = refl;
      }),
    )

list_exists : (kind : FieldKind) (text : List ℕ) (seed : Seed) → AllRead kind (pieces_of text) → (set : FieldSet) × IsField kind text seed set
list_exists kind text seed read =
    let (bits, has) = bits_exist kind (pieces_of text) read.parts read.each in (
      record { bits = bits; star = eqb (get_or text 0 0) 42; hashed = false },
      inr (record {
        items = pieces_of text;
        parts = read.parts;
        split = AreItems-pieces text;
        each = read.each;
        has = has;
        star = refl;
        hashed = refl;
      }),
    )

list_fault_exists : (kind : FieldKind) (text : List ℕ) → HasNo 126 text → text ≢ codes "?" → FirstFault kind (pieces_of text) → (cause : ℕ) × (place : ℕ) × IsFieldFault kind text cause place
list_fault_exists kind text no_tilde no_mark first = (
  first.cause,
  reach_of first.before + first.place,
  inr (
    no_tilde,
    no_mark,
    record {
      before = first.before;
      item = first.item;
      after = first.after;
      split = rw (← first.items_are) (AreItems-pieces text);
      sound = first.sound;
      offset = first.place;
      fault = first.fault;
      place_is = refl;
    },
  ),
)

-- a text stands for a set or breaks a rule
pub field_exists : (kind : FieldKind) (text : List ℕ) (seed : Seed) → ((set : FieldSet) × IsField kind text seed set) ⊎ ((cause : ℕ) × (place : ℕ) × IsFieldFault kind text cause place)
field_exists kind text seed = ⊎_elim
    (λ none. ⊎_elim
    (λ is. inl (hashed_exists kind text seed is))
    (λ no_mark. ⊎_elim
    (λ read. inl (list_exists kind text seed read))
    (λ first. inr (list_fault_exists kind text none no_mark first))
    (scan kind (pieces_of text)))
    (text_or_not text (codes "?")))
    (λ (before, after, split). inr (
      8,
      length before,
      inl (record {
        before = before;
        after = after;
        split = split;
        cause_is = refl;
        place_is = refl;
      }),
    ))
    (split_exists 126 text)
