-- An item is read in one way.
use Rattle.std.proofs.Common.{◌≡◌, ◌≢◌, ℕ, zero, suc, ◌+◌, ◌<◌, ◌≤◌, List, [], length, get_or, codes, Result, Ok, Err, inl, inr, ⊎_elim, refl, sym, ap, ◌∙◌, subst, arith, lit<}
use Rattle.std.proofs.lemmas.Bool.{cases_lt}
use Rattle.std.proofs.lemmas.Str.Parse.{digit_at}
use Rattle.cron_fields.specs.FieldSet.{least_of}
use Rattle.cron_fields.specs.Atom.{HasNo, IsSplitAt, IsNumber, IsAtom, TakesNumber}
use Rattle.cron_fields.specs.Item.{last_of, IsStepped, IsSingle, IsRange, IsWide, star, range, IsItem, single, wide, stepped}
use Rattle.cron_fields.specs.ItemFault.{bad_atom, bad_number, IsRangeFault, bad_low_atom, bad_high_atom, bad_low_number, bad_high_number, bad_order, IsBaseFault, bad_single, bad_range, IsStepFault, empty_step, no_number, zero_step, IsItemFault, bad_item, bad_base, step_after_atom, bad_step}
use Rattle.cron_fields.specs.declared.field.FieldKind.{FieldKind}
use Rattle.cron_fields.proofs.AtomReading.{ReadsAtom, atom_exists, atom_same, empty_text, name_letters, number_or_not, takes_or_not}
use Rattle.cron_fields.proofs.Choice.{choose, choose-yes, choose-no, HasNo-nil, HasNo-cons, split_exists, split_or_none, split_same, text_or_not, le_or_not}

-- a cause and a place
abbrev pub At : Type 0
At = ℕ × ℕ

-- what a range is read as: its ends, or a fault
abbrev pub ReadsRange : FieldKind → List ℕ → List ℕ → Result (ℕ × ℕ) At → Type 0
ReadsRange kind low high (Ok ends) = IsRange kind low high ends.0 ends.1
ReadsRange kind low high (Err fault) = IsRangeFault kind low high fault.0 fault.1

order_verdict : ℕ → ℕ → Result (ℕ × ℕ) At
order_verdict a b = choose (le_or_not a b) (Ok (a, b)) (Err (5, 0))

high_verdict : FieldKind → List ℕ → ℕ → ℕ → Result (ℕ × ℕ) At
high_verdict kind low a b = choose (takes_or_not kind b) (order_verdict a b) (Err (3, length low + 1))

ends_verdict : FieldKind → List ℕ → ℕ → ℕ → Result (ℕ × ℕ) At
ends_verdict kind low a b = choose (takes_or_not kind a) (high_verdict kind low a b) (Err (3, 0))

ends_low : (kind : FieldKind) (low : List ℕ) (a b : ℕ) → (TakesNumber kind a → ⊥) → ends_verdict kind low a b ≡ Err (3, 0)
unfolding ends_verdict
ends_low kind low a b fails = choose-no (takes_or_not kind a) (high_verdict kind low a b) (Err (3, 0)) fails

ends_high : (kind : FieldKind) (low : List ℕ) (a b : ℕ) → TakesNumber kind a → (TakesNumber kind b → ⊥) → ends_verdict kind low a b ≡ Err (3, length low + 1)
unfolding ends_verdict high_verdict
ends_high kind low a b taken fails =
    choose-yes (takes_or_not kind a) (high_verdict kind low a b) (Err (3, 0)) taken
    ∙ choose-no (takes_or_not kind b) (order_verdict a b) (Err (3, length low + 1)) fails

ends_order : (kind : FieldKind) (low : List ℕ) (a b : ℕ) → TakesNumber kind a → TakesNumber kind b → b < a → ends_verdict kind low a b ≡ Err (5, 0)
unfolding ends_verdict high_verdict order_verdict
ends_order kind low a b p q less =
    let fails : a ≤ b → ⊥ = λ ordered. omega arith in
    choose-yes (takes_or_not kind a) (high_verdict kind low a b) (Err (3, 0)) p
    ∙ (choose-yes (takes_or_not kind b) (order_verdict a b) (Err (3, length low + 1)) q ∙ choose-no (le_or_not a b) (Ok (a, b)) (Err (5, 0)) fails)

ends_ok : (kind : FieldKind) (low : List ℕ) (a b : ℕ) → TakesNumber kind a → TakesNumber kind b → a ≤ b → ends_verdict kind low a b ≡ Ok (a, b)
unfolding ends_verdict high_verdict order_verdict
ends_ok kind low a b p q ordered =
    choose-yes (takes_or_not kind a) (high_verdict kind low a b) (Err (3, 0)) p
    ∙ (choose-yes (takes_or_not kind b) (order_verdict a b) (Err (3, length low + 1)) q ∙ choose-yes (le_or_not a b) (Ok (a, b)) (Err (5, 0)) ordered)

-- what follows from the reading of the high atom
AfterHigh : FieldKind → List ℕ → ℕ → Result ℕ ℕ → Result (ℕ × ℕ) At → Type 0
AfterHigh kind low a (Ok b) out = out ≡ ends_verdict kind low a b
AfterHigh kind low a (Err c) out = out ≡ Err (c, length low + 1)

-- what follows from the reading of the low atom
AfterLow : FieldKind → List ℕ → List ℕ → Result ℕ ℕ → Result (ℕ × ℕ) At → Type 0
AfterLow kind low high (Ok a) out = (r : Result ℕ ℕ) × ReadsAtom kind high r × AfterHigh kind low a r out
AfterLow kind low high (Err c) out = out ≡ Err (c, 0)

RangeSteps : FieldKind → List ℕ → List ℕ → Result (ℕ × ℕ) At → Type 0
RangeSteps kind low high out = (r : Result ℕ ℕ) × ReadsAtom kind low r × AfterLow kind low high r out

range_steps : (kind : FieldKind) (low high : List ℕ) (out : Result (ℕ × ℕ) At) → ReadsRange kind low high out → RangeSteps kind low high out
unfolding RangeSteps AfterLow AfterHigh
range_steps kind low high (Ok (a, b)) r =
    (Ok a, r.low_atom, (Ok b, r.high_atom, sym (ends_ok kind low a b r.low_taken r.high_taken r.ordered)))
range_steps kind low high (Err (c, p)) (bad_low_atom fault at) = (Err c, fault, ap (λ n. Err (c, n)) at)
range_steps kind low high (Err (c, p)) (bad_high_atom a read fault at) =
    (Ok a, read, (Err c, fault, ap (λ n. Err (c, n)) at))
range_steps kind low high (Err (c, p)) (bad_low_number a b q r fails is at) =
    (Ok a, q, (Ok b, r, cc (ends_low kind low a b fails)))
range_steps kind low high (Err (c, p)) (bad_high_number a b q r taken fails is at) =
    (Ok a, q, (Ok b, r, cc (ends_high kind low a b taken fails)))
range_steps kind low high (Err (c, p)) (bad_order a b q r s t less is at) =
    (Ok a, q, (Ok b, r, cc (ends_order kind low a b s t less)))

after_high_same : (kind : FieldKind) (low : List ℕ) (a : ℕ) (r : Result ℕ ℕ) (v w : Result (ℕ × ℕ) At) → AfterHigh kind low a r v → AfterHigh kind low a r w → v ≡ w
unfolding AfterHigh
after_high_same kind low a (Ok b) v w p q = p ∙ sym q
after_high_same kind low a (Err c) v w p q = p ∙ sym q

after_low_same : (kind : FieldKind) (low high : List ℕ) (r : Result ℕ ℕ) (v w : Result (ℕ × ℕ) At) → AfterLow kind low high r v → AfterLow kind low high r w → v ≡ w
unfolding AfterLow
after_low_same kind low high (Ok a) v w (r, p, x) (s, q, y) =
    let same = atom_same kind high s r q p in
    after_high_same kind low a r v w x (subst (λ t. AfterHigh kind low a t w) same y)
after_low_same kind low high (Err c) v w p q = p ∙ sym q

range_steps_same : (kind : FieldKind) (low high : List ℕ) (v w : Result (ℕ × ℕ) At) → RangeSteps kind low high v → RangeSteps kind low high w → v ≡ w
unfolding RangeSteps
range_steps_same kind low high v w (r, p, x) (s, q, y) =
    let same = atom_same kind low s r q p in
    after_low_same kind low high r v w x (subst (λ t. AfterLow kind low high t w) same y)

-- a range is read in one way
pub range_same : (kind : FieldKind) (low high : List ℕ) (v w : Result (ℕ × ℕ) At) → ReadsRange kind low high v → ReadsRange kind low high w → v ≡ w
range_same kind low high v w p q =
    range_steps_same kind low high v w (range_steps kind low high v p) (range_steps kind low high w q)

ends_exist : (kind : FieldKind) (low high : List ℕ) (a b : ℕ) → IsAtom kind low a → IsAtom kind high b → (out : Result (ℕ × ℕ) At) × ReadsRange kind low high out
ends_exist kind low high a b p q = ⊎_elim
    (λ low_taken. ⊎_elim
    (λ high_taken. ⊎_elim
    (λ ordered. (
      Ok (a, b),
      record {
        low_atom = p;
        high_atom = q;
        low_taken = low_taken;
        high_taken = high_taken;
        ordered = ordered;
      },
    ))
    (λ fails. (Err (5, 0), bad_order a b p q low_taken high_taken (above fails) refl refl))
    (le_or_not a b))
    (λ fails. (Err (3, length low + 1), bad_high_number a b p q low_taken fails refl refl))
    (takes_or_not kind b))
    (λ fails. (Err (3, 0), bad_low_number a b p q fails refl refl))
    (takes_or_not kind a)
  where
    above : (a ≤ b → ⊥) → b < a
    above fails = ⊎_elim (λ less. less) (λ ordered. absurd (fails ordered)) (cases_lt b a)

high_exists : (kind : FieldKind) (low high : List ℕ) (a : ℕ) (r : Result ℕ ℕ) → IsAtom kind low a → ReadsAtom kind high r → (out : Result (ℕ × ℕ) At) × ReadsRange kind low high out
high_exists kind low high a (Ok b) p q = ends_exist kind low high a b p q
high_exists kind low high a (Err c) p q = (Err (c, length low + 1), bad_high_atom a p q refl)

low_exists : (kind : FieldKind) (low high : List ℕ) (r : Result ℕ ℕ) → ReadsAtom kind low r → (out : Result (ℕ × ℕ) At) × ReadsRange kind low high out
low_exists kind low high (Ok a) p = let second = atom_exists kind high in high_exists kind low high a second.0 p second.1
low_exists kind low high (Err c) p = (Err (c, 0), bad_low_atom p refl)

range_exists : (kind : FieldKind) (low high : List ℕ) → (out : Result (ℕ × ℕ) At) × ReadsRange kind low high out
range_exists kind low high = let first = atom_exists kind low in low_exists kind low high first.0 first.1

-- what a base is read as
pub data BaseVerdict : Type 0 where
  One : ℕ → BaseVerdict
  Wide : ℕ → ℕ → BaseVerdict
  Bad : ℕ → ℕ → BaseVerdict

abbrev pub ReadsBase : FieldKind → List ℕ → BaseVerdict → Type 0
ReadsBase kind base (One value) = IsSingle kind base value
ReadsBase kind base (Wide low high) = IsWide kind base low high
ReadsBase kind base (Bad cause place) = IsBaseFault kind base cause place

single_verdict : FieldKind → Result ℕ ℕ → BaseVerdict
single_verdict kind (Ok value) = choose (takes_or_not kind value) (One value) (Bad 3 0)
single_verdict kind (Err cause) = Bad cause 0

range_verdict : Result (ℕ × ℕ) At → BaseVerdict
range_verdict (Ok ends) = Wide ends.0 ends.1
range_verdict (Err fault) = Bad fault.0 fault.1

data BaseSteps (kind : FieldKind) (base : List ℕ) (out : BaseVerdict) : Type 0 where
  of_star : base ≡ codes "*" → out ≡ Wide (least_of kind) (last_of kind) → BaseSteps kind base out
  of_atom : base ≢ codes "*" → HasNo 45 base → (r : Result ℕ ℕ) → ReadsAtom kind base r → out ≡ single_verdict kind r → BaseSteps kind base out
  of_range : (low high : List ℕ) → IsSplitAt 45 base low high → (r : Result (ℕ × ℕ) At) → ReadsRange kind low high r → out ≡ range_verdict r → BaseSteps kind base out

star_no_atom : (kind : FieldKind) (base : List ℕ) (value : ℕ) → IsAtom kind base value → base ≢ codes "*"
star_no_atom kind base value (inl number) is =
    let some = number.some in
    let digit = digit_at base 0 number.digits some in
    let byte : get_or base 0 0 ≡ 42 = ap (λ t. get_or t 0 0) is in
    omega arith
star_no_atom kind base value (inr name) is =
    let some : 0 < length base = rw is (lit< tt) in
    let letter = name_letters kind base value name 0 some in
    let byte : get_or base 0 0 ≡ 42 = ap (λ t. get_or t 0 0) is in
    elim letter [ inl upper ↦ omega arith | inr lower ↦ omega arith ]

star_alone : HasNo 45 (codes "*")
star_alone = HasNo-cons 45 42 [] (λ is. omega arith) (HasNo-nil 45)

base_steps : (kind : FieldKind) (base : List ℕ) (out : BaseVerdict) → ReadsBase kind base out → BaseSteps kind base out
unfolding single_verdict range_verdict
base_steps kind base (One value) s =
    of_atom (star_no_atom kind base value s.atom) s.alone (Ok value) s.atom (sym (choose-yes (takes_or_not kind value) (One value) (Bad 3 0) s.taken))
base_steps kind base (Wide low high) (star is p q) = of_star is (cc)
base_steps kind base (Wide low high) (range a b split r) = of_range a b split (Ok (low, high)) r refl
base_steps kind base (Bad c p) (bad_single (bad_atom no_star alone fault) at) =
    of_atom no_star alone (Err c) fault (ap (λ n. Bad c n) at)
base_steps kind base (Bad c p) (bad_single (bad_number value alone atom fails is) at) =
    of_atom (star_no_atom kind base value atom) alone (Ok value) atom (cc (choose-no (takes_or_not kind value) (One value) (Bad 3 0) fails))
base_steps kind base (Bad c p) (bad_range a b split fault) = of_range a b split (Err (c, p)) fault refl

base_steps_same : (kind : FieldKind) (base : List ℕ) (v w : BaseVerdict) → BaseSteps kind base v → BaseSteps kind base w → v ≡ w
base_steps_same kind base v w (of_star e p) (of_star f q) = p ∙ sym q
base_steps_same kind base v w (of_star e p) (of_atom fails alone r s q) = absurd (fails e)
base_steps_same kind base v w (of_star e p) (of_range a b split r s q) =
    absurd (split_or_none 45 base a b (rw e star_alone) split)
base_steps_same kind base v w (of_atom fails alone r s p) (of_star e q) = absurd (fails e)
base_steps_same kind base v w (of_atom fails alone r s p) (of_atom fails' alone' r' s' q) =
    p ∙ (ap (single_verdict kind) (atom_same kind base r r' s s') ∙ sym q)
base_steps_same kind base v w (of_atom fails alone r s p) (of_range a b split r' s' q) =
    absurd (split_or_none 45 base a b alone split)
base_steps_same kind base v w (of_range a b split r s p) (of_star e q) =
    absurd (split_or_none 45 base a b (rw e star_alone) split)
base_steps_same kind base v w (of_range a b split r s p) (of_atom fails alone r' s' q) =
    absurd (split_or_none 45 base a b alone split)
base_steps_same kind base v w (of_range a b split r s p) (of_range c d split' r' s' q) =
    let parts = split_same 45 base a b c d split split' in
    p ∙ (ap range_verdict (range_same kind c d r r' (rw (parts.0, parts.1) at s) s') ∙ sym q)

-- a base is read in one way
pub base_same : (kind : FieldKind) (base : List ℕ) (v w : BaseVerdict) → ReadsBase kind base v → ReadsBase kind base w → v ≡ w
base_same kind base v w p q = base_steps_same kind base v w (base_steps kind base v p) (base_steps kind base w q)

atom_base_exists : (kind : FieldKind) (base : List ℕ) (r : Result ℕ ℕ) → base ≢ codes "*" → HasNo 45 base → ReadsAtom kind base r → (out : BaseVerdict) × ReadsBase kind base out
atom_base_exists kind base (Ok value) no_star alone atom = ⊎_elim
    (λ taken. (One value, record { alone = alone; atom = atom; taken = taken }))
    (λ fails. (Bad 3 0, bad_single (bad_number value alone atom fails refl) refl))
    (takes_or_not kind value)
atom_base_exists kind base (Err c) no_star alone fault = (Bad c 0, bad_single (bad_atom no_star alone fault) refl)

range_base_exists : (kind : FieldKind) (base low high : List ℕ) (r : Result (ℕ × ℕ) At) → IsSplitAt 45 base low high → ReadsRange kind low high r → (out : BaseVerdict) × ReadsBase kind base out
range_base_exists kind base low high (Ok (a, b)) split r = (Wide a b, range low high split r)
range_base_exists kind base low high (Err (c, p)) split fault = (Bad c p, bad_range low high split fault)

pub base_exists : (kind : FieldKind) (base : List ℕ) → (out : BaseVerdict) × ReadsBase kind base out
base_exists kind base = ⊎_elim
    (λ is. (Wide (least_of kind) (last_of kind), star is refl refl))
    (λ no_star. ⊎_elim
    (λ alone. let r = atom_exists kind base in atom_base_exists kind base r.0 no_star alone r.1)
    (λ (low, high, split). let r = range_exists kind low high in range_base_exists kind base low high r.0 split r.1)
    (split_exists 45 base))
    (text_or_not base (codes "*"))

-- what a step is read as: its number, or a cause
abbrev pub ReadsStep : List ℕ → Result ℕ ℕ → Type 0
ReadsStep step (Ok by) = IsNumber step by × (0 < by)
ReadsStep step (Err cause) = IsStepFault step cause

step_same : (step : List ℕ) (r s : Result ℕ ℕ) → ReadsStep step r → ReadsStep step s → r ≡ s
step_same step (Ok m) (Ok n) p q = ap Ok (p.0.is ∙ sym q.0.is)
step_same step (Ok m) (Err d) p (empty_step e q) = let some = p.0.some in let none = ap length e in absurd (omega arith)
step_same step (Ok m) (Err d) p (no_number some fails q) = absurd (fails m p.0)
step_same step (Ok m) (Err d) p (zero_step number q) =
    let one = p.0.is in let other = number.is in let some = p.1 in absurd (omega arith)
step_same step (Err c) (Ok n) (empty_step e p) q = let some = q.0.some in let none = ap length e in absurd (omega arith)
step_same step (Err c) (Ok n) (no_number some fails p) q = absurd (fails n q.0)
step_same step (Err c) (Ok n) (zero_step number p) q =
    let one = q.0.is in let other = number.is in let some = q.1 in absurd (omega arith)
step_same step (Err c) (Err d) (empty_step e p) (empty_step f q) = ap Err (p ∙ sym q)
step_same step (Err c) (Err d) (empty_step e p) (no_number some fails q) = let none = ap length e in absurd (omega arith)
step_same step (Err c) (Err d) (empty_step e p) (zero_step number q) =
    let some = number.some in let none = ap length e in absurd (omega arith)
step_same step (Err c) (Err d) (no_number some fails p) (empty_step f q) = let none = ap length f in absurd (omega arith)
step_same step (Err c) (Err d) (no_number some fails p) (no_number some' fails' q) = ap Err (p ∙ sym q)
step_same step (Err c) (Err d) (no_number some fails p) (zero_step number q) = absurd (fails 0 number)
step_same step (Err c) (Err d) (zero_step number p) (empty_step f q) =
    let some = number.some in let none = ap length f in absurd (omega arith)
step_same step (Err c) (Err d) (zero_step number p) (no_number some fails q) = absurd (fails 0 number)
step_same step (Err c) (Err d) (zero_step number p) (zero_step number' q) = ap Err (p ∙ sym q)

number_step_exists : (step : List ℕ) (value : ℕ) → IsNumber step value → (r : Result ℕ ℕ) × ReadsStep step r
number_step_exists step zero number = (Err 6, zero_step number refl)
number_step_exists step (suc n) number = (Ok (suc n), (number, omega arith))

step_exists : (step : List ℕ) → (r : Result ℕ ℕ) × ReadsStep step r
step_exists step = ⊎_elim
    (λ (value, number). number_step_exists step value number)
    (λ fails. ⊎_elim
    (λ some. (Err 2, no_number some (λ value number. fails (value, number)) refl))
    (λ none. (Err 1, empty_step (empty_text step none) refl))
    (cases_lt 0 (length step)))
    (number_or_not step)

-- what an item is read as: its numbers, or a fault
abbrev pub ReadsItem : FieldKind → List ℕ → Result IsStepped At → Type 0
ReadsItem kind item (Ok steps) = IsItem kind item steps
ReadsItem kind item (Err fault) = IsItemFault kind item fault.0 fault.1

whole_verdict : BaseVerdict → Result IsStepped At
whole_verdict (One value) = Ok (record { low = value; high = value; step = 1 })
whole_verdict (Wide low high) = Ok (record { low = low; high = high; step = 1 })
whole_verdict (Bad cause place) = Err (cause, place)

cut_verdict : List ℕ → BaseVerdict → Result ℕ ℕ → Result IsStepped At
cut_verdict base (One value) r = Err (7, length base + 1)
cut_verdict base (Wide low high) (Ok by) = Ok (record { low = low; high = high; step = by })
cut_verdict base (Wide low high) (Err cause) = Err (cause, length base + 1)
cut_verdict base (Bad cause place) r = Err (cause, place)

data ItemSteps (kind : FieldKind) (item : List ℕ) (out : Result IsStepped At) : Type 0 where
  of_whole : HasNo 47 item → (v : BaseVerdict) → ReadsBase kind item v → out ≡ whole_verdict v → ItemSteps kind item out
  of_cut : (base step : List ℕ) → IsSplitAt 47 item base step → (v : BaseVerdict) → ReadsBase kind base v → (r : Result ℕ ℕ) → ReadsStep step r → out ≡ cut_verdict base v r → ItemSteps kind item out

item_steps : (kind : FieldKind) (item : List ℕ) (out : Result IsStepped At) → ReadsItem kind item out → ItemSteps kind item out
unfolding whole_verdict cut_verdict
item_steps kind item (Ok steps) (single value whole s is) = of_whole whole (One value) s (ap Ok is)
item_steps kind item (Ok steps) (wide low high whole w is) = of_whole whole (Wide low high) w (ap Ok is)
item_steps kind item (Ok steps) (stepped base step low high by split w number some is) =
    of_cut base step split (Wide low high) w (Ok by) (number, some) (ap Ok is)
item_steps kind item (Err (c, p)) (bad_item whole fault) = of_whole whole (Bad c p) fault refl
item_steps kind item (Err (c, p)) (bad_base base step split fault) =
    let r = step_exists step in of_cut base step split (Bad c p) fault r.0 r.1 refl
item_steps kind item (Err (c, p)) (step_after_atom base step value split s is at) =
    let r = step_exists step in of_cut base step split (One value) s r.0 r.1 (cc)
item_steps kind item (Err (c, p)) (bad_step base step low high split w fault at) =
    of_cut base step split (Wide low high) w (Err c) fault (ap (λ n. Err (c, n)) at)

item_steps_same : (kind : FieldKind) (item : List ℕ) (v w : Result IsStepped At) → ItemSteps kind item v → ItemSteps kind item w → v ≡ w
item_steps_same kind item v w (of_whole a x p is) (of_whole b y q is') =
    is ∙ (ap whole_verdict (base_same kind item x y p q) ∙ sym is')
item_steps_same kind item v w (of_whole a x p is) (of_cut base step split y q r s is') =
    absurd (split_or_none 47 item base step a split)
item_steps_same kind item v w (of_cut base step split y q r s is') (of_whole a x p is) =
    absurd (split_or_none 47 item base step a split)
item_steps_same kind item v w (of_cut base step split x p r s is) (of_cut base' step' split' y q t u is') =
    let parts = split_same 47 item base step base' step' split split' in
    let bases = base_same kind base' x y (rw parts.0 at p) q in
    let steps = step_same step' r t (rw parts.1 at s) u in
    cc (parts.0, bases, steps, is, is')

-- an item is read in one way
pub item_same : (kind : FieldKind) (item : List ℕ) (v w : Result IsStepped At) → ReadsItem kind item v → ReadsItem kind item w → v ≡ w
item_same kind item v w p q = item_steps_same kind item v w (item_steps kind item v p) (item_steps kind item w q)

whole_exists : (kind : FieldKind) (item : List ℕ) (v : BaseVerdict) → HasNo 47 item → ReadsBase kind item v → (out : Result IsStepped At) × ReadsItem kind item out
whole_exists kind item (One value) whole s = (Ok (record { low = value; high = value; step = 1 }), single value whole s refl)
whole_exists kind item (Wide low high) whole w = (Ok (record { low = low; high = high; step = 1 }), wide low high whole w refl)
whole_exists kind item (Bad c p) whole fault = (Err (c, p), bad_item whole fault)

cut_exists : (kind : FieldKind) (item base step : List ℕ) (v : BaseVerdict) (r : Result ℕ ℕ) → IsSplitAt 47 item base step → ReadsBase kind base v → ReadsStep step r → (out : Result IsStepped At) × ReadsItem kind item out
cut_exists kind item base step (One value) r split s t =
    (Err (7, length base + 1), step_after_atom base step value split s refl refl)
cut_exists kind item base step (Wide low high) (Ok by) split w n =
    (Ok (record { low = low; high = high; step = by }), stepped base step low high by split w n.0 n.1 refl)
cut_exists kind item base step (Wide low high) (Err c) split w fault =
    (Err (c, length base + 1), bad_step base step low high split w fault refl)
cut_exists kind item base step (Bad c p) r split fault t = (Err (c, p), bad_base base step split fault)

-- each item is read in some way
pub item_exists : (kind : FieldKind) (item : List ℕ) → (out : Result IsStepped At) × ReadsItem kind item out
item_exists kind item = ⊎_elim
    (λ whole. let v = base_exists kind item in whole_exists kind item v.0 whole v.1)
    (λ (base, step, split).
    let v = base_exists kind base in
    let r = step_exists step in
    cut_exists kind item base step v.0 r.0 split v.1 r.1)
    (split_exists 47 item)
