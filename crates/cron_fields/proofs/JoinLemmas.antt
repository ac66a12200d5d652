-- The values of a progression join a set one by one.
use Rattle.std.proofs.Common.{◌≡◌, ◌↔◌, ◌⊎◌, ℕ, ◌+◌, ◌*◌, ◌%◌, ◌^◌, ◌<◌, ◌≤◌, IsBitSet, bit_or, sym, ap, ◌∙◌, inl, inr, ⊎_elim, arith, w64}
use Rattle.std.proofs.Math.Nat.{mul-le-mul_right}
use Rattle.std.proofs.lemmas.Bool.{cases_eq, cases_lt}
use Rattle.std.proofs.lemmas.Nat.Bits.{bit_at-pow_same, bit_at-pow_other, bit_at_set_same, bit_at_set_other}
use Rattle.cron_fields.specs.FieldSet.{value_of}
use Rattle.cron_fields.specs.Item.{IsStepped, StepsTo}
use Rattle.cron_fields.specs.Base.{Joins}
use Rattle.cron_fields.specs.declared.field.FieldKind.{FieldKind}
use Rattle.cron_fields.proofs.BitLemmas.{at_from_set, set_from_at}

-- one more bit
bit_joins : (bits bit value : ℕ) → bit < 64 → IsBitSet (bit_or bits (1 * 2 ^ bit % 2 ^ 64)) value ↔ (IsBitSet bits value ⊎ (value ≡ bit))
bit_joins bits bit value small = ⊎_elim at other (cases_eq value bit)
  where
    now : ℕ
    now = bit_or bits (1 * 2 ^ bit % 2 ^ 64)

    at : value ≡ bit → IsBitSet now value ↔ (IsBitSet bits value ⊎ (value ≡ bit))
    at is = (λ _. inr is, λ _. rw is (set_from_at now bit (bit_at_set_same w64 bits bit small)))

    other : (value ≡ bit → ⊥) → IsBitSet now value ↔ (IsBitSet bits value ⊎ (value ≡ bit))
    other is_not = let kept = bit_at_set_other w64 bits bit small value is_not in (
      λ set. inl (set_from_at bits value (sym kept ∙ at_from_set now value set)),
      λ has. ⊎_elim (λ set. set_from_at now value (kept ∙ at_from_set bits value set)) (λ is. absurd (is_not is)) has,
    )

-- a value of the first few numbers
pub record StepsBelow (kind : FieldKind) (steps : IsStepped) (count value : ℕ) : Type 0 where
  pub to : StepsTo kind steps value
  pub below : to.times < count

-- the first few values have joined the set, and the next number
pub record Joining (kind : FieldKind) (before : ℕ) (steps : IsStepped) (bits number : ℕ) : Type 0 where
  pub count : ℕ
  pub next : number ≡ steps.low + count * steps.step
  pub has : (value : ℕ) → IsBitSet bits value ↔ (IsBitSet before value ⊎ StepsBelow kind steps count value)

pub Joining-none : (kind : FieldKind) (before : ℕ) (steps : IsStepped) → Joining kind before steps before steps.low
Joining-none kind before steps = record {
  count = 0;
  next = omega arith;
  has = λ value. (
    λ set. inl set,
    λ has. ⊎_elim (λ set. set) (λ s. let below = s.below in absurd (omega arith)) has,
  );
}

pub Joining-next : (kind : FieldKind) (before : ℕ) (steps : IsStepped) (bits number : ℕ) → number ≤ steps.high → value_of kind number < 64 → Joining kind before steps bits number → Joining kind before steps (bit_or bits (1 * 2 ^ value_of kind number % 2 ^ 64)) (number + steps.step)
Joining-next kind before steps bits number up_to small so_far = record {
  count = so_far.count + 1;
  next = next;
  has = λ value. (to value, from value);
}
  where
    now : ℕ
    now = bit_or bits (1 * 2 ^ value_of kind number % 2 ^ 64)

    next : number + steps.step ≡ steps.low + (so_far.count + 1) * steps.step
    next = let is = so_far.next in omega arith

    more : (value : ℕ) → StepsBelow kind steps so_far.count value → StepsBelow kind steps (so_far.count + 1) value
    more value s = record { to = s.to; below = let below = s.below in omega arith }

    this : (value : ℕ) → value ≡ value_of kind number → StepsBelow kind steps (so_far.count + 1) value
    this value is = record {
      to = record {
        times = so_far.count;
        up_to = rw (← so_far.next) up_to;
        is = is ∙ ap (value_of kind) so_far.next;
      };
      below = omega arith;
    }

    to : (value : ℕ) → IsBitSet now value → IsBitSet before value ⊎ StepsBelow kind steps (so_far.count + 1) value
    to value set =
        ⊎_elim
        (λ old. ⊎_elim (λ was. inl was) (λ s. inr (more value s)) ((so_far.has value).0 old))
        (λ is. inr (this value is))
        ((bit_joins bits (value_of kind number) value small).0 set)

    same : (value : ℕ) (s : StepsBelow kind steps (so_far.count + 1) value) → s.to.times ≡ so_far.count → value ≡ value_of kind number
    same value s is =
        s.to.is ∙ ap (λ times. value_of kind (steps.low + times * steps.step)) is ∙ ap (value_of kind) (sym so_far.next)

    from : (value : ℕ) → (IsBitSet before value ⊎ StepsBelow kind steps (so_far.count + 1) value) → IsBitSet now value
    from value (inl was) = (bit_joins bits (value_of kind number) value small).1 (inl ((so_far.has value).1 (inl was)))
    from value (inr s) =
        ⊎_elim
        (λ is. (bit_joins bits (value_of kind number) value small).1 (inr (same value s is)))
        (λ is_not. (bit_joins bits (value_of kind number) value small).1 (inl ((so_far.has value).1 (inr (record {
          to = s.to;
          below = let below = s.below in omega arith;
        })))))
        (cases_eq s.to.times so_far.count)

within : (low step high count times : ℕ) → 0 < step → low + times * step ≤ high → high < low + count * step → times < count
within low step high count times some up_to past = ⊎_elim (λ less. less) (λ above. absurd (beyond above)) (cases_lt times count)
  where
    beyond : count ≤ times → ⊥
    beyond above = let scaled : count * step ≤ times * step = mul-le-mul_right {m = count} {n = times} step above in omega arith

-- once the next number is above the last, all have joined
pub Joins-done : (kind : FieldKind) (before : ℕ) (steps : IsStepped) (bits number : ℕ) → 0 < steps.step → steps.high < number → Joining kind before steps bits number → Joins kind before steps bits
Joins-done kind before steps bits number some past so_far value = (
  λ set. ⊎_elim (λ was. inl was) (λ s. inr s.to) ((so_far.has value).0 set),
  λ has. (so_far.has value).1 (⊎_elim (λ was. inl was) (λ s. inr (record {
    to = s;
    below = within steps.low steps.step steps.high so_far.count s.times some s.up_to (rw so_far.next at past);
  })) has),
)

-- some number has one bit alone
pub one_bit : (bit : ℕ) → (bits : ℕ) × ((value : ℕ) → IsBitSet bits value ↔ (value ≡ bit))
one_bit bit = (
  2 ^ bit,
  λ value. (
    λ set. ⊎_elim
        (λ is. is)
        (λ other. absurd (let none = bit_at-pow_other bit value other in let one = at_from_set (2 ^ bit) value set in omega arith))
        (cases_eq value bit),
    λ is. rw is (set_from_at (2 ^ bit) bit (bit_at-pow_same bit)),
  ),
)
