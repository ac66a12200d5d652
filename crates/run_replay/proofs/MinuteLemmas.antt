-- The next minute at which a launch table asks for something.
use Rattle.std.proofs.Common.{◌≡◌, ℕ, ◌+◌, ◌<◌, ◌≤◌, ℤ, pos, negsuc, ◌+ℤ◌, ◌≤ℤ◌, ◌<ℤ◌, refl, sym, subst, inl, inr, arith}
use Rattle.std.proofs.lemmas.Bool.{cases_eq}
use Rattle.std.proofs.lemmas.Int.{ints}
use Rattle.due_set.specs.Table.{Table}
use Rattle.script_semantics.specs.Settling.{AsksNothing, AsksNothingUntil, IsNextMinute}
use Rattle.step_spec.specs.State.{State}

-- at each of the minutes from one on, and before another, the table asks for nothing
abbrev pub AsksNothingIn : Table → (first end : ℕ) → State → Type 0
AsksNothingIn table first end state = (minute : ℕ) → first ≤ minute → minute < end → AsksNothing table (pos minute) state

pub asks_none_first : (table : Table) (first : ℕ) (state : State) → AsksNothingIn table first first state
asks_none_first table first state = λ minute from below. absurd (omega arith)

pub asks_none_next : (table : Table) (first minute : ℕ) (state : State) → AsksNothingIn table first minute state → AsksNothing table (pos minute) state
    → AsksNothingIn table first (minute + 1) state
asks_none_next table first minute state so_far here = λ other from below. elim (cases_eq other minute) [
  | inl same ↦ subst (λ m. AsksNothing table (pos m) state) (sym same) here
  | inr differs ↦ so_far other from (omega arith)
]

-- what holds of the minutes from a number on holds of those above a minute
number_at : (above : ℤ) (first : ℕ) (other : ℤ) → pos first ≡ above +ℤ pos 1 → pos 0 ≤ℤ above → above <ℤ other → (minute : ℕ) × (other ≡ pos minute) × (first ≤ minute)
number_at above first (pos minute) is low later = (minute, refl, omega (arith, ints))
number_at above first (negsuc minute) is low later = absurd (omega (arith, ints))

none_between : (table : Table) (above : ℤ) (first end : ℕ) (state : State) → pos first ≡ above +ℤ pos 1 → pos 0 ≤ℤ above → AsksNothingIn table first end state
    → (other : ℤ) → above <ℤ other → other <ℤ pos end → AsksNothing table other state
none_between table above first end state is low none = λ other later before.
    let number = number_at above first other is low later in
    let below : number.0 < end = (let same = number.1 in omega (arith, ints)) in
    subst (λ m. AsksNothing table m state) (sym number.1) (none number.0 number.2 below)

pub next_found : (table : Table) (above to : ℤ) (first minute : ℕ) (state : State) → pos first ≡ above +ℤ pos 1 → pos 0 ≤ℤ above → AsksNothingIn table first minute state
    → first ≤ minute → pos minute ≤ℤ to → (AsksNothing table (pos minute) state → ⊥) → IsNextMinute table state above to (pos minute)
next_found table above to first minute state is low none from within asks = record {
  later = omega (arith, ints);
  within = within;
  asks = asks;
  least = none_between table above first minute state is low none;
}

pub none_found : (table : Table) (above to : ℤ) (first end minute : ℕ) (state : State) → pos first ≡ above +ℤ pos 1 → pos 0 ≤ℤ above → pos end ≡ to +ℤ pos 1
    → end ≤ minute → AsksNothingIn table first minute state → AsksNothingUntil table above to state
none_found table above to first end minute state is low last past none = λ other later within.
    none_between table above first minute state is low none other later (omega (arith, ints))
