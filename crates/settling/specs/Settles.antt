-- How a cluster of any size settles: one replica comes to lead, becomes idle, and then all have caught up.
use Rattle.std.specs.Prelude.{◌≡◌, ◌⊎◌, ℕ, zero, suc, List, ℤ}
use Rattle.due_set.specs.Table.{Table}
use Rattle.history.specs.Book.{Row}
use Rattle.script_semantics.specs.Situation.{Situation}
use Rattle.settling.specs.Leads.{GoesDrainRound, LeadsAlone}
use Rattle.settling.specs.Within.{IsOnItsWay}
use Rattle.settling.specs.Idle.{IsIdleAt}
use Rattle.settling.specs.Alone.{LeadsItself}

-- The replica leads, and nobody else does: it is the one replica of its cluster and leads itself, or it leads alone among others.
pub data LeadsNow (members : ℕ) (table : Table) (who : ℕ) (situation : Situation) : Type 0 where
  itself : members ≡ 1 → who ≡ 0 → LeadsItself table situation → LeadsNow members table who situation
  among : LeadsAlone members table who situation → LeadsNow members table who situation

-- **It leads after so many rounds of a drain at most**: it leads now, or is on its way to that.
abbrev pub LeadsSoon : (rounds members : ℕ) → Table → (who : ℕ) → Situation → Type 0
LeadsSoon rounds members table who situation = LeadsNow members table who situation ⊎ IsOnItsWay rounds members table who situation

-- **It leads, and was idle at the instant so many rounds of a drain ago**: nothing else has come since.
abbrev pub HasBeenIdleFor : (rounds members : ℕ) → Table → (who : ℕ) → (at : ℤ) → Situation → Type 0
HasBeenIdleFor zero members table who at situation = LeadsNow members table who situation × IsIdleAt table who at situation
HasBeenIdleFor (suc more) members table who at situation =
    (book : List Row) × (rows : List Row) × (before : Situation) × HasBeenIdleFor more members table who at before
    × GoesDrainRound members table who at book rows before situation
