-- A learner ("Paxos Made Simple", section 2.3) of a log, slot after slot.
use Rattle.std.specs.Prelude.{◌≡◌, ℕ, ◌+◌, ◌-◌, Option, None, List, [], ◌∷◌, ◌++◌, if◌then◌else◌, length, nat_le, slice_get, drop}
use Rattle.paxos_base.specs.declared.entry.Entry.{Entry}

-- what a learner has of the log, which is the entries of the slots from its base on, and for how many more it has room
pub record LearnerState : Type 0 where
  pub base : ℕ
  pub entries : List Entry
  pub spare : ℕ

-- the first slot whose entry has not been learned
abbrev pub learned_prefix : LearnerState → ℕ
learned_prefix learner = learner.base + length learner.entries

-- the entry at a slot, where the learner has it
abbrev pub entry_at : ℕ → LearnerState → Option Entry
entry_at slot learner = if nat_le learner.base slot then slice_get learner.entries (slot - learner.base) else None

-- a learner has learned one more entry
pub record HasLearnedOne (old new : LearnerState) (entry : Entry) : Type 0 where
  pub base : new.base ≡ old.base
  pub entries : new.entries ≡ old.entries ++ entry ∷ []

-- a learner begins at a later slot, and has the entries from there on
pub record IsRebased (old new : LearnerState) (base : ℕ) : Type 0 where
  pub base_is : new.base ≡ base
  pub entries : new.entries ≡ drop (base - old.base) old.entries

-- one learner is as another, but for the room that it has
pub record IsSameLearner (one other : LearnerState) : Type 0 where
  pub base : one.base ≡ other.base
  pub entries : one.entries ≡ other.entries
