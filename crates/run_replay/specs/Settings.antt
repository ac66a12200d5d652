-- What a script sets in a replay.
use Rattle.std.specs.Prelude.{◌≡◌, ⊤, ℕ, ◌<◌, [], List, pos, length, None, Some, slice_get}
use Rattle.cluster_sched.specs.declared.fate.Fate.TheVariants.{Done}
use Rattle.due_set.specs.Table.{Table}
use Rattle.script_text.specs.declared.command.Command.{Command}
use Rattle.script_text.specs.declared.command.Command.TheVariants.{Drop, Fate, Repeat, Reverse, Skew}
use Rattle.history.specs.Book.{Row}
use Rattle.script_semantics.specs.Situation.{Situation}
use Rattle.run_replay.specs.Replay.{IsReplayAt}
use Rattle.run_replay.specs.declared.replay.Replay.{Replay}
use Rattle.run_replay.specs.declared.replay.Setting.{Setting}

-- **The situation of the replay changes**, and no turn is added.
abbrev pub ChangesReplay : (change : Situation → Situation) → (old new : Replay) → Type 0
ChangesReplay change old new =
    (table : Table) (rows : List Row) (situation : Situation) → IsReplayAt table rows old situation → IsReplayAt table rows new (change situation)

-- a command that sets something for a replica names one of so many
abbrev pub NamesMember : (members : ℕ) → Command → Type 0
NamesMember members (Drop from to) = to < members
NamesMember members (Repeat from to) = to < members
NamesMember members (Reverse who) = who < members
NamesMember members (Skew who minutes) = who < members
NamesMember members (Fate who word) = who < members
NamesMember members command = ⊤

-- no letter waits for the replica, its clock is right, its next call is answered, and its disk isn't armed; all else is as it was
pub record IsReset (old new : Setting) : Type 0 where
  pub mail : new.mail.items ≡ []
  pub skew : new.skew ≡ pos 0
  pub fate : new.fate ≡ Done
  pub waits : new.waits ≡ old.waits
  pub arm : new.arm ≡ None
  pub area : new.second_area ≡ old.second_area

-- so it is of each of them
pub record AreReset (old new : List Setting) : Type 0 where
  pub count : length new ≡ length old
  pub each : (who : ℕ) (one two : Setting) → slice_get old who ≡ Some one → slice_get new who ≡ Some two → IsReset one two
