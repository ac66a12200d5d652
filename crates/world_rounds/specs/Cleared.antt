-- What settling begins with, in a world.
use Rattle.std.specs.Prelude.{◌≡◌, ℕ, [], List, pos, length, None, Some, slice_get}
use Rattle.cluster_sched.specs.declared.fate.Fate.TheVariants.{Done}
use Rattle.step_spec.specs.State.{State, prefix_of}
use Rattle.replica_node.specs.Node.{replica_of}
use Rattle.history.specs.Book.{Row}
use Rattle.script_semantics.specs.Settling.{restart_tasks}
use Rattle.script_semantics.specs.Situation.{AreTurnsFor, Situation, after_turns}
use Rattle.world_rounds.specs.declared.member.Member.{Member}

-- no letter waits for the replica, its clock is right, its next call is answered, and its disk isn't armed; all else is as it was
pub record IsCleared {D : Type 0} (old new : Member D) : Type 0 where
  pub node : new.node ≡ old.node
  pub steps : new.steps ≡ old.steps
  pub runs : new.mail.runs ≡ old.mail.runs
  pub waits : new.mail.waits ≡ old.mail.waits
  pub letters : new.mail.letters.items ≡ []
  pub skew : new.mail.skew ≡ pos 0
  pub fate : new.mail.fate ≡ Done
  pub arm : new.mail.arm ≡ None

-- so it is of each of them
pub record AreCleared {D : Type 0} (old new : List (Member D)) : Type 0 where
  pub count : length new ≡ length old
  pub each : (who : ℕ) (one two : Member D) → slice_get old who ≡ Some one → slice_get new who ≡ Some two → IsCleared one two

-- All that are stopped start again. Nothing has been sent, and what is set for them is left open.
pub record RestartsAll (members : ℕ) (situation : Situation) (rows : List Row) (after : Situation) : Type 0 where
  pub turns : AreTurnsFor members situation (restart_tasks members situation) rows
  pub standing : after.standing ≡ (after_turns members situation rows).standing
  pub latest : after.latest ≡ (after_turns members situation rows).latest
  pub bases : after.bases ≡ (after_turns members situation rows).bases

-- the replicas have learned as much as these
abbrev pub HaveLearned : {D : Type 0} → (ℕ → State) → List (Member D) → Type 0
HaveLearned {D = D} replicas members =
    (who : ℕ) (member : Member D) → slice_get members who ≡ Some member → prefix_of (replicas who) ≡ prefix_of (replica_of member.node).state
