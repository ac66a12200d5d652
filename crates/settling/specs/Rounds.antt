-- Rounds of a legal book in which all run and nothing is lost.
use Rattle.std.specs.Prelude.{◌≡◌, ℕ, zero, suc, ◌*◌, ◌^◌, ◌<◌, ◌≤◌, ℤ, pos, true, List, [], ◌++◌, length, Option, Contains}
use Rattle.zone_minutes.specs.Window.{IsInWindow}
use Rattle.due_set.specs.Table.{IsSound, Table}
use Rattle.launch_machine.specs.Clerk.{first_rows, table_size}
use Rattle.cluster_sched.specs.declared.fate.Fate.TheVariants as fate
use Rattle.cluster_sched.specs.declared.row.SchedRow.{SchedRow}
use Rattle.history.specs.Book.{PostedLetter, Row, standing_after}
use Rattle.history.specs.Legal.{IsLegal}
use Rattle.synchronous_rounds.specs.Cluster.{Advice, Cluster, IsAdvised, calls_at, cluster_round}
use Rattle.synchronous_rounds.specs.Rounds.{IsAnswerTo}
use Rattle.script_semantics.specs.Arms.{AreRoundsByArms}
use Rattle.script_semantics.specs.Round.{IsRound}
use Rattle.script_semantics.specs.Situation.{Situation}
use Rattle.settling.specs.Stands.{StandsForCluster}

-- All replicas run, no letter is lost, each clock is right, and each call is answered.
pub record IsFaultless (members : ℕ) (situation : Situation) : Type 0 where
  pub runs : (who : ℕ) → who < members → situation.standing.runs who ≡ true
  pub uncut : situation.cuts ≡ []
  pub right : (who : ℕ) → who < members → situation.skews who ≡ pos 0
  pub done : (who : ℕ) → who < members → situation.fates who ≡ fate.Done

-- The limits within which letters are heard whole: a book of fewer than 2^59 turns, since replicas count with rounds below 2^59;
-- and letters of fewer bytes than 2^31 packets have, of 56 bytes each, since a letter of so many packets is heard as none.
pub record IsWithinBounds (book : List Row) (posted : List PostedLetter) : Type 0 where
  pub turns : length book < 2 ^ 59
  pub letters : (letter : PostedLetter) → Contains posted letter → length letter.bytes < 56 * 2 ^ 31

-- The book is legal and goes on with a part, at an instant of the window, without a fault and within the limits.
pub record GoesOnWithin (part : Situation → List Row → Situation → Type 0) (members : ℕ) (table : Table) (at : ℤ) (book rows : List Row)
    (situation after : Situation) : Type 0 where
  pub few : members ≤ 7
  pub sound : IsSound table
  pub within : IsInWindow table.window at
  pub legal : IsLegal members table (book ++ rows)
  pub standing : situation.standing ≡ standing_after members (first_rows table) book
  pub faultless : IsFaultless members situation
  pub round : part situation rows after
  pub limits : IsWithinBounds (book ++ rows) after.standing.posted

-- it goes on with a round
abbrev pub GoesRound : ℕ → Table → (at : ℤ) → (book rows : List Row) → (situation after : Situation) → Type 0
GoesRound members table at = GoesOnWithin (IsRound members table.window at) members table at

-- it goes on with so many rounds, in which a disk that is armed may stop
abbrev pub GoesRounds : ℕ → Table → (at : ℤ) → ℕ → (book rows : List Row) → (situation after : Situation) → Type 0
GoesRounds members table at rounds = GoesOnWithin (AreRoundsByArms members table.window at rounds) members table at

-- **The situation stands for a synchronous round**: by true advice, after which each replica that calls has the answer to its call.
pub record StandsForRound (members : ℕ) (table : Table) (at : ℤ) (cluster : Cluster) (after : Situation) : Type 0 where
  pub advice : ℕ → Advice
  pub answers : ℕ → Option SchedRow
  pub advised : IsAdvised members table at advice cluster
  pub answered : (who : ℕ) → who < members → IsAnswerTo (calls_at members at advice cluster who) (answers who)
  pub stands : StandsForCluster members (table_size table) after (cluster_round members at advice answers cluster)

-- The situation stands for so many synchronous rounds, one after another.
abbrev pub StandsForRounds : ℕ → Table → (at : ℤ) → ℕ → Cluster → Situation → Type 0
StandsForRounds members table at zero cluster after = StandsForCluster members (table_size table) after cluster
StandsForRounds members table at (suc more) cluster after =
    (advice : ℕ → Advice) × (answers : ℕ → Option SchedRow) × IsAdvised members table at advice cluster
    × ((who : ℕ) → who < members → IsAnswerTo (calls_at members at advice cluster who) (answers who))
    × StandsForRounds members table at more (cluster_round members at advice answers cluster) after
