-- How the others come to know what a leader knows that leads alone and is idle.
use Rattle.std.specs.Prelude.{◌≡◌, ◌⊎◌, ℕ, ◌+◌, ◌<◌, ◌≤◌, List, [], ◌∷◌, ◌++◌, length, Option, ℤ, Contains}
use Rattle.paxos_base.specs.Vote.{votes_from}
use Rattle.paxos_base.specs.declared.entry.Entry.{Entry}
use Rattle.paxos_base.specs.declared.entry.Vote.{Vote}
use Rattle.paxos_base.specs.declared.rows.JobRow.{JobRow}
use Rattle.cluster_sched.specs.declared.row.SchedRow.{SchedRow}
use Rattle.due_set.specs.Table.{Table}
use Rattle.launch_machine.specs.Answers.{IsIntent}
use Rattle.launch_machine.specs.declared.machine.Intent.TheVariants.{Rest}
use Rattle.step_spec.specs.Hear.{known_from}
use Rattle.step_spec.specs.Message.{Message, AskFrom, Lead, Snap}
use Rattle.step_spec.specs.State.{prefix_of}
use Rattle.synchronous_rounds.specs.Cluster.{Advice, Cluster, HeardLetter, IsAdvised, calls_at, cluster_round}
use Rattle.synchronous_rounds.specs.Rounds.{IsAnswerTo, IsFreeNow}
use Rattle.synchronous_rounds.specs.LedAlone.{Occurs, Progress}

-- ---- the leader

-- One leads alone, and has nothing left to do at the instant: no vote binds it, and its launch table asks for nothing.
pub record IsIdle (members leader : ℕ) (best : List Vote) (at : Progress) (now : ℤ) (cluster : Cluster) : Type 0 where
  pub free : IsFreeNow members leader best at cluster
  pub unbound : votes_from at.prefix best ≡ []
  pub rests : IsIntent at.table at.rows now Rest

-- a round at an instant: each replica has its part, by what its launch table says, and the leader's calls are answered
pub record IsRoundAt (members leader : ℕ) (table : Table) (now : ℤ) (cluster next : Cluster) : Type 0 where
  pub advice : ℕ → Advice
  pub answers : ℕ → Option SchedRow
  pub advised : IsAdvised members table now advice cluster
  pub answered : IsAnswerTo (calls_at members now advice cluster leader) (answers leader)
  pub is : next ≡ cluster_round members now advice answers cluster

-- five of them, one after another
pub record AreFiveRounds (members leader : ℕ) (table : Table) (now : ℤ) (cluster five : Cluster) : Type 0 where
  pub one : Cluster
  pub two : Cluster
  pub three : Cluster
  pub four : Cluster
  pub first : IsRoundAt members leader table now cluster one
  pub second : IsRoundAt members leader table now one two
  pub third : IsRoundAt members leader table now two three
  pub fourth : IsRoundAt members leader table now three four
  pub fifth : IsRoundAt members leader table now four five

-- ---- the others

-- it has said to all others that it leads, and how far it has learned
abbrev pub HasSaidToAll : (members leader ballot prefix : ℕ) → Cluster → Type 0
HasSaidToAll members leader ballot prefix cluster =
    (who : ℕ) → who < members → (who ≡ leader → ⊥) → Occurs (cluster.mails who) leader (Lead ballot prefix)

-- a replica has asked for all that it lacks
pub record HasAsked (leader who : ℕ) (cluster : Cluster) : Type 0 where
  pub slot : ℕ
  pub asks : Occurs (cluster.mails leader) who (AskFrom slot)
  pub short : slot ≤ prefix_of (cluster.replicas who)

-- each of the others has learned as much, or has asked
abbrev pub HaveAsked : (members leader prefix : ℕ) → Cluster → Type 0
HaveAsked members leader prefix cluster =
    (who : ℕ) → who < members → (who ≡ leader → ⊥) → (prefix_of (cluster.replicas who) ≡ prefix) ⊎ HasAsked leader who cluster

-- some messages stand in others, in one piece
pub record IsPieceOf (piece whole : List Message) : Type 0 where
  pub front : List Message
  pub back : List Message
  pub is : whole ≡ front ++ (piece ++ back)

-- messages tell all that one lacks that has learned the entries below a slot, up to another: these entries, or a launch table in
-- the place of the first and the others
pub data TellsWhatIsLacked (slot prefix : ℕ) (messages : List Message) : Type 0 where
  entries_from : (entries : List Entry) → slot + length entries ≡ prefix → IsPieceOf (known_from slot entries) messages
      → TellsWhatIsLacked slot prefix messages
  table_and : (base : ℕ) → (rows : List JobRow) → (entries : List Entry) → base + length entries ≡ prefix
      → IsPieceOf (Snap base rows ∷ known_from base entries) messages → TellsWhatIsLacked slot prefix messages

-- a letter from the leader tells a replica what it lacks
pub record IsTold (leader prefix who : ℕ) (cluster : Cluster) : Type 0 where
  pub slot : ℕ
  pub short : slot ≤ prefix_of (cluster.replicas who)
  pub letter : HeardLetter
  pub there : Contains (cluster.mails who) letter
  pub is_from : letter.from ≡ leader
  pub tells : TellsWhatIsLacked slot prefix letter.messages

-- each of the others has learned as much, or is told what it lacks
abbrev pub AreTold : (members leader prefix : ℕ) → Cluster → Type 0
AreTold members leader prefix cluster =
    (who : ℕ) → who < members → (who ≡ leader → ⊥) → (prefix_of (cluster.replicas who) ≡ prefix) ⊎ IsTold leader prefix who cluster

-- all have learned as much
abbrev pub HaveCaughtUp : (members prefix : ℕ) → Cluster → Type 0
HaveCaughtUp members prefix cluster = (who : ℕ) → who < members → prefix_of (cluster.replicas who) ≡ prefix
