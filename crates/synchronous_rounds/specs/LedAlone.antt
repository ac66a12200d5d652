-- What holds once one replica leads in a ballot above all others: of it, of the others, and of what they say.
use Rattle.std.specs.Prelude.{◌≡◌, ℕ, ◌<◌, ◌≤◌, ⊤, List, Option, Contains}
use Rattle.std.specs.List.{AllByRecursion}
use Rattle.paxos_base.specs.declared.entry.Vote.{Vote}
use Rattle.paxos_base.specs.declared.rows.JobRow.{JobRow}
use Rattle.due_set.specs.Table.{Table}
use Rattle.term_core.specs.declared.flight.Flight.{Flight}
use Rattle.term_core.specs.declared.term.Term.{Term}
use Rattle.term_core.specs.declared.term.Term.TheVariants.{Leader}
use Rattle.step_spec.specs.May.{IsFollower}
use Rattle.step_spec.specs.Message.{Message, Known, Snap, ballot_in}
use Rattle.step_spec.specs.State.{State, prefix_of, promised_in}
use Rattle.step_spec.specs.Step.{IsLaunchTable}
use Rattle.synchronous_rounds.specs.Cluster.{Cluster, HeardLetter}

-- ---- letters that change nothing of who leads

-- a message tells entries below a slot alone: one that was chosen, or a launch table in the place of those below its own slot
abbrev pub TellsBelow : ℕ → Message → Type 0
TellsBelow prefix (Known slot entry) = slot < prefix
TellsBelow prefix (Snap slot rows) = slot ≤ prefix
TellsBelow prefix message = ⊤

-- it names no ballot above one, and tells entries below a slot alone
pub record StaysWithin (ballot prefix : ℕ) (message : Message) : Type 0 where
  pub low : ballot_in message ≤ ballot
  pub below : TellsBelow prefix message

-- each message of a mail does
abbrev pub AreWithin : (ballot prefix : ℕ) → List HeardLetter → Type 0
AreWithin ballot prefix mail = AllByRecursion (λ letter. AllByRecursion (StaysWithin ballot prefix) letter.messages) mail

-- the letters are from replicas of so many
abbrev pub AreFrom : ℕ → List HeardLetter → Type 0
AreFrom members mail = AllByRecursion (λ letter. letter.from < members) mail

-- the message occurs in a letter of the mail, from that replica
pub record Occurs (mail : List HeardLetter) (from : ℕ) (message : Message) : Type 0 where
  pub letter : HeardLetter
  pub there : Contains mail letter
  pub is_from : letter.from ≡ from
  pub has : Contains letter.messages message

-- ---- replicas

-- a replica follows, has promised no ballot above one, and has learned entries below a slot alone
pub record IsBehind (ballot prefix : ℕ) (state : State) : Type 0 where
  pub promised : promised_in state.kept ≤ ballot
  pub follows : IsFollower state.term
  pub short : prefix_of state ≤ prefix

-- How far a replica is: the ballot that it has promised, its launch table, its prefix and its base.
pub record Progress : Type 0 where
  pub ballot : ℕ
  pub table : Table
  pub rows : List JobRow
  pub prefix : ℕ
  pub base : ℕ

-- the replica is so far, and in this term
pub record IsHolding (term : Term) (at : Progress) (state : State) : Type 0 where
  pub is : state.term ≡ term
  pub promised : promised_in state.kept ≡ at.ballot
  pub launch : IsLaunchTable at.table state at.rows
  pub learned : prefix_of state ≡ at.prefix
  pub from_base : state.kept.base ≡ at.base

-- it leads in the ballot that it has promised, bound by these votes, with this flight or none
abbrev pub IsLeading : List Vote → Option Flight → Progress → State → Type 0
IsLeading best flight at state = IsHolding (Leader at.ballot best flight) at state

-- ---- all of them

-- One replica leads alone: each other one follows, and no letter names a higher ballot, or tells an entry that is not below the
-- leader's prefix.
pub record IsLedAlone (members leader ballot prefix : ℕ) (cluster : Cluster) : Type 0 where
  pub member : leader < members
  pub few : members ≤ 7
  pub more : 2 ≤ members
  pub behind : (who : ℕ) → who < members → (who ≡ leader → ⊥) → IsBehind ballot prefix (cluster.replicas who)
  pub within : (who : ℕ) → who < members → AreWithin ballot prefix (cluster.mails who)
  pub from : (who : ℕ) → who < members → AreFrom members (cluster.mails who)
