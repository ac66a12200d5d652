-- What a round makes of a leader that leads alone.
use Rattle.std.specs.Prelude.{◌≡◌, ◌⊎◌, ℕ, ◌+◌, ◌≤◌, true, List, [], ◌∷◌, Option, None, Some, ℤ}
use Rattle.paxos_base.specs.Vote.{votes_from}
use Rattle.paxos_base.specs.declared.entry.Vote.{Vote}
use Rattle.paxos_base.specs.declared.rows.JobRow.{JobRow}
use Rattle.cluster_sched.specs.declared.row.SchedRow.{SchedRow}
use Rattle.due_set.specs.Table.{IsSound}
use Rattle.term_core.specs.declared.flight.Flight.{Flight}
use Rattle.step_spec.specs.Propose.{is_open}
use Rattle.agreement.specs.Transition.{identity_of}
use Rattle.synchronous_rounds.specs.Begins.{Begins, HasIdled, NextEntry, proposal_of}
use Rattle.synchronous_rounds.specs.Cluster.{Advice, Cluster, calls_at}
use Rattle.synchronous_rounds.specs.Flights.{IsAccepted, IsAsked, IsNeeded, IsUnderWay, Proposal, Proposes, asked_vote, learned_by, waiting}
use Rattle.synchronous_rounds.specs.Measure.{IsNearer, Reckoned}
use Rattle.synchronous_rounds.specs.LedAlone.{IsLeading, IsLedAlone, Progress}

-- the leader between two rounds, with these rows as its launch table
abbrev pub reckoned : ℕ → List JobRow → Cluster → Reckoned
reckoned leader rows cluster = record { rows = rows; waits = cluster.waits leader; state = cluster.replicas leader }

-- ---- a proposal is under way

-- it is under way still, one tick later at most, and its leader is nearer to being idle; no call is made
pub record WaitsOn (proposal : Proposal) (now : ℤ) (advice : ℕ → Advice) (cluster next : Cluster) : Type 0 where
  pub base : ℕ
  pub waited : ℕ
  pub later : waited ≤ proposal.waited + 1
  pub flight : Flight
  pub proposes : Proposes (waiting base waited proposal) flight (next.replicas proposal.self.me)
  pub uncalled : calls_at proposal.self.members now advice cluster proposal.self.me ≡ []
  pub nearer : IsNearer proposal.at.table proposal.best
      (reckoned proposal.self.me proposal.at.rows cluster) (reckoned proposal.self.me proposal.at.rows next)

-- it is learned, its leader begins the next thing, and is nearer to being idle
pub record Lands (proposal : Proposal) (now : ℤ) (advice : ℕ → Advice) (cluster next : Cluster) : Type 0 where
  pub begins : Begins proposal.self.members proposal.self.me proposal.best (learned_by proposal) now advice cluster next
  pub nearer : IsNearer proposal.at.table proposal.best
      (reckoned proposal.self.me proposal.at.rows cluster) (reckoned proposal.self.me proposal.later next)

-- ---- no proposal is under way

-- one leads alone, without a flight
pub record IsFree (members leader : ℕ) (best : List Vote) (at : Progress) (cluster : Cluster) : Type 0 where
  pub led_alone : IsLedAlone members leader at.ballot at.prefix cluster
  pub leading : IsLeading best None at (cluster.replicas leader)
  pub sound : IsSound at.table

-- nor does an answer wait for it
pub record IsFreeNow (members leader : ℕ) (best : List Vote) (at : Progress) (cluster : Cluster) : Type 0 where
  pub free : IsFree members leader best at cluster
  pub alone : cluster.waits leader ≡ None

-- an answer of a launch that is open waits for it, and no vote binds it
pub record IsAnswerable (members leader : ℕ) (best : List Vote) (at : Progress) (row : SchedRow) (cluster : Cluster) : Type 0 where
  pub free : IsFree members leader best at cluster
  pub waits : cluster.waits leader ≡ Some row
  pub unbound : votes_from at.prefix best ≡ []
  pub open_there : is_open row.name.job row.name.at at.rows ≡ true

-- It has proposed an entry, which is needed, and all others are asked for their votes; it is under way, or learned already.
pub record HasAnswered (members leader : ℕ) (best : List Vote) (at : Progress) (now : ℤ) (advice : ℕ → Advice) (cluster next : Cluster) : Type 0 where
  pub proposed : NextEntry at
  pub needed : IsNeeded (proposal_of (identity_of members leader) best at proposed 0)
  pub asked : IsAsked members leader (asked_vote (proposal_of (identity_of members leader) best at proposed 0)) next
  pub came : WaitsOn (proposal_of (identity_of members leader) best at proposed 0) now advice cluster next
      ⊎ Lands (proposal_of (identity_of members leader) best at proposed 0) now advice cluster next

-- ---- any of them

-- the calls of a tick are answered under their names, and nothing else is
abbrev pub IsAnswerTo : List SchedRow → Option SchedRow → Type 0
IsAnswerTo [] waits = waits ≡ None
IsAnswerTo (row ∷ rows) waits = (answer : SchedRow) × (waits ≡ Some answer) × (answer.name ≡ row.name)

-- how far a leader that leads alone is with what it does, between two rounds
pub data Stage (members leader : ℕ) (best : List Vote) (at : Progress) (cluster : Cluster) : Type 0 where
  free : IsFreeNow members leader best at cluster → Stage members leader best at cluster
  answer : (row : SchedRow) → IsAnswerable members leader best at row cluster → Stage members leader best at cluster
  asked : (entry : NextEntry at) → (waited : ℕ) → (flight : Flight) → waited ≤ 1
      → IsUnderWay (proposal_of (identity_of members leader) best at entry waited) flight cluster
      → IsAsked members leader (asked_vote (proposal_of (identity_of members leader) best at entry waited)) cluster
      → Stage members leader best at cluster
  accepted : (entry : NextEntry at) → (waited : ℕ) → (flight : Flight)
      → IsUnderWay (proposal_of (identity_of members leader) best at entry waited) flight cluster
      → IsAccepted members leader at.ballot at.prefix cluster → Stage members leader best at cluster

-- it leads alone in its ballot still, over the same table, at some stage, and is nearer to being idle
pub record ComesNearer (members leader : ℕ) (best : List Vote) (at : Progress) (cluster next : Cluster) : Type 0 where
  pub later : Progress
  pub ballot : later.ballot ≡ at.ballot
  pub table : later.table ≡ at.table
  pub stage : Stage members leader best later next
  pub nearer : IsNearer at.table best (reckoned leader at.rows cluster) (reckoned leader later.rows next)

-- it was free and has nothing to do, and is free still
pub record StaysFree (members leader : ℕ) (best : List Vote) (at : Progress) (now : ℤ) (advice : ℕ → Advice) (cluster next : Cluster) : Type 0 where
  pub was : IsFreeNow members leader best at cluster
  pub free : IsFreeNow members leader best at next
  pub rested : HasIdled members leader best at now advice cluster next
