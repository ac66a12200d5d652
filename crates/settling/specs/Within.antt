-- After how many rounds of a drain one replica leads alone.
use Rattle.std.specs.Prelude.{◌≡◌, ◌⊎◌, ℕ, zero, suc, ℤ, List, Option, None}
use Rattle.launch_machine.specs.Clerk.{table_size}
use Rattle.paxos_base.specs.declared.entry.Vote.{Vote}
use Rattle.cluster_sched.specs.declared.row.SchedRow.{SchedRow}
use Rattle.due_set.specs.Table.{Table}
use Rattle.synchronous_rounds.specs.Cluster.{Advice, Cluster, IsAdvised, cluster_round}
use Rattle.synchronous_rounds.specs.LedAlone.{Progress}
use Rattle.synchronous_rounds.specs.Again.{HasCampaignedAgain}
use Rattle.synchronous_rounds.specs.Campaign.{HasCampaigned, HasYielded}
use Rattle.script_semantics.specs.Situation.{Situation}
use Rattle.settling.specs.Leads.{LeadsAlone}
use Rattle.settling.specs.Stands.{StandsForCluster}

-- ---- a first campaign

-- Replicas over this table, of which one has just campaigned, in a ballot that no other has promised, and none has learned more.
pub record FirstCampaign (members : ℕ) (table : Table) (who : ℕ) : Type 0 where
  pub cluster : Cluster
  pub best : List Vote
  pub at : Progress
  pub over : at.table ≡ table
  pub campaigned : HasCampaigned members who best at cluster

-- a first campaign, and a synchronous round after it, in which the candidate calls nobody
pub record FirstRound (members : ℕ) (table : Table) (who : ℕ) : Type 0 where
  pub first : FirstCampaign members table who
  pub now : ℤ
  pub advice : ℕ → Advice
  pub answers : ℕ → Option SchedRow
  pub advised : IsAdvised members first.at.table now advice first.cluster
  pub alone : answers who ≡ None

-- the replicas after that round
abbrev pub after_first : {members : ℕ} → {table : Table} → {who : ℕ} → FirstRound members table who → Cluster
after_first {members} one = cluster_round members one.now one.advice one.answers one.first.cluster

-- The situation stands for what a first campaign has left.
pub record IsAfterCampaign (members : ℕ) (table : Table) (who : ℕ) (situation : Situation) : Type 0 where
  pub first : FirstCampaign members table who
  pub stands : StandsForCluster members (table_size table) situation first.cluster

-- It stands for what is left a round later: the others have answered, and the candidate has heard none of them.
pub record IsAfterAnswers (members : ℕ) (table : Table) (who : ℕ) (situation : Situation) : Type 0 where
  pub one : FirstRound members table who
  pub stands : StandsForCluster members (table_size table) situation (after_first one)

-- It stands for what is left two rounds later, where the candidate yields to a higher ballot that it has heard of.
pub record IsAfterYielding (members : ℕ) (table : Table) (who : ℕ) (situation : Situation) : Type 0 where
  pub one : FirstRound members table who
  pub now : ℤ
  pub advice : ℕ → Advice
  pub answers : ℕ → Option SchedRow
  pub advised : IsAdvised members one.first.at.table now advice (after_first one)
  pub yielded : HasYielded members who one.first.at.ballot (after_first one) (cluster_round members now advice answers (after_first one))
  pub stands : StandsForCluster members (table_size table) situation (cluster_round members now advice answers (after_first one))

-- ---- a second campaign

-- It stands for what is left a round after a second campaign, above each ballot that was promised or named: all others have
-- promised, and the candidate has heard none of them.
pub record IsAfterPromises (members : ℕ) (table : Table) (who : ℕ) (situation : Situation) : Type 0 where
  pub cluster : Cluster
  pub top : ℕ
  pub best : List Vote
  pub at : Progress
  pub over : at.table ≡ table
  pub campaigned : HasCampaignedAgain members who top best at cluster
  pub now : ℤ
  pub advice : ℕ → Advice
  pub answers : ℕ → Option SchedRow
  pub advised : IsAdvised members at.table now advice cluster
  pub alone : answers who ≡ None
  pub stands : StandsForCluster members (table_size table) situation (cluster_round members now advice answers cluster)

-- ---- the rounds that are left

-- The replica doesn't lead yet, and so many rounds of a drain are left until it does, at most. Of four, the first hears the campaign,
-- and the second what was answered to it; the third begins with a second campaign, where one is needed, and the last hears what was
-- answered to that.
abbrev pub IsOnItsWay : (rounds : ℕ) → ℕ → Table → (who : ℕ) → Situation → Type 0
IsOnItsWay zero members table who situation = ⊥
IsOnItsWay (suc zero) members table who situation = IsAfterPromises members table who situation
IsOnItsWay (suc (suc zero)) members table who situation = IsAfterYielding members table who situation
IsOnItsWay (suc (suc (suc zero))) members table who situation = IsAfterAnswers members table who situation
IsOnItsWay (suc (suc (suc (suc zero)))) members table who situation = IsAfterCampaign members table who situation
IsOnItsWay (suc (suc (suc (suc (suc more))))) members table who situation = ⊥

-- **The replica leads alone after so many rounds of a drain at most**: it leads alone, or is on its way to that.
abbrev pub LeadsWithin : (rounds : ℕ) → ℕ → Table → (who : ℕ) → Situation → Type 0
LeadsWithin rounds members table who situation = LeadsAlone members table who situation ⊎ IsOnItsWay rounds members table who situation
