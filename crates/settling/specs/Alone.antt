-- When the one replica of a cluster leads, which has nobody to ask.
use Rattle.std.specs.Prelude.{◌≡◌, ⊤, true, List, [], Option, None, Some}
use Rattle.paxos_base.specs.Vote.{votes_from}
use Rattle.paxos_base.specs.declared.entry.Vote.{Vote}
use Rattle.cluster_sched.specs.declared.row.SchedRow.{SchedRow}
use Rattle.due_set.specs.Table.{Table}
use Rattle.step_spec.specs.Propose.{is_open}
use Rattle.synchronous_rounds.specs.LedAlone.{IsLeading, Progress}
use Rattle.script_semantics.specs.Situation.{Situation}

-- an answer that waits is of a launch that is open, and no vote binds the leader
abbrev pub IfWaits : List Vote → Progress → Option SchedRow → Type 0
IfWaits best at None = ⊤
IfWaits best at (Some row) = (votes_from at.prefix best ≡ []) × (is_open row.name.job row.name.at at.rows ≡ true)

-- **The one replica of a cluster leads itself**: it leads in the ballot that it has promised, without a flight; an answer that waits
-- for it can be proposed; and no letter waits for it.
pub record LeadsItself (table : Table) (situation : Situation) : Type 0 where
  pub best : List Vote
  pub at : Progress
  pub over : at.table ≡ table
  pub leading : IsLeading best None at (situation.standing.replicas 0)
  pub answers : IfWaits best at (situation.standing.waits 0)
  pub unheard : situation.mails 0 ≡ []
