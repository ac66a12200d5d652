-- When a replica of a situation has nothing left to do at an instant, and how far a leader is from that.
use Rattle.std.specs.Prelude.{◌≡◌, ℕ, ◌<◌, List, Option, None, ℤ}
use Rattle.paxos_base.specs.declared.rows.JobRow.{JobRow}
use Rattle.cluster_sched.specs.declared.row.SchedRow.{SchedRow}
use Rattle.due_set.specs.Table.{Table}
use Rattle.term_core.specs.Term.{best_votes}
use Rattle.step_spec.specs.State.{State, prefix_of}
use Rattle.synchronous_rounds.specs.Measure.{rounds_left}
use Rattle.script_semantics.specs.Settling.{AsksNothing, IsFreeTerm}
use Rattle.script_semantics.specs.Situation.{Situation}

-- ---- idle

-- The replica is idle at the instant: it leads and has nothing left to do, no answer waits for it, and its launch table asks for
-- nothing.
pub record IsIdleAt (table : Table) (who : ℕ) (at : ℤ) (situation : Situation) : Type 0 where
  pub free : IsFreeTerm (prefix_of (situation.standing.replicas who)) (situation.standing.replicas who).term
  pub answered : situation.standing.waits who ≡ None
  pub rests : AsksNothing table at (situation.standing.replicas who)

-- all have learned as much as the replica
abbrev pub HaveCaughtUpWith : (members who : ℕ) → Situation → Type 0
HaveCaughtUpWith members who situation =
    (other : ℕ) → other < members → prefix_of (situation.standing.replicas other) ≡ prefix_of (situation.standing.replicas who)

-- ---- the rounds until then

-- **The measure of a drain**: the rounds that are left until a leader is idle, at most, over this table of jobs, with these rows as
-- its launch table and this answer waiting for it, by the votes that bind it.
abbrev pub left_of : Table → List JobRow → Option SchedRow → State → ℕ
left_of table rows waits state = rounds_left table rows (best_votes state.term) waits state
