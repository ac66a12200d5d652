-- How a draft is taken.
use Rattle.std.specs.Prelude.{◌≡◌, ℕ, ◌++◌, List, max, Option, None, Some, unwrap_or}
use Rattle.paxos_base.specs.Durable.{after_delta}
use Rattle.paxos_base.specs.declared.durable.Delta.{Delta}
use Rattle.paxos_base.specs.declared.durable.Durable.{Durable}
use Rattle.paxos_base.specs.declared.entry.Entry.{Entry}
use Rattle.acceptor_core.specs.Acceptor.{IsPart}
use Rattle.due_set.specs.Table.{Table}
use Rattle.launch_machine.specs.Clerk.{AppliesAll}
use Rattle.launch_machine.specs.Machine.{Launches, StandsFor}
use Rattle.learner_core.specs.Learner.{LearnerState}
use Rattle.step_spec.specs.declared.out.LearntRow.{LearntRow}
use Rattle.replica_draft.specs.Draft.{entries_in, learned_with}
use Rattle.replica_draft.specs.declared.change.Change.{Change}
use Rattle.replica_draft.specs.declared.change.Change.TheVariants as change
use Rattle.replica_core.specs.Counts.{highest_count}
use Rattle.replica_core.specs.Replica.{base_of, durable_in, rows_of}
use Rattle.replica_core.specs.declared.parts.Core.{Core}

-- what is kept after a change, where there is one
abbrev pub kept_after : Option Delta → Durable → Durable
kept_after None kept = kept
kept_after (Some delta) kept = after_delta delta kept

-- nothing has changed but the highest round of its own and the acceptor: they are those after the change
pub record HasStored (delta : Option Delta) (old new : Core) : Type 0 where
  pub same : new ≡ record old { tried = new.tried; acceptor = new.acceptor }
  pub tried : new.tried ≡ (kept_after delta (durable_in old)).tried
  pub part : IsPart new.acceptor (kept_after delta (durable_in old))

-- the launch table with its machine that a change brings, or else this one
abbrev pub launches_of : Option Change → Launches → Launches
launches_of (Some (change.Rebased rebased)) machine = unwrap_or rebased.machine machine
launches_of (Some (change.Tried ballot)) machine = machine
launches_of (Some (change.Promised ballot)) machine = machine
launches_of (Some (change.Voted vote)) machine = machine
launches_of None machine = machine

-- the entries that are applied to it: behind a new base those that were learned since
abbrev pub entries_with : Option Change → List Entry → List Entry
entries_with (Some (change.Rebased rebased)) entries = rebased.since
entries_with (Some (change.Tried ballot)) entries = entries
entries_with (Some (change.Promised ballot)) entries = entries
entries_with (Some (change.Voted vote)) entries = entries
entries_with None entries = entries

-- entries were learned and applied, and this is the highest of the counts that one of them may have raised
pub record LearnsAll (table : Table) (old new : LearnerState) (start end : Launches) (entries : List Entry) (raised : ℕ) : Type 0 where
  pub base : new.base ≡ old.base
  pub learned : new.entries ≡ old.entries ++ entries
  pub applied : AppliesAll table start.rows entries end.rows
  pub stands : StandsFor table end
  pub highest : highest_count end.rows ≡ max (highest_count start.rows) raised

-- nothing has changed but the rows at the base, what was learned, and the launch table by that: behind a new base they are those there
pub record HasLearnedAll (table : Table) (made : Option Change) (rows : List LearntRow) (old new : Core) : Type 0 where
  pub same : new ≡ record old { learner = new.learner; rows = rows_of made old.rows; machine = new.machine; high_count = new.high_count }
  pub base : new.learner.base ≡ base_of made old.learner.base
  pub learned : new.learner.entries ≡ learned_with made old.learner.entries rows
  pub applied : AppliesAll table (launches_of made old.machine).rows (entries_with made (entries_in rows)) new.machine.rows
  pub stands : StandsFor table new.machine
  pub counts : old.high_count ≡ highest_count old.machine.rows → new.high_count ≡ highest_count new.machine.rows
