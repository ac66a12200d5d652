-- Books in which the parts of the fit are at work.
use Rattle.std.specs.Prelude.{◌≡◌, ℕ, List, Some, ℤ, ◌<ℤ◌, Contains, slice_get}
use Rattle.paxos_base.specs.declared.entry.Entry.{Entry}
use Rattle.paxos_base.specs.declared.entry.Kind.{Kind}
use Rattle.paxos_base.specs.declared.entry.Kind.TheVariants.{Launch, Void}
use Rattle.due_set.specs.Table.{IsRunByPeriod, Table}
use Rattle.cluster_sched.specs.declared.row.SchedRow.{SchedRow}
use Rattle.launch_machine.specs.Clerk.{first_rows}
use Rattle.launch_safety.specs.Fits.{HasEnd}
use Rattle.agreement.specs.Log.{IsLog}
use Rattle.history.specs.Book.{Row, standing_after, votes_in}

-- in the log of the book an end of the launch takes effect, and says this kind
abbrev pub EndsAs : ℕ → Table → List Row → ℕ → ℤ → Kind → Type 0
EndsAs members table book job at kind =
    (log : List Entry) → IsLog members (votes_in book) log → HasEnd table log job at kind

-- A call that went late has arrived, and was in time; but its launch has ended as a void.
pub record ArrivesTooLate (members : ℕ) (table : Table) (book : List Row) : Type 0 where
  pub call : SchedRow
  pub number : ℕ
  pub late : slice_get (standing_after members (first_rows table) book).late number ≡ Some call
  pub arrived : Contains (standing_after members (first_rows table) book).arrived number
  pub in_time : call.kind ≡ Launch
  pub void : EndsAs members table book call.name.job call.name.at Void

-- two launches of a job that runs by its period have ended, one on a later date
pub record HasTwoDates (members : ℕ) (table : Table) (book : List Row) : Type 0 where
  pub job : ℕ
  pub by_period : IsRunByPeriod table job
  pub first : ℤ
  pub second : ℤ
  pub later : first <ℤ second
  pub first_ended : EndsAs members table book job first Launch
  pub second_ended : EndsAs members table book job second Launch
