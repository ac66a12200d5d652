-- That the replicas of a book agree. Source: "Paxos Made Simple", section 2.
use Rattle.std.specs.Prelude.{◌≡◌, ℕ, true, List, Contains}
use Rattle.paxos_base.specs.declared.entry.Entry.{Entry}
use Rattle.paxos_base.specs.declared.rows.JobRow.{JobRow}
use Rattle.due_set.specs.Table.{IsSound, Table}
use Rattle.step_spec.specs.Step.{IsLaunchTable}
use Rattle.launch_machine.specs.Clerk.{first_rows}
use Rattle.agreement.specs.Agree.{IsChosen}
use Rattle.agreement.specs.Log.{FollowsLog, IsLog}
use Rattle.agreement.specs.World.{Learning}
use Rattle.history.specs.Book.{Row, learned_in, standing_after, votes_in}

-- Each learned entry was chosen; no two were learned for one slot; and each replica that runs has learned a front of the log,
-- and has a launch table, which is that of the clerk who goes over that front.
pub record Agrees (members : ℕ) (table : Table) (book : List Row) : Type 0 where
  pub chosen : (learned : Learning) → Contains (learned_in book) learned → IsChosen members (votes_in book) learned.slot learned.entry
  pub one : (a b : Learning) → Contains (learned_in book) a → Contains (learned_in book) b → a.slot ≡ b.slot → a.entry ≡ b.entry
  pub follow : (log : List Entry) → IsLog members (votes_in book) log → (who : ℕ)
      → (standing_after members (first_rows table) book).runs who ≡ true
      → FollowsLog table log ((standing_after members (first_rows table) book).replicas who)
  pub has_table : IsSound table → (who : ℕ) → (standing_after members (first_rows table) book).runs who ≡ true
      → (rows : List JobRow) × IsLaunchTable table ((standing_after members (first_rows table) book).replicas who) rows
