-- A world that has settled, or walked, within its limits.
use Rattle.std.proofs.Common.{◌≡◌, ◌<◌, List, ◌++◌, ℤ, subst, arith}
use Rattle.zone_minutes.specs.Window.{IsInWindow}
use Rattle.disk_model.specs.MemDisk.{view_of}
use Rattle.disk_model.specs.declared.mem_disk.MemDisk.{MemDisk}
use Rattle.due_set.specs.Table.{Table}
use Rattle.paxos_base.specs.declared.entry.Entry.{Entry}
use Rattle.agreement.specs.Log.{IsLog}
use Rattle.history.specs.Book.{Row, votes_in}
use Rattle.history.specs.Legal.{IsLegal}
use Rattle.script_semantics.specs.Settling.{Settles, Walks, coordinator}
use Rattle.script_semantics.specs.Situation.{Situation}
use Rattle.settling.specs.Quiet.{EndsQuietly}
use Rattle.settling.specs.Rounds.{IsWithinBounds}
use Rattle.run_outcome.specs.Continues.{ContinuesBy}
use Rattle.run_outcome.proofs.ScriptLemmas.{settling_ends, walk_ends}
use Rattle.world_rounds.specs.Bounds.{IsBookBounded}
use Rattle.world_rounds.specs.World.{book_of}
use Rattle.world_rounds.specs.declared.world.World.{World}
use Rattle.world_rounds.proofs.Limits.{within_bounds}
use Rattle.script_play.specs.Play.{IsMemWorldAt}

-- the limits of a world are those of legal books
pub within : (table : Table) (rows : List Row) (world : World MemDisk) (situation : Situation) → IsMemWorldAt table rows world situation
    → IsBookBounded (book_of world) → IsWithinBounds rows situation.standing.posted
within table rows world situation is bounded = within_bounds view_of table rows world situation is bounded

module _ (table : Table) (rows more : List Row) (situation after : Situation) (old new : World MemDisk) (was : IsMemWorldAt table rows old situation)
    (is : IsMemWorldAt table (rows ++ more) new after) (some : 0 < (book_of old).members) (same : (book_of new).members ≡ (book_of old).members)
    (bounded : IsBookBounded (book_of new)) where
  -- behind a world that has gone on by a part stands a legal book that goes on so within the limits
  continues : (part : Situation → List Row → Situation → Type 0) → part situation more after
      → ContinuesBy part (book_of old).members table rows more situation after
  continues part goes = record {
    some = omega (arith, some);
    few = was.ahead.at.few;
    sound = was.ahead.at.sound;
    legal = subst (λ n. IsLegal n table (rows ++ more)) same is.ahead.at.behind.legal;
    standing = was.ahead.at.standing;
    goes = goes;
    limits = within table (rows ++ more) new after is bounded;
  }

  pub settled : (at : ℤ) (log : List Entry) → IsInWindow table.window at → Settles (book_of old).members table at situation more after
      → IsLog (book_of old).members (votes_in (rows ++ more)) log
      → EndsQuietly (book_of old).members table (rows ++ more) (coordinator (book_of old).members situation) at after log
  settled at log inside goes is_log =
      settling_ends (book_of old).members table at rows more situation after log inside (continues (Settles (book_of old).members table at) goes) is_log

  pub walked_on : (to : ℤ) (log : List Entry) → IsInWindow table.window to → Walks (book_of old).members table to situation more after
      → IsLog (book_of old).members (votes_in (rows ++ more)) log
      → EndsQuietly (book_of old).members table (rows ++ more) (coordinator (book_of old).members situation) to after log
  walked_on to log inside goes is_log =
      walk_ends (book_of old).members table to rows more situation after log inside was.ahead.at.since
      (continues (Walks (book_of old).members table to) goes) is_log
