-- A situation of one replica that is idle is quiet.
use Rattle.std.proofs.Common.{◌≡◌, ℕ, zero, suc, ◌<◌, List, ℤ, refl, arith}
use Rattle.paxos_base.specs.declared.entry.Entry.{Entry}
use Rattle.due_set.specs.Table.{Table}
use Rattle.launch_machine.specs.Clerk.{first_rows}
use Rattle.step_spec.specs.State.{prefix_of}
use Rattle.agreement.specs.Log.{IsLog}
use Rattle.history.specs.Book.{Row, standing_after, votes_in}
use Rattle.history.specs.Legal.{IsLegal}
use Rattle.script_semantics.specs.Settling.{IsQuiet}
use Rattle.script_semantics.specs.Situation.{Situation}
use Rattle.settling.specs.Quiet.{EndsQuietly, HasPromisedMost}
use Rattle.settling.specs.Idle.{IsIdleAt}

caught_up_alone : (situation : Situation) (other : ℕ) → other < 1 → prefix_of (situation.standing.replicas other) ≡ prefix_of (situation.standing.replicas 0)
caught_up_alone situation zero below = refl
caught_up_alone situation (suc more) below = absurd (omega (arith, below))

most_alone : (situation : Situation) → HasPromisedMost 1 0 situation
most_alone situation zero below = omega arith
most_alone situation (suc more) below = absurd (omega (arith, below))

pub rest_is_quiet : (table : Table) (at : ℤ) (situation : Situation) → IsIdleAt table 0 at situation → IsQuiet 1 table 0 at situation
rest_is_quiet table at situation rest = record { free = rest.free; answered = rest.answered; rests = rest.rests; caught_up = caught_up_alone situation }

pub quiet_ends : (table : Table) (at : ℤ) (book : List Row) (situation : Situation) (log : List Entry) → IsQuiet 1 table 0 at situation → IsLegal 1 table book
    → situation.standing ≡ standing_after 1 (first_rows table) book → IsLog 1 (votes_in book) log → EndsQuietly 1 table book 0 at situation log
quiet_ends table at book situation log quiet legal standing is_log =
    record { few = omega arith; legal = legal; standing = standing; member = omega arith; quiet = quiet; most = most_alone situation; is_log = is_log }
