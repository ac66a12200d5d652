-- A legal book that comes to a quiet situation: one of two replicas has been elected over a table without jobs, and has ticked.
use Rattle.std.proofs.Common.{ℕ, zero, suc, ◌<◌, pos, None, List, [], take, ℤ, refl, arith, ◌≡◌}
use Rattle.cluster_sched.specs.declared.fate.Fate.TheVariants as fate
use Rattle.paxos_base.specs.Durable.{after_delta}
use Rattle.paxos_base.specs.Members.{with_member}
use Rattle.paxos_base.specs.Vote.{votes_from}
use Rattle.paxos_base.specs.declared.entry.Entry.{Entry}
use Rattle.due_set.specs.Table.{Table}
use Rattle.launch_machine.specs.Clerk.{first_rows}
use Rattle.step_spec.specs.Act.{after_act}
use Rattle.step_spec.specs.Hear.{hear, hear_all, line, on_prepare, on_promise}
use Rattle.step_spec.specs.Propose.{campaign, tick}
use Rattle.step_spec.specs.State.{prefix_of}
use Rattle.step_spec.specs.Step.{step}
use Rattle.history.specs.Book.{Row, after_row, standing_after}
use Rattle.history.specs.Some.{no_jobs}
use Rattle.history.proofs.Agreement.{book_log, cut_is_legal}
use Rattle.history.proofs.SomeBook.{some_book, some_book_is_legal}
use Rattle.script_semantics.specs.Settling.{IsQuiet}
use Rattle.script_semantics.specs.Situation.{Situation}
use Rattle.settling.specs.Quiet.{EndsQuietly, HasPromisedMost}
use Rattle.history.proofs.TableRows.{rests_without_jobs}

abbrev elected : List Row
elected = take 4 some_book

abbrev after_it : Situation
after_it =
    record {
      standing = standing_after 2 (first_rows no_jobs) elected;
      mails = λ who. [];
      cuts = [];
      skews = λ who. pos 0;
      fates = λ who. fate.Done;
      latest = pos 0;
      arms = λ who. None;
      bases = λ who. 0;
    }

caught_up : (other : ℕ) → other < 2 → prefix_of (after_it.standing.replicas other) ≡ prefix_of (after_it.standing.replicas 0)
unfolding step campaign tick hear hear_all line on_prepare on_promise after_row after_act after_delta with_member votes_from
caught_up zero below = refl
caught_up (suc zero) below = refl
caught_up (suc (suc more)) below = absurd (omega (arith, below))

most : HasPromisedMost 2 0 after_it
unfolding step campaign tick hear hear_all line on_prepare on_promise after_row after_act after_delta with_member votes_from
most zero below = omega arith
most (suc zero) below = omega arith
most (suc (suc more)) below = absurd (omega (arith, below))

quiet : IsQuiet 2 no_jobs 0 (pos 0) after_it
unfolding step campaign tick hear hear_all line on_prepare on_promise after_row after_act after_delta with_member votes_from
quiet = record {
  free = refl;
  answered = refl;
  rests = record { rows = first_rows no_jobs; rows_are = refl; rests = rests_without_jobs no_jobs (first_rows no_jobs) (pos 0) refl refl };
  caught_up = caught_up;
}

pub some_quiet_book : (members : ℕ) × (table : Table) × (book : List Row) × (who : ℕ) × (now : ℤ) × (situation : Situation) × (log : List Entry) × EndsQuietly members table book who now situation log
some_quiet_book =
    let legal = cut_is_legal 2 no_jobs some_book 4 some_book_is_legal in
    let there = book_log 2 no_jobs elected (omega arith) legal in
    (2, no_jobs, elected, 0, pos 0, after_it, there.0, record { few = omega arith; legal = legal; standing = refl; member = omega arith; quiet = quiet; most = most; is_log = there.1 })
