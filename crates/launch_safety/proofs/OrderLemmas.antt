-- In any log a job's starts come in order, so that what is named once and backed fits.
use Rattle.std.proofs.Common.{ℕ, List}
use Rattle.std.specs.List.{All}
use Rattle.std.specs.Prelude.{ℤ}
use Rattle.paxos_base.specs.declared.entry.Entry.{Entry}
use Rattle.paxos_base.specs.declared.entry.Kind.{Kind}
use Rattle.paxos_base.specs.declared.rows.JobRow.{JobRow}
use Rattle.due_set.specs.Table.{Table, IsSound}
use Rattle.cluster_sched.specs.Held.{AreNamedOnce}
use Rattle.cluster_sched.specs.declared.row.SchedRow.{SchedRow}
use Rattle.launch_machine.specs.Clerk.{IsClerkOf, first_rows}
use Rattle.launch_machine.proofs.ExistLemmas.{adoptions_exist, clerk_exists, starts_exist}
use Rattle.launch_machine.proofs.StartLemmas.{starts_rise}
use Rattle.launch_machine.proofs.UnderLemmas.{starts_under}
use Rattle.launch_safety.specs.Fits.{Fits, HasEnd, IsBacked, IsHeld, StartsInOrder}
use Rattle.launch_safety.proofs.PeriodLemmas.{started_apart}

pub in_order : (table : Table) (log : List Entry) (rows : List JobRow) (job : ℕ) → IsClerkOf table log rows → StartsInOrder table log job
in_order table log rows job clerk =
    let found = starts_exist table (first_rows table) log rows job clerk in
    let adopted = adoptions_exist table (first_rows table) log rows clerk in
    record {
      instants = found.0;
      adoptions = adopted.0;
      starts = found.1;
      adopted = adopted.1;
      rising = starts_rise table log job found.0 found.1;
      first = λ plain. starts_under table log job found.0 adopted.0 plain found.1 adopted.1;
    }

pub fits_whole : (table : Table) (log : List Entry) (held : List SchedRow) → IsSound table → AreNamedOnce held → All (IsBacked table log) held
    → ((job : ℕ) (at : ℤ) (kind : Kind) → HasEnd table log job at kind → IsHeld held job at kind) → Fits table log held
fits_whole table log held sound once backed ended =
    let clerk = clerk_exists table sound log in
    record {
      once = once;
      backed = backed;
      ended = ended;
      in_order = λ job. in_order table log clerk.0 job clerk.1;
      apart = started_apart table log held once backed ended;
    }
