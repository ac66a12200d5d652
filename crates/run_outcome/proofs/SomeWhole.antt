-- A whole run: run_outcome's book, in which the clock ticks in the script and a job is launched twice.
use Rattle.std.proofs.Common.{◌≡◌, ℕ, ◌<◌, ℤ, ◌<ℤ◌, List, [], length, sym, subst, arith}
use Rattle.due_set.specs.Table.{IsJobDue, IsSound, Table}
use Rattle.launch_machine.specs.Versions.{IsDueUnder}
use Rattle.launch_machine.proofs.ExistLemmas.{AdoptionsOf-same}
use Rattle.launch_safety.proofs.Whole.{no_adoptions}
use Rattle.script_text.specs.declared.command.Command.{Command}
use Rattle.history.specs.Book.{Row}
use Rattle.script_semantics.specs.Script.{Obeys}
use Rattle.run_outcome.specs.Readings.{IsGraceLong, script_turns}
use Rattle.launch_safety.specs.Readings.{AreTurnsBy}
use Rattle.run_outcome.proofs.SomeWalk.{some_walk}
use Rattle.run_outcome.proofs.SomeObeyed.{within_bounds}
use Rattle.run_outcome.specs.Whole.{IsWholeRun}
use Rattle.run_outcome.proofs.WholeLemmas.{script_whole}

-- a whole run over a table of one version goes by that
due_whole : (table : Table) (script : List Command) (rows : List Row) (whole : IsWholeRun 1 table script rows) (job : ℕ) (at : ℤ) → table.later ≡ [] → IsJobDue table 0 job at
    → IsDueUnder table whole.adoptions job at
due_whole table script rows whole job at one due =
    let none = no_adoptions 1 table rows whole.log (omega arith) whole.legal whole.is_log one in
    subst (λ (adoptions : List ℤ). IsDueUnder table adoptions job at) (AdoptionsOf-same table whole.log [] whole.adoptions none whole.adopted) due

pub some_whole : (table : Table) × (script : List Command) × (rows : List Row) × (whole : IsWholeRun 1 table script rows) × (job : ℕ) × (at : ℤ) × (later : ℤ)
    × IsSound table × IsGraceLong table × IsDueUnder table whole.adoptions job at × IsDueUnder table whole.adoptions job later × (at <ℤ later)
    × AreTurnsBy at (script_turns whole.obeyed) × (0 < length (script_turns whole.obeyed))
some_whole =
    let (table, script, rows, obeyed, job, at, later, sound, legal, long, due, due_later, order, by, turns, few, none, one) = some_walk in
    let (whole, same) = script_whole 1 table script rows obeyed (omega arith) (omega arith) sound legal (within_bounds rows obeyed.after.standing.posted few none) in (
      table,
      script,
      rows,
      whole,
      job,
      at,
      later,
      sound,
      long,
      due_whole table script rows whole job at one due,
      due_whole table script rows whole job later one due_later,
      order,
      subst (λ (parts : Obeys 1 table script rows). AreTurnsBy at (script_turns parts)) (sym same) by,
      subst (λ (parts : Obeys 1 table script rows). 0 < length (script_turns parts)) (sym same) turns,
    )
