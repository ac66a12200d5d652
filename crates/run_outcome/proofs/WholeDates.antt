-- What a book holds of the dates on which its jobs may open, where it obeys a script or none.
use Rattle.std.proofs.Common.{◌≡◌, ◌⊎◌, ℕ, ◌≤◌, List, [], ℤ, ◌<ℤ◌, sym, ap, ◌∙◌, inl, inr, subst, arith}
use Rattle.std.proofs.lemmas.Int.{ints}
use Rattle.std.proofs.lemmas.List.Elements.{All-contains_itself, All-nil, All-weaker}
use Rattle.zone_minutes.specs.Window.{IsInWindow}
use Rattle.due_set.specs.Table.{IsJobDue, IsRunByPeriod, Table}
use Rattle.paxos_base.specs.declared.rows.JobRow.{JobRow}
use Rattle.cluster_sched.specs.declared.row.SchedRow.{SchedRow}
use Rattle.launch_machine.specs.Clerk.{MayStart, first_force}
use Rattle.launch_machine.proofs.MachineLemmas.{may_start_on, opens_by_period}
use Rattle.launch_safety.specs.Fits.{Fits}
use Rattle.launch_safety.proofs.FitLemmas.{held_once, held_started}
use Rattle.history.proofs.Agreement.{book_log}
use Rattle.launch_safety.proofs.Whole.{effective_may, whole}
use Rattle.std.specs.List.{Contains}
use Rattle.paxos_base.specs.declared.entry.Kind.TheVariants.{Launch}
use Rattle.script_text.specs.declared.command.Command.{Command}
use Rattle.launch_safety.specs.Launched.{IsCalledAt, IsWanted, LaunchesEachDue, OpensBy}
use Rattle.history.specs.Book.{Row}
use Rattle.history.specs.Legal.{IsLegal}
use Rattle.launch_safety.specs.Fitting.{held_in}
use Rattle.script_semantics.specs.Script.{Obeys}
use Rattle.run_outcome.specs.Readings.{script_turns}
use Rattle.launch_safety.specs.Readings.{AreTurnsBy, IsTurnBy}
use Rattle.run_outcome.proofs.SettledLemmas.{called_held}
use Rattle.run_outcome.proofs.WalkWhole.{each_called, passes}
use Rattle.run_outcome.specs.Whole.{AdoptsNone}
use Rattle.run_outcome.specs.Barred.{IsBarred}
use Rattle.run_outcome.proofs.DateLemmas.{on_date}
use Rattle.run_outcome.proofs.OpenedDates.{none_barred, opened_by, started_row}
use Rattle.run_outcome.proofs.Minutes.{all_drained}

pub each_date : (n : ℕ) (table : Table) (script : List Command) (rows : List Row) (obeyed : Obeys n table script rows) (job : ℕ) (now date : ℤ) → n ≤ 7 → IsLegal n table rows
    → AdoptsNone n table rows → OpensBy table (held_in n table rows) job now date → AreTurnsBy now (script_turns obeyed) → IsCalledAt (held_in n table rows) job date Launch now ⊎ IsBarred n table rows job now date
each_date n table script rows obeyed job now date few legal none by read =
    let before = by.opens.inside.before in
    on_date n table rows job now date few legal none by (passes n table script rows obeyed now by.opens.inside.since (omega (arith, ints, before)) read)

-- no turn is of a script without commands
none_read : (n : ℕ) (table : Table) (rows : List Row) (obeyed : Obeys n table [] rows) (at : ℤ) → AreTurnsBy at (script_turns obeyed)
none_read n table rows obeyed at = subst (AreTurnsBy at) (sym obeyed.obeys.one.none) (All-nil (λ (r : Row). IsTurnBy at r.turn))

pub due_unscripted : (n : ℕ) (table : Table) (rows : List Row) (job : ℕ) (at : ℤ) → n ≤ 7 → IsLegal n table rows → Obeys n table [] rows → AdoptsNone n table rows
    → IsJobDue table 0 job at → IsCalledAt (held_in n table rows) job at Launch at
due_unscripted n table rows job at few legal obeyed none due = each_called n table [] rows obeyed job at few legal none due (none_read n table rows obeyed at)

-- a tick's window has minutes
window_some : (table : Table) (now : ℤ) → IsInWindow table.window now → table.window.from.0 <ℤ table.window.until.0
window_some table now inside =
    let since = inside.since in
    let before = inside.before in
    omega (arith, ints, since, before)

pub date_unscripted : (n : ℕ) (table : Table) (rows : List Row) (job : ℕ) (now date : ℤ) → n ≤ 7 → IsLegal n table rows → Obeys n table [] rows → AdoptsNone n table rows
    → OpensBy table (held_in n table rows) job now date → IsCalledAt (held_in n table rows) job date Launch now
date_unscripted n table rows job now date few legal obeyed none by =
    let known = all_drained n table rows (window_some table now by.opens.inside) obeyed in
    elim (each_date n table [] rows obeyed job now date few legal none by (none_read n table rows obeyed now)) [
      | inl called ↦ called
      | inr barred ↦ absurd (none_barred n table rows few legal none known job now date (opens_by_period table job by.last by.last now date by.opens) by barred)
    ]

-- the job of a row runs by its period, or is due at an instant
pub by_period_or_not : (table : Table) (row : JobRow) (job : ℕ) (at now : ℤ) → MayStart table first_force job row at now → IsJobDue table 0 job at ⊎ IsRunByPeriod table job
by_period_or_not table row job at now (inl next) = inl next.0.due
by_period_or_not table row job at now (inr opens) = inr (opens_by_period table job row.last row.cursor now at opens)

-- what is held is a launch, of a due instant or of a date on which its job might open
pub other_unscripted : (n : ℕ) (table : Table) (rows : List Row) (row : SchedRow) → n ≤ 7 → IsLegal n table rows → Obeys n table [] rows → AdoptsNone n table rows
    → Contains (held_in n table rows) row → IsWanted table (held_in n table rows) row × (row.kind ≡ Launch)
other_unscripted n table rows row few legal obeyed none has =
    let (log, is_log) = book_log n table rows few legal in
    let fits : Fits table log (held_in n table rows) = whole n table rows few legal log is_log in
    let (now, start) = held_started table log (held_in n table rows) row fits has in
    let may = effective_may n table rows few legal log is_log (none log is_log) row.name.job row.name.at now start in
    elim (by_period_or_not table start.takes.2.row row.name.job row.name.at now may) [
      | inl due ↦
          let call = due_unscripted n table rows row.name.job row.name.at few legal obeyed none due in
          let same : call.row ≡ row = held_once table log (held_in n table rows) call.row row fits call.among has call.of_job call.due_at in
          (inl due, sym (ap (λ (r : SchedRow). r.kind) same) ∙ call.of_kind)
      | inr by_period ↦
          let opens = may_start_on table row.name.job start.takes.2.row row.name.at now by_period may in
          let known = all_drained n table rows (window_some table now opens.inside) obeyed in
          let (read, began, launched, same) = started_row n table rows few legal none known log is_log row by_period has in
          let opened = opened_by n table rows few legal none known log is_log row.name.job row.name.at read began by_period in
          (inr (subst (λ instant. OpensBy table (held_in n table rows) row.name.job instant row.name.at) (sym same) opened), launched)
    ]

-- so each due instant is launched, each date on which a job may open, and nothing else
pub all_unscripted : (n : ℕ) (table : Table) (rows : List Row) → n ≤ 7 → IsLegal n table rows → Obeys n table [] rows → AdoptsNone n table rows → LaunchesEachDue table (held_in n table rows)
all_unscripted n table rows few legal obeyed none = record {
  each = λ job at due. called_held (held_in n table rows) job at at Launch (due_unscripted n table rows job at few legal obeyed none due);
  each_date = λ job now date by. date_unscripted n table rows job now date few legal obeyed none by;
  no_other = All-weaker (Contains (held_in n table rows)) (λ (row : SchedRow). IsWanted table (held_in n table rows) row × (row.kind ≡ Launch))
      (λ row has. other_unscripted n table rows row few legal obeyed none has) (held_in n table rows) (All-contains_itself (held_in n table rows));
}
