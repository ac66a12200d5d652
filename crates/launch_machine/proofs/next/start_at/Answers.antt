use Rattle.std.proofs.Common.{◌<◌, ℤ, Some, length, get_or, FitsSigned, to_z, of_z, w64, sym, ap, ◌∙◌, subst, arith}
use borrow.Author.Differences.{le-false}
use Rattle.std.specs.Prelude.{IfNone, IfSome}
use Rattle.std.proofs.lemmas.Int.{ints, to_z-of_z}
use Rattle.std.proofs.lemmas.Option.{slice_get-get_or}
use Rattle.paxos_base.specs.declared.rows.JobRow.{JobRow}
use Rattle.due_set.proofs.TableLemmas.{IfNone-map}
use Rattle.paxos_base.specs.Rows.{fresh_row}
use Rattle.launch_machine.specs.Clerk.{MayStart, TakesStart, in_force}
use Rattle.launch_machine.specs.Machine.{IsFirstToStart}
use Rattle.launch_machine.specs.declared.force.InForce.{InForce}
use Rattle.launch_machine.proofs.MachineLemmas.{IfSome-map, same_row}
use Rattle.launch_machine.proofs.NextLemmas.{idle_first, no_start_before, start_none}
use Rattle.launch_machine.proofs.next.start_at.Goals as goal

pub launch_at-requires-clause-first : goal.launch_at-requires-clause-first
launch_at-requires-clause-first c =
    let lt : c.args.job < length c.args.rows.now = omega (arith, c.if-place-rows.false) in
    let first_fits : FitsSigned w64 c.in-Some.first = omega (arith, ints) in
    let beside = idle_first c.args.table.now c.args.rows.now c.args.starts.now c.args.job (get_or c.args.rows.now c.args.job (fresh_row 0)) c.in-Some.first c.requires.starts
    (slice_get-get_or c.args.rows.now c.args.job (fresh_row 0) lt) (c.get.ensures ∙ ap Some c.in-Some.is) in
    simp to_z-of_z (subst (λ (force : InForce). IsFirstToStart c.args.table.now force c.args.job (get_or c.args.rows.now c.args.job (fresh_row 0)) c.in-Some.first) (sym c.in_force-force.ensures.force) beside.is_first)

pub launch_at-requires-clause-job : goal.launch_at-requires-clause-job
launch_at-requires-clause-job c =
    let lt : c.args.job < length c.args.rows.now = omega (arith, c.if-place-rows.false) in
    let first_fits : FitsSigned w64 c.in-Some.first = omega (arith, ints) in
    let row : JobRow = get_or c.args.rows.now c.args.job (fresh_row 0) in
    let beside = idle_first c.args.table.now c.args.rows.now c.args.starts.now c.args.job row c.in-Some.first c.requires.starts
    (slice_get-get_or c.args.rows.now c.args.job (fresh_row 0) lt) (c.get.ensures ∙ ap Some c.in-Some.is) in
    beside.known

pub returns-in-Some-clause-found : goal.returns-in-Some-clause-found
returns-in-Some-clause-found c =
    let lt : c.args.job < length c.args.rows.now = omega (arith, c.if-place-rows.false) in
    let row : JobRow = get_or c.args.rows.now c.args.job (fresh_row 0) in
    let now_fits : FitsSigned w64 c.args.now = c.ranges.now in
    let beside = idle_first c.args.table.now c.args.rows.now c.args.starts.now c.args.job row c.in-Some.first c.requires.starts
    (slice_get-get_or c.args.rows.now c.args.job (fresh_row 0) lt) (c.get.ensures ∙ ap Some c.in-Some.is) in
    let found : IfSome c.launch_at.result (λ at. MayStart c.args.table.now (in_force c.args.table.now c.args.rows.now) c.args.job row at c.args.now) =
    subst (λ (force : InForce). IfSome c.launch_at.result (λ at. MayStart c.args.table.now force c.args.job row at c.args.now)) c.in_force-force.ensures.force (simp to_z-of_z at c.launch_at.ensures.found) in
    IfSome-map (λ at. MayStart c.args.table.now (in_force c.args.table.now c.args.rows.now) c.args.job row at c.args.now) (λ at. TakesStart c.args.table.now c.args.rows.now c.args.job at c.args.now)
    c.launch_at.result found
    (λ at may. record { known = beside.known; row = row; is_row = slice_get-get_or c.args.rows.now c.args.job (fresh_row 0) lt; idle = beside.idle; may = may })

pub returns-in-Some-clause-none : goal.returns-in-Some-clause-none
returns-in-Some-clause-none c =
    let lt : c.args.job < length c.args.rows.now = omega (arith, c.if-place-rows.false) in
    let row : JobRow = get_or c.args.rows.now c.args.job (fresh_row 0) in
    let is_row = slice_get-get_or c.args.rows.now c.args.job (fresh_row 0) lt in
    let now_fits : FitsSigned w64 c.args.now = c.ranges.now in
    let none : IfNone c.launch_at.result ((at : ℤ) → MayStart c.args.table.now (in_force c.args.table.now c.args.rows.now) c.args.job row at c.args.now → ⊥) =
    subst (λ (force : InForce). IfNone c.launch_at.result ((at : ℤ) → MayStart c.args.table.now force c.args.job row at c.args.now → ⊥)) c.in_force-force.ensures.force (simp to_z-of_z at c.launch_at.ensures.none) in
    IfNone-map ((at : ℤ) → MayStart c.args.table.now (in_force c.args.table.now c.args.rows.now) c.args.job row at c.args.now → ⊥)
    ((at : ℤ) → TakesStart c.args.table.now c.args.rows.now c.args.job at c.args.now → ⊥) c.launch_at.result none
    (λ not at takes.
    not at (subst (λ (r : JobRow). MayStart c.args.table.now (in_force c.args.table.now c.args.rows.now) c.args.job r at c.args.now)
    (same_row c.args.rows.now c.args.job takes.row row takes.is_row is_row) takes.may))

pub returns-in_default-clause-none : goal.returns-in_default-clause-none
returns-in_default-clause-none c = λ at takes.
    no_start_before c.args.table.now c.args.rows.now c.args.starts.now c.args.job at c.args.now c.in-Some.first c.requires.starts (c.get.ensures ∙ ap Some c.in-Some.is)
    (λ le.
    let now_fits : FitsSigned w64 c.args.now = c.ranges.now in
    let not = le-false (to_z w64 (of_z w64 c.in-Some.first)) (to_z w64 (of_z w64 c.args.now)) c.if-first-now.false in
    absurd (omega (arith, ints)))
    takes

pub returns-in_default-2-clause-none : goal.returns-in_default-2-clause-none
returns-in_default-2-clause-none c = λ at takes.
    start_none c.args.table.now c.args.rows.now c.args.starts.now c.args.job at c.args.now c.requires.starts (c.get.ensures ∙ ap Some c.in_default.is) takes
