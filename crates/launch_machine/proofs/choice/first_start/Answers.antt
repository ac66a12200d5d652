use Rattle.std.proofs.Common.{◌+◌, ◌<◌, ℤ, length, FitsSigned, w64, arith}
use Rattle.std.proofs.lemmas.Int.{ints, to_z-of_z}
use Rattle.min_tree.specs.Least.{HasNoneAtMost, IsFirstAtMost}
use Rattle.launch_machine.specs.Clerk.{TakesStart}
use Rattle.launch_machine.specs.Intent.{IsFirstStart}
use Rattle.launch_machine.proofs.MachineLemmas.{below_next, no_start_from}
use Rattle.launch_machine.proofs.NextLemmas.{no_start_after, no_start_between, place_within}
use Rattle.launch_machine.proofs.choice.first_start.Goals as goal

pub returns-in_err-place-clause-none : goal.returns-in_err-place-clause-none
returns-in_err-place-clause-none c =
    let now_fits : FitsSigned w64 c.args.now.0 = omega (arith, ints) in
    let none : HasNoneAtMost c.args.starts.now c.idle.from c.args.now.0 = simp to_z-of_z at c.in_err-place.ensures.none in
    rw c.from_residual.ensures
    (no_start_after c.args.table.now c.args.rows.now c.args.starts.now c.args.now.0 c.idle.from c.requires.starts c.idle.invariant none)

pub overflow_cast-job : goal.overflow_cast-job
overflow_cast-job c =
    let now_fits : FitsSigned w64 c.args.now.0 = omega (arith, ints) in
    let found : IsFirstAtMost c.args.starts.now c.idle.from c.args.now.0 c.in_ok-place.place = simp to_z-of_z at c.in_ok-place.ensures.found in
    let lt : c.in_ok-place.place < length c.args.table.now.jobs + 1 = place_within c.args.starts.now c.args.rows.now c.args.table.now c.idle.from c.args.now.0 c.in_ok-place.place found c.requires.starts.count c.requires.stands.numbered.count in
    omega (arith, c.jobs-jobs.ensures.count, c.jobs-jobs.ensures.few)

pub returns-in-Some-clause-found : goal.returns-in-Some-clause-found
returns-in-Some-clause-found c =
    let fits : FitsSigned w64 c.in-Some.at = omega (arith, ints) in
    let now_fits : FitsSigned w64 c.args.now.0 = omega (arith, ints) in
    let found : IsFirstAtMost c.args.starts.now c.idle.from c.args.now.0 c.in_ok-place.place = simp to_z-of_z at c.in_ok-place.ensures.found in
    let takes : TakesStart c.args.table.now c.args.rows.now c.in_ok-place.place c.in-Some.at c.args.now.0 = simp to_z-of_z at c.in-Some.ensures.found in
    let first : IsFirstStart c.args.table.now c.args.rows.now c.args.now.0 c.in_ok-place.place c.in-Some.at = record {
      takes = takes;
      first = no_start_between c.args.table.now c.args.rows.now c.args.starts.now c.args.now.0 c.idle.from c.in_ok-place.place c.requires.starts c.idle.invariant found.none_before;
    } in
    simp to_z-of_z first

pub overflow_add-from : goal.overflow_add-from
overflow_add-from c =
    let now_fits : FitsSigned w64 c.args.now.0 = omega (arith, ints) in
    let found : IsFirstAtMost c.args.starts.now c.idle.from c.args.now.0 c.in_ok-place.place = simp to_z-of_z at c.in_ok-place.ensures.found in
    let lt : c.in_ok-place.place < length c.args.table.now.jobs + 1 = place_within c.args.starts.now c.args.rows.now c.args.table.now c.idle.from c.args.now.0 c.in_ok-place.place found c.requires.starts.count c.requires.stands.numbered.count in
    omega (arith, c.jobs-jobs.ensures.count, c.jobs-jobs.ensures.few)

pub idle-preserved : goal.idle-preserved
idle-preserved c =
    let now_fits : FitsSigned w64 c.args.now.0 = omega (arith, ints) in
    let found : IsFirstAtMost c.args.starts.now c.idle.from c.args.now.0 c.in_ok-place.place = simp to_z-of_z at c.in_ok-place.ensures.found in
    let none : (at : ℤ) → TakesStart c.args.table.now c.args.rows.now c.in_ok-place.place at c.args.now.0 → ⊥ = simp to_z-of_z at c.in_default.ensures.none in
    below_next (λ k t. TakesStart c.args.table.now c.args.rows.now k t c.args.now.0) c.in_ok-place.place
    (no_start_between c.args.table.now c.args.rows.now c.args.starts.now c.args.now.0 c.idle.from c.in_ok-place.place c.requires.starts c.idle.invariant found.none_before)
    none

pub returns-clause-none : goal.returns-clause-none
returns-clause-none c =
    no_start_from c.args.table.now c.args.rows.now c.args.now.0 c.idle.from (omega (arith, c.jobs-jobs.ensures.count, c.idle-test.false)) c.idle.invariant
