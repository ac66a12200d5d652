use Rattle.std.proofs.Common.{◌+◌, ◌<◌, length, FitsSigned, w64, arith}
use Rattle.std.proofs.lemmas.Int.{ints, to_z-of_z}
use Rattle.min_tree.specs.Least.{HasNoneAtMost, IsFirstAtMost}
use Rattle.launch_machine.specs.Intent.{IsFirstCall, MayCall}
use Rattle.launch_machine.proofs.MachineLemmas.{below_next, no_call_from}
use Rattle.launch_machine.proofs.NextLemmas.{no_call_after, no_call_between, place_within}
use Rattle.launch_machine.proofs.choice.first_call.Goals as goal

pub returns-in_err-place-clause-none : goal.returns-in_err-place-clause-none
returns-in_err-place-clause-none c =
    let now_fits : FitsSigned w64 c.args.now.0 = omega (arith, ints) in
    let none : HasNoneAtMost c.args.calls.now c.open.from c.args.now.0 = simp to_z-of_z at c.in_err-place.ensures.none in
    rw c.from_residual.ensures
    (no_call_after c.args.table.now c.args.rows.now c.args.calls.now c.args.now.0 c.open.from c.requires.calls c.requires.inside c.open.invariant none)

pub overflow_cast-job : goal.overflow_cast-job
overflow_cast-job c =
    let now_fits : FitsSigned w64 c.args.now.0 = omega (arith, ints) in
    let found : IsFirstAtMost c.args.calls.now c.open.from c.args.now.0 c.in_ok-place.place = simp to_z-of_z at c.in_ok-place.ensures.found in
    let lt : c.in_ok-place.place < length c.args.table.now.jobs + 1 = place_within c.args.calls.now c.args.rows.now c.args.table.now c.open.from c.args.now.0 c.in_ok-place.place found c.requires.calls.count c.requires.stands.numbered.count in
    omega (arith, c.jobs-jobs.ensures.count, c.jobs-jobs.ensures.few)

pub call_at-requires-clause-job : goal.call_at-requires-clause-job
call_at-requires-clause-job c = omega (arith, c.jobs-jobs.ensures.count, c.if-place-jobs.false)

pub returns-then-place-jobs-clause-none : goal.returns-then-place-jobs-clause-none
returns-then-place-jobs-clause-none c = λ job at may.
    let now_fits : FitsSigned w64 c.args.now.0 = omega (arith, ints) in
    let found : IsFirstAtMost c.args.calls.now c.open.from c.args.now.0 c.in_ok-place.place = simp to_z-of_z at c.in_ok-place.ensures.found in
    no_call_between c.args.table.now c.args.rows.now c.args.calls.now c.args.now.0 c.open.from c.in_ok-place.place c.requires.calls c.requires.inside c.open.invariant found.none_before
    job at (omega (arith, may.known, c.jobs-jobs.ensures.count, c.if-place-jobs.true)) may

pub returns-in-Some-clause-found : goal.returns-in-Some-clause-found
returns-in-Some-clause-found c =
    let fits : FitsSigned w64 c.in-Some.at = omega (arith, ints) in
    let now_fits : FitsSigned w64 c.args.now.0 = omega (arith, ints) in
    let found : IsFirstAtMost c.args.calls.now c.open.from c.args.now.0 c.in_ok-place.place = simp to_z-of_z at c.in_ok-place.ensures.found in
    let first : IsFirstCall c.args.table.now c.args.rows.now c.args.now.0 c.in_ok-place.place c.in-Some.at = record {
      may = c.in-Some.ensures.found;
      first = no_call_between c.args.table.now c.args.rows.now c.args.calls.now c.args.now.0 c.open.from c.in_ok-place.place c.requires.calls c.requires.inside c.open.invariant found.none_before;
    } in
    simp to_z-of_z first

pub overflow_add-from : goal.overflow_add-from
overflow_add-from c =
    let now_fits : FitsSigned w64 c.args.now.0 = omega (arith, ints) in
    let found : IsFirstAtMost c.args.calls.now c.open.from c.args.now.0 c.in_ok-place.place = simp to_z-of_z at c.in_ok-place.ensures.found in
    let lt : c.in_ok-place.place < length c.args.table.now.jobs + 1 = place_within c.args.calls.now c.args.rows.now c.args.table.now c.open.from c.args.now.0 c.in_ok-place.place found c.requires.calls.count c.requires.stands.numbered.count in
    omega (arith, c.jobs-jobs.ensures.count, c.jobs-jobs.ensures.few)

pub open-preserved : goal.open-preserved
open-preserved c =
    let now_fits : FitsSigned w64 c.args.now.0 = omega (arith, ints) in
    let found : IsFirstAtMost c.args.calls.now c.open.from c.args.now.0 c.in_ok-place.place = simp to_z-of_z at c.in_ok-place.ensures.found in
    below_next (λ k t. MayCall c.args.table.now c.args.rows.now k t c.args.now.0) c.in_ok-place.place
    (no_call_between c.args.table.now c.args.rows.now c.args.calls.now c.args.now.0 c.open.from c.in_ok-place.place c.requires.calls c.requires.inside c.open.invariant found.none_before)
    c.in_default.ensures.none

pub returns-clause-none : goal.returns-clause-none
returns-clause-none c =
    no_call_from c.args.table.now c.args.rows.now c.args.now.0 c.open.from (omega (arith, c.jobs-jobs.ensures.count, c.open-test.false)) c.open.invariant
