use Rattle.std.proofs.Common.{rules, ◌∙◌, pos, ◌+ℤ◌, ◌-ℤ◌, ◌≤ℤ◌, ◌<ℤ◌, arith, sym, true≢false, w64, FitsSigned}
use Rattle.std.proofs.lemmas.Int.{ints, to_z-of_z}
use Rattle.due_set.specs.Table.{is_by_period}
use Rattle.cluster_sched.proofs.NameLemmas.{HasDays-computed, near_days, not_near_days, told_date}
use Rattle.cluster_sched.proofs.name.is_time_near.Goals as goal

pub overflow_sub-first : goal.overflow_sub-first
overflow_sub-first c =
    let days = HasDays-computed c.window-window.result c.day_of-first.result c.day_of-last.result c.window-window.ensures.limits c.day_of-first.ensures.day c.day_of-last.ensures.day in
    let fits : FitsSigned w64 c.day_of-first.result = omega (arith, ints, days.first_in) in
    rw (to_z-of_z w64 c.day_of-first.result fits) (omega (arith, ints, days.first_in))

pub overflow_add-result : goal.overflow_add-result
overflow_add-result c =
    let days = HasDays-computed c.window-window.result c.day_of-first.result c.day_of-last.result c.window-window.ensures.limits c.day_of-first.ensures.day c.day_of-last.ensures.day in
    let fits : FitsSigned w64 c.day_of-last.result = omega (arith, ints, days.last_in) in
    rw (to_z-of_z w64 c.day_of-last.result fits) (omega (arith, ints, days.last_in))

pub returns-then-first-name : goal.returns-then-first-name
returns-then-first-name c =
    let days = HasDays-computed c.window-window.result c.day_of-first.result c.day_of-last.result c.window-window.ensures.limits c.day_of-first.ensures.day c.day_of-last.ensures.day in
    let at = c.args.name.at in
    let first = c.day_of-first.result in
    let last = c.day_of-last.result in
    let at_fits : FitsSigned w64 at = search rules in
    let first_fits : FitsSigned w64 first = omega (arith, ints, days.first_in) in
    let since_fits : FitsSigned w64 (first -ℤ pos 2) = omega (arith, ints, days.first_in) in
    let last_fits : FitsSigned w64 last = omega (arith, ints, days.last_in) in
    let until_fits : FitsSigned w64 (last +ℤ pos 2) = omega (arith, ints, days.last_in) in
    let test = simp to_z-of_z at c.if-first-name.true in
    let since : (first -ℤ pos 2) ≤ℤ at = grind (arith, ints) in
    let says = told_date c.args.table.now c.args.name.job c.is_anacron.result at c.is_anacron.ensures.by_name c.if-is_anacron.true in
    let near = near_days c.window-window.result (is_by_period c.args.table.now c.args.name.job) at first last days says since in
    simp to_z-of_z (rw (← c.window-window.ensures.window) (λ until. near.0 (grind (arith, ints)), λ is. let until = near.1 is in grind (arith, ints)))

pub returns-else-first-name : goal.returns-else-first-name
returns-else-first-name c =
    let days = HasDays-computed c.window-window.result c.day_of-first.result c.day_of-last.result c.window-window.ensures.limits c.day_of-first.ensures.day c.day_of-last.ensures.day in
    let at = c.args.name.at in
    let first = c.day_of-first.result in
    let at_fits : FitsSigned w64 at = search rules in
    let first_fits : FitsSigned w64 first = omega (arith, ints, days.first_in) in
    let since_fits : FitsSigned w64 (first -ℤ pos 2) = omega (arith, ints, days.first_in) in
    let test = simp to_z-of_z at c.if-first-name.false in
    let before : at <ℤ (first -ℤ pos 2) = grind (arith, ints) in
    let says = told_date c.args.table.now c.args.name.job c.is_anacron.result at c.is_anacron.ensures.by_name c.if-is_anacron.true in
    let far = not_near_days c.window-window.result (is_by_period c.args.table.now c.args.name.job) at first c.day_of-last.result days says before in
    simp to_z-of_z (rw (← c.window-window.ensures.window) (λ t. absurd (true≢false (sym t ∙ test)), λ is. absurd (far is)))
