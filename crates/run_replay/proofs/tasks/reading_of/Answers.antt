use Rattle.std.proofs.Common.{◌≡◌, ℤ, pos, ap, ◌∙◌, arith, to_z, of_z}
use Rattle.std.specs.Prelude.{◌+ℤ◌, ◌-ℤ◌}
use Rattle.std.specs.Int.{w64, int_max, int_min, saturate_signed}
use Rattle.std.proofs.lemmas.Int.{ints, to_z-of_z}
use Rattle.zone_minutes.specs.declared.minute.Minute.{Minute}
use Rattle.run_replay.proofs.TaskLemmas.{clock_held}
use Rattle.run_replay.proofs.tasks.reading_of.Goals as goal

minute : ℤ → Minute
minute m = record { 0 = m }

pub returns : goal.returns
unfolding minute
returns c =
    let at : to_z w64 (of_z w64 c.args.at.0) ≡ c.args.at.0 = to_z-of_z w64 c.args.at.0 (omega (arith, ints)) in
    let skew : to_z w64 (of_z w64 c.args.skew) ≡ c.args.skew = to_z-of_z w64 c.args.skew (omega (arith, ints)) in
    let from : to_z w64 (of_z w64 c.args.window.from.0) ≡ c.args.window.from.0 = to_z-of_z w64 c.args.window.from.0 (omega (arith, ints)) in
    let until : to_z w64 (of_z w64 c.args.window.until.0) ≡ c.args.window.until.0 = to_z-of_z w64 c.args.window.until.0 (omega (arith, ints)) in
    let last : to_z w64 (of_z w64 (to_z w64 (of_z w64 c.args.window.until.0) -ℤ pos 1)) ≡ c.args.window.until.0 -ℤ pos 1 =
    rw until (to_z-of_z w64 (c.args.window.until.0 -ℤ pos 1) (omega (arith, ints))) in
    let sum : c.saturating_add.result ≡ saturate_signed w64 (c.args.at.0 +ℤ c.args.skew) = rw (at, skew) at c.saturating_add.ensures in
    let added : to_z w64 (of_z w64 c.saturating_add.result) ≡ c.saturating_add.result = to_z-of_z w64 c.saturating_add.result (omega (arith, ints)) in
    let least : c.min.result ≡ int_min c.saturating_add.result (c.args.window.until.0 -ℤ pos 1) = rw (added, last) at c.min.ensures.value in
    let held : to_z w64 (of_z w64 c.min.result) ≡ c.min.result = to_z-of_z w64 c.min.result (omega (arith, ints)) in
    let most : c.max.result ≡ int_max c.min.result c.args.window.from.0 = rw (held, from) at c.max.ensures.value in
    let low = c.requires.limits.since in
    ap minute
    (to_z-of_z w64 c.max.result (omega (arith, ints)) ∙ most ∙ ap (λ m. int_max m c.args.window.from.0) (least ∙ ap (λ s. int_min s (c.args.window.until.0 -ℤ pos 1)) sum)
    ∙ clock_held c.args.window.from.0 c.args.window.until.0 (c.args.at.0 +ℤ c.args.skew) (omega (arith, ints, low)) c.requires.limits.ordered c.requires.limits.until)
