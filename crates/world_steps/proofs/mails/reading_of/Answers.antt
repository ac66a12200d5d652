use Rattle.std.proofs.Common.{◌≡◌, ℤ, pos, ap, ◌∙◌, arith, to_z, of_z}
use Rattle.std.specs.Prelude.{◌+ℤ◌, ◌-ℤ◌}
use Rattle.std.specs.Int.{w64, int_max, int_min}
use Rattle.std.proofs.lemmas.Int.{clamps, ints, to_z-of_z}
use Rattle.zone_minutes.specs.declared.minute.Minute.{Minute}
use Rattle.world_steps.proofs.mails.reading_of.Goals as goal

minute : ℤ → Minute
minute m = record { 0 = m }

pub returns : goal.returns
unfolding minute
returns c =
    let at : to_z w64 (of_z w64 c.args.at.0) ≡ c.args.at.0 = to_z-of_z w64 c.args.at.0 (omega (arith, ints)) in
    let skew : to_z w64 (of_z w64 c.args.mail.now.skew) ≡ c.args.mail.now.skew = to_z-of_z w64 c.args.mail.now.skew (omega (arith, ints)) in
    let from : to_z w64 (of_z w64 c.args.window.from.0) ≡ c.args.window.from.0 = to_z-of_z w64 c.args.window.from.0 (omega (arith, ints)) in
    let until : to_z w64 (of_z w64 c.args.window.until.0) ≡ c.args.window.until.0 = to_z-of_z w64 c.args.window.until.0 (omega (arith, ints)) in
    let sum : to_z w64 (of_z w64 (to_z w64 (of_z w64 c.args.at.0) +ℤ to_z w64 (of_z w64 c.args.mail.now.skew))) ≡ c.args.at.0 +ℤ c.args.mail.now.skew =
    rw (at, skew) (to_z-of_z w64 (c.args.at.0 +ℤ c.args.mail.now.skew) (omega (arith, ints))) in
    let last : to_z w64 (of_z w64 (to_z w64 (of_z w64 c.args.window.until.0) -ℤ pos 1)) ≡ c.args.window.until.0 -ℤ pos 1 =
    rw until (to_z-of_z w64 (c.args.window.until.0 -ℤ pos 1) (omega (arith, ints))) in
    let low : c.min.result ≡ int_min (c.args.at.0 +ℤ c.args.mail.now.skew) (c.args.window.until.0 -ℤ pos 1) = rw (sum, last) at c.min.ensures.value in
    let held : to_z w64 (of_z w64 c.min.result) ≡ c.min.result = to_z-of_z w64 c.min.result (omega (arith, ints, clamps)) in
    let high : c.max.result ≡ int_max c.min.result c.args.window.from.0 = rw (held, from) at c.max.ensures.value in
    record { reading = ap minute (to_z-of_z w64 c.max.result (omega (arith, ints, clamps)) ∙ omega (arith, ints, clamps)) }
