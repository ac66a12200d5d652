use Rattle.std.proofs.Common.{◌≡◌, Ok, Err, sym, subst, arith}
use Rattle.std.proofs.lemmas.Grind.{common_steps}
use Rattle.cron_io.specs.Number.{MayBeginNumber}
use Rattle.cron_io.proofs.NumberLemmas.{may_begin_decimal, parsed_is_decimal, decimal_is_parsed}
use Rattle.cron_io.proofs.number.read_number.Goals as goal

pub returns-then-not-may_begin_number-clause-none : goal.returns-then-not-may_begin_number-clause-none
returns-then-not-may_begin_number-clause-none c n small is =
    let fits = c.ranges.most.fits in
    let begins : MayBeginNumber c.args.text.now = subst MayBeginNumber (sym is) (may_begin_decimal n (omega arith)) in
    grind (arith, common_steps)

pub returns-in-Ok-clause-read : goal.returns-in-Ok-clause-read
returns-in-Ok-clause-read c =
    let begins : MayBeginNumber c.args.text.now = grind (arith, common_steps) in
    (omega arith, parsed_is_decimal c.args.text.now c.in-Ok.number begins c.in-Ok.ensures.value.0)

pub returns-in_default-clause-none : goal.returns-in_default-clause-none
returns-in_default-clause-none c n small is =
    let fits = c.ranges.most.fits in
    let same = decimal_is_parsed c.args.text.now n (Ok c.in-Ok.number) (omega arith) is c.in-Ok.ensures.value.0 in
    let number_is : c.in-Ok.number ≡ n = cc in
    omega arith

pub returns-in_default-2-clause-none : goal.returns-in_default-2-clause-none
returns-in_default-2-clause-none c n small is =
    let fits = c.ranges.most.fits in
    let same = decimal_is_parsed c.args.text.now n (Err 0) (omega arith) is c.in_default.ensures.value.0 in
    cc
