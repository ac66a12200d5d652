use Rattle.std.proofs.Common.{rules, ◌<◌, ◌/◌, ◌^◌, Fits, w64, arith}
use Rattle.std.proofs.Math.Nat.{div-le_self}
use Rattle.due_set.proofs.TimeLemmas.{HasNoneBetween-zero, IsNextValue-lowest}
use Rattle.due_set.proofs.matching.next_value.Goals as goal

pub returns-then-rest-eq0-clause-none : goal.returns-then-rest-eq0-clause-none
returns-then-rest-eq0-clause-none c = HasNoneBetween-zero c.args.field c.args.from c.args.end c.if-rest-eq0.true

pub returns-then-value-end-clause-found : goal.returns-then-value-end-clause-found
returns-then-value-end-clause-found c =
    let bits : Fits w64 c.args.field.bits = search rules in
    let fits : c.args.field.bits / 2 ^ c.args.from < 2 ^ 64 = omega (arith, bits, div-le_self c.args.field.bits (2 ^ c.args.from)) in
    IsNextValue-lowest c.args.field c.args.from (omega (arith, c.if-rest-eq0.false)) fits

pub returns-else-value-end-clause-none : goal.returns-else-value-end-clause-none
returns-else-value-end-clause-none c = λ value since below has.
    let bits : Fits w64 c.args.field.bits = search rules in
    let fits : c.args.field.bits / 2 ^ c.args.from < 2 ^ 64 = omega (arith, bits, div-le_self c.args.field.bits (2 ^ c.args.from)) in
    let next = IsNextValue-lowest c.args.field c.args.from (omega (arith, c.if-rest-eq0.false)) fits in
    next.none_before value since (omega (arith, c.if-value-end.false)) has
