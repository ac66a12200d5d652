use Rattle.std.proofs.Common.{sym, ◌∙◌, arith}
use Rattle.std.proofs.lemmas.Fmt.{decimal_injective}
use Rattle.script_text.proofs.operands.read_member.Goals as goal

pub returns-else-member-members-clause-none : goal.returns-else-member-members-clause-none
returns-else-member-members-clause-none c = λ member small is.
    let fits = c.ranges.members.fits in
    let read = c.in_ok-member.ensures.read in
    let same = decimal_injective member c.in_ok-member.field-0 (omega arith) (omega (arith, read.0)) (sym is ∙ read.1) in
    omega (arith, same, small, c.if-member-members.false)
