use Rattle.std.proofs.Common.{sym, ◌∙◌, subst}
use Rattle.zone_minutes.specs.Window.{IsInWindow}
use Rattle.zone_minutes.proofs.StampLemmas.{stamp_text-injective}
use Rattle.script_text.proofs.operands.read_instant.Goals as goal

pub returns-else-contains-clause-none : goal.returns-else-contains-clause-none
returns-else-contains-clause-none c = λ at inside is.
    let read = c.in_ok-at.ensures.read in
    let same = stamp_text-injective at c.in_ok-at.at.0 inside.calendar read.0 (sym is ∙ read.1) in
    let yes = c.contains.ensures.1 (subst (IsInWindow c.args.window.now) same inside.inside) in
    cc (yes, c.if-contains.false)
