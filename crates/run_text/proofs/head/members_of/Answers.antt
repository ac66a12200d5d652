use Rattle.std.proofs.Common.{◌≡◌, codes, ◌∙◌, sym, ap, ◌++◌, arith}
use Rattle.run_text.specs.Grammar.{replicas_line}
use Rattle.run_text.proofs.PhraseLemmas.{one_replicas_line}
use Rattle.run_text.proofs.head.members_of.Goals as goal
use Rattle.script_text.proofs.CutLemmas.{strips}

pub returns-then-members-eq0-clause-none : goal.returns-then-members-eq0-clause-none
returns-then-members-eq0-clause-none c = λ members named.
    let line_is : c.args.line.now ≡ replicas_line c.in_ok-members.members =
    strips (codes "replicas ") _ _ c.in_ok-strip_prefix.ensures.cases ∙ ap (λ t. codes "replicas " ++ t) c.in_ok-members.ensures.read.1 in
    let same = one_replicas_line c.in_ok-members.members members c.in_ok-members.ensures.read.0 named.few (sym line_is ∙ named.is) in
    omega (arith, c.if-members-eq0.true, named.some)
