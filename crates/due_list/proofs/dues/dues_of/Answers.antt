use Rattle.std.proofs.Common.{List, ℤ, Some, None, sym, ap, ◌∙◌, subst}
use Rattle.due_set.specs.Table.{instant_of}
use Rattle.due_list.specs.Parts.{numbers_of_instants}
use Rattle.due_list.proofs.DueLemmas.{DuesUpTo, dues_none, dues_push, dues_all, fewer_left, instants_push}
use Rattle.due_list.proofs.dues.dues_of.Goals as goal

pub dues-init : goal.dues-init
dues-init c = subst (λ (l : List ℤ). DuesUpTo c.args.table.now c.args.version c.args.job l None) (sym (ap numbers_of_instants c.new-dues.ensures.items)) (dues_none c.args.table.now c.args.version c.args.job)

pub dues-preserved : goal.dues-preserved
dues-preserved c =
    let instants = numbers_of_instants c.dues.dues.items in
    let due = c.in-Some.due in
    subst (λ (l : List ℤ). DuesUpTo c.args.table.now c.args.version c.args.job l (Some due.0)) (sym (instants_push c.dues.dues.items due) ∙ ap numbers_of_instants (sym c.in_ok-push.ensures.items))
    (dues_push c.args.table.now c.args.version c.args.job instants (instant_of c.dues.last) due.0 c.dues.invariant c.in-Some.ensures.found)

pub dues-smaller : goal.dues-smaller
dues-smaller c = fewer_left c.args.table.now c.args.version c.args.job (instant_of c.dues.last) c.in-Some.due.0 c.in-Some.ensures.found

pub returns : goal.returns
returns c = dues_all c.args.table.now c.args.version c.args.job (numbers_of_instants c.dues.dues.items) (instant_of c.dues.last) c.dues.invariant c.in_default.ensures.none
