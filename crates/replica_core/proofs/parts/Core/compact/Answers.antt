use Rattle.std.proofs.Common.{◌∙◌}
use Rattle.replica_core.proofs.LeadLemmas.{compacts, own-prefix}
use Rattle.replica_core.proofs.SteadyLemmas.{on_ok_so}
use Rattle.replica_core.proofs.parts.Core.compact.Goals as goal

pub returns-clause-makes : goal.returns-clause-makes
returns-clause-makes c =
    on_ok_so c.rebase.result _ _
    (λ takes. compacts c.args.self.now c.args.draft.now c.rebase.new.self c.prefix.result c.args.self.now.machine.rows c.requires.idle.stands c.requires.idle.change
    (c.prefix.ensures ∙ own-prefix c.args.self.now c.requires.whole) (rw c.in_ok-rows.ensures at takes))
    c.rebase.ensures.takes
