use Rattle.run_audit.proofs.DiskLemmas.{other_when_even, other_when_odd}
use Rattle.run_audit.proofs.arms.is_other_area.Goals as goal

pub returns-then-second_area : goal.returns-then-second_area
returns-then-second_area c = λ bases same. other_when_odd bases c.args.byte c.args.second_area c.if-second_area.true same

pub returns-else-second_area : goal.returns-else-second_area
returns-else-second_area c = λ bases same. other_when_even bases c.args.byte c.args.second_area c.if-second_area.false same
