use Rattle.std.proofs.Common.{◌∙◌, ap, nat_lt}
use Rattle.replica_core.proofs.HearLemmas.{next-drafted}
use Rattle.replica_core.proofs.parts.Core.shows_gap.Goals as goal

pub returns-in-Known : goal.returns-in-Known
returns-in-Known c =
    rw c.in-Known.is (ap (λ next. nat_lt next c.in-Known.slot) (c.next_slot.ensures.value ∙ next-drafted c.args.self.now c.args.draft.now c.requires.base))
