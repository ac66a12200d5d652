use Rattle.std.proofs.Common.{arith, refl}
use Rattle.std.proofs.lemmas.Option.{slice_get-get_or}
use Rattle.world_rounds.proofs.ClearLemmas.{all_cleared, cleared_next}
use Rattle.world_rounds.proofs.clear.clear_all.Goals as goal

pub members-preserved : goal.members-preserved
members-preserved g c =
    cleared_next c.members.member-index c.args.members.now c.members.member-items _ _ c.members.invariant
    (slice_get-get_or c.members.member-items c.members.member-index c.member-item.result (omega (arith, c.members.auto.member-items, c.members-test.true)))
    (record { node = refl; steps = refl; runs = refl; waits = refl; letters = c.clear.ensures.items; skew = refl; fate = refl; arm = refl })

pub returns : goal.returns
returns g c = all_cleared c.members.member-index c.args.members.now c.members.member-items (omega (arith, c.members-test.false, c.members.auto.member-index-end)) c.members.invariant
