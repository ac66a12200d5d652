use Rattle.std.proofs.Common.{arith, refl}
use Rattle.std.proofs.lemmas.Option.{slice_get-get_or}
use Rattle.run_replay.proofs.SettingLemmas.{all_cleared, cleared_next}
use Rattle.run_replay.proofs.setting.clear_all.Goals as goal

pub settings-preserved : goal.settings-preserved
settings-preserved c =
    cleared_next c.settings.setting-index c.args.settings.now c.settings.setting-items _ _ c.settings.invariant
    (slice_get-get_or c.settings.setting-items c.settings.setting-index c.setting-item.result (omega (arith, c.settings.auto.setting-items, c.settings-test.true)))
    (record { mail = c.clear.ensures.items; skew = refl; fate = refl; waits = refl; arm = refl; area = refl })

pub returns : goal.returns
returns c = all_cleared c.settings.setting-index c.args.settings.now c.settings.setting-items (omega (arith, c.settings-test.false, c.settings.auto.setting-index-end)) c.settings.invariant
