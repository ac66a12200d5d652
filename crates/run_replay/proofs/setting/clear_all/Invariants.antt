use Rattle.run_replay.proofs.SettingLemmas.{HasClearedTo}
use Rattle.run_replay.proofs.setting.clear_all.Given as goal

abbrev pub invariant-settings : goal.invariant-settings
invariant-settings l = HasClearedTo l.setting-index l.fn.settings l.setting-items
