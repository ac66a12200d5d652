use Rattle.std.proofs.Common.{refl, subst}
use Rattle.run_replay.proofs.SettingLemmas.{cleared_held, replay_cleared}
use Rattle.run_replay.specs.Settings.{AreReset}
use Rattle.run_replay.proofs.replay.Replay.clear.Goals as goal

pub returns-clause-sets : goal.returns-clause-sets
returns-clause-sets c =
    let all : AreReset c.args.self.now.settings.items c.clear_all.new.settings = subst (λ items. AreReset items c.clear_all.new.settings) c.deref_mut.ensures.value c.clear_all.ensures in
    replay_cleared c.args.self.now _ refl refl refl c.clear.ensures.items (cleared_held c.args.self.now c.clear_all.new.settings all)
