use Rattle.std.proofs.Common.{[], refl, ap}
use Rattle.script_semantics.specs.Situation.{is_cut}
use Rattle.run_replay.proofs.SettingLemmas.{cuts_set}
use Rattle.run_replay.proofs.replay.Replay.heal.Goals as goal

pub returns-clause-sets : goal.returns-clause-sets
returns-clause-sets c = cuts_set c.args.self.now _ (λ pairs. []) refl refl refl refl (λ pairs same from to. ap (is_cut from to) c.clear.ensures.items)
