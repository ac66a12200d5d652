use Rattle.run_replay.proofs.StartLemmas.{settings_next}
use Rattle.run_replay.proofs.start.fresh_settings.Goals as goal

pub members-preserved : goal.members-preserved
members-preserved c = settings_next c.members._member c.members.settings.items c.push.new.self.items c.fresh_setting.result c.members.invariant c.fresh_setting.ensures c.in_ok-push.ensures.items
