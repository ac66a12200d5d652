use Rattle.run_replay.specs.Start.{AreFreshSettings}
use Rattle.run_replay.proofs.start.fresh_settings.Given as goal

abbrev pub invariant-members : goal.invariant-members
invariant-members l = AreFreshSettings l._member l.settings.items
