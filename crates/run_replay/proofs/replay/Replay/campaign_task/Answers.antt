use Rattle.std.proofs.Common.{true}
use Rattle.history.specs.declared.turn.Cause.TheVariants.{Campaign}
use Rattle.run_replay.proofs.TaskLemmas.{ok_so, one_listed}
use Rattle.run_replay.specs.declared.tasks.Task.TheVariants as listed
use Rattle.run_replay.proofs.replay.Replay.campaign_task.Goals as goal

pub returns : goal.returns
returns c = ok_so c.one_if.result _ _ c.one_if.ensures (λ tasks is. λ table rows situation here. one_listed true (listed.Do c.args.who Campaign) tasks.items is)
