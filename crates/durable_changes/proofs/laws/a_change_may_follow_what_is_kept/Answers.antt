use Rattle.launch_machine.specs.Clerk.{table_size}
use Rattle.step_spec.specs.Step.{step}
use Rattle.durable_changes.proofs.Changes.{changes_follow}
use Rattle.step_spec.proofs.Said.{setting_of, step_may_be_done}
use Rattle.durable_changes.proofs.laws.a_change_may_follow_what_is_kept.Goals as goal

pub returns : goal.returns
returns c self table event state change few coherent planned is base =
    changes_follow (setting_of self table event) (table_size table) (step self event state) state change coherent (step_may_be_done self table event state few coherent planned) is base
