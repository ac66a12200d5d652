use Rattle.launch_safety.proofs.SettledLemmas.{settled_over, settled_plain, settled_sound}
use Rattle.launch_safety.proofs.logs.a_settled_log_has_each_due_instant.Goals as goal

pub returns-clause-first : goal.returns-clause-first
returns-clause-first c = settled_over

pub returns-clause-adopted : goal.returns-clause-adopted
returns-clause-adopted c = settled_plain

pub returns-clause-sound : goal.returns-clause-sound
returns-clause-sound c = settled_sound
