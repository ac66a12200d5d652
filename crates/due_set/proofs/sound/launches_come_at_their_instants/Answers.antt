use Rattle.due_set.proofs.SoundLemmas.{comes_at_instant, on_time_in_grace}
use Rattle.due_set.proofs.sound.launches_come_at_their_instants.Goals as goal

pub returns-clause-come : goal.returns-clause-come
returns-clause-come c = comes_at_instant

pub returns-clause-on_time : goal.returns-clause-on_time
returns-clause-on_time c = on_time_in_grace
