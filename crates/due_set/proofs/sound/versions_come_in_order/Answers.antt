use Rattle.due_set.proofs.SoundLemmas.{comes_in_order}
use Rattle.due_set.proofs.sound.versions_come_in_order.Goals as goal

pub returns : goal.returns
returns c = comes_in_order
