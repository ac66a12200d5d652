use Rattle.rounds_tests.proofs.Played.{new_is_fresh}
use Rattle.rounds_tests.proofs.worlds.empty_disk.Goals as goal

pub returns : goal.returns
returns c = new_is_fresh c.new.result c.new-fails.result.items c.new.ensures.images c.new.ensures.told c.new-fails.ensures.items
