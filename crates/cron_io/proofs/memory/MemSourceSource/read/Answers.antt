use Rattle.std.proofs.Common.{arith}
use Rattle.std.proofs.lemmas.Grind.{common_steps}
use Rattle.cron_io.proofs.MemoryLemmas.{take_front}
use Rattle.cron_io.proofs.memory.MemSourceSource.read.Goals as goal

pub returns-clause-bytes : goal.returns-clause-bytes
returns-clause-bytes c =
    take_front c.args.self.now.bytes.items c.copy_front-count.new.into c.args.self.now.at c.copy_front-count.result
    (grind (arith, common_steps)) (grind (arith, common_steps))
