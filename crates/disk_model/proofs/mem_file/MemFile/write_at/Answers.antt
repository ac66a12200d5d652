use Rattle.disk_model.proofs.FileLemmas.{Agree-write}
use Rattle.disk_model.proofs.mem_file.MemFile.write_at.Goals as goal

pub invariant_of-self-2-clause-agrees : goal.invariant_of-self-2-clause-agrees
invariant_of-self-2-clause-agrees c =
    rw (c.write_over.ensures.items, c.reserve.ensures.items, c.reserve-2.ensures.items, c.in_ok-push.ensures.items)
    (Agree-write c.args.self.now.synced.items c.args.self.now.bytes.items c.args.self.now.touched.items c.args.at c.args.piece.now c.requires c.args.self.now.agrees)
