use Rattle.std.proofs.Common.{take}
use Rattle.store_format.proofs.BodyLemmas.{Behind}
use Rattle.store_format.proofs.reading.read_records.Given as goal

abbrev pub invariant-loop-number : goal.invariant-loop-number
invariant-loop-number l =
    Behind l.size (take l.number l.bodies) l.reader.place l.reader.kept l.reader.own
