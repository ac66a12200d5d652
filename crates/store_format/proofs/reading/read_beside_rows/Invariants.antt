use Rattle.std.proofs.Common.{take}
use Rattle.store_format.proofs.PassLemmas.{ReadsBehind}
use Rattle.store_format.proofs.reading.read_beside_rows.Given as goal

abbrev pub invariant-loop-body : goal.invariant-loop-body
invariant-loop-body l = ReadsBehind l.size l.slot (take l.body-index l.rest) l.reader.place l.reader.kept l.reader.own
