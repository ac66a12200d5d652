use Rattle.std.proofs.Common.{FitsSigned, string_bytes, string_len, w64}
use Rattle.std.proofs.lemmas.Int.{to_z-of_z}
use Rattle.due_list.proofs.LineLemmas.{local_is}
use Rattle.due_list.proofs.due.put_local.Goals as goal

pub returns : goal.returns
returns c =
    let stamped = c.write_stamp.new.into in
    let fits : FitsSigned w64 c.args.minute = c.ranges.minute in
    let stamp = simp to_z-of_z at c.in_ok-write_stamp.ensures.ok in
    local_is (string_bytes c.args.into.now) (string_bytes stamped) (string_bytes c.pop.new.self) (string_len stamped) c.args.minute stamp stamped.bytes.ok.0 c.pop.ensures.ascii_bytes
