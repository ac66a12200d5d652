use Rattle.std.proofs.Common.{arith}
use Rattle.std.proofs.KnownBytes.{Consumes-trans}
use Rattle.cron_io.proofs.source.read_all.Goals as goal

pub returns-in_err-extend_from_slice-clause-read_on :
    goal.returns-in_err-extend_from_slice-clause-read_on
returns-in_err-extend_from_slice-clause-read_on g c = record {
  taken = (_, Consumes-trans _ _ _ _ _ c.chunks.invariant.taken c.in_ok-count.ensures.bytes.0);
  later = omega (arith, c.chunks.invariant.later, c.in_ok-count.ensures.cause.later);
}
