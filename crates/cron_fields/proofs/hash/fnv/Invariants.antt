use Rattle.std.proofs.Common.{◌≡◌, drop}
use Rattle.cron_fields.specs.Hash.{fnv_of}
use Rattle.cron_fields.proofs.hash.fnv.Given as goal

-- the hash so far, continued over the rest, is that of all the bytes
abbrev pub invariant-loop-byte : goal.invariant-loop-byte
invariant-loop-byte l = fnv_of l.hash (drop l.byte-index l.bytes) ≡ fnv_of l.fn.hash l.bytes
