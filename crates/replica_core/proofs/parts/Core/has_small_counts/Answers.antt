use Rattle.std.proofs.Common.{◌^◌, arith}
use Rattle.std.proofs.lemmas.Bool.{lt-ltb, ltb-true}
use Rattle.replica_core.specs.Counts.{highest_count}
use Rattle.replica_core.proofs.CountLemmas.{all_below, highest_below}
use Rattle.replica_core.proofs.parts.Core.has_small_counts.Goals as goal

pub returns : goal.returns
returns c =
    let rows = c.args.self.now.machine.rows in
    rw c.requires (
      λ yes. all_below (2 ^ 31) rows (ltb-true (highest_count rows) (2 ^ 31) yes),
      λ counts. lt-ltb (highest_count rows) (2 ^ 31) (highest_below (2 ^ 31) rows (omega arith) counts),
    )
