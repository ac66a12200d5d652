use Rattle.std.proofs.Common.{get_or, ap}
use Rattle.replica_store.specs.Files.{selected_by}
use Rattle.replica_node.proofs.ArmLemmas.{area_by_bases, decides_keeps}
use Rattle.replica_node.proofs.laws.a_change_is_kept_by_the_numbers.Goals as goal

pub returns-clause-kept : goal.returns-clause-kept
returns-clause-kept c bases change arm = let decides = decides_keeps bases change arm in (decides.1, decides.0)

pub returns-clause-first : goal.returns-clause-first
returns-clause-first c image empty = ap (λ bytes. selected_by (get_or bytes 0 0)) empty

pub returns-clause-next : goal.returns-clause-next
returns-clause-next c bases change = area_by_bases bases change
