use Rattle.replica_node.proofs.ReliableLemmas.{reliable_parts, reliable_unfailing}
use Rattle.replica_node.proofs.laws.a_reliable_disk_is_unfailing_and_unarmed.Goals as goal

pub returns : goal.returns
returns c told = (reliable_unfailing told, λ parts. reliable_parts told parts.0 parts.1)
