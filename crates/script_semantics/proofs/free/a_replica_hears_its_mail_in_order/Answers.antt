use Rattle.script_semantics.proofs.NextLemmas.{mail_next}
use Rattle.script_semantics.proofs.free.a_replica_hears_its_mail_in_order.Goals as goal

pub returns : goal.returns
returns c = λ members who taken window at seen more row cause made others did is. mail_next members who taken window at seen more row cause made others did is
