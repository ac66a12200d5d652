use Rattle.store_format.proofs.RecordLemmas.{IsRecord-same}
use Rattle.store_format.proofs.laws.records_differ_in_their_bytes.Goals as goal

pub returns : goal.returns
returns c = IsRecord-same
