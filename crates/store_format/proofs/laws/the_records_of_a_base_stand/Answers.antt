use Rattle.store_format.proofs.BaseLemmas.{base_stands}
use Rattle.store_format.proofs.FormatLemmas.{base_in_format_2, same_base}
use Rattle.store_format.proofs.laws.the_records_of_a_base_stand.Goals as goal

pub returns-clause-stand : goal.returns-clause-stand
returns-clause-stand c = λ size slot rows kept own sound stand. base_stands size kept own slot rows sound stand

pub returns-clause-format : goal.returns-clause-format
returns-clause-format c = base_in_format_2

pub returns-clause-same : goal.returns-clause-same
returns-clause-same c = same_base
