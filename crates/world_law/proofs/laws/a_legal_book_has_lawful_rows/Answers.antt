use Rattle.world_law.proofs.Lawful.{has_lawful}
use Rattle.world_law.proofs.laws.a_legal_book_has_lawful_rows.Goals as goal

pub returns : goal.returns
returns c = has_lawful
