use Rattle.std.proofs.Common.{◌++◌, ◌∷◌}
use Rattle.journal_text.proofs.Twins.{twins_refl}
use Rattle.run_audit.proofs.EndLemmas.{part_ends, walk_ends}
use Rattle.run_audit.proofs.laws.nothing_comes_after_a_whole_part.Goals as goal

pub returns-clause-part : goal.returns-clause-part
returns-clause-part c members table command situation rows row more after whole begun =
    part_ends members table command situation rows row more (rows ++ row ∷ more) after whole begun (twins_refl members situation.standing (rows ++ row ∷ more))

pub returns-clause-walk : goal.returns-clause-walk
returns-clause-walk c members table to situation rows row more after whole begun =
    walk_ends members table to situation rows row more (rows ++ row ∷ more) after whole begun (twins_refl members situation.standing (rows ++ row ∷ more))
