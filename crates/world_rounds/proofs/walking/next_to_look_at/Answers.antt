use Rattle.std.proofs.Common.{◌+◌, refl, arith}
use Rattle.world_rounds.proofs.WalkLemmas.{none_asked}
use Rattle.world_rounds.proofs.walking.next_to_look_at.Goals as goal

pub returns-clause-none : goal.returns-clause-none
returns-clause-none c =
    none_asked c.args.table.now c.args.replica.now (c.args.minute + 1) c.start_number-start.result c.version_number-version.result c.min.result c.requires.of_table (c.if-is_any_open.ensures refl)
    (c.start_number-start.ensures.none c.args.table.now c.requires.of_table.stands) c.version_number-version.ensures.none (omega (arith, c.min.ensures)) (omega (arith, c.min.ensures))
