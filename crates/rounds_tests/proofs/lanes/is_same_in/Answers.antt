use Rattle.rounds_tests.proofs.lanes.is_same_in.Goals as goal

pub crowded_world-requires-clause-taken : goal.crowded_world-requires-clause-taken
crowded_world-requires-clause-taken g c = λ lives borrowed. c.requires.taken c.in_ok-table.table.window c.in_ok-table.ensures

pub crowded_world-requires-2-clause-taken : goal.crowded_world-requires-2-clause-taken
crowded_world-requires-2-clause-taken g c = λ lives borrowed. c.requires.taken c.in_ok-table.table.window c.in_ok-table.ensures
