use Rattle.world_tests.proofs.turn.call_for.Goals as goal

pub call_at-requires-clause-asks : goal.call_at-requires-clause-asks
call_at-requires-clause-asks c = λ now is. c.requires.asks c.in-Some.row now c.in-Some.is is
