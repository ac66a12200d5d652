use Rattle.node_tests.proofs.arms.step_armed.Goals as goal

pub handle_armed-requires-clause-inside : goal.handle_armed-requires-clause-inside
handle_armed-requires-clause-inside g c = c.input_of.ensures c.args.table.now
