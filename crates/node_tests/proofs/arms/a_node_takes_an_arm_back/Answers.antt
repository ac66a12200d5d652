use Rattle.node_tests.proofs.arms.a_node_takes_an_arm_back.Goals as goal

pub end_with-end-requires-clause-inside : goal.end_with-end-requires-clause-inside
end_with-end-requires-clause-inside g c = c.input_of.ensures c.in_ok-table.table
