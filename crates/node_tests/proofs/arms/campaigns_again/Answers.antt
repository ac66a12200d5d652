use Rattle.node_tests.proofs.arms.campaigns_again.Goals as goal

pub play-disk-requires : goal.play-disk-requires
play-disk-requires g c = c.input_of.ensures c.args.table.now
