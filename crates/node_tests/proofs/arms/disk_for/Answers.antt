use Rattle.node_tests.proofs.arms.disk_for.Goals as goal

pub play-disk-requires : goal.play-disk-requires
play-disk-requires g c = c.input_of.ensures c.args.table.now
