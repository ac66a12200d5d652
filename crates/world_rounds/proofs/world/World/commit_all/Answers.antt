use Rattle.std.proofs.Common.{arith}
use Rattle.world_rounds.proofs.RoundsOfAll.{committed_one_more, commits_all, may_commit_on}
use Rattle.world_rounds.proofs.world.World.commit_all.Goals as goal

pub commit_steps-requires-clause-may : goal.commit_steps-requires-clause-may
commit_steps-requires-clause-may g c =
    may_commit_on g.D.Disk.view c.args.table.now c.whos.who c.args.self.now c.whos.self c.whos.invariant c.requires.may

pub whos-preserved : goal.whos-preserved
whos-preserved g c =
    committed_one_more g.D.Disk.view c.args.table.now c.whos.who c.args.self.now c.whos.self c.commit_steps.new.self c.whos.invariant
    c.in_ok-commit_steps.ensures.did c.in_ok-commit_steps.ensures.puts

pub returns-clause-commits : goal.returns-clause-commits
returns-clause-commits g c =
    commits_all g.D.Disk.view c.args.table.now c.whos.who c.args.self.now c.whos.self
    (omega (arith, c.args.self.now.members.ok.0, c.len-members.ensures, c.whos-test.false, c.whos.auto.who-end)) c.whos.invariant
