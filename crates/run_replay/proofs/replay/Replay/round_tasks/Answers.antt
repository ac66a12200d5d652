use Rattle.std.proofs.Common.{ap, arith, subst}
use Rattle.script_semantics.specs.Round.{round_tasks, tasks_of}
use Rattle.run_replay.proofs.TaskLemmas.{asked_all, asked_next}
use Rattle.run_replay.specs.Tasks.{AreAsked, tasks_in}
use Rattle.run_replay.proofs.replay.Replay.round_tasks.Goals as goal

pub members-init : goal.members-init
members-init c = λ table rows situation is. ap tasks_in c.new-tasks.ensures.items

pub members-preserved : goal.members-preserved
members-preserved c =
    asked_next (tasks_of c.window-window.result c.args.at.0) c.args.self.now c.members.who c.members.tasks.items c.add_round.new.tasks.items c.members.invariant c.in_ok-add_round.ensures

pub returns : goal.returns
returns c =
    subst (λ window. AreAsked (round_tasks c.args.self.now.book.members window c.args.at.0) c.args.self.now c.members.tasks.items) c.window-window.ensures.window
    (asked_all (tasks_of c.window-window.result c.args.at.0) c.args.self.now c.members.who c.members.tasks.items (let count = c.args.self.now.seats.ok.0 in omega (arith, count, c.members-test.false, c.members.auto.who-end, c.len-who-end.ensures)) c.members.invariant)
