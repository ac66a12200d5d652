use Rattle.std.proofs.Common.{length, subst, sym, ◌∙◌}
use Rattle.std.proofs.lemmas.List.{length_push}
use Rattle.std.proofs.lemmas.Iterator.Adapters.{YieldsList-from_vec}
use Rattle.std.proofs.lemmas.Iterator.Consumers.{YieldsList-turn, YieldsList-end}
use Rattle.world_rounds.proofs.StepsAt.{HasCommitted, committed_all, committed_next, committed_none, may_commit_next}
use Rattle.world_rounds.proofs.world.World.commit_list.Goals as goal

pub steps-init : goal.steps-init
steps-init g c = committed_none g.D.Disk.view c.args.table.now c.args.who c.args.steps.items c.args.self.now

pub commit_taken-requires : goal.commit_taken-requires
commit_taken-requires g c =
    let gives = c.into_iter-taken-iterator.ensures.into_iter_gives in
    let road = YieldsList-from_vec {s = c.into_iter-taken-iterator.result} c.args.steps.items gives.0 (gives.1 ∙ c.args.steps.ok.0) in
    let t = YieldsList-turn road c.steps.yielded c.steps.taken-iterator c.steps.yielded_by c.next.result c.next.new.self c.in-Some.taken c.in-Some.is c.next.ensures.steps in
    record {
      may = (
        _,
        may_commit_next g.D.Disk.view c.args.table.now c.args.who c.args.steps.items (length c.steps.yielded) c.in-Some.taken c.args.self.now c.steps.self
            t.0 t.1 c.requires.may c.steps.invariant,
      );
    }

pub steps-preserved : goal.steps-preserved
steps-preserved g c =
    let gives = c.into_iter-taken-iterator.ensures.into_iter_gives in
    let road = YieldsList-from_vec {s = c.into_iter-taken-iterator.result} c.args.steps.items gives.0 (gives.1 ∙ c.args.steps.ok.0) in
    let t = YieldsList-turn road c.steps.yielded c.steps.taken-iterator c.steps.yielded_by c.next.result c.next.new.self c.in-Some.taken c.in-Some.is c.next.ensures.steps in
    subst (λ n. HasCommitted g.D.Disk.view c.args.table.now c.args.who c.args.steps.items n c.args.self.now c.commit_taken.new.self)
    (sym (length_push c.steps.yielded c.in-Some.taken))
    (committed_next g.D.Disk.view c.args.table.now c.args.who c.args.steps.items (length c.steps.yielded) c.in-Some.taken c.args.self.now c.steps.self
    c.commit_taken.new.self t.0 t.1 c.steps.invariant (c.in_ok-commit_taken.ensures.did _) c.in_ok-commit_taken.ensures.steps)

pub returns-clause-did : goal.returns-clause-did
returns-clause-did g c =
    let gives = c.into_iter-taken-iterator.ensures.into_iter_gives in
    let road = YieldsList-from_vec {s = c.into_iter-taken-iterator.result} c.args.steps.items gives.0 (gives.1 ∙ c.args.steps.ok.0) in
    let t = YieldsList-end road c.steps.yielded c.steps.taken-iterator c.steps.yielded_by c.next.result c.next.new.self c.in-None.is c.next.ensures.steps in
    committed_all g.D.Disk.view c.args.table.now c.args.who c.args.steps.items (length c.steps.yielded) c.args.self.now c.steps.self t.1 c.steps.invariant

pub returns-clause-steps : goal.returns-clause-steps
returns-clause-steps g c = c.steps.invariant.keeps
