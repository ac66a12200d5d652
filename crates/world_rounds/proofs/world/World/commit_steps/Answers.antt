use Rattle.std.proofs.Common.{◌≡◌, Some, length, refl, ap, ◌∙◌}
use Rattle.std.specs.List.{slice_get}
use Rattle.std.proofs.lemmas.Option.{slice_get_read}
use Rattle.world_rounds.proofs.StepsAt.{commits_own, may_commit_own}
use Rattle.world_rounds.proofs.world.World.commit_steps.Goals as goal

pub commit_list-requires : goal.commit_list-requires
commit_list-requires g c =
    let there : slice_get c.args.self.now.members.items c.args.who ≡ Some c.index_mut.result.now =
    slice_get_read c.args.self.now.members.items (length c.args.self.now.members.items) c.args.who c.index_mut.result.now refl c.requires.member c.index_mut.ensures.value in
    record {
      may =
          may_commit_own g.D.Disk.view c.args.table.now c.args.who c.replace-steps.result.items c.args.self.now _ c.index_mut.result.now _ there c.requires.member
          refl refl refl refl refl refl (ap (λ steps. steps.items) c.replace-steps.ensures.value) c.requires.may;
    }

pub returns-clause-did : goal.returns-clause-did
returns-clause-did g c =
    let there : slice_get c.args.self.now.members.items c.args.who ≡ Some c.index_mut.result.now =
    slice_get_read c.args.self.now.members.items (length c.args.self.now.members.items) c.args.who c.index_mut.result.now refl c.requires.member c.index_mut.ensures.value in
    (commits_own g.D.Disk.view c.args.table.now c.args.who c.replace-steps.result.items c.args.self.now _ c.commit_list.new.self c.index_mut.result.now _ there
    c.requires.member refl refl refl (ap (λ steps. steps.items) c.replace-steps.ensures.after ∙ c.new.ensures.items) refl refl refl (ap (λ steps. steps.items) c.replace-steps.ensures.value)
    c.in_ok-commit_list.ensures.did c.in_ok-commit_list.ensures.steps).0

pub returns-clause-puts : goal.returns-clause-puts
returns-clause-puts g c =
    let there : slice_get c.args.self.now.members.items c.args.who ≡ Some c.index_mut.result.now =
    slice_get_read c.args.self.now.members.items (length c.args.self.now.members.items) c.args.who c.index_mut.result.now refl c.requires.member c.index_mut.ensures.value in
    (commits_own g.D.Disk.view c.args.table.now c.args.who c.replace-steps.result.items c.args.self.now _ c.commit_list.new.self c.index_mut.result.now _ there
    c.requires.member refl refl refl (ap (λ steps. steps.items) c.replace-steps.ensures.after ∙ c.new.ensures.items) refl refl refl (ap (λ steps. steps.items) c.replace-steps.ensures.value)
    c.in_ok-commit_list.ensures.did c.in_ok-commit_list.ensures.steps).1
