use Rattle.std.proofs.Common.{◌≡◌, length, Some, refl, sym, ap, ◌∙◌, subst}
use Rattle.std.specs.List.{slice_get}
use Rattle.script_semantics.specs.Situation.{delivered}
use Rattle.world_law.specs.Book.{BookState, IsLegalBook}
use Rattle.world_rounds.specs.Mails.{Changes}
use Rattle.world_rounds.specs.Rounds.{AllTakeRounds}
use Rattle.world_rounds.proofs.RoundsOfAll.{all_held, legal_world, may_commit_round, may_take_round, members_committed, on_err, round_goes, with_members, world_committed}
use Rattle.world_rounds.proofs.world.World.round_once.Goals as goal

pub take_rounds-requires-clause-may : goal.take_rounds-requires-clause-may
take_rounds-requires-clause-may g c =
    λ who member found.
    may_take_round g.D.Disk.view c.args.table.now c.args.self.now who member c.requires.world
    (subst (λ items. slice_get items who ≡ Some member) c.deref_mut.ensures.value found)

pub commit_all-requires : goal.commit_all-requires
commit_all-requires g c =
    let all =
    all_held g.D.Disk.view c.args.table.now c.args.self.now c.take_rounds.new.members c.args.at.0
    (subst (λ items. AllTakeRounds g.D.Disk.view c.args.table.now c.args.self.now.book c.args.at.0 items c.take_rounds.new.members) c.deref_mut.ensures.value
    c.in_ok-take_rounds.ensures.takes) in
    record {
      may = may_commit_round g.D.Disk.view c.args.table.now c.args.self.now (with_members g.D.Disk.view c.args.table.now c.args.self.now c.take_rounds.new.members) c.args.at.0 c.requires.world all refl refl refl;
    }

pub deliver-requires : goal.deliver-requires
deliver-requires g c =
    let all =
    all_held g.D.Disk.view c.args.table.now c.args.self.now c.take_rounds.new.members c.args.at.0
    (subst (λ items. AllTakeRounds g.D.Disk.view c.args.table.now c.args.self.now.book c.args.at.0 items c.take_rounds.new.members) c.deref_mut.ensures.value
    c.in_ok-take_rounds.ensures.takes) in
    let may = may_commit_round g.D.Disk.view c.args.table.now c.args.self.now (with_members g.D.Disk.view c.args.table.now c.args.self.now c.take_rounds.new.members) c.args.at.0 c.requires.world all refl refl refl in
    record { world = (c.args.table.now, world_committed g.D.Disk.view c.args.table.now (with_members g.D.Disk.view c.args.table.now c.args.self.now c.take_rounds.new.members) c.commit_all.new.self c.in_ok-commit_all.ensures.commits may) }

pub returns-in_err-deliver-clause-legal : goal.returns-in_err-deliver-clause-legal
returns-in_err-deliver-clause-legal g c =
    let all =
    all_held g.D.Disk.view c.args.table.now c.args.self.now c.take_rounds.new.members c.args.at.0
    (subst (λ items. AllTakeRounds g.D.Disk.view c.args.table.now c.args.self.now.book c.args.at.0 items c.take_rounds.new.members) c.deref_mut.ensures.value
    c.in_ok-take_rounds.ensures.takes) in
    let may = may_commit_round g.D.Disk.view c.args.table.now c.args.self.now (with_members g.D.Disk.view c.args.table.now c.args.self.now c.take_rounds.new.members) c.args.at.0 c.requires.world all refl refl refl in
    on_err _ (IsLegalBook c.args.table.now c.deliver.new.self.book)
    (subst (λ book. IsLegalBook c.args.table.now book) (sym c.deliver.ensures.book)
    (legal_world g.D.Disk.view c.args.table.now c.commit_all.new.self
    (world_committed g.D.Disk.view c.args.table.now (with_members g.D.Disk.view c.args.table.now c.args.self.now c.take_rounds.new.members) c.commit_all.new.self c.in_ok-commit_all.ensures.commits may)))

pub returns-clause-goes : goal.returns-clause-goes
returns-clause-goes g c =
    let all =
    all_held g.D.Disk.view c.args.table.now c.args.self.now c.take_rounds.new.members c.args.at.0
    (subst (λ items. AllTakeRounds g.D.Disk.view c.args.table.now c.args.self.now.book c.args.at.0 items c.take_rounds.new.members) c.deref_mut.ensures.value
    c.in_ok-take_rounds.ensures.takes) in
    round_goes g.D.Disk.view c.args.table.now c.args.self.now (with_members g.D.Disk.view c.args.table.now c.args.self.now c.take_rounds.new.members) c.commit_all.new.self c.deliver.new.self c.args.at.0 all refl refl refl
    c.in_ok-commit_all.ensures.commits
    (subst (λ n. Changes g.D.Disk.view (delivered n) c.commit_all.new.self c.deliver.new.self) (ap length c.letters.ensures) c.in_ok-deliver.ensures.delivers)

pub returns-clause-members : goal.returns-clause-members
returns-clause-members g c =
    let all =
    all_held g.D.Disk.view c.args.table.now c.args.self.now c.take_rounds.new.members c.args.at.0
    (subst (λ items. AllTakeRounds g.D.Disk.view c.args.table.now c.args.self.now.book c.args.at.0 items c.take_rounds.new.members) c.deref_mut.ensures.value
    c.in_ok-take_rounds.ensures.takes) in
    let may = may_commit_round g.D.Disk.view c.args.table.now c.args.self.now (with_members g.D.Disk.view c.args.table.now c.args.self.now c.take_rounds.new.members) c.args.at.0 c.requires.world all refl refl refl in
    ap (λ (book : BookState). book.members) c.deliver.ensures.book
    ∙ members_committed g.D.Disk.view c.args.table.now (with_members g.D.Disk.view c.args.table.now c.args.self.now c.take_rounds.new.members) c.commit_all.new.self c.in_ok-commit_all.ensures.commits may
