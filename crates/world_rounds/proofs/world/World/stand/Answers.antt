use Rattle.std.proofs.Common.{◌≡◌, Some, false, length, refl, sym, ap, subst, ◌∙◌}
use Rattle.std.specs.List.{slice_get}
use Rattle.std.proofs.lemmas.Option.{slice_get_read}
use Rattle.script_semantics.specs.Commands.{set_by, tasks_for}
use Rattle.script_semantics.specs.Situation.{delivered}
use Rattle.script_text.specs.declared.command.Command.TheVariants as command
use Rattle.world_law.specs.Book.{BookState, IsLegalBook}
use Rattle.world_rounds.specs.Mails.{Changes}
use Rattle.world_rounds.proofs.Campaigns.{campaign_goes, committed_members, may_commit_campaign, world_stood}
use Rattle.world_rounds.proofs.RoundsOfAll.{legal_world, may_take_round, on_err}
use Rattle.world_rounds.proofs.Setting.{sets_go}
use Rattle.world_rounds.proofs.Worlds.{some_same}
use Rattle.world_rounds.proofs.world.World.stand.Goals as goal

pub returns-then-not-index-clause-goes : goal.returns-then-not-index-clause-goes
returns-then-not-index-clause-goes g c =
    let one : slice_get c.args.self.now.members.items c.args.who ≡ Some c.index.result.now =
    slice_get_read c.args.self.now.members.items (length c.args.self.now.members.items) c.args.who c.index.result.now refl c.requires.member c.index.ensures in
    sets_go g.D.Disk.view c.args.table.now c.args.self.now.book.members c.args.self.now c.args.self.now (tasks_for (command.Campaign c.args.who)) (set_by (command.Campaign c.args.who))
    (λ rows situation is.
    let stands : situation.standing.runs c.args.who ≡ false = sym (is.ahead.each c.args.who c.index.result.now one).mail.runs ∙ c.if-not-index.true in rw stands refl)
    (λ table rows situation is. is)

pub take_campaign-requires-clause-may : goal.take_campaign-requires-clause-may
take_campaign-requires-clause-may g c =
    let there : slice_get c.args.self.now.members.items c.args.who ≡ Some c.index_mut.result.now =
    slice_get_read c.args.self.now.members.items (length c.args.self.now.members.items) c.args.who c.index_mut.result.now refl c.requires.member c.index_mut.ensures.value in
    may_take_round g.D.Disk.view c.args.table.now c.args.self.now c.args.who c.index_mut.result.now c.requires.world there

pub commit_steps-requires-clause-may : goal.commit_steps-requires-clause-may
commit_steps-requires-clause-may g c =
    let there : slice_get c.args.self.now.members.items c.args.who ≡ Some c.index_mut.result.now =
    slice_get_read c.args.self.now.members.items (length c.args.self.now.members.items) c.args.who c.index_mut.result.now refl c.requires.member c.index_mut.ensures.value in
    may_commit_campaign g.D.Disk.view c.args.table.now c.args.self.now _ c.args.who c.index_mut.result.now c.take_campaign.new.self c.requires.world there c.requires.member refl
    c.in_ok-take_campaign.ensures.takes refl refl refl

pub deliver-requires : goal.deliver-requires
deliver-requires g c =
    let there : slice_get c.args.self.now.members.items c.args.who ≡ Some c.index_mut.result.now =
    slice_get_read c.args.self.now.members.items (length c.args.self.now.members.items) c.args.who c.index_mut.result.now refl c.requires.member c.index_mut.ensures.value in
    record {
      world = (
        c.args.table.now,
        world_stood g.D.Disk.view c.args.table.now c.args.self.now _ c.commit_steps.new.self c.args.who c.index_mut.result.now c.take_campaign.new.self c.requires.world there c.requires.member refl
            c.in_ok-take_campaign.ensures.takes refl refl refl c.in_ok-commit_steps.ensures.did c.in_ok-commit_steps.ensures.puts,
      );
    }

pub returns-in_err-deliver-clause-legal : goal.returns-in_err-deliver-clause-legal
returns-in_err-deliver-clause-legal g c =
    let there : slice_get c.args.self.now.members.items c.args.who ≡ Some c.index_mut.result.now =
    slice_get_read c.args.self.now.members.items (length c.args.self.now.members.items) c.args.who c.index_mut.result.now refl c.requires.member c.index_mut.ensures.value in
    on_err _ (IsLegalBook c.args.table.now c.deliver.new.self.book)
    (subst (λ book. IsLegalBook c.args.table.now book) (sym c.deliver.ensures.book)
    (legal_world g.D.Disk.view c.args.table.now c.commit_steps.new.self
    (world_stood g.D.Disk.view c.args.table.now c.args.self.now _ c.commit_steps.new.self c.args.who c.index_mut.result.now c.take_campaign.new.self c.requires.world there c.requires.member refl
    c.in_ok-take_campaign.ensures.takes refl refl refl c.in_ok-commit_steps.ensures.did c.in_ok-commit_steps.ensures.puts)))

pub returns-clause-goes : goal.returns-clause-goes
returns-clause-goes g c =
    let one : slice_get c.args.self.now.members.items c.args.who ≡ Some c.index.result.now =
    slice_get_read c.args.self.now.members.items (length c.args.self.now.members.items) c.args.who c.index.result.now refl c.requires.member c.index.ensures in
    let there : slice_get c.args.self.now.members.items c.args.who ≡ Some c.index_mut.result.now =
    slice_get_read c.args.self.now.members.items (length c.args.self.now.members.items) c.args.who c.index_mut.result.now refl c.requires.member c.index_mut.ensures.value in
    let same : c.index.result.now ≡ c.index_mut.result.now = some_same (slice_get c.args.self.now.members.items c.args.who) c.index.result.now c.index_mut.result.now one there in
    campaign_goes g.D.Disk.view c.args.table.now c.args.self.now _ c.commit_steps.new.self c.deliver.new.self c.args.who c.index_mut.result.now c.take_campaign.new.self there c.requires.member refl
    c.in_ok-take_campaign.ensures.takes (ap (λ member. member.mail.runs) (sym same) ∙ c.if-not-index.false) refl refl refl c.in_ok-commit_steps.ensures.did
    c.in_ok-commit_steps.ensures.puts
    (subst (λ n. Changes g.D.Disk.view (delivered n) c.commit_steps.new.self c.deliver.new.self) (ap length c.letters.ensures) c.in_ok-deliver.ensures.delivers)

pub returns-clause-members : goal.returns-clause-members
returns-clause-members g c =
    let there : slice_get c.args.self.now.members.items c.args.who ≡ Some c.index_mut.result.now =
    slice_get_read c.args.self.now.members.items (length c.args.self.now.members.items) c.args.who c.index_mut.result.now refl c.requires.member c.index_mut.ensures.value in
    ap (λ (book : BookState). book.members) c.deliver.ensures.book
    ∙ committed_members g.D.Disk.view c.args.table.now _ c.commit_steps.new.self c.args.who c.in_ok-commit_steps.ensures.did
    (may_commit_campaign g.D.Disk.view c.args.table.now c.args.self.now _ c.args.who c.index_mut.result.now c.take_campaign.new.self c.requires.world there c.requires.member refl
    c.in_ok-take_campaign.ensures.takes refl refl refl)
