use Rattle.std.proofs.Common.{◌≡◌, Some, length, refl, sym, ap, subst}
use Rattle.std.specs.List.{slice_get}
use Rattle.std.proofs.lemmas.Option.{slice_get_read}
use Rattle.script_semantics.specs.Situation.{delivered}
use Rattle.world_law.specs.Book.{IsLegalBook}
use Rattle.world_rounds.specs.Mails.{Changes}
use Rattle.world_rounds.proofs.Next.{campaign_stopped, campaign_world}
use Rattle.world_rounds.proofs.InOrder.{campaign_passed, runs_here}
use Rattle.world_rounds.proofs.RoundsOfAll.{legal_world, on_err}
use Rattle.world_rounds.proofs.world.World.campaign.Goals as goal

pub returns-then-not-index-clause-goes : goal.returns-then-not-index-clause-goes
returns-then-not-index-clause-goes g c =
    let there : slice_get c.args.self.now.members.items c.args.who ≡ Some c.index.result.now =
    slice_get_read c.args.self.now.members.items (length c.args.self.now.members.items) c.args.who c.index.result.now refl c.requires.member c.index.ensures in
    campaign_stopped g.D.Disk.view c.args.table.now c.args.who c.args.self.now c.index.result.now there c.if-not-index.true

pub step_next-requires-clause-may : goal.step_next-requires-clause-may
step_next-requires-clause-may g c =
    let there : slice_get c.args.self.now.members.items c.args.who ≡ Some c.index.result.now =
    slice_get_read c.args.self.now.members.items (length c.args.self.now.members.items) c.args.who c.index.result.now refl c.requires.member c.index.ensures in
    let world = c.requires.world in
    (world.rows, world.situation, world.is, (record { runs = runs_here g.D.Disk.view c.args.table.now world.rows c.args.self.now world.situation c.args.who c.index.result.now world.is there c.if-not-index.false; next = tt }))

pub deliver-requires : goal.deliver-requires
deliver-requires g c =
    let there : slice_get c.args.self.now.members.items c.args.who ≡ Some c.index.result.now =
    slice_get_read c.args.self.now.members.items (length c.args.self.now.members.items) c.args.who c.index.result.now refl c.requires.member c.index.ensures in
    record { world = (c.args.table.now, campaign_world g.D.Disk.view c.args.table.now c.args.who c.args.self.now c.step_next.new.self c.index.result.now there c.if-not-index.false c.requires.world _ c.in_ok-step_next.ensures.steps) }

pub returns-in_err-deliver-clause-legal : goal.returns-in_err-deliver-clause-legal
returns-in_err-deliver-clause-legal g c =
    let there : slice_get c.args.self.now.members.items c.args.who ≡ Some c.index.result.now =
    slice_get_read c.args.self.now.members.items (length c.args.self.now.members.items) c.args.who c.index.result.now refl c.requires.member c.index.ensures in
    on_err _ (IsLegalBook c.args.table.now c.deliver.new.self.book)
    (subst (λ book. IsLegalBook c.args.table.now book) (sym c.deliver.ensures.book)
    (legal_world g.D.Disk.view c.args.table.now c.step_next.new.self
    (campaign_world g.D.Disk.view c.args.table.now c.args.who c.args.self.now c.step_next.new.self c.index.result.now there c.if-not-index.false c.requires.world _ c.in_ok-step_next.ensures.steps)))

pub returns-clause-goes : goal.returns-clause-goes
returns-clause-goes g c =
    let there : slice_get c.args.self.now.members.items c.args.who ≡ Some c.index.result.now =
    slice_get_read c.args.self.now.members.items (length c.args.self.now.members.items) c.args.who c.index.result.now refl c.requires.member c.index.ensures in
    campaign_passed g.D.Disk.view c.args.table.now c.args.who c.in_ok-step_next.field-0 c.args.self.now c.step_next.new.self c.deliver.new.self c.index.result.now there c.if-not-index.false c.in_ok-step_next.ensures.steps
    (subst (λ n. Changes g.D.Disk.view (delivered n) c.step_next.new.self c.deliver.new.self) (ap length c.letters.ensures) c.in_ok-deliver.ensures.delivers)
