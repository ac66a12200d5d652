use Rattle.std.proofs.Common.{◌≡◌, ◌∷◌, [], ◌<◌, length, arith, ◌∙◌}
use Rattle.history.specs.declared.turn.Cause.TheVariants.{Campaign}
use Rattle.script_semantics.specs.Commands.{Plain}
use Rattle.script_semantics.specs.Parts.{Plays}
use Rattle.script_semantics.specs.Settling.{cleared, restart_tasks}
use Rattle.script_semantics.specs.Situation.{Do}
use Rattle.world_rounds.proofs.DrainLemmas.{leads_before, same_count, settled, world_gone}
use Rattle.settling.specs.Settles.{LeadsNow}
use Rattle.world_rounds.proofs.LoopLemmas.{drains_then, given_world, lead_given}
use Rattle.world_rounds.proofs.RoundsOfAll.{legal_world, on_err}
use Rattle.world_rounds.proofs.world.World.settle_led.Goals as goal

pub coordinator-who-requires-clause-world : goal.coordinator-who-requires-clause-world
coordinator-who-requires-clause-world g c =
    let n = c.args.self.now.book.members in
    world_gone g.D.Disk.view c.args.table.now (Plain n (restart_tasks n) cleared) c.args.self.now c.start_over.new.self c.requires.world c.in_ok-start_over.ensures.goes

pub lead-requires-clause-world : goal.lead-requires-clause-world
lead-requires-clause-world g c =
    let n = c.args.self.now.book.members in
    world_gone g.D.Disk.view c.args.table.now (Plain n (restart_tasks n) cleared) c.args.self.now c.start_over.new.self c.requires.world c.in_ok-start_over.ensures.goes

pub returns-in_err-check_bounds-clause-legal : goal.returns-in_err-check_bounds-clause-legal
returns-in_err-check_bounds-clause-legal g c =
    let n = c.args.self.now.book.members in
    let over = world_gone g.D.Disk.view c.args.table.now (Plain n (restart_tasks n) cleared) c.args.self.now c.start_over.new.self c.requires.world c.in_ok-start_over.ensures.goes in
    let led = world_gone g.D.Disk.view c.args.table.now (Plays c.start_over.new.self.book.members (λ here. Do c.coordinator-who.result Campaign ∷ [])) c.start_over.new.self c.lead.new.self over c.in_ok-lead.ensures.goes in
    on_err c.from_residual-in_err-check_bounds.result _ (legal_world g.D.Disk.view c.args.table.now c.lead.new.self led)

pub drain_until_led-requires-clause-given : goal.drain_until_led-requires-clause-given
drain_until_led-requires-clause-given g c =
    lead_given g.D.Disk.view c.args.table.now c.coordinator-who.result c.args.at.0 c.args.self.now c.start_over.new.self c.lead.new.self c.requires.inside c.requires.some c.requires.world c.in_ok-start_over.ensures.goes
    c.in_ok-start_over.ensures.run c.in_ok-start_over.ensures.members c.coordinator-who.ensures.is c.in_ok-lead.ensures.goes c.in_ok-lead.ensures.members
    c.in_ok-check_bounds.ensures

pub drain_until_led-requires-clause-member : goal.drain_until_led-requires-clause-member
drain_until_led-requires-clause-member g c =
    let n = c.args.self.now.book.members in
    let over = world_gone g.D.Disk.view c.args.table.now (Plain n (restart_tasks n) cleared) c.args.self.now c.start_over.new.self c.requires.world c.in_ok-start_over.ensures.goes in
    let led = world_gone g.D.Disk.view c.args.table.now (Plays c.start_over.new.self.book.members (λ here. Do c.coordinator-who.result Campaign ∷ [])) c.start_over.new.self c.lead.new.self over c.in_ok-lead.ensures.goes in
    let same : length c.lead.new.self.members.items ≡ length c.start_over.new.self.members.items = same_count g.D.Disk.view c.args.table.now c.start_over.new.self c.lead.new.self over led c.in_ok-lead.ensures.members in
    let member : c.coordinator-who.result < length c.start_over.new.self.members.items = c.coordinator-who.ensures.member in
    omega (arith, same, member)

pub drain-requires-clause-member : goal.drain-requires-clause-member
drain-requires-clause-member g c =
    let n = c.args.self.now.book.members in
    let over = world_gone g.D.Disk.view c.args.table.now (Plain n (restart_tasks n) cleared) c.args.self.now c.start_over.new.self c.requires.world c.in_ok-start_over.ensures.goes in
    let mid = given_world g.D.Disk.view c.args.table.now (λ n s. LeadsNow n c.args.table.now c.coordinator-who.result s) c.drain_until_led.new.self c.in_ok-drain_until_led.ensures.given in
    let same : length c.drain_until_led.new.self.members.items ≡ length c.start_over.new.self.members.items =
    same_count g.D.Disk.view c.args.table.now c.start_over.new.self c.drain_until_led.new.self over mid (c.in_ok-drain_until_led.ensures.members ∙ c.in_ok-lead.ensures.members) in
    let member : c.coordinator-who.result < length c.start_over.new.self.members.items = c.coordinator-who.ensures.member in
    omega (arith, same, member)

pub returns-clause-goes : goal.returns-clause-goes
returns-clause-goes g c =
    settled g.D.Disk.view c.args.table.now c.args.at.0 c.coordinator-who.result c.args.self.now c.start_over.new.self c.lead.new.self c.drain.new.self c.in_ok-start_over.ensures.goes c.in_ok-start_over.ensures.members
    c.coordinator-who.ensures.is c.in_ok-lead.ensures.goes c.in_ok-lead.ensures.members
    (drains_then g.D.Disk.view c.args.table.now c.coordinator-who.result c.args.at.0 c.lead.new.self c.drain_until_led.new.self c.drain.new.self c.in_ok-drain_until_led.ensures.goes c.in_ok-drain_until_led.ensures.members
    c.in_ok-drain.ensures.goes)

pub returns-clause-leads : goal.returns-clause-leads
returns-clause-leads g c =
    leads_before g.D.Disk.view c.args.table.now c.coordinator-who.result c.args.self.now c.start_over.new.self c.in_ok-start_over.ensures.goes c.in_ok-start_over.ensures.members c.coordinator-who.ensures.is

pub returns-clause-member : goal.returns-clause-member
returns-clause-member g c =
    let n = c.args.self.now.book.members in
    let over = world_gone g.D.Disk.view c.args.table.now (Plain n (restart_tasks n) cleared) c.args.self.now c.start_over.new.self c.requires.world c.in_ok-start_over.ensures.goes in
    let last = given_world g.D.Disk.view c.args.table.now (λ n s. LeadsNow n c.args.table.now c.coordinator-who.result s) c.drain.new.self c.in_ok-drain.ensures.given in
    let same : length c.drain.new.self.members.items ≡ length c.start_over.new.self.members.items =
    same_count g.D.Disk.view c.args.table.now c.start_over.new.self c.drain.new.self over last (c.in_ok-drain.ensures.members ∙ c.in_ok-drain_until_led.ensures.members ∙ c.in_ok-lead.ensures.members) in
    let member : c.coordinator-who.result < length c.start_over.new.self.members.items = c.coordinator-who.ensures.member in
    omega (arith, same, member)

pub returns-clause-members : goal.returns-clause-members
returns-clause-members g c = c.in_ok-drain.ensures.members ∙ c.in_ok-drain_until_led.ensures.members ∙ c.in_ok-lead.ensures.members ∙ c.in_ok-start_over.ensures.members
