use Rattle.std.proofs.Common.{◌≡◌, length, arith, ◌∙◌}
use Rattle.settling.specs.Settles.{HasBeenIdleFor, LeadsNow}
use Rattle.world_rounds.proofs.DrainLemmas.{same_count}
use Rattle.world_rounds.proofs.LoopLemmas.{drains_then, given_world}
use Rattle.world_rounds.proofs.world.World.drain.Goals as goal
use Rattle.replica_core.proofs.SteadyLemmas.{on_ok_so as on_ok}

pub drain_until_caught_up-requires-clause-member : goal.drain_until_caught_up-requires-clause-member
drain_until_caught_up-requires-clause-member g c =
    let was = given_world g.D.Disk.view c.args.table.now (λ n s. LeadsNow n c.args.table.now c.args.who s) c.args.self.now c.requires.given in
    let now = given_world g.D.Disk.view c.args.table.now (λ n s. HasBeenIdleFor 0 n c.args.table.now c.args.who c.args.at.0 s) c.drain_until_idle.new.self c.in_ok-drain_until_idle.ensures.given in
    let same : length c.drain_until_idle.new.self.members.items ≡ length c.args.self.now.members.items = same_count g.D.Disk.view c.args.table.now c.args.self.now c.drain_until_idle.new.self was now c.in_ok-drain_until_idle.ensures.members in
    omega (arith, same, c.requires.member)

pub returns-clause-goes : goal.returns-clause-goes
returns-clause-goes g c =
    on_ok c.drain_until_caught_up.result _ _
    (drains_then g.D.Disk.view c.args.table.now c.args.who c.args.at.0 c.args.self.now c.drain_until_idle.new.self c.drain_until_caught_up.new.self c.in_ok-drain_until_idle.ensures.goes c.in_ok-drain_until_idle.ensures.members)
    c.drain_until_caught_up.ensures.goes

pub returns-clause-members : goal.returns-clause-members
returns-clause-members g c = on_ok c.drain_until_caught_up.result _ _ (λ members. members ∙ c.in_ok-drain_until_idle.ensures.members) c.drain_until_caught_up.ensures.members
