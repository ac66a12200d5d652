use Rattle.std.proofs.Common.{◌≡◌, ◌↔◌, IsTrue, Some, length, refl, subst}
use Rattle.std.specs.List.{slice_get}
use Rattle.std.proofs.lemmas.Option.{slice_get_read}
use Rattle.settling.specs.Idle.{IsIdleAt}
use Rattle.world_rounds.specs.Quiet.{AnswersFor}
use Rattle.world_rounds.proofs.QuietLemmas.{HaveCaughtUp, tells_quiet}
use Rattle.world_rounds.proofs.world.World.is_quiet.Goals as goal

pub returns-then-is_idle : goal.returns-then-is_idle
returns-then-is_idle g c =
    let there : slice_get c.args.self.now.members.items c.args.who ≡ Some c.index.result.now =
    slice_get_read c.args.self.now.members.items (length c.args.self.now.members.items) c.args.who c.index.result.now refl c.requires.member c.index.ensures in
    tells_quiet g.D.Disk.view c.args.table.now c.args.self.now c.args.who c.args.at.0 c.index.result.now c.are_caught_up.result c.requires.world c.requires.run there
    (subst (λ answer. AnswersFor g.D.Disk.view c.args.table.now (IsIdleAt c.args.table.now c.args.who c.args.at.0) c.args.self.now answer) c.if-is_idle.true c.is_idle.ensures)
    (subst (λ prefix. IsTrue c.are_caught_up.result ↔ HaveCaughtUp g.D.Disk.view c.args.table.now c.args.self.now.members.items prefix) c.prefix-prefix.ensures
    (subst (λ items. IsTrue c.are_caught_up.result ↔ HaveCaughtUp g.D.Disk.view c.args.table.now items c.prefix-prefix.result) c.deref.ensures.value c.are_caught_up.ensures))
