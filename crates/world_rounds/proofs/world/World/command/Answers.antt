use Rattle.std.proofs.Common.{OnOk, ap, arith, of_z, refl, subst, sym, to_z, ◌≡◌}
use Rattle.std.specs.Int.{w64}
use Rattle.std.specs.Prelude.{FitsSigned}
use Rattle.std.proofs.lemmas.Int.{ints, to_z-of_z}
use Rattle.script_semantics.specs.Arms.{armed_by}
use Rattle.script_semantics.specs.Commands.{set_by, tasks_for}
use Rattle.script_semantics.specs.Script.{IsPartOf}
use Rattle.script_text.specs.declared.command.Command.TheVariants as command
use Rattle.world_law.specs.Book.{BookState}
use Rattle.world_rounds.specs.Commands.{IsTaken}
use Rattle.world_rounds.specs.Mails.{Changes}
use Rattle.world_rounds.specs.World.{GoesOnBy}
use Rattle.world_rounds.proofs.RoundsOfAll.{on_any}
use Rattle.world_rounds.proofs.Setting.{sets_alone, sets_go}
use Rattle.world_rounds.proofs.world.World.command.Goals as goal
use Rattle.replica_core.proofs.SteadyLemmas.{on_ok_so as on_ok}

pub returns-in-Round-clause-goes : goal.returns-in-Round-clause-goes
returns-in-Round-clause-goes g c =
    subst (λ command. OnOk c.round.result (GoesOnBy g.D.Disk.view c.args.table.now (IsPartOf c.args.self.now.book.members c.args.table.now command) c.args.self.now c.round.new.self))
    (sym c.in-Round.is) c.round.ensures.goes

pub returns-in-Campaign-clause-goes : goal.returns-in-Campaign-clause-goes
returns-in-Campaign-clause-goes g c =
    subst (λ command. OnOk c.campaign.result (GoesOnBy g.D.Disk.view c.args.table.now (IsPartOf c.args.self.now.book.members c.args.table.now command) c.args.self.now c.campaign.new.self))
    (sym c.in-Campaign.is) c.campaign.ensures.goes

pub returns-in-Stop-clause-goes : goal.returns-in-Stop-clause-goes
returns-in-Stop-clause-goes g c =
    subst (λ command. OnOk c.stop.result (GoesOnBy g.D.Disk.view c.args.table.now (IsPartOf c.args.self.now.book.members c.args.table.now command) c.args.self.now c.stop.new.self))
    (sym c.in-Stop.is) c.stop.ensures.goes

pub returns-in-Restart-clause-goes : goal.returns-in-Restart-clause-goes
returns-in-Restart-clause-goes g c =
    subst (λ command. OnOk c.restart.result (GoesOnBy g.D.Disk.view c.args.table.now (IsPartOf c.args.self.now.book.members c.args.table.now command) c.args.self.now c.restart.new.self))
    (sym c.in-Restart.is) c.restart.ensures.goes

pub returns-in-Arrive-clause-goes : goal.returns-in-Arrive-clause-goes
returns-in-Arrive-clause-goes g c =
    subst (λ command. OnOk c.arrive.result (GoesOnBy g.D.Disk.view c.args.table.now (IsPartOf c.args.self.now.book.members c.args.table.now command) c.args.self.now c.arrive.new.self))
    (sym c.in-Arrive.is) c.arrive.ensures.goes

pub returns-in-Cut-clause-goes : goal.returns-in-Cut-clause-goes
returns-in-Cut-clause-goes g c =
    subst (λ command. OnOk c.cut.result (GoesOnBy g.D.Disk.view c.args.table.now (IsPartOf c.args.self.now.book.members c.args.table.now command) c.args.self.now c.cut.new.self))
    (sym c.in-Cut.is) (on_ok c.cut.result _ _ (sets_go g.D.Disk.view c.args.table.now c.args.self.now.book.members c.args.self.now c.cut.new.self (tasks_for (command.Cut c.in-Cut.from c.in-Cut.to)) (set_by (command.Cut c.in-Cut.from c.in-Cut.to)) (λ rows situation is. refl)) c.cut.ensures.sets)

pub returns-in-Heal-clause-goes : goal.returns-in-Heal-clause-goes
returns-in-Heal-clause-goes g c =
    subst (λ command. GoesOnBy g.D.Disk.view c.args.table.now (IsPartOf c.args.self.now.book.members c.args.table.now command) c.args.self.now c.heal.new.self)
    (sym c.in-Heal.is) (sets_go g.D.Disk.view c.args.table.now c.args.self.now.book.members c.args.self.now c.heal.new.self (tasks_for (command.Heal)) (set_by (command.Heal)) (λ rows situation is. refl) c.heal.ensures.sets)

pub returns-in-Skew-clause-goes : goal.returns-in-Skew-clause-goes
returns-in-Skew-clause-goes g c =
    let taken = subst (λ command. IsTaken c.args.table.now.window c.args.self.now.book.members command) c.in-Skew.is c.requires.taken in
    let fits : FitsSigned w64 c.in-Skew.minutes = omega (arith, ints, taken.1.0, taken.1.1) in
    let same : to_z w64 (of_z w64 c.in-Skew.minutes) ≡ c.in-Skew.minutes = to_z-of_z w64 c.in-Skew.minutes fits in
    subst (λ command. GoesOnBy g.D.Disk.view c.args.table.now (IsPartOf c.args.self.now.book.members c.args.table.now command) c.args.self.now c.skew.new.self)
    (sym c.in-Skew.is) (sets_go g.D.Disk.view c.args.table.now c.args.self.now.book.members c.args.self.now c.skew.new.self (tasks_for (command.Skew c.in-Skew.member c.in-Skew.minutes)) (set_by (command.Skew c.in-Skew.member c.in-Skew.minutes)) (λ rows situation is. refl) (subst (λ minutes. Changes g.D.Disk.view (set_by (command.Skew c.in-Skew.member minutes)) c.args.self.now c.skew.new.self) same c.skew.ensures.sets))

pub returns-in-Fate-clause-goes : goal.returns-in-Fate-clause-goes
returns-in-Fate-clause-goes g c =
    subst (λ command. GoesOnBy g.D.Disk.view c.args.table.now (IsPartOf c.args.self.now.book.members c.args.table.now command) c.args.self.now c.set_fate.new.self)
    (sym c.in-Fate.is) (sets_go g.D.Disk.view c.args.table.now c.args.self.now.book.members c.args.self.now c.set_fate.new.self (tasks_for (command.Fate c.in-Fate.member c.in-Fate.fate)) (set_by (command.Fate c.in-Fate.member c.in-Fate.fate)) (λ rows situation is. refl) c.set_fate.ensures.sets)

pub returns-in-Cut-clause-members : goal.returns-in-Cut-clause-members
returns-in-Cut-clause-members g c = on_any c.cut.result _ (ap (λ (book : BookState). book.members) c.cut.ensures.book)

pub returns-in-Heal-clause-members : goal.returns-in-Heal-clause-members
returns-in-Heal-clause-members g c = ap (λ (book : BookState). book.members) c.heal.ensures.book

pub returns-in-Skew-clause-members : goal.returns-in-Skew-clause-members
returns-in-Skew-clause-members g c = ap (λ (book : BookState). book.members) c.skew.ensures.book

pub returns-in-Fate-clause-members : goal.returns-in-Fate-clause-members
returns-in-Fate-clause-members g c = ap (λ (book : BookState). book.members) c.set_fate.ensures.book

pub returns-in-Drop-clause-goes : goal.returns-in-Drop-clause-goes
returns-in-Drop-clause-goes g c =
    subst (λ command. GoesOnBy g.D.Disk.view c.args.table.now (IsPartOf c.args.self.now.book.members c.args.table.now command) c.args.self.now c.drop_letters.new.self)
    (sym c.in-Drop.is) (sets_go g.D.Disk.view c.args.table.now c.args.self.now.book.members c.args.self.now c.drop_letters.new.self (tasks_for (command.Drop c.in-Drop.from c.in-Drop.to)) (set_by (command.Drop c.in-Drop.from c.in-Drop.to)) (λ rows situation is. refl) c.drop_letters.ensures.sets)

pub returns-in-Drop-clause-members : goal.returns-in-Drop-clause-members
returns-in-Drop-clause-members g c = ap (λ (book : BookState). book.members) c.drop_letters.ensures.book

pub returns-in-Reverse-clause-goes : goal.returns-in-Reverse-clause-goes
returns-in-Reverse-clause-goes g c =
    subst (λ command. GoesOnBy g.D.Disk.view c.args.table.now (IsPartOf c.args.self.now.book.members c.args.table.now command) c.args.self.now c.reverse_letters.new.self)
    (sym c.in-Reverse.is) (sets_go g.D.Disk.view c.args.table.now c.args.self.now.book.members c.args.self.now c.reverse_letters.new.self (tasks_for (command.Reverse c.in-Reverse.member)) (set_by (command.Reverse c.in-Reverse.member)) (λ rows situation is. refl) c.reverse_letters.ensures.sets)

pub returns-in-Reverse-clause-members : goal.returns-in-Reverse-clause-members
returns-in-Reverse-clause-members g c = ap (λ (book : BookState). book.members) c.reverse_letters.ensures.book

pub returns-in-Again-clause-goes : goal.returns-in-Again-clause-goes
returns-in-Again-clause-goes g c =
    subst (λ command. OnOk c.send_again.result (GoesOnBy g.D.Disk.view c.args.table.now (IsPartOf c.args.self.now.book.members c.args.table.now command) c.args.self.now c.send_again.new.self))
    (sym c.in-Again.is) (on_ok c.send_again.result _ _ (sets_go g.D.Disk.view c.args.table.now c.args.self.now.book.members c.args.self.now c.send_again.new.self (tasks_for (command.Again c.in-Again.letter)) (set_by (command.Again c.in-Again.letter)) (λ rows situation is. refl)) c.send_again.ensures.sets)

pub returns-in-Again-clause-members : goal.returns-in-Again-clause-members
returns-in-Again-clause-members g c = on_any c.send_again.result _ (ap (λ (book : BookState). book.members) c.send_again.ensures.book)

pub returns-in-Repeat-clause-goes : goal.returns-in-Repeat-clause-goes
returns-in-Repeat-clause-goes g c =
    subst (λ command. OnOk c.repeat_letters.result (GoesOnBy g.D.Disk.view c.args.table.now (IsPartOf c.args.self.now.book.members c.args.table.now command) c.args.self.now c.repeat_letters.new.self))
    (sym c.in-Repeat.is) (on_ok c.repeat_letters.result _ _ (sets_go g.D.Disk.view c.args.table.now c.args.self.now.book.members c.args.self.now c.repeat_letters.new.self (tasks_for (command.Repeat c.in-Repeat.from c.in-Repeat.to)) (set_by (command.Repeat c.in-Repeat.from c.in-Repeat.to)) (λ rows situation is. refl)) c.repeat_letters.ensures.sets)

pub returns-in-Repeat-clause-members : goal.returns-in-Repeat-clause-members
returns-in-Repeat-clause-members g c = on_any c.repeat_letters.result _ (ap (λ (book : BookState). book.members) c.repeat_letters.ensures.book)

pub returns-in-Settle-clause-goes : goal.returns-in-Settle-clause-goes
returns-in-Settle-clause-goes g c =
    subst (λ command. OnOk c.settle.result (GoesOnBy g.D.Disk.view c.args.table.now (IsPartOf c.args.self.now.book.members c.args.table.now command) c.args.self.now c.settle.new.self))
    (sym c.in-Settle.is) c.settle.ensures.goes

pub returns-in-Walk-clause-goes : goal.returns-in-Walk-clause-goes
returns-in-Walk-clause-goes g c =
    subst (λ command. OnOk c.walk.result (GoesOnBy g.D.Disk.view c.args.table.now (IsPartOf c.args.self.now.book.members c.args.table.now command) c.args.self.now c.walk.new.self))
    (sym c.in-Walk.is) c.walk.ensures.goes

pub returns-in-Break-clause-goes : goal.returns-in-Break-clause-goes
returns-in-Break-clause-goes g c =
    subst (λ command. GoesOnBy g.D.Disk.view c.args.table.now (IsPartOf c.args.self.now.book.members c.args.table.now command) c.args.self.now c.arm.new.self)
    (sym c.in-Break.is)
    (sets_alone g.D.Disk.view c.args.table.now c.args.self.now c.arm.new.self (armed_by c.in-Break.member c.in-Break.pass c.in-Break.image) c.arm.ensures.sets)
