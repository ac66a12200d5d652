use Rattle.std.proofs.Common.{◌≡◌, ℕ, ◌+◌, List, [], ◌∷◌, ◌++◌, length, take, get_or, arith, pos, sym, subst, ap, ◌∙◌}
use Rattle.std.proofs.lemmas.List.{take_all, take_more}
use Rattle.script_text.specs.declared.command.Command.{Command}
use Rattle.script_text.specs.declared.command.Command.TheVariants.{Round}
use Rattle.world_law.specs.Book.{BookState}
use Rattle.script_play.specs.Play.{IsPlayable}
use Rattle.script_play.specs.Watch.{PlaysWatched}
use Rattle.script_play.proofs.Commands.{HasDone, done_none, done_next}
use Rattle.script_play.proofs.script.play.Goals as goal

-- what a read past the end would give
abbrev default_command : Command
default_command = Round (record { 0 = pos 0 }) 0

pub commands-init : goal.commands-init
commands-init g c =
    subst (λ (l : List ℕ). HasDone g.D.Disk.view c.args.table.now [] l c.args.world c.args.world c.args.watch.now c.args.watch.now) (sym c.in_ok-starts.ensures.items)
    (done_none g.D.Disk.view c.args.table.now c.args.world c.args.watch.now c.requires.world c.requires.ready)

pub play_command-requires-clause-world : goal.play_command-requires-clause-world
play_command-requires-clause-world g c = λ lives borrowed. c.commands.invariant.world

pub play_command-requires-clause-taken : goal.play_command-requires-clause-taken
play_command-requires-clause-taken g c = λ lives borrowed.
    subst (λ n. IsPlayable c.args.table.now.window n (get_or c.args.commands.now c.commands.command-index default_command)) (sym c.commands.invariant.members)
    (c.requires.taken c.commands.command-index default_command c.commands-test.true)

pub play_command-requires-clause-ready : goal.play_command-requires-clause-ready
play_command-requires-clause-ready g c = λ lives borrowed. c.commands.invariant.ready

pub commands-preserved : goal.commands-preserved
commands-preserved g c =
    subst (λ (l : List ℕ). HasDone g.D.Disk.view c.args.table.now (take (c.commands.command-index + 1) c.args.commands.now) l c.args.world c.in_ok-world.world c.args.watch.now c.play_command.new.watch)
    (sym c.in_ok-push.ensures.items)
    (subst (λ script. HasDone g.D.Disk.view c.args.table.now script (c.commands.starts.items ++ (length c.turns.result.now) ∷ []) c.args.world c.in_ok-world.world c.args.watch.now c.play_command.new.watch)
    (sym (take_more c.args.commands.now c.commands.command-index default_command c.commands-test.true))
    (done_next g.D.Disk.view c.args.table.now _ _ c.commands.starts.items (length c.turns.result.now) _ c.args.world c.commands.world c.in_ok-world.world c.args.watch.now c.commands.watch c.play_command.new.watch
    c.commands.invariant (ap length c.turns.ensures ∙ ap (λ (b : BookState). length b.turns) c.book.ensures) (ap length c.as_slice-place.ensures.value) c.in_ok-world.ensures.goes c.in_ok-world.ensures.members c.in_ok-world.ensures.ready c.in_ok-world.ensures.stays))

pub returns-clause-goes : goal.returns-clause-goes
returns-clause-goes g c =
    let whole : take c.commands.command-index c.args.commands.now ≡ c.args.commands.now =
    take_all c.commands.command-index c.args.commands.now (omega (arith, c.commands-test.false)) in
    subst (λ script. PlaysWatched g.D.Disk.view c.args.table.now script c.commands.starts.items c.args.world c.commands.world c.args.watch.now c.commands.watch) whole c.commands.invariant.goes

pub returns-clause-stays : goal.returns-clause-stays
returns-clause-stays g c = c.commands.invariant.stays

pub returns-clause-members : goal.returns-clause-members
returns-clause-members g c = c.commands.invariant.members
