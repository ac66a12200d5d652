use Rattle.std.proofs.Common.{List, sym, ap, ◌∙◌, subst}
use Rattle.script_text.specs.declared.command.Command.{Command}
use Rattle.world_law.specs.Book.{BookState}
use Rattle.rounds_tests.specs.Plays.{AreTaken}
use Rattle.rounds_tests.proofs.Played.{taken_back, taken_front}
use Rattle.rounds_tests.proofs.parts.is_book_from_parts.Goals as goal

pub world_after-requires-clause-taken : goal.world_after-requires-clause-taken
world_after-requires-clause-taken g c = λ lives borrowed.
    subst (λ (l : List Command). AreTaken c.args.table.now.window 3 l) (sym c.in-Some.ensures.cases.1) (taken_front c.args.table.now.window 3 c.args.commands.now c.args.place c.requires.taken)

pub play_on-requires-clause-taken : goal.play_on-requires-clause-taken
play_on-requires-clause-taken g c = λ lives borrowed.
    let back = subst (λ (l : List Command). AreTaken c.args.table.now.window 3 l) (sym c.in-Some.ensures.cases.2)
    (taken_back c.args.table.now.window 3 c.args.commands.now c.args.place c.requires.taken) in
    subst (λ members. AreTaken c.args.table.now.window members c.in-Some.then.now) (sym (ap (λ (b : BookState). b.members) c.put_together.ensures.book ∙ c.in_ok-world.ensures.members))
    back
