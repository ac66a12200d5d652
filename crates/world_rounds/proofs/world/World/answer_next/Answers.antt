use Rattle.std.proofs.Common.{◌≡◌, Some, IsSome, not, length, refl, sym, ap, ◌∙◌, subst}
use Rattle.std.specs.List.{slice_get}
use Rattle.std.proofs.lemmas.Option.{slice_get_read}
use Rattle.world_rounds.proofs.Next.{none_waits, one_waits}
use Rattle.world_rounds.proofs.InOrder.{led_answer, led_unanswered, runs_here}
use Rattle.world_rounds.proofs.world.World.answer_next.Goals as goal
use Rattle.replica_core.proofs.LeadLemmas.{if_ok as if_ok_to}

pub returns-then-is_none-clause-led : goal.returns-then-is_none-clause-led
returns-then-is_none-clause-led g c =
    λ rows situation is.
    let there : slice_get c.args.self.now.members.items c.args.who ≡ Some c.index.result.now =
    slice_get_read c.args.self.now.members.items (length c.args.self.now.members.items) c.args.who c.index.result.now refl c.requires.member c.index.ensures in
    let runs = runs_here g.D.Disk.view c.args.table.now rows c.args.self.now situation c.args.who c.index.result.now is there (c.requires.runs c.index.result.now there) in
    led_unanswered g.D.Disk.view c.args.table.now c.args.self.now.book.members rows c.args.self.now situation c.args.who is runs
    (sym (is.ahead.each c.args.who c.index.result.now there).mail.waits ∙ none_waits c.index.result.now.mail.waits (c.is_none.ensures ∙ ap not c.if-is_none.true))

pub step_next-requires-clause-may : goal.step_next-requires-clause-may
step_next-requires-clause-may g c =
    let there : slice_get c.args.self.now.members.items c.args.who ≡ Some c.index.result.now =
    slice_get_read c.args.self.now.members.items (length c.args.self.now.members.items) c.args.who c.index.result.now refl c.requires.member c.index.ensures in
    let world = c.requires.world in
    let runs = runs_here g.D.Disk.view c.args.table.now world.rows c.args.self.now world.situation c.args.who c.index.result.now world.is there (c.requires.runs c.index.result.now there) in (
      world.rows,
      world.situation,
      world.is,
      (record {
        runs = runs;
        next = subst (λ waits. IsSome waits) (world.is.ahead.each c.args.who c.index.result.now there).mail.waits (c.is_none.ensures ∙ ap not c.if-is_none.false);
      }),
    )

pub returns-clause-led : goal.returns-clause-led
returns-clause-led g c =
    let there : slice_get c.args.self.now.members.items c.args.who ≡ Some c.index.result.now =
    slice_get_read c.args.self.now.members.items (length c.args.self.now.members.items) c.args.who c.index.result.now refl c.requires.member c.index.ensures in
    let some = one_waits c.index.result.now.mail.waits (c.is_none.ensures ∙ ap not c.if-is_none.false) in
    if_ok_to c.step_next.result _ _ (λ goes steps rows situation is.
    let runs = runs_here g.D.Disk.view c.args.table.now rows c.args.self.now situation c.args.who c.index.result.now is there (c.requires.runs c.index.result.now there) in
    let waits = (is.ahead.each c.args.who c.index.result.now there).mail.waits in
    led_answer g.D.Disk.view c.args.table.now c.args.self.now.book.members rows situation c.args.who some.0 goes c.step_next.new.self runs (sym waits ∙ some.1)
    (steps rows situation is (record { runs = runs; next = subst (λ waits. IsSome waits) waits (c.is_none.ensures ∙ ap not c.if-is_none.false) })))
    c.step_next.ensures.steps
