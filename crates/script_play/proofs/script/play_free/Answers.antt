use Rattle.std.proofs.Common.{◌≡◌, [], ◌∷◌, ◌++◌, ℕ, Some, length, sym, subst, ap, ◌∙◌}
use Rattle.script_text.specs.declared.command.Command.TheVariants.{Free}
use Rattle.script_semantics.specs.Free.{IsFreePart}
use Rattle.world_law.specs.Book.{BookState}
use Rattle.script_play.specs.Watch.{WatchesOn}
use Rattle.script_play.proofs.script.play_free.Goals as goal

pub run_free-requires-clause-parts : goal.run_free-requires-clause-parts
run_free-requires-clause-parts g c = λ lives borrowed.
    let world = c.requires.world in
    record { rows = world.rows; situation = world.situation; are = c.take_parts.ensures.parts c.args.table.now world.rows world.situation world.is }

pub from_parts-requires-clause-parts : goal.from_parts-requires-clause-parts
from_parts-requires-clause-parts g c =
    let world = c.requires.world in
    let to = c.in_ok-parts.ensures.goes world.rows world.situation (c.take_parts.ensures.parts c.args.table.now world.rows world.situation world.is) in
    (c.args.table.now, record { rows = world.rows ++ to.0; situation = to.1; are = to.3 })

pub returns-in_default-clause-goes : goal.returns-in_default-clause-goes
returns-in_default-clause-goes g c = λ rows situation is.
    let to = c.in_ok-parts.ensures.goes rows situation (c.take_parts.ensures.parts c.args.table.now rows situation is) in (
      to.0,
      to.1,
      subst (λ (n : ℕ). IsFreePart n c.args.table.now.window c.args.at.0 c.args.turns situation to.0 to.1) (ap (λ (b : BookState). b.members) c.take_parts.ensures.book) to.2,
      c.from_parts.ensures.world c.args.table.now (rows ++ to.0) to.1 to.3,
      λ script starts script_is starts_is before.
          subst (WatchesOn c.args.world.book.members c.args.table.now (script ++ Free c.args.at c.args.turns ∷ []) (rows ++ to.0) (starts ++ length rows ∷ [])) (sym c.take.ensures.after) tt,
    )

pub returns-clause-goes : goal.returns-clause-goes
returns-clause-goes g c = λ rows situation is.
    let to = c.in_ok-world.ensures.goes rows situation is in
    let old : c.args.watch.now ≡ Some c.in-Some.old = sym c.take.ensures.value ∙ c.in-Some.is in (
      to.0,
      to.1,
      to.2,
      to.3,
      λ script starts script_is starts_is before.
          subst (WatchesOn c.args.world.book.members c.args.table.now (script ++ Free c.args.at c.args.turns ∷ []) (rows ++ to.0) (starts ++ length rows ∷ [])) (sym c.replace-none.ensures.after)
          (to.4 script starts script_is starts_is (subst (WatchesOn c.args.world.book.members c.args.table.now script rows starts) old before)),
    )
