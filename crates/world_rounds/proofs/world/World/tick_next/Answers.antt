use Rattle.std.proofs.Common.{◌≡◌, Some, [], ◌∷◌, length, refl, sym, ap, ◌∙◌, subst}
use Rattle.std.specs.List.{slice_get}
use Rattle.std.proofs.lemmas.Option.{slice_get_read}
use Rattle.std.specs.Prelude.{◌<ℤ◌}
use Rattle.zone_minutes.specs.Window.{IsInWindow}
use Rattle.zone_minutes.specs.declared.minute.Minute.{Minute}
use Rattle.zone_minutes.specs.declared.minute.Window.{Window}
use Rattle.history.specs.declared.turn.Cause.TheVariants.{Tick}
use Rattle.script_semantics.specs.Round.{clock_reading}
use Rattle.script_semantics.specs.Situation.{Do}
use Rattle.world_rounds.proofs.InOrder.{led_step, runs_here}
use Rattle.world_rounds.specs.OneByOne.{IsLed}
use Rattle.world_rounds.proofs.world.World.tick_next.Goals as goal
use Rattle.replica_core.proofs.LeadLemmas.{if_ok as if_ok_to}
use Rattle.script_semantics.proofs.RoundLemmas.{clock_inside}

pub reading_of-now-requires-clause-small : goal.reading_of-now-requires-clause-small
reading_of-now-requires-clause-small g c =
    let there : slice_get c.args.self.now.members.items c.args.who ≡ Some c.index.result.now =
    slice_get_read c.args.self.now.members.items (length c.args.self.now.members.items) c.args.who c.index.result.now refl c.requires.member c.index.ensures in
    (c.requires.world.is.ahead.each c.args.who c.index.result.now there).mail.small

pub step_next-requires-clause-may : goal.step_next-requires-clause-may
step_next-requires-clause-may g c =
    let there : slice_get c.args.self.now.members.items c.args.who ≡ Some c.index.result.now =
    slice_get_read c.args.self.now.members.items (length c.args.self.now.members.items) c.args.who c.index.result.now refl c.requires.member c.index.ensures in
    let world = c.requires.world in
    let runs = runs_here g.D.Disk.view c.args.table.now world.rows c.args.self.now world.situation c.args.who c.index.result.now world.is there (c.requires.runs c.index.result.now there) in (
      world.rows,
      world.situation,
      world.is,
      (record {
        runs = runs;
        next = subst (λ (now : Minute). IsInWindow c.args.table.now.window now.0) (sym (c.reading_of-now.ensures.reading ∙ ap (λ window. clock_reading window c.args.at.0 c.index.result.now.mail.skew) c.window.ensures.window))
            (clock_inside c.args.table.now.window c.args.at.0 c.index.result.now.mail.skew (subst (λ (window : Window). window.from.0 <ℤ window.until.0) c.window.ensures.window c.window.ensures.limits.ordered));
      }),
    )

pub returns-clause-led : goal.returns-clause-led
returns-clause-led g c =
    let there : slice_get c.args.self.now.members.items c.args.who ≡ Some c.index.result.now =
    slice_get_read c.args.self.now.members.items (length c.args.self.now.members.items) c.args.who c.index.result.now refl c.requires.member c.index.ensures in
    if_ok_to c.step_next.result _ _ (λ goes steps rows situation is.
    let runs = runs_here g.D.Disk.view c.args.table.now rows c.args.self.now situation c.args.who c.index.result.now is there (c.requires.runs c.index.result.now there) in
    let now_is = c.reading_of-now.ensures.reading ∙ ap (λ window. clock_reading window c.args.at.0 c.index.result.now.mail.skew) c.window.ensures.window
    ∙ ap (λ skew. clock_reading c.args.table.now.window c.args.at.0 skew) (is.ahead.each c.args.who c.index.result.now there).mail.skew in
    subst (λ (now : Minute). IsLed g.D.Disk.view c.args.table.now c.args.self.now.book.members rows situation c.args.who (Do c.args.who (Tick now) ∷ []) goes c.step_next.new.self) now_is
    (led_step g.D.Disk.view c.args.table.now c.args.self.now.book.members rows situation c.args.who (Tick c.reading_of-now.result) goes c.step_next.new.self runs (steps rows situation is (record {
      runs = runs;
      next = subst (λ (now : Minute). IsInWindow c.args.table.now.window now.0) (sym (c.reading_of-now.ensures.reading ∙ ap (λ window. clock_reading window c.args.at.0 c.index.result.now.mail.skew) c.window.ensures.window))
          (clock_inside c.args.table.now.window c.args.at.0 c.index.result.now.mail.skew (subst (λ (window : Window). window.from.0 <ℤ window.until.0) c.window.ensures.window c.window.ensures.limits.ordered));
    }))))
    c.step_next.ensures.steps
