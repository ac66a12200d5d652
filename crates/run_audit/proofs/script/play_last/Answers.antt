use Rattle.std.proofs.Common.{subst}
use Rattle.std.specs.Prelude.{ℕ, ℤ}
use Rattle.script_semantics.specs.Settling.{Walks}
use Rattle.run_audit.proofs.HeadingLemmas.{comes_behind}
use Rattle.run_audit.specs.Begins.{BeginsWalk}
use Rattle.run_audit.specs.Headings.{ComesBehind, heading_text}
use Rattle.run_audit.specs.declared.heading.Heading.TheVariants.{Walk}
use Rattle.run_audit.proofs.script.play_last.Goals as goal

pub returns : goal.returns
returns c =
    let table = c.args.table.now in
    let n = c.args.replay.now.book.members in
    subst (λ (to : ℤ). ComesBehind table (heading_text Walk) (BeginsWalk n table to) (Walks n table to) c.args.replay.now c.args.rest.now c.play_walk.new.replay c.play_walk.new.rest c.play_walk.result) c.last_minute-to.ensures.last
    (comes_behind table (heading_text Walk) (λ (n : ℕ). BeginsWalk n table c.last_minute-to.result.0) (λ (n : ℕ). Walks n table c.last_minute-to.result.0) c.args.replay.now c.pass_heading.new.replay c.play_walk.new.replay
    c.args.rest.now c.pass_heading.new.rest c.play_walk.new.rest c.play_walk.result c.in_ok-pass_heading.ensures.passes c.in_ok-pass_heading.ensures.stays c.play_walk.ensures)
