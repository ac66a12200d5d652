use Rattle.std.proofs.Common.{length, ◌<◌, ◌≤◌, ◌^◌, ◌∙◌, arith}
use Rattle.replica_node.specs.Node.{replica_of}
use Rattle.world_steps.proofs.MemoryLemmas.{cause_breaks_none, memory_alone, no_letter}
use Rattle.world_steps.proofs.StepLemmas.{ahead_small, beside_next, change_in}
use Rattle.world_steps.proofs.steps.take_step.Goals as goal

pub handle-requires : goal.handle-requires
handle-requires g c =
    let may = c.requires.may in
    let counted : length may.book.turns ≤ c.args.turns = may.counted in
    let turns : length may.book.turns < 2 ^ 31 = omega (arith, counted, c.if-turns-ge-MOST_TURNS.false) in
    record {
      at_rest = may.beside.ahead.at_rest;
      small = ahead_small g.D.Disk.view c.args.table.now may.rows may.book may.who may.steps c.args.node.now may.beside turns may.few;
      inside = may.told.inside;
    }

pub memory_of-requires : goal.memory_of-requires
memory_of-requires g c =
    let may = c.requires.may in
    let none =
    cause_breaks_none g.D.Disk.view c.args.table.now may.rows may.book may.who may.steps c.args.node.now c.args.cause c.args.input may.beside may.told in
    record {
      alone = memory_alone c.handle.result c.in-Err.fault c.in-Err.is (c.handle.ensures.unended may.beside.ahead.disk.reliable) c.handle.ensures.undamaged
          (no_letter c.handle.result (c.handle.ensures.fault ∙ none));
    }

pub returns-clause-beside : goal.returns-clause-beside
returns-clause-beside g c =
    λ rows book who steps beside told.
    beside_next g.D.Disk.view c.args.table.now rows book who steps c.args.node.now c.handle.new.self c.args.cause
    c.args.input c.in-Ok.out beside told c.in-Ok.ensures.at_rest (c.handle.ensures.answer.honest_still.1 beside.ahead.trusted) (c.in-Ok.ensures.reliable beside.ahead.disk.reliable)
    (c.in-Ok.ensures.clean beside.ahead.disk.clean) (c.in-Ok.ensures.area c.in-Ok.out.delta (change_in c.args.table.now c.args.input (replica_of c.args.node.now) (replica_of c.handle.new.self) c.in-Ok.out c.in-Ok.ensures.steps)) c.in-Ok.ensures.steps
