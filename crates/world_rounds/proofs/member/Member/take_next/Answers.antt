use Rattle.std.proofs.Common.{[], length, refl, sym, ap, ◌∙◌, subst, arith}
use Rattle.world_rounds.proofs.OneByOne.{beside_now, can_tell, ends_taken, was_told}
use Rattle.replica_node.specs.Node.{replica_of}
use Rattle.world_steps.specs.Parts.{armed_in}
use Rattle.world_steps.specs.Stops.{HasOutcome, IsNodeAfter}
use Rattle.world_rounds.proofs.member.Member.take_next.Goals as goal

pub input_for-input-requires : goal.input_for-input-requires
input_for-input-requires g c =
    let may = c.requires.may in
    record {
      can = (
        c.args.who,
        can_tell g.D.Disk.view c.args.table.now may.rows c.args.book.now may.situation c.args.who c.args.cause c.args.self.now may.idle may.may,
      );
    }

pub take_by_arm-requires-clause-may : goal.take_by_arm-requires-clause-may
take_by_arm-requires-clause-may g c =
    let may = c.requires.may in
    let can = can_tell g.D.Disk.view c.args.table.now may.rows c.args.book.now may.situation c.args.who c.args.cause c.args.self.now may.idle may.may in
    record {
      rows = may.rows;
      book = c.args.book.now;
      who = c.args.who;
      steps = [];
      beside = beside_now g.D.Disk.view c.args.table.now may.rows c.args.book.now may.situation c.args.who c.args.cause c.args.self.now may.idle may.may;
      told =
          was_told g.D.Disk.view c.args.table.now may.rows c.args.book.now may.situation c.args.who c.args.cause c.input_for-input.result c.args.self.now may.idle may.may
          (c.input_for-input.ensures.told c.args.who can);
      counted = let same = ap length c.turns.ensures in omega (arith, same);
      few = omega arith;
    }

pub returns-in-Taken : goal.returns-in-Taken
returns-in-Taken g c = record {
  ends = λ rows situation idle may.
      let can = can_tell g.D.Disk.view c.args.table.now rows c.args.book.now situation c.args.who c.args.cause c.args.self.now idle may in
      let told =
      was_told g.D.Disk.view c.args.table.now rows c.args.book.now situation c.args.who c.args.cause c.input_for-input.result c.args.self.now idle may
      (c.input_for-input.ensures.told c.args.who can) in
      let beside = beside_now g.D.Disk.view c.args.table.now rows c.args.book.now situation c.args.who c.args.cause c.args.self.now idle may in
      let ended = subst (λ e. HasOutcome c.args.table.now rows c.args.book.now c.args.who c.args.cause c.args.self.now.mail.arm e (replica_of c.take_by_arm.new.node).state.kept
      × IsNodeAfter g.D.Disk.view c.args.table.now rows c.args.book.now c.args.who e c.take_by_arm.new.node) c.in-Taken.is
      (c.in_ok-ended.ensures.ended rows c.args.book.now (sym c.requires.members) beside told) in
      ends_taken g.D.Disk.view c.args.table.now rows c.args.book.now situation c.args.who c.args.cause c.in-Taken.taken c.args.self.now _ idle may
      ended.0.0 ended.0.1 ended.1 c.hear.ensures.set c.hear.ensures.letters;
  rest = refl;
}

pub returns-in-Stopped : goal.returns-in-Stopped
returns-in-Stopped g c = record {
  ends = λ rows situation idle may.
      let can = can_tell g.D.Disk.view c.args.table.now rows c.args.book.now situation c.args.who c.args.cause c.args.self.now idle may in
      let told =
      was_told g.D.Disk.view c.args.table.now rows c.args.book.now situation c.args.who c.args.cause c.input_for-input.result c.args.self.now idle may
      (c.input_for-input.ensures.told c.args.who can) in
      let beside = beside_now g.D.Disk.view c.args.table.now rows c.args.book.now situation c.args.who c.args.cause c.args.self.now idle may in
      let ended = subst (λ e. HasOutcome c.args.table.now rows c.args.book.now c.args.who c.args.cause c.args.self.now.mail.arm e (replica_of c.take_by_arm.new.node).state.kept
      × IsNodeAfter g.D.Disk.view c.args.table.now rows c.args.book.now c.args.who e c.take_by_arm.new.node) c.in-Stopped.is
      (c.in_ok-ended.ensures.ended rows c.args.book.now (sym c.requires.members) beside told) in
      record {
        arm = ended.0.0;
        armed = ap armed_in (sym ended.0.1) ∙ idle.ahead.mail.arm;
        stopped = ended.0.2;
        attached = ended.1;
        none = idle.none;
      };
  rest = refl;
}
