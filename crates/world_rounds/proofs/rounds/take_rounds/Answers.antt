use Rattle.std.proofs.Common.{arith, sym, ◌∙◌}
use Rattle.std.proofs.lemmas.Option.{slice_get-get_or}
use Rattle.world_rounds.proofs.RoundsOfAll.{all_taken, taken_next}
use Rattle.world_rounds.proofs.rounds.take_rounds.Goals as goal

pub take_round-requires-clause-may : goal.take_round-requires-clause-may
take_round-requires-clause-may g c =
    c.requires.may c.members.member-index _
    (sym (c.members.invariant.rest c.members.member-index (omega arith))
    ∙ slice_get-get_or c.members.member-items c.members.member-index c.member-item.result (omega (arith, c.members.auto.member-items, c.members-test.true)))

pub members-preserved : goal.members-preserved
members-preserved g c =
    taken_next g.D.Disk.view c.args.table.now c.args.book.now c.args.at.0 c.members.member-index c.args.members.now c.members.member-items _
    c.take_round.new.self c.members.invariant
    (slice_get-get_or c.members.member-items c.members.member-index c.member-item.result (omega (arith, c.members.auto.member-items, c.members-test.true)))
    c.in_ok-take_round.ensures.takes

pub returns : goal.returns
returns g c = record {
  takes =
      all_taken g.D.Disk.view c.args.table.now c.args.book.now c.args.at.0 c.members.member-index c.args.members.now c.members.member-items
      (omega (arith, c.members-test.false, c.members.auto.member-index-end)) c.members.invariant;
}
