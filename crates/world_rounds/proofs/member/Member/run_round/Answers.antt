use Rattle.std.proofs.Common.{false}
use Rattle.world_rounds.proofs.LaneLemmas.{taken_beside_note}
use Rattle.world_rounds.proofs.member.Member.run_round.Goals as goal

pub returns-in-Ok : goal.returns-in-Ok
returns-in-Ok g c = record {
  runs = λ none rows situation who idle.
      taken_beside_note g.D.Disk.view c.args.table.now rows c.args.book.now situation c.args.at.0 who c.take_round.new.self false
      (c.in-Ok.ensures.takes rows situation who idle);
}

pub returns-in-Err : goal.returns-in-Err
returns-in-Err g c = record { runs = λ none. absurd cc }
