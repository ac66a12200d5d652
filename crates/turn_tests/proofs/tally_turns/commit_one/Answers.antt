use Rattle.turn_book.proofs.CallerLemmas.{rests_still}
use Rattle.turn_tests.specs.contracts.tally.TallyLaw.TheImpl as tally
use Rattle.turn_tests.proofs.tally_turns.commit_one.Goals as goal

pub commit-requires-clause-room : goal.commit-requires-clause-room
commit-requires-clause-room g c = c.in-Ok.ensures.room c.args.row tt

pub commit-requires-clause-rows : goal.commit-requires-clause-rows
commit-requires-clause-rows g c = (rests_still tally.ghosts c.enter-turn.result c.reserve.new.self c.in-Ok.ensures.keeps c.in-Ok.ensures.same c.enter-turn.ensures.rest).rows

pub leave-requires : goal.leave-requires
leave-requires g c = rests_still tally.ghosts c.enter-turn.result c.reserve.new.self c.in-Err.ensures.keeps c.in-Err.ensures.same c.enter-turn.ensures.rest
