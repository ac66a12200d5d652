use Rattle.book_bench.proofs.Turns.{comes_next, is_booked_again}
use Rattle.book_bench.proofs.booked.BookedReplica.campaign.Goals as goal

pub commit-requires-clause-next : goal.commit-requires-clause-next
commit-requires-clause-next c =
    comes_next c.self.inside.table.now c.self.inside.replica c.step.new.self c.in-Ok.out c.self.inside.book c.reserve.new.self c.self.invariant c.in_ok-reserve.ensures.same c.in-Ok.ensures.steps

pub invariant_of-result : goal.invariant_of-result
invariant_of-result c =
    is_booked_again c.self.inside.table.now c.self.inside.replica c.step.new.self c.in-Ok.out c.self.inside.book c.reserve.new.self c.commit.new.self c.self.invariant c.in_ok-reserve.ensures.same
    c.in-Ok.ensures.steps c.commit.ensures.commits c.commit.ensures.stands
