use Rattle.std.proofs.Common.{rules, refl}
use Rattle.world_tests.proofs.seat.step_seat.Goals as goal

pub returns : goal.returns
returns g c = record {
  before = c.in_ok-replica.replica.now;
  after = c.step.new.self;
  was = search rules;
  is = refl;
  steps = search rules;
  durable = search rules;
  members = search rules;
}
