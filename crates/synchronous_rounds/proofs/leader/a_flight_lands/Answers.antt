use Rattle.synchronous_rounds.specs.Flights.{asked_vote}
use Rattle.synchronous_rounds.proofs.FlightLemmas.{first_round, second_round}
use Rattle.synchronous_rounds.proofs.MailLemmas.{accepted_next}
use Rattle.synchronous_rounds.proofs.leader.a_flight_lands.Goals as goal

pub returns-clause-accepted : goal.returns-clause-accepted
returns-clause-accepted c = λ proposal flight cluster now advice answers under asked.
    accepted_next proposal.self.members proposal.self.me now advice answers (asked_vote proposal) cluster under.led_alone asked

pub returns-clause-first : goal.returns-clause-first
returns-clause-first c = first_round

pub returns-clause-second : goal.returns-clause-second
returns-clause-second c = second_round
