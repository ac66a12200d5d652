use Rattle.script_semantics.proofs.CauseLemmas.{answers, hears, in_time, no_leader, out_of_time, stands, ticks_late, ticks_leading}
use Rattle.std.proofs.Common.{ap, ◌+◌, ◌*◌}
use Rattle.term_core.specs.Term.{is_leader}
use Rattle.script_semantics.proofs.free.a_replica_takes_what_waits_first.Goals as goal

pub returns-clause-answer : goal.returns-clause-answer
returns-clause-answer c = answers

pub returns-clause-letter : goal.returns-clause-letter
returns-clause-letter c = λ window at who taken number seen mail. hears window at who taken seen number mail

pub returns-clause-campaign : goal.returns-clause-campaign
returns-clause-campaign c =
    λ window at who times seen waits letters few none.
    stands window at who (64 * times + 8 * who) seen waits letters (in_time who times few) (no_leader (seen.standing.replicas who).term none)

pub returns-clause-leader : goal.returns-clause-leader
returns-clause-leader c =
    λ window at who taken ballot seen best flight waits letters leads.
    ticks_leading window at who taken seen waits letters (ap is_leader leads)

pub returns-clause-tick : goal.returns-clause-tick
returns-clause-tick c = λ window at who taken seen waits letters never. ticks_late window at who taken seen waits letters (out_of_time who taken never)
