use Rattle.std.proofs.Common.{◌-◌, arith}
use Rattle.script_semantics.proofs.CoordinatorLemmas.{furthest_within, furthest_most, furthest_first}
use Rattle.script_semantics.proofs.commands.the_coordinator_has_learned_the_most.Goals as goal

-- src/laws.rt:24:1
pub returns-clause-member : goal.returns-clause-member
returns-clause-member c = λ members situation some. let have = furthest_within situation.standing.replicas (members - 1) in omega arith

-- src/laws.rt:24:1
pub returns-clause-most : goal.returns-clause-most
returns-clause-most c = λ members situation other member. furthest_most situation.standing.replicas (members - 1) other (omega arith)

-- src/laws.rt:24:1
pub returns-clause-first : goal.returns-clause-first
returns-clause-first c = λ members situation other some below. furthest_first situation.standing.replicas (members - 1) other below
