use Rattle.cluster_sched.proofs.RoomLemmas.{Creates-capacity, Calls-capacity, IsArrival-capacity}
use Rattle.cluster_sched.proofs.laws.calls_leave_their_room.Goals as goal

pub returns-clause-creations : goal.returns-clause-creations
returns-clause-creations c = Creates-capacity

pub returns-clause-calls : goal.returns-clause-calls
returns-clause-calls c = Calls-capacity

pub returns-clause-arrivals : goal.returns-clause-arrivals
returns-clause-arrivals c = IsArrival-capacity
