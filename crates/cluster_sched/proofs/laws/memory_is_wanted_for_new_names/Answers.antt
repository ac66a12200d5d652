use Rattle.cluster_sched.proofs.RoomLemmas.{Creates-lacks, Calls-lacks, LacksMemory-done}
use Rattle.cluster_sched.proofs.laws.memory_is_wanted_for_new_names.Goals as goal

pub returns-clause-creations : goal.returns-clause-creations
returns-clause-creations c old new row creates = (Creates-lacks old new row creates).none

pub returns-clause-calls : goal.returns-clause-calls
returns-clause-calls c old new row calls = (Calls-lacks old new row calls).none

pub returns-clause-room : goal.returns-clause-room
returns-clause-room c old new row calls done room = LacksMemory-done old new row (Calls-lacks old new row calls) done room
