use Rattle.script_semantics.proofs.FreeMailLemmas.{others_pass}
use Rattle.script_semantics.proofs.PartLemmas.{course_with_others}
use Rattle.script_semantics.proofs.free.turns_of_others_leave_a_replica.Goals as goal

pub returns-clause-replica : goal.returns-clause-replica
returns-clause-replica c = λ members who situation rows others. (others_pass members who situation rows others).replica

pub returns-clause-runs : goal.returns-clause-runs
returns-clause-runs c = λ members who situation rows others. (others_pass members who situation rows others).runs

pub returns-clause-waits : goal.returns-clause-waits
returns-clause-waits c = λ members who situation rows others. (others_pass members who situation rows others).waits

pub returns-clause-fate : goal.returns-clause-fate
returns-clause-fate c = λ members who situation rows others. (others_pass members who situation rows others).fate

pub returns-clause-arm : goal.returns-clause-arm
returns-clause-arm c = λ members who situation rows others. (others_pass members who situation rows others).arm

pub returns-clause-bases : goal.returns-clause-bases
returns-clause-bases c = λ members who situation rows others. (others_pass members who situation rows others).bases

pub returns-clause-seen : goal.returns-clause-seen
returns-clause-seen c = λ members who situation rows more others. (course_with_others members who situation rows more others).0

pub returns-clause-taken : goal.returns-clause-taken
returns-clause-taken c = λ members who situation rows more others. (course_with_others members who situation rows more others).1
