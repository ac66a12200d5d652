use Rattle.replica_store.proofs.CleanLemmas.{attached_clean, ready_clean, rests_ready, armed_clean, disarmed_clean, revived_clean}
use Rattle.replica_store.proofs.laws.a_disk_is_ready_for_a_save.Goals as goal

pub returns-clause-ready : goal.returns-clause-ready
returns-clause-ready g c disk store told rests is runs chooser clean =
    rests_ready g.D.Disk.view disk store told rests (g.met.D.Disk.done_is_seen disk told is) runs chooser clean

pub returns-clause-attached : goal.returns-clause-attached
returns-clause-attached g c = attached_clean

pub returns-clause-saved : goal.returns-clause-saved
returns-clause-saved g c = ready_clean

pub returns-clause-armed : goal.returns-clause-armed
returns-clause-armed g c = armed_clean

pub returns-clause-disarmed : goal.returns-clause-disarmed
returns-clause-disarmed g c = disarmed_clean

pub returns-clause-revived : goal.returns-clause-revived
returns-clause-revived g c = revived_clean
