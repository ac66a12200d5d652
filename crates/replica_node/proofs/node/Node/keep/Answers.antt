use Rattle.std.proofs.Common.{◌≡◌, Err, length, sym, ap, ◌∙◌, subst, inl, inr}
use Rattle.std.proofs.lemmas.Option.{same_Some}
use Rattle.paxos_base.specs.declared.durable.Delta.{Delta}
use Rattle.replica_node.specs.Kept.{LeavesByArm}
use Rattle.std.specs.Option.{option_copied}
use Rattle.gate_file.specs.File.{bodies_of}
use Rattle.paxos_base.specs.declared.durable.Durable.{Durable}
use Rattle.store_format.specs.Order.{ChangeMayFollow}
use Rattle.replica_store.specs.Faults as stored
use Rattle.replica_store.specs.Made.{save_calls}
use Rattle.replica_store.specs.Store.{area_of, size_of_store, records_of}
use Rattle.replica_store.specs.declared.fault.StoreFault.TheVariants as Store
use Rattle.replica_store.proofs.FileLemmas.{bodies_stand_for_one}
use Rattle.replica_store.proofs.SaveLemmas.{rests_recoverable}
use Rattle.replica_node.specs.Faults.{of_disk_answer}
use Rattle.replica_node.proofs.KeptLemmas.{tells_by_arm, tells_saved}
use Rattle.replica_node.proofs.ReliableLemmas.{reliable_done, reliable_never, unfailing_done, unfailing_saved}
use Rattle.replica_node.proofs.ToldLemmas.{told_done, told_stored}
use Rattle.replica_node.proofs.node.Node.keep.Goals as goal

pub returns-in_default-clause-recoverable : goal.returns-in_default-clause-recoverable
returns-in_default-clause-recoverable g c honest =
    let node = c.args.self.now in
    rw c.in_default.is (rests_recoverable g.D.Disk.view node.disk node.store c.requires.rests node.replica.state.kept c.requires.keeps honest)

pub save-requires-clause-follows : goal.save-requires-clause-follows
save-requires-clause-follows g c kept keeps =
    let node = c.args.self.now in
    let same : kept ≡ node.replica.state.kept = bodies_stand_for_one node.store.size (bodies_of node.store.gates) kept node.replica.state.kept keeps c.requires.keeps in
    subst (λ (k : Durable). ChangeMayFollow (size_of_store node.store) k c.in-Some.delta.now) (sym same) (c.requires.follows c.in-Some.delta.now (ap option_copied c.in-Some.is))

pub returns-in-Ok-clause-keeps : goal.returns-in-Ok-clause-keeps
returns-in-Ok-clause-keeps g c = rw c.in-Some.is (c.in-Ok.ensures.keeps c.args.self.now.replica.state.kept c.requires.keeps)

pub returns-in-Ok-clause-images : goal.returns-in-Ok-clause-images
returns-in-Ok-clause-images g c honest = rw c.in-Some.is (c.save.ensures.images c.args.self.now.replica.state.kept c.requires.keeps honest)

pub returns-in-Err-OutOfMemory-clause-images : goal.returns-in-Err-OutOfMemory-clause-images
returns-in-Err-OutOfMemory-clause-images g c honest = rw c.in-Some.is (c.save.ensures.images c.args.self.now.replica.state.kept c.requires.keeps honest)

pub returns-in-Err-Stopped-clause-images : goal.returns-in-Err-Stopped-clause-images
returns-in-Err-Stopped-clause-images g c honest = rw c.in-Some.is (c.save.ensures.images c.args.self.now.replica.state.kept c.requires.keeps honest)

pub returns-in-Err-DiskFault-clause-images : goal.returns-in-Err-DiskFault-clause-images
returns-in-Err-DiskFault-clause-images g c honest = rw c.in-Some.is (c.save.ensures.images c.args.self.now.replica.state.kept c.requires.keeps honest)

pub returns-in-Ok-clause-told : goal.returns-in-Ok-clause-told
returns-in-Ok-clause-told g c own stand =
    let node = c.args.self.now in
    rw c.in-Some.is (told_done stored.of_disk of_disk_answer (save_calls (area_of node.store) (length (records_of node.store)) node.replica.state.kept own c.in-Some.delta.now) tt tt (g.D.Disk.view.told node.disk) (g.D.Disk.view.told c.save.new.disk) (c.in-Ok.ensures.told node.replica.state.kept own stand))

pub returns-in-Err-OutOfMemory-clause-told : goal.returns-in-Err-OutOfMemory-clause-told
returns-in-Err-OutOfMemory-clause-told g c own stand =
    let node = c.args.self.now in
    rw c.in-Some.is (told_stored (save_calls (area_of node.store) (length (records_of node.store)) node.replica.state.kept own c.in-Some.delta.now) c.in-Err-OutOfMemory.field-0 Store.OutOfMemory (g.D.Disk.view.told node.disk) (g.D.Disk.view.told c.save.new.disk) c.in-Err-OutOfMemory.field-0-is (c.in-Err-OutOfMemory.ensures.told node.replica.state.kept own stand))

pub returns-in-Err-Stopped-clause-told : goal.returns-in-Err-Stopped-clause-told
returns-in-Err-Stopped-clause-told g c own stand =
    let node = c.args.self.now in
    rw c.in-Some.is (told_stored (save_calls (area_of node.store) (length (records_of node.store)) node.replica.state.kept own c.in-Some.delta.now) c.in-Err-Stopped.field-0 Store.Stopped (g.D.Disk.view.told node.disk) (g.D.Disk.view.told c.save.new.disk) c.in-Err-Stopped.field-0-is (c.in-Err-Stopped.ensures.told node.replica.state.kept own stand))

pub returns-in-Err-DiskFault-clause-told : goal.returns-in-Err-DiskFault-clause-told
returns-in-Err-DiskFault-clause-told g c own stand =
    let node = c.args.self.now in
    rw c.in-Some.is (told_stored (save_calls (area_of node.store) (length (records_of node.store)) node.replica.state.kept own c.in-Some.delta.now) c.in-Err-DiskFault.field-0 Store.DiskFault (g.D.Disk.view.told node.disk) (g.D.Disk.view.told c.save.new.disk) c.in-Err-DiskFault.field-0-is (c.in-Err-DiskFault.ensures.told node.replica.state.kept own stand))

pub returns-in-Ok-clause-clean : goal.returns-in-Ok-clause-clean
returns-in-Ok-clause-clean g c clean =
    let node = c.args.self.now in
    let own = c.requires.keeps in
    tells_saved g.D.Disk.view node.disk node.store node.replica.state.kept own.0 c.in-Some.delta.now c.requires.rests c.save.new.self (g.D.Disk.view.told node.disk) (g.D.Disk.view.told c.save.new.disk)
    (g.met.D.Disk.done_is_seen node.disk) clean c.in-Ok.ensures.area (c.in-Ok.ensures.told node.replica.state.kept own.0 own.1)

pub returns-in-Err-Stopped-clause-kept_by_arm : goal.returns-in-Err-Stopped-clause-kept_by_arm
returns-in-Err-Stopped-clause-kept_by_arm g c change arm is stopped clean armed =
    let node = c.args.self.now in
    let kept = node.replica.state.kept in
    let own = c.requires.keeps in
    let here = ap option_copied c.in-Some.is in
    let same : c.in-Some.delta.now ≡ change = same_Some c.in-Some.delta.now change (sym here ∙ is) in
    let size = size_of_store node.store in
    subst (λ (d : Delta). LeavesByArm size (area_of node.store) kept d arm (g.D.Disk.view.told c.save.new.disk)) same
    (tells_by_arm g.D.Disk.view node.disk node.store kept own.0 c.in-Some.delta.now c.requires.rests c.requires.format arm (g.D.Disk.view.told node.disk) (g.D.Disk.view.told c.save.new.disk)
    (g.met.D.Disk.done_is_seen node.disk) clean armed own.1 (c.requires.follows c.in-Some.delta.now here) c.in-Err-Stopped.field-0 c.in-Err-Stopped.field-0-is
    (c.in-Err-Stopped.ensures.told kept own.0 own.1) c.save.ensures.spelled (λ slot rows base. c.in-Err-Stopped.ensures.base_spelled kept own.0 slot rows own.1 base (ap Err c.in-Err-Stopped.field-0-is)))

-- ---- on a disk that is reliable

pub returns-in-Ok-clause-reliable : goal.returns-in-Ok-clause-reliable
returns-in-Ok-clause-reliable g c sure =
    let node = c.args.self.now in
    let own = c.requires.keeps in
    reliable_done (save_calls (area_of node.store) (length (records_of node.store)) node.replica.state.kept own.0 c.in-Some.delta.now) tt (g.D.Disk.view.told node.disk) (g.D.Disk.view.told c.save.new.disk) sure
    (c.in-Ok.ensures.told node.replica.state.kept own.0 own.1)

pub returns-in-Err-Stopped-clause-unended : goal.returns-in-Err-Stopped-clause-unended
returns-in-Err-Stopped-clause-unended g c sure ends =
    let node = c.args.self.now in
    let own = c.requires.keeps in
    reliable_never (save_calls (area_of node.store) (length (records_of node.store)) node.replica.state.kept own.0 c.in-Some.delta.now) c.save.result (g.D.Disk.view.told node.disk) (g.D.Disk.view.told c.save.new.disk) sure
    (c.save.ensures.told node.replica.state.kept own.0 own.1) (inl (c.in-Err-Stopped.is ∙ ap Err c.in-Err-Stopped.field-0-is))

pub returns-in-Err-DiskFault-clause-unended : goal.returns-in-Err-DiskFault-clause-unended
returns-in-Err-DiskFault-clause-unended g c sure ends =
    let node = c.args.self.now in
    let own = c.requires.keeps in
    reliable_never (save_calls (area_of node.store) (length (records_of node.store)) node.replica.state.kept own.0 c.in-Some.delta.now) c.save.result (g.D.Disk.view.told node.disk) (g.D.Disk.view.told c.save.new.disk) sure
    (c.save.ensures.told node.replica.state.kept own.0 own.1) (inr (c.in-Err-DiskFault.is ∙ ap Err c.in-Err-DiskFault.field-0-is))

-- ---- on a disk that can't fail, and may be armed

pub returns-in-Ok-clause-unfailing : goal.returns-in-Ok-clause-unfailing
returns-in-Ok-clause-unfailing g c sure =
    let node = c.args.self.now in
    let own = c.requires.keeps in
    unfailing_done (save_calls (area_of node.store) (length (records_of node.store)) node.replica.state.kept own.0 c.in-Some.delta.now) tt (g.D.Disk.view.told node.disk) (g.D.Disk.view.told c.save.new.disk) sure
    (c.in-Ok.ensures.told node.replica.state.kept own.0 own.1)

pub returns-in-Err-Stopped-clause-unfailing : goal.returns-in-Err-Stopped-clause-unfailing
returns-in-Err-Stopped-clause-unfailing g c sure =
    let node = c.args.self.now in
    let own = c.requires.keeps in
    unfailing_saved (save_calls (area_of node.store) (length (records_of node.store)) node.replica.state.kept own.0 c.in-Some.delta.now) c.in-Err-Stopped.field-0 Store.Stopped (g.D.Disk.view.told node.disk) (g.D.Disk.view.told c.save.new.disk)
    c.in-Err-Stopped.field-0-is (λ gate is. absurd (cc is)) sure (c.in-Err-Stopped.ensures.told node.replica.state.kept own.0 own.1)

pub returns-in-Err-DiskFault-clause-unfailing : goal.returns-in-Err-DiskFault-clause-unfailing
returns-in-Err-DiskFault-clause-unfailing g c sure =
    let node = c.args.self.now in
    let own = c.requires.keeps in
    unfailing_saved (save_calls (area_of node.store) (length (records_of node.store)) node.replica.state.kept own.0 c.in-Some.delta.now) c.in-Err-DiskFault.field-0 Store.DiskFault (g.D.Disk.view.told node.disk) (g.D.Disk.view.told c.save.new.disk)
    c.in-Err-DiskFault.field-0-is (λ gate is. absurd (cc is)) sure (c.in-Err-DiskFault.ensures.told node.replica.state.kept own.0 own.1)

pub returns-in-Err-OutOfMemory-clause-unfailing : goal.returns-in-Err-OutOfMemory-clause-unfailing
returns-in-Err-OutOfMemory-clause-unfailing g c sure =
    let node = c.args.self.now in
    let own = c.requires.keeps in
    unfailing_saved (save_calls (area_of node.store) (length (records_of node.store)) node.replica.state.kept own.0 c.in-Some.delta.now) c.in-Err-OutOfMemory.field-0 Store.OutOfMemory (g.D.Disk.view.told node.disk) (g.D.Disk.view.told c.save.new.disk)
    c.in-Err-OutOfMemory.field-0-is (λ gate is. absurd (cc is)) sure (c.in-Err-OutOfMemory.ensures.told node.replica.state.kept own.0 own.1)
