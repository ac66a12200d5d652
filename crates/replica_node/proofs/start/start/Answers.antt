use Rattle.std.proofs.Common.{◌∙◌, subst}
use Rattle.replica_store.specs.Store.{area_of}
use Rattle.paxos_base.specs.declared.rows.TableSize.{TableSize}
use Rattle.gate_file.specs.File.{bodies_of}
use Rattle.paxos_base.specs.Rows.{RowsStand}
use Rattle.replica_node.proofs.AttachedLemmas.{fit_to_start}
use Rattle.replica_node.proofs.FaultLemmas.{damaged_below}
use Rattle.replica_node.proofs.KeptLemmas.{tells_attached}
use Rattle.replica_node.proofs.ReliableLemmas.{ends_below, reliable_done, reliable_never, unfailing_below, unfailing_done, unfailing_memory}
use Rattle.disk_model.specs.Images.{file_of}
use Rattle.gate_file.proofs.GateLemmas.{some_list}
use Rattle.replica_store.specs.Files.{selected}
use Rattle.replica_store.specs.Made.{look_calls}
use Rattle.replica_node.proofs.start.start.Goals as goal

-- ---- the store is not attached

pub returns-in_err-store-clause-sound : goal.returns-in_err-store-clause-sound
returns-in_err-store-clause-sound g c before after gate honest recoverable is =
    c.attach.ensures.sound before after gate honest (rw c.table_size.ensures.size recoverable) (damaged_below c.in_err-store.field-0.0 gate c.attach.result c.from_residual.result c.in_err-store.was c.from_residual.ensures.1 is)

pub returns-in_err-store-clause-images : goal.returns-in_err-store-clause-images
returns-in_err-store-clause-images g c = rw (← c.table_size.ensures.size) c.attach.ensures.images

pub returns-in_err-store-clause-damaged : goal.returns-in_err-store-clause-damaged
returns-in_err-store-clause-damaged g c gate bodies is has =
    rw (← c.table_size.ensures.size) (c.attach.ensures.damaged gate bodies (damaged_below c.in_err-store.field-0.0 gate c.attach.result c.from_residual.result c.in_err-store.was c.from_residual.ensures.1 is) has)

-- ---- the replica

pub start-requires-clause-rows : goal.start-requires-clause-rows
start-requires-clause-rows g c =
    let store = c.in_ok-store.store in
    let kept = c.in_ok-store.kept in
    let keeps = c.in_ok-store.ensures.keeps in
    let fit = fit_to_start store.size (bodies_of store.gates) kept keeps.0 keeps.1 in
    subst (λ (size : TableSize). RowsStand kept.rows size) (c.in_ok-store.ensures.size ∙ c.table_size.ensures.size) fit.rows

pub start-requires-clause-tried : goal.start-requires-clause-tried
start-requires-clause-tried g c =
    let store = c.in_ok-store.store in
    let keeps = c.in_ok-store.ensures.keeps in
    let fit = fit_to_start store.size (bodies_of store.gates) c.in_ok-store.kept keeps.0 keeps.1 in
    fit.tried

pub returns-in_err-replica-clause-images : goal.returns-in_err-replica-clause-images
returns-in_err-replica-clause-images g c = rw (← c.table_size.ensures.size) c.attach.ensures.images

pub returns-in_err-replica-clause-recoverable : goal.returns-in_err-replica-clause-recoverable
returns-in_err-replica-clause-recoverable g c = rw (← c.table_size.ensures.size) c.attach.ensures.recoverable

-- ---- it starts

pub returns-clause-either : goal.returns-clause-either
returns-clause-either g c before after honest recoverable =
    rw c.in_ok-replica.ensures.state (c.in_ok-store.ensures.either before after honest (rw c.table_size.ensures.size recoverable))

pub returns-clause-images : goal.returns-clause-images
returns-clause-images g c = rw (← c.table_size.ensures.size) c.attach.ensures.images

pub returns-clause-recoverable : goal.returns-clause-recoverable
returns-clause-recoverable g c = rw (← c.table_size.ensures.size) c.attach.ensures.recoverable

pub returns-clause-clean : goal.returns-clause-clean
returns-clause-clean g c tells =
    let image = g.D.Disk.view.seen c.args.disk.now in
    let found = c.in_ok-store.ensures.stand in
    let made = c.in_ok-store.ensures.told found.bodies found.has in
    tells_attached c.table_size.result image found.bodies made.0 (area_of c.in_ok-store.store) (c.in_ok-store.store, c.in_ok-store.kept) (g.D.Disk.view.told c.args.disk.now) (g.D.Disk.view.told c.attach.new.disk) tells made.1 made.2 c.in_ok-store.ensures.clean

-- ---- from a disk that is reliable

pub returns-clause-reliable : goal.returns-clause-reliable
returns-clause-reliable g c sure =
    let image = g.D.Disk.view.seen c.args.disk.now in
    let found = c.in_ok-store.ensures.stand in
    reliable_done (c.in_ok-store.ensures.told found.bodies found.has).0 (c.in_ok-store.store, c.in_ok-store.kept) (g.D.Disk.view.told c.args.disk.now) (g.D.Disk.view.told c.attach.new.disk) sure (c.in_ok-store.ensures.told found.bodies found.has).2

pub returns-in_err-store-clause-unended : goal.returns-in_err-store-clause-unended
returns-in_err-store-clause-unended g c sure ends =
    let image = g.D.Disk.view.seen c.args.disk.now in
    let found = some_list (file_of (selected image) image) in
    reliable_never (c.attach.ensures.told found.0 found.1).0 c.attach.result (g.D.Disk.view.told c.args.disk.now) (g.D.Disk.view.told c.attach.new.disk) sure (c.attach.ensures.told found.0 found.1).2
    (ends_below c.in_err-store.field-0.0 c.attach.result c.from_residual.result c.in_err-store.was c.from_residual.ensures.1 ends)

-- ---- from a disk that can't fail, and may be armed

pub returns-clause-unfailing : goal.returns-clause-unfailing
returns-clause-unfailing g c sure =
    let image = g.D.Disk.view.seen c.args.disk.now in
    let found = c.in_ok-store.ensures.stand in
    unfailing_done (c.in_ok-store.ensures.told found.bodies found.has).0 (c.in_ok-store.store, c.in_ok-store.kept) (g.D.Disk.view.told c.args.disk.now) (g.D.Disk.view.told c.attach.new.disk) sure (c.in_ok-store.ensures.told found.bodies found.has).2

pub returns-in_err-replica-clause-unfailing : goal.returns-in_err-replica-clause-unfailing
returns-in_err-replica-clause-unfailing g c sure =
    let image = g.D.Disk.view.seen c.args.disk.now in
    let found = c.in_ok-store.ensures.stand in
    let here = unfailing_done (c.in_ok-store.ensures.told found.bodies found.has).0 (c.in_ok-store.store, c.in_ok-store.kept) (g.D.Disk.view.told c.args.disk.now) (g.D.Disk.view.told c.attach.new.disk) sure (c.in_ok-store.ensures.told found.bodies found.has).2 in
    unfailing_memory c.from_residual-in_err-replica.result (g.D.Disk.view.told c.attach.new.disk) c.from_residual-in_err-replica.ensures.1 here

pub returns-in_err-store-clause-unfailing : goal.returns-in_err-store-clause-unfailing
returns-in_err-store-clause-unfailing g c sure =
    let image = g.D.Disk.view.seen c.args.disk.now in
    let found = some_list (file_of (selected image) image) in
    unfailing_below (c.attach.ensures.told found.0 found.1).0 (look_calls image) c.in_err-store.field-0.0 c.attach.result c.from_residual.result (g.D.Disk.view.told c.args.disk.now) (g.D.Disk.view.told c.attach.new.disk)
    c.in_err-store.was c.from_residual.ensures.1 sure (c.attach.ensures.told found.0 found.1).2 c.attach.ensures.told_damaged

-- ---- the area

pub returns-in_err-store-clause-recoverable : goal.returns-in_err-store-clause-recoverable
returns-in_err-store-clause-recoverable g c = rw (← c.table_size.ensures.size) c.attach.ensures.recoverable

pub returns-clause-area : goal.returns-clause-area
returns-clause-area g c none = c.in_ok-store.ensures.area (rw c.table_size.ensures.size none)
