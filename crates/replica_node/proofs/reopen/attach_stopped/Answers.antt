use Rattle.std.proofs.Common.{ap, ◌∙◌, subst}
use Rattle.disk_model.specs.Images.{Image, file_of}
use Rattle.gate_file.specs.Gates.{HasBodies}
use Rattle.gate_file.proofs.GateLemmas.{some_list}
use Rattle.replica_node.proofs.KeptLemmas.{tells_attached}
use Rattle.replica_store.specs.Files.{FilesStand, SelectsFormat1, selected}
use Rattle.replica_store.specs.Store.{area_of}
use Rattle.replica_store.specs.Made.{look_calls}
use Rattle.replica_store.proofs.FileLemmas.{fewer_recoverable}
use Rattle.replica_node.proofs.FaultLemmas.{damaged_below, stopped_below}
use Rattle.replica_node.proofs.QuietLemmas.{attach_never, attach_quiet, revived_seen, tells_revived}
use Rattle.replica_node.proofs.ReliableLemmas.{after_cant_fail, ends_below, quiet_reliable, reliable_done, reliable_never, reliable_unfailing, revived_reliable, unfailing_below}
use Rattle.replica_node.proofs.reopen.attach_stopped.Goals as goal

-- ---- the disk is not attached

pub returns-in_err-attach-clause-sound : goal.returns-in_err-attach-clause-sound
returns-in_err-attach-clause-sound g c before after gate honest recoverable is =
    c.attach.ensures.sound before after gate (c.revive.ensures.honest.1 honest)
    (fewer_recoverable c.args.size before after (g.D.Disk.view.may_leave c.args.disk.now) (g.D.Disk.view.may_leave c.revive.new.self) (c.revive.ensures.no_new_image honest) recoverable)
    (damaged_below c.in_err-attach.field-0.0 gate c.attach.result c.from_residual.result c.in_err-attach.was c.from_residual.ensures.1 is)

pub returns-in_err-attach-clause-recoverable : goal.returns-in_err-attach-clause-recoverable
returns-in_err-attach-clause-recoverable g c before after honest recoverable =
    c.attach.ensures.recoverable before after (c.revive.ensures.honest.1 honest)
    (fewer_recoverable c.args.size before after (g.D.Disk.view.may_leave c.args.disk.now) (g.D.Disk.view.may_leave c.revive.new.self) (c.revive.ensures.no_new_image honest) recoverable)

pub returns-in_err-attach-clause-damaged : goal.returns-in_err-attach-clause-damaged
returns-in_err-attach-clause-damaged g c gate bodies is has =
    let below = damaged_below c.in_err-attach.field-0.0 gate c.attach.result c.from_residual.result c.in_err-attach.was c.from_residual.ensures.1 is in
    c.attach.ensures.damaged gate bodies below (subst (λ (image : Image). HasBodies (file_of (selected image) image) bodies) (c.attach.ensures.unwritten gate below) has)

pub returns-in_err-attach-clause-quiet : goal.returns-in_err-attach-clause-quiet
returns-in_err-attach-clause-quiet g c =
    let mid = c.revive.new.self in
    let seen = g.D.Disk.view.seen mid in
    let found = some_list (file_of (selected seen) seen) in
    attach_quiet (c.attach.ensures.told found.0 found.1).0 (look_calls seen) c.attach.result (g.D.Disk.view.told mid) (g.D.Disk.view.told c.attach.new.disk) (g.met.D.ArmedDisk.tells mid)
    (tells_revived (g.D.Disk.view.told c.args.disk.now) (g.D.Disk.view.told mid) c.requires.stopped c.revive.ensures.told) (c.attach.ensures.told found.0 found.1).2 c.attach.ensures.told_damaged

pub returns-in_err-attach-clause-never_stopped : goal.returns-in_err-attach-clause-never_stopped
returns-in_err-attach-clause-never_stopped g c is =
    let mid = c.revive.new.self in
    let seen = g.D.Disk.view.seen mid in
    let found = some_list (file_of (selected seen) seen) in
    attach_never (c.attach.ensures.told found.0 found.1).0 c.attach.result (g.D.Disk.view.told mid) (g.D.Disk.view.told c.attach.new.disk) (g.met.D.ArmedDisk.tells mid) (g.met.D.ArmedDisk.tells c.attach.new.disk)
    (tells_revived (g.D.Disk.view.told c.args.disk.now) (g.D.Disk.view.told mid) c.requires.stopped c.revive.ensures.told) (c.attach.ensures.told found.0 found.1).2
    (stopped_below c.in_err-attach.field-0.0 c.attach.result c.from_residual.result c.in_err-attach.was c.from_residual.ensures.1 is)

pub returns-in_err-attach-clause-unended : goal.returns-in_err-attach-clause-unended
returns-in_err-attach-clause-unended g c sure ends =
    let mid = c.revive.new.self in
    let seen = g.D.Disk.view.seen mid in
    let found = some_list (file_of (selected seen) seen) in
    reliable_never (c.attach.ensures.told found.0 found.1).0 c.attach.result (g.D.Disk.view.told mid) (g.D.Disk.view.told c.attach.new.disk)
    (revived_reliable (g.D.Disk.view.told c.args.disk.now) (g.D.Disk.view.told mid) c.requires.stopped sure c.revive.ensures.told) (c.attach.ensures.told found.0 found.1).2
    (ends_below c.in_err-attach.field-0.0 c.attach.result c.from_residual.result c.in_err-attach.was c.from_residual.ensures.1 ends)

pub returns-in_err-attach-clause-reliable : goal.returns-in_err-attach-clause-reliable
returns-in_err-attach-clause-reliable g c sure =
    let mid = c.revive.new.self in
    let seen = g.D.Disk.view.seen mid in
    let found = some_list (file_of (selected seen) seen) in
    let revived = reliable_unfailing (g.D.Disk.view.told mid) (revived_reliable (g.D.Disk.view.told c.args.disk.now) (g.D.Disk.view.told mid) c.requires.stopped sure c.revive.ensures.told) in
    quiet_reliable (g.D.Disk.view.told c.attach.new.disk) (g.met.D.ArmedDisk.tells c.attach.new.disk)
    (after_cant_fail c.from_residual.result (g.D.Disk.view.told c.attach.new.disk)
    (unfailing_below (c.attach.ensures.told found.0 found.1).0 (look_calls seen) c.in_err-attach.field-0.0 c.attach.result c.from_residual.result (g.D.Disk.view.told mid) (g.D.Disk.view.told c.attach.new.disk)
    c.in_err-attach.was c.from_residual.ensures.1 revived.0 (c.attach.ensures.told found.0 found.1).2 c.attach.ensures.told_damaged))
    (returns-in_err-attach-clause-quiet g c)

-- ---- it is attached

pub returns-clause-reliable : goal.returns-clause-reliable
returns-clause-reliable g c sure =
    let mid = c.revive.new.self in
    let found = c.in_ok-attach.ensures.stand in
    reliable_done (c.in_ok-attach.ensures.told found.bodies found.has).0 c.in_ok-attach.field-0 (g.D.Disk.view.told mid) (g.D.Disk.view.told c.attach.new.disk)
    (revived_reliable (g.D.Disk.view.told c.args.disk.now) (g.D.Disk.view.told mid) c.requires.stopped sure c.revive.ensures.told) (c.in_ok-attach.ensures.told found.bodies found.has).2

pub returns-clause-quiet : goal.returns-clause-quiet
returns-clause-quiet g c =
    let mid = c.revive.new.self in
    let seen = g.D.Disk.view.seen mid in
    let found = some_list (file_of (selected seen) seen) in
    attach_quiet (c.attach.ensures.told found.0 found.1).0 (look_calls seen) c.attach.result (g.D.Disk.view.told mid) (g.D.Disk.view.told c.attach.new.disk) (g.met.D.ArmedDisk.tells mid)
    (tells_revived (g.D.Disk.view.told c.args.disk.now) (g.D.Disk.view.told mid) c.requires.stopped c.revive.ensures.told) (c.attach.ensures.told found.0 found.1).2 c.attach.ensures.told_damaged

pub returns-clause-image : goal.returns-clause-image
returns-clause-image g c told is =
    let mid = c.revive.new.self in
    subst (λ (image : Image). FilesStand c.args.size c.in_ok-attach.field-0.1 image)
    (revived_seen (g.D.Disk.view.told c.args.disk.now) (g.D.Disk.view.told mid) told (g.D.Disk.view.seen mid) (g.met.D.ArmedDisk.tells mid) c.requires.stopped c.revive.ensures.told is (g.met.D.Disk.done_is_seen mid)) c.in_ok-attach.ensures.stand

pub returns-clause-area : goal.returns-clause-area
returns-clause-area g c told is none =
    let mid = c.revive.new.self in
    let same = revived_seen (g.D.Disk.view.told c.args.disk.now) (g.D.Disk.view.told mid) told (g.D.Disk.view.seen mid) (g.met.D.ArmedDisk.tells mid) c.requires.stopped c.revive.ensures.told is (g.met.D.Disk.done_is_seen mid) in
    c.in_ok-attach.ensures.area (λ selects. none (subst (SelectsFormat1 c.args.size) same selects)) ∙ ap selected same

pub returns-clause-either : goal.returns-clause-either
returns-clause-either g c before after honest recoverable =
    c.in_ok-attach.ensures.either before after (c.revive.ensures.honest.1 honest)
    (fewer_recoverable c.args.size before after (g.D.Disk.view.may_leave c.args.disk.now) (g.D.Disk.view.may_leave c.revive.new.self) (c.revive.ensures.no_new_image honest) recoverable)

pub returns-clause-recoverable : goal.returns-clause-recoverable
returns-clause-recoverable g c before after honest recoverable =
    c.attach.ensures.recoverable before after (c.revive.ensures.honest.1 honest)
    (fewer_recoverable c.args.size before after (g.D.Disk.view.may_leave c.args.disk.now) (g.D.Disk.view.may_leave c.revive.new.self) (c.revive.ensures.no_new_image honest) recoverable)

pub returns-clause-clean : goal.returns-clause-clean
returns-clause-clean g c =
    let mid = c.revive.new.self in
    let image = g.D.Disk.view.seen mid in
    let found = c.in_ok-attach.ensures.stand in
    let made = c.in_ok-attach.ensures.told found.bodies found.has in
    tells_attached c.args.size image found.bodies made.0 (area_of c.in_ok-attach.field-0.0) c.in_ok-attach.field-0 (g.D.Disk.view.told mid) (g.D.Disk.view.told c.attach.new.disk) (g.met.D.ArmedDisk.tells mid)
    made.1 made.2 c.in_ok-attach.ensures.clean
