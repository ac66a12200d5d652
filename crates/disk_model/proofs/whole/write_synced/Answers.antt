use Rattle.std.proofs.Common.{length}
use Rattle.disk_model.specs.Images.{file_of, Torn}
use Rattle.disk_model.proofs.RunLemmas.{torn_images, write_leaves, still_leaves}
use Rattle.disk_model.proofs.whole.write_synced.Goals as goal

pub returns-in_err-write_at-clause-images : goal.returns-in_err-write_at-clause-images
returns-in_err-write_at-clause-images g c honest =
    let old = c.args.disk.now in
    write_leaves g.D.Disk.view old c.write_at.new.self (g.D.Disk.view.seen old) c.args.file c.args.at (length c.args.bytes.now) (λ image left. g.met.D.Disk.only_now old image honest left) (c.requires.durable honest) (c.write_at.ensures.images honest) (c.write_at.ensures.time honest)

pub returns-clause-images : goal.returns-clause-images
returns-clause-images g c honest =
    let old = c.args.disk.now in
    let mid = c.write_at.new.self in
    let still = c.write_at.ensures.honest.1 honest in
    let written = write_leaves g.D.Disk.view old mid (g.D.Disk.view.seen old) c.args.file c.args.at (length c.args.bytes.now) (λ image left. g.met.D.Disk.only_now old image honest left) (c.requires.durable honest) (c.write_at.ensures.images honest) (c.write_at.ensures.time honest) in
    let torn = torn_images g.D.Disk.view old mid (g.D.Disk.view.seen old) c.args.file c.args.at (length c.args.bytes.now) (c.requires.durable honest) (c.write_at.ensures.images honest) in
    still_leaves g.D.Disk.view old mid c.sync.new.self c.args.file (Torn c.args.at (length c.args.bytes.now) (file_of c.args.file (g.D.Disk.view.seen old))) written torn (c.sync.ensures.images still) (c.sync.ensures.time still)
