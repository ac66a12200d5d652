use Rattle.std.proofs.Common.{inl, refl}
use Rattle.replica_store.specs.Files.{selected}
use Rattle.replica_store.proofs.ImageLemmas.{at_rest_alone}
use Rattle.replica_store.proofs.laws.synced_files_are_recoverable.Goals as goal

pub returns : goal.returns
returns g c disk size records kept chooser area rest stand =
    at_rest_alone size kept kept (g.D.Disk.view.seen disk) (g.D.Disk.view.may_leave disk) (selected (g.D.Disk.view.seen disk)) records refl chooser area rest (inl stand)
