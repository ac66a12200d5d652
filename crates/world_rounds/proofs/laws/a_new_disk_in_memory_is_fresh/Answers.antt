use Rattle.std.proofs.Common.{◌≡◌, [], refl, sym, ap, ◌∙◌, subst}
use Rattle.disk_model.specs.Images.{file_of}
use Rattle.disk_model.specs.MemDisk.{no_files}
use Rattle.disk_model.specs.declared.fault.FileNo.{FileNo}
use Rattle.disk_model.specs.declared.fault.FileNo.TheVariants.{AreaA, AreaB, Chooser}
use Rattle.replica_node.specs.Reliable.{IsReliable}
use Rattle.world_rounds.proofs.laws.a_new_disk_in_memory_is_fresh.Goals as goal

no_bytes : (file : FileNo) → file_of file no_files ≡ []
no_bytes Chooser = refl
no_bytes AreaA = refl
no_bytes AreaB = refl

pub returns : goal.returns
returns c disk images told = record {
  trusted = tt;
  reliable = subst IsReliable (sym told) (record { runs = refl; unarmed = refl; unfailing = refl });
  empty = λ image left file. ap (file_of file) (images image left) ∙ no_bytes file;
}
