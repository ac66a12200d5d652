-- Empty disks in memory.
use Rattle.std.proofs.Common.{◌≡◌, false, Some, ℕ, ◌+◌, List, [], ◌∷◌, ◌++◌, length, refl, sym, ap, ◌∙◌, subst, inl, inr}
use Rattle.std.specs.List.{Contains}
use Rattle.std.proofs.lemmas.List.{length_push}
use Rattle.std.proofs.lemmas.List.Elements.{Contains-push_cases}
use Rattle.disk_model.specs.Images.{Image, file_of}
use Rattle.disk_model.specs.MemDisk.{left_by, new_told, no_files, told_of}
use Rattle.disk_model.specs.declared.fault.FileNo.{FileNo}
use Rattle.disk_model.specs.declared.fault.FileNo.TheVariants.{Chooser, AreaA, AreaB}
use Rattle.disk_model.specs.declared.mem_disk.MemDisk.{MemDisk}
use Rattle.replica_node.specs.Reliable.{IsReliable}
use Rattle.script_play.specs.Play.{IsFreshMemDisk}

no_file : (file : FileNo) → file_of file no_files ≡ []
no_file Chooser = refl
no_file AreaA = refl
no_file AreaB = refl

-- a disk with three empty files
pub fresh : (disk : MemDisk) → ((image : Image) → left_by disk image → image ≡ no_files) → told_of disk ≡ Some (new_told false) → IsFreshMemDisk disk
fresh disk images told = record {
  trusted = tt;
  reliable = subst IsReliable (sym told) (record { runs = refl; unarmed = refl; unfailing = refl });
  empty = λ image left file. subst (λ (i : Image). file_of file i ≡ []) (sym (images image left)) (no_file file);
}

-- one disk more
pub fresh_push : (disks new : List MemDisk) (disk : MemDisk) (count : ℕ) → new ≡ disks ++ disk ∷ [] → length disks ≡ count
    → ((other : MemDisk) → Contains disks other → IsFreshMemDisk other) → IsFreshMemDisk disk
    → (length new ≡ count + 1) × ((other : MemDisk) → Contains new other → IsFreshMemDisk other)
fresh_push disks new disk count new_is count_is all is = (
  ap length new_is ∙ length_push disks disk ∙ ap (λ n. n + 1) count_is,
  λ other has. elim (Contains-push_cases disks disk other (subst (λ l. Contains l other) new_is has)) [
    | inl before ↦ all other before
    | inr same ↦ subst IsFreshMemDisk same is
  ],
)
