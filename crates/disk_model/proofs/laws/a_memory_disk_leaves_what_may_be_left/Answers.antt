use Rattle.std.proofs.Common.{◌≡◌, sym, subst}
use Rattle.disk_model.specs.Calls.{told_by}
use Rattle.disk_model.specs.Told.{MayBeLeft}
use Rattle.disk_model.proofs.ToldLemmas.{left_is_told, told_is_left}
use Rattle.disk_model.proofs.laws.a_memory_disk_leaves_what_may_be_left.Goals as goal

pub returns : goal.returns
returns c disk told image is =
    let same : told_by disk.calls disk.files ≡ told = cc is in (
      (λ left. subst (λ now. MayBeLeft now image) same (left_is_told disk.calls disk.files image left)),
      (λ left. told_is_left disk.calls disk.files image (subst (λ now. MayBeLeft now image) (sym same) left)),
    )
