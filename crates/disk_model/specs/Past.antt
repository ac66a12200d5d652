-- A disk in memory by the moments that it had.
use Rattle.std.specs.Prelude.{[], ◌∷◌, length, drop}
use mathlib.Core.Logic.{inl, inr}
use Rattle.disk_model.specs.declared.mem_files.MemFiles.{MemFiles}
use Rattle.disk_model.specs.Images.{Image}
use Rattle.disk_model.specs.Files.{IsImageIn, History, HadImage, LeftSince}

-- from the number of the present moment on there is no earlier one at which a stop might have left an image
none_left : (history : History) (image : Image) → HadImage (drop (length history) history) image → ⊥
none_left [] image had = had
none_left (_ ∷ history) image had = none_left history image had

-- since the last of them there is what is there now
pub only_now : (history : History) (now : MemFiles) (image : Image) → LeftSince history now (length history) image → IsImageIn now image
only_now history now image (inl here) = here
only_now history now image (inr had) = absurd (none_left history image had)
