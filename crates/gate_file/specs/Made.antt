-- Which calls of its disk each call of a gated file makes.
use Rattle.std.specs.Prelude.{ℕ, ◌+◌, ◌*◌, ◌==◌, if◌then◌else◌, List, [], ◌∷◌, ◌++◌, get_or}
use Rattle.disk_model.specs.declared.fault.FileNo.{FileNo}
use Rattle.disk_model.specs.Made.{DiskCall, CutTo, SyncOf, synced_write}
use Rattle.gate_file.specs.Gates.{gated}

-- a sync before the bytes are read
abbrev pub read_calls : FileNo → List DiskCall
read_calls file = SyncOf file ∷ []

-- A closed gate after so many bodies, where no byte 0 stands there.
abbrev pub close_calls : FileNo → List ℕ → ℕ → List DiskCall
close_calls file bytes count = if get_or bytes (57 * count) 1 == 0 then [] else synced_write file (57 * count) (0 ∷ [])

-- a body after so many others, with a closed gate after it, and then its own gate
abbrev pub append_calls : FileNo → ℕ → List ℕ → List DiskCall
append_calls file count body = synced_write file (57 * count + 1) (body ++ 0 ∷ []) ++ synced_write file (57 * count) (1 ∷ [])

-- the bytes of a file that has these bodies and nothing else, in the place of what it had
abbrev pub rewrite_calls : FileNo → List (List ℕ) → List DiskCall
rewrite_calls file bodies = CutTo file 0 ∷ synced_write file 0 (gated bodies)
