-- An area that begins with a base of format 1, and what is kept once a base of it was saved.
use Rattle.std.proofs.Common.{◌≡◌, ◌⊎◌, inl, inr, ⊎_elim, ℕ, Bool, true, false, List, [], ◌∷◌, ◌++◌, Option, None, Some, sym, ◌∙◌, subst}
use Rattle.std.specs.Prelude.{IfSome, IsTrue}
use Rattle.std.proofs.lemmas.Bool.{false≢true}
use Rattle.disk_model.specs.declared.fault.FileNo.{FileNo}
use Rattle.disk_model.specs.Images.{Image, file_of}
use Rattle.disk_model.specs.View.{DiskView, LeavesOnly}
use Rattle.disk_model.proofs.CallerLemmas.{leaves_weaker}
use Rattle.gate_file.specs.File.{bodies_of}
use Rattle.gate_file.specs.Gates.{HasBodies}
use Rattle.gate_file.proofs.GateLemmas.{has_at_rest, one_list}
use Rattle.paxos_base.specs.declared.rows.TableSize.{TableSize}
use Rattle.paxos_base.specs.declared.durable.Delta.TheVariants.{Base}
use Rattle.paxos_base.specs.declared.durable.Durable.{Durable}
use Rattle.paxos_base.specs.Durable.{after_delta}
use Rattle.store_format.specs.Area.{BeginsInFormat1}
use Rattle.store_format.proofs.FormatLemmas.{same_base}
use Rattle.store_format.proofs.SoundLemmas.{StandFor-sound}
use Rattle.replica_store.specs.declared.store.Store.{Store}
use Rattle.replica_store.specs.Files.{selected, BodiesStand, BodiesStandForEither, FilesStand, FilesStandForEither, IsAreaStaged, IsRecoverable, SelectsFormat1}
use Rattle.replica_store.specs.Store.{IsInFormat2, IsStoreAtRest, StoreKeeps}
use Rattle.replica_store.proofs.SaveLemmas.{two_runs}

-- what the test of an area's bodies says, where it failed
pub tested_no : (size : TableSize) (bodies shown : List (List ℕ)) (test : Bool) → shown ≡ bodies → (BeginsInFormat1 size shown → IsTrue test) → test ≡ false → BeginsInFormat1 size bodies → ⊥
tested_no size bodies shown test same gives is_not begins = false≢true (sym is_not ∙ gives (subst (BeginsInFormat1 size) (sym same) begins))

-- and where it didn't
pub tested_yes : (size : TableSize) (bodies shown : List (List ℕ)) (test : Bool) → shown ≡ bodies → (IsTrue test → BeginsInFormat1 size shown) → test ≡ true → BeginsInFormat1 size bodies
tested_yes size bodies shown test same gives is = subst (BeginsInFormat1 size) same (gives is)

-- the selected area has these bodies, and they don't begin with a base of format 1
pub not_selected : (size : TableSize) (image : Image) (bodies : List (List ℕ)) → HasBodies (file_of (selected image) image) bodies → (BeginsInFormat1 size bodies → ⊥) → SelectsFormat1 size image → ⊥
not_selected size image bodies has none selects =
    none (subst (BeginsInFormat1 size) (one_list (file_of (selected image) image) selects.0 bodies selects.1 has) selects.2)

pub rests_has : {D : Type 0} (view : DiskView D) (disk : D) (store : Store) → IsStoreAtRest view disk store → HasBodies (file_of (selected (view.seen disk)) (view.seen disk)) (bodies_of store.gates)
rests_has view disk store rests =
    subst (λ file. HasBodies (file_of file (view.seen disk)) (bodies_of store.gates)) (sym rests.selects) (has_at_rest _ (bodies_of store.gates) rests.gates.at_rest)

-- the files of a store at rest
pub rests_in_format_2 : {D : Type 0} (view : DiskView D) (disk : D) (store : Store) → IsStoreAtRest view disk store → IsInFormat2 store → SelectsFormat1 store.size (view.seen disk) → ⊥
rests_in_format_2 view disk store rests none = not_selected store.size (view.seen disk) (bodies_of store.gates) (rests_has view disk store rests) none

-- a base at the slot and with the rows that are kept brings the same state
pub kept_again : (size : TableSize) (bodies : List (List ℕ)) (kept : Durable) → BodiesStand size bodies kept → after_delta (Base kept.base kept.rows) kept ≡ kept
kept_again size bodies kept stand = same_base kept stand.0 (StandFor-sound size bodies kept stand.0 stand.1)

-- what stands for a state stands for one of two, of which it is one
module _ (size : TableSize) (before after kept : Durable) (is : (kept ≡ before) ⊎ (kept ≡ after)) where
  files_as : (image : Image) → FilesStand size kept image → FilesStandForEither size before after image
  files_as image stand = ⊎_elim (λ same. inl (subst (λ k. FilesStand size k image) same stand)) (λ same. inr (subst (λ k. FilesStand size k image) same stand)) is

  pub either_as : (image : Image) → FilesStandForEither size kept kept image → FilesStandForEither size before after image
  either_as image stand = ⊎_elim (λ one. files_as image one) (λ one. files_as image one) stand

  bodies_as_one : (bodies : List (List ℕ)) → BodiesStand size bodies kept → BodiesStandForEither size before after bodies
  bodies_as_one bodies stand = ⊎_elim (λ same. inl (subst (BodiesStand size bodies) same stand)) (λ same. inr (subst (BodiesStand size bodies) same stand)) is

  bodies_as : (bodies : List (List ℕ)) → BodiesStandForEither size kept kept bodies → BodiesStandForEither size before after bodies
  bodies_as bodies stand = ⊎_elim (λ one. bodies_as_one bodies one) (λ one. bodies_as_one bodies one) stand

  pending_as : (bodies : List (List ℕ)) (pending : Option (List ℕ)) → IfSome pending (λ body. BodiesStandForEither size kept kept (bodies ++ body ∷ []))
      → IfSome pending (λ body. BodiesStandForEither size before after (bodies ++ body ∷ []))
  pending_as bodies None stand = tt
  pending_as bodies (Some body) stand = bodies_as (bodies ++ body ∷ []) stand

  staged_as : (file : FileNo) (left : Image → Type 0) → IsAreaStaged size kept kept file left → IsAreaStaged size before after file left
  staged_as file left staged =
      record {
        bodies = staged.bodies;
        pending = staged.pending;
        staged = staged.staged;
        without = bodies_as staged.bodies staged.without;
        with_it = pending_as staged.bodies staged.pending staged.with_it;
      }

  pub recoverable_as : (left : Image → Type 0) → IsRecoverable size kept kept left → IsRecoverable size before after left
  recoverable_as left recoverable file = ⊎_elim (λ never. inl never) (λ staged. inr (staged_as file left staged)) (recoverable file)

  -- whatever a stop within the save of that base leaves
  pub run_as : {D : Type 0} (view : DiskView D) (old new : D) → LeavesOnly view old new (FilesStandForEither size kept kept) → LeavesOnly view old new (FilesStandForEither size before after)
  run_as view old new run = leaves_weaker view old new (FilesStandForEither size kept kept) (FilesStandForEither size before after) run either_as

-- a base of what a store keeps was saved, which is one of two states
module _ {D : Type 0} (view : DiskView D) (size : TableSize) (before after kept : Durable) (store : Store) (is_size : store.size ≡ size) (keeps : StoreKeeps store kept) (is : (kept ≡ before) ⊎ (kept ≡ after)) where
  same_kept : after_delta (Base kept.base kept.rows) kept ≡ kept
  same_kept = kept_again store.size (bodies_of store.gates) kept keeps

  pub migrated_run : (old mid new : D) → LeavesOnly view old mid (FilesStandForEither size before after) → LeavesOnly view mid new (FilesStandForEither store.size kept (after_delta (Base kept.base kept.rows) kept))
      → LeavesOnly view old new (FilesStandForEither size before after)
  migrated_run old mid new first second =
      let one : LeavesOnly view mid new (FilesStandForEither store.size kept kept) = subst (λ (k : Durable). LeavesOnly view mid new (FilesStandForEither store.size kept k)) same_kept second in
      let sized : LeavesOnly view mid new (FilesStandForEither size kept kept) = subst (λ (s : TableSize). LeavesOnly view mid new (FilesStandForEither s kept kept)) is_size one in
      two_runs view size before after old mid new first (run_as size before after kept is view mid new sized)

  pub migrated_recoverable : (left : Image → Type 0) → IsRecoverable store.size kept (after_delta (Base kept.base kept.rows) kept) left → IsRecoverable size before after left
  migrated_recoverable left recoverable =
      let one : IsRecoverable store.size kept kept left = subst (λ (k : Durable). IsRecoverable store.size kept k left) same_kept recoverable in
      recoverable_as size before after kept is left (subst (λ (s : TableSize). IsRecoverable s kept kept left) is_size one)
