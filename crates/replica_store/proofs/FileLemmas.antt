-- The three files: which one is selected, and what they stand for.
use Rattle.std.proofs.Common.{◌≡◌, ◌≢◌, inl, inr, ⊎_elim, ℕ, ◌%◌, ◌==◌, Bool, true, false, if◌then◌else◌, List, [], ◌∷◌, ◌++◌, get_or, Option, None, Some, IfSome, IsSomeAnd, refl, sym, ap, ◌∙◌, subst}
use Rattle.paxos_base.specs.declared.rows.TableSize.{TableSize}
use Rattle.disk_model.specs.declared.fault.FileNo.{FileNo}
use Rattle.disk_model.specs.declared.fault.FileNo.TheVariants.{Chooser, AreaA, AreaB}
use Rattle.disk_model.specs.Images.{Image, file_of, HoldsPiece}
use Rattle.gate_file.specs.Gates.{HasBodies, IsStaged}
use Rattle.gate_file.proofs.GateLemmas.{one_list, staged_has, staged_empty}
use Rattle.paxos_base.specs.declared.durable.Durable.{Durable}
use Rattle.store_format.specs.Area.{fresh_kept}
use Rattle.store_format.proofs.BodyLemmas.{StandFor-same}
use Rattle.store_format.proofs.LogLemmas.{IsChangeLog-nil}
use Rattle.replica_store.specs.Files.{selected, selected_by, bit_of, other_area, BodiesStand, BodiesStandForEither, FilesStand, FilesStandForEither, IsAreaStaged, IsRecoverable}
use Rattle.disk_model.proofs.DiskLemmas.{cases_file as same_file}

not_chooser : (odd : Bool) → (if odd then AreaB else AreaA) ≢ Chooser
not_chooser true is = absurd (cc is)
not_chooser false is = absurd (cc is)

-- the chooser never selects itself
pub selects_area : (image : Image) → selected image ≢ Chooser
selects_area image = not_chooser (get_or image.chooser 0 0 % 2 == 1)

pub other_differs : (area : FileNo) → area ≢ Chooser → other_area area ≢ area
other_differs Chooser area is = area refl
other_differs AreaA area is = absurd (cc is)
other_differs AreaB area is = absurd (cc is)

pub other_is_area : (area : FileNo) → other_area area ≢ Chooser
other_is_area Chooser is = absurd (cc is)
other_is_area AreaA is = absurd (cc is)
other_is_area AreaB is = absurd (cc is)

pub byte_selects : (area : FileNo) → area ≢ Chooser → selected_by (bit_of area) ≡ area
byte_selects Chooser area = absurd (area refl)
byte_selects AreaA area = refl
byte_selects AreaB area = refl

-- with the same chooser the same area is selected
pub same_chooser : (one other : Image) → file_of Chooser one ≡ file_of Chooser other → selected one ≡ selected other
same_chooser one other is = ap (λ bytes. selected_by (get_or bytes 0 0)) is

-- ---- what the files stand for

pub bodies_stand_for_one : (size : TableSize) (bodies : List (List ℕ)) (one other : Durable) → BodiesStand size bodies one → BodiesStand size bodies other → one ≡ other
bodies_stand_for_one size bodies one other first second = (StandFor-same size bodies one other first.0 second.0 first.1 second.1).0

pub files_stand_for_one : (size : TableSize) (image : Image) (one other : Durable) → FilesStand size one image → FilesStand size other image → one ≡ other
files_stand_for_one size image one other first second =
    bodies_stand_for_one size second.bodies one other
    (subst (λ bodies. BodiesStand size bodies one) (one_list (file_of (selected image) image) first.bodies second.bodies first.has second.has) first.stand) second.stand

module _ (size : TableSize) (before after : Durable) where
  pub either_stands : (image : Image) (bodies : List (List ℕ)) → HasBodies (file_of (selected image) image) bodies → BodiesStandForEither size before after bodies → FilesStandForEither size before after image
  either_stands image bodies has stand =
      ⊎_elim (λ was. inl (record { bodies = bodies; has = has; stand = was })) (λ is. inr (record { bodies = bodies; has = has; stand = is })) stand

  pending_stands : (image : Image) (bodies : List (List ℕ)) (pending : Option (List ℕ)) → IsSomeAnd pending (λ body. HasBodies (file_of (selected image) image) (bodies ++ body ∷ []))
      → IfSome pending (λ body. BodiesStandForEither size before after (bodies ++ body ∷ [])) → FilesStandForEither size before after image
  pending_stands image bodies None has stand = absurd has
  pending_stands image bodies (Some body) has stand = either_stands image (bodies ++ body ∷ []) has stand

  -- an image whose selected area is staged
  pub staged_stands : (file : FileNo) (may_leave : Image → Type 0) → IsAreaStaged size before after file may_leave → (image : Image) → may_leave image → selected image ≡ file → FilesStandForEither size before after image
  staged_stands file may_leave staged image left is =
      let here : IsStaged staged.bodies staged.pending (file_of (selected image) image) = subst (λ f. IsStaged staged.bodies staged.pending (file_of f image)) (sym is) (staged.staged image left) in
      ⊎_elim
      (λ has. either_stands image staged.bodies has staged.without)
      (λ has. pending_stands image staged.bodies staged.pending has staged.with_it)
      (staged_has (file_of (selected image) image) staged.bodies staged.pending here)

  -- whatever is left stands for one of the two
  pub recoverable_stands : (may_leave : Image → Type 0) → IsRecoverable size before after may_leave → (image : Image) → may_leave image → FilesStandForEither size before after image
  recoverable_stands may_leave recoverable image left =
      ⊎_elim
      (λ never. absurd (never image left refl))
      (λ staged. staged_stands (selected image) may_leave staged image left refl)
      (recoverable (selected image))

  fewer_staged : (old new : Image → Type 0) (file : FileNo) → ((image : Image) → new image → old image) → IsAreaStaged size before after file old → IsAreaStaged size before after file new
  fewer_staged old new file fewer staged =
      record { bodies = staged.bodies; pending = staged.pending; staged = λ image left. staged.staged image (fewer image left); without = staged.without; with_it = staged.with_it }

  -- so does what leaves fewer images
  pub fewer_recoverable : (old new : Image → Type 0) → ((image : Image) → new image → old image) → IsRecoverable size before after old → IsRecoverable size before after new
  fewer_recoverable old new fewer recoverable file =
      ⊎_elim
      (λ never. inl (λ image left. never image (fewer image left)))
      (λ staged. inr (fewer_staged old new file fewer staged))
      (recoverable file)

  -- one area alone may be selected
  pub one_area : (may_leave : Image → Type 0) (area : FileNo) → ((image : Image) → may_leave image → selected image ≡ area) → IsAreaStaged size before after area may_leave → IsRecoverable size before after may_leave
  one_area may_leave area selects staged file =
      ⊎_elim
      (λ same. inr (subst (λ f. IsAreaStaged size before after f may_leave) (sym same) staged))
      (λ differs. inl (λ image left is. differs (sym is ∙ selects image left)))
      (same_file file area)

  both_areas : (may_leave : Image → Type 0) → IsAreaStaged size before after AreaA may_leave → IsAreaStaged size before after AreaB may_leave → IsRecoverable size before after may_leave
  both_areas may_leave one other Chooser = inl (λ image left. selects_area image)
  both_areas may_leave one other AreaA = inr one
  both_areas may_leave one other AreaB = inr other

  -- either area may be selected
  pub two_areas : (may_leave : Image → Type 0) (area : FileNo) → area ≢ Chooser → IsAreaStaged size before after area may_leave → IsAreaStaged size before after (other_area area) may_leave → IsRecoverable size before after may_leave
  two_areas may_leave Chooser differs one other = absurd (differs refl)
  two_areas may_leave AreaA differs one other = both_areas may_leave one other
  two_areas may_leave AreaB differs one other = both_areas may_leave other one

  -- what the area of a file that is read stands for
  pub selected_staged : (may_leave : Image → Type 0) (image : Image) → IsRecoverable size before after may_leave → may_leave image → IsAreaStaged size before after (selected image) may_leave
  selected_staged may_leave image recoverable left = ⊎_elim (λ never. absurd (never image left refl)) (λ staged. staged) (recoverable (selected image))

-- a byte that was written to the chooser selects its area
pub byte_written : (area : FileNo) (old new : Image) → area ≢ Chooser → HoldsPiece 0 (bit_of area ∷ []) (file_of Chooser old) (file_of Chooser new) → selected new ≡ area
byte_written area old new differs holds = ap (λ bytes. selected_by (get_or bytes 0 0)) holds ∙ byte_selects area differs

-- ---- empty files

fresh_stand : (size : TableSize) → BodiesStand size [] (fresh_kept size)
fresh_stand size = (None, record { items = []; are_records = tt; stands = inl (IsChangeLog-nil size (fresh_kept size)); own_is = refl })

has_none : HasBodies [] []
has_none = ⊎_elim (λ has. has) (λ some. absurd some) (staged_has [] [] None (staged_empty None))

pub empty_stands : (size : TableSize) (image : Image) → ((file : FileNo) → file_of file image ≡ []) → FilesStand size (fresh_kept size) image
empty_stands size image empty = record { bodies = []; has = subst (λ bytes. HasBodies bytes []) (sym (empty (selected image))) has_none; stand = fresh_stand size }

pub empty_recoverable : (size : TableSize) (may_leave : Image → Type 0) → ((image : Image) → may_leave image → (file : FileNo) → file_of file image ≡ []) → IsRecoverable size (fresh_kept size) (fresh_kept size) may_leave
empty_recoverable size may_leave empty file =
    inr (record {
      bodies = [];
      pending = None;
      staged = λ image left. subst (IsStaged [] None) (sym (empty image left file)) (staged_empty None);
      without = inl (fresh_stand size);
      with_it = tt;
    })

-- ---- what was read

module _ (size : TableSize) (before after : Durable) where
  -- bodies that were read stand for what the files stand for
  pub read_stands : (image : Image) (bodies : List (List ℕ)) → HasBodies (file_of (selected image) image) bodies → FilesStandForEither size before after image → BodiesStandForEither size before after bodies
  read_stands image bodies has stands =
      ⊎_elim
      (λ was. inl (subst (λ found. BodiesStand size found before) (one_list (file_of (selected image) image) was.bodies bodies was.has has) was.stand))
      (λ is. inr (subst (λ found. BodiesStand size found after) (one_list (file_of (selected image) image) is.bodies bodies is.has has) is.stand))
      stands
