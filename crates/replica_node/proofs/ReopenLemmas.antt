-- What a node says where it is reopened.
use Rattle.std.proofs.Common.{◌≡◌, ◌≢◌, ◌⊎◌, ℕ, List, Option, None, Some, refl, sym, ap, ◌∙◌, subst, inl, inr, arith}
use Rattle.std.proofs.lemmas.Option.{none-some, same_Some}
use Rattle.paxos_base.specs.declared.rows.TableSize.{TableSize}
use Rattle.due_set.specs.Table.{Table}
use Rattle.gate_file.specs.File.{bodies_of}
use Rattle.disk_model.specs.declared.armed.Arm.{Arm}
use Rattle.disk_model.specs.declared.fault.FileNo.{FileNo}
use Rattle.disk_model.specs.Images.{Image}
use Rattle.disk_model.specs.Told.{Told, image_left}
use Rattle.disk_model.specs.View.{DiskView}
use Rattle.paxos_base.specs.Durable.{after_delta}
use Rattle.paxos_base.specs.declared.durable.Delta.{Delta}
use Rattle.paxos_base.specs.declared.durable.Delta.TheVariants.{Tried, Promised, Voted, Base}
use Rattle.paxos_base.specs.declared.durable.Durable.{Durable}
use Rattle.paxos_base.specs.declared.rows.JobRow.{JobRow}
use Rattle.store_format.specs.Order.{ChangeMayFollow}
use Rattle.store_format.proofs.SoundLemmas.{StandFor-sound}
use Rattle.replica_core.specs.Commit.{kept_after}
use Rattle.replica_core.specs.Replica.{ReplicaState}
use Rattle.replica_core.specs.declared.replica.Planned.{Planned}
use Rattle.replica_store.specs.Files.{FilesStand, IsRecoverable, SelectsFormat1, selected}
use Rattle.replica_store.specs.Made.{area_after}
use Rattle.replica_store.specs.Store.{IsStoreAtRest, StoreKeeps, size_of_store}
use Rattle.replica_store.specs.declared.store.Store.{Store}
use Rattle.replica_store.proofs.FileLemmas.{files_stand_for_one, recoverable_stands}
use Rattle.replica_store.proofs.SaveLemmas.{rests_recoverable}
use Rattle.replica_node.specs.Change.{IsDecided}
use Rattle.replica_node.specs.Kept.{IsAnsweredByArm, IsKeptByArm, KeepsChange, LeavesByArm, area_for}
use Rattle.replica_node.specs.Stopped.{HasPlanned}
use Rattle.replica_node.proofs.ChangeLemmas.{decided_kept, decided_lost}
use Rattle.disk_model.proofs.DiskLemmas.{cases_file as same_file}

-- the step that was cut short is the one that was planned
pub planned_as : (table : Table) (replica : ReplicaState) (one other : Planned) (change : Delta) (held : Option Planned) → held ≡ Some one → held ≡ Some other → HasPlanned table replica other change → HasPlanned table replica one change
planned_as table replica one other change held first second planned = subst (λ (p : Planned). HasPlanned table replica p change) (same_Some other one (sym second ∙ first)) planned

pub change_or_none : (change : Delta) (found : Durable) (answer : Option Delta) → IsDecided change found answer → (answer ≡ Some change) ⊎ (answer ≡ None)
change_or_none change found answer (inl shown) = inl shown.1
change_or_none change found answer (inr hidden) = inr hidden.1

-- What was found, with the answer of a node that is reopened, and what its replica keeps then.
pub record Reopens (size : TableSize) (before found now : Durable) (change : Delta) (answer : Option Delta) : Type 0 where
  pub same : now ≡ found
  pub lost : answer ≡ None → found ≡ after_delta change before → ⊥

pub reopens : (size : TableSize) (before found now : Durable) (change : Delta) (answer : Option Delta) (store : Store) → StoreKeeps store found → ChangeMayFollow size before change → (found ≡ before) ⊎ (found ≡ after_delta change before) → IsDecided change found answer
    → now ≡ kept_after answer before → Reopens size before found now change answer
reopens size before found now change answer store keeps follows either decided kept =
    let rise = (StandFor-sound store.size (bodies_of store.gates) found keeps.0 keeps.1).votes_rise in
    record {
      same = kept ∙ sym (decided_kept size before found change rise follows either answer decided);
      lost = decided_lost size before found change rise follows either answer decided;
    }

-- a replica can go on from the disk with what its replica keeps
pub found_recoverable : {D : Type 0} (view : DiskView D) (disk : D) (store : Store) (size : TableSize) (found now : Durable) → IsStoreAtRest view disk store → StoreKeeps store found
    → size_of_store store ≡ size → now ≡ found → view.honest disk → IsRecoverable size now now (view.may_leave disk)
found_recoverable view disk store size found now rests keeps count same is =
    subst (λ (k : Durable). IsRecoverable size k k (view.may_leave disk)) (sym same)
    (subst (λ (n : TableSize). IsRecoverable n found found (view.may_leave disk)) count (rests_recoverable view disk store rests found keeps is))

pub found_stands : (size : TableSize) (now : Durable) (may_leave : Image → Type 0) (image : Image) → IsRecoverable size now now may_leave → may_leave image → FilesStand size now image
found_stands size now may_leave image recoverable left =
    elim (recoverable_stands size now now may_leave recoverable image left) [ inl before ↦ before | inr after ↦ after ]

pub not_both : (size : TableSize) (found now after : Durable) (image : Image) → now ≡ found → (found ≡ after → ⊥) → FilesStand size now image → FilesStand size after image → ⊥
not_both size found now after image same lost stand other = lost (sym same ∙ files_stand_for_one size image now after stand other)

-- ---- by the numbers of the arm

module _ (size : TableSize) (area : FileNo) (before found now : Durable) (change : Delta) (arm : Arm) (answer : Option Delta) (image : Image) (facts : Reopens size before found now change answer) (kept : now ≡ kept_after answer before)
    (stand : FilesStand size now image) (left : IsKeptByArm size area before change arm image) where
  is_change : KeepsChange area change arm → (answer ≡ Some change) ⊎ (answer ≡ None) → answer ≡ Some change
  is_change keeps (inl is) = is
  is_change keeps (inr none) =
      absurd (facts.lost none (sym facts.same ∙ files_stand_for_one size image now (after_delta change before) stand (left.saved keeps)))

  is_none : (KeepsChange area change arm → ⊥) → (answer ≡ Some change) ⊎ (answer ≡ None) → (answer ≡ None) ⊎ (after_delta change before ≡ before)
  is_none loses (inl is) =
      let after : now ≡ after_delta change before = kept ∙ ap (λ (a : Option Delta). kept_after a before) is in
      inr (sym after ∙ files_stand_for_one size image now before stand (left.lost loses))
  is_none loses (inr none) = inl none

  answer_by_arm : (answer ≡ Some change) ⊎ (answer ≡ None) → IsAnsweredByArm area before change arm answer
  answer_by_arm either =
      record {
        saved = λ keeps. is_change keeps either;
        lost = λ loses. is_none loses either;
      }

pub tells_answer : (size : TableSize) (area : FileNo) (before found now : Durable) (change : Delta) (arm : Arm) (answer : Option Delta) (told : Option Told) → Reopens size before found now change answer → now ≡ kept_after answer before
    → ((one : Told) → told ≡ Some one → FilesStand size now (image_left one)) → (answer ≡ Some change) ⊎ (answer ≡ None) → LeavesByArm size area before change arm told → IsAnsweredByArm area before change arm answer
tells_answer size area before found now change arm answer None facts kept stand either left = absurd left
tells_answer size area before found now change arm answer (Some told) facts kept stand either left = answer_by_arm size area before found now change arm answer (image_left told) facts kept (stand told refl) left either

-- a change that alters what was kept is answered where the disk keeps it, and nowhere else
pub lost_answer : (area : FileNo) (kept : Durable) (change : Delta) (arm : Arm) (answer : Option Delta) → IsAnsweredByArm area kept change arm answer → (after_delta change kept ≡ kept → ⊥) → (KeepsChange area change arm → ⊥) → answer ≡ None
lost_answer area kept change arm answer answered alters loses = elim (answered.lost loses) [ inl none ↦ none | inr same ↦ absurd (alters same) ]

-- ---- the area that is in use then

base_alters : (size : TableSize) (slot : ℕ) (rows : List JobRow) (kept : Durable) → ChangeMayFollow size kept (Base slot rows) → after_delta (Base slot rows) kept ≡ kept → ⊥
unfolding after_delta
base_alters size slot rows kept follows same =
    let higher = follows.0 in
    let equal : slot ≡ kept.base = ap (λ (k : Durable). k.base) same in
    omega (arith, higher, equal)

module _ (size : TableSize) (area : FileNo) (kept : Durable) (arm : Arm) (image : Image) where
  -- a change that was answered, and that alters nothing where the disk doesn't keep it: a base alters what is kept
  answered_area : (change : Delta) → ChangeMayFollow size kept change → IsKeptByArm size area kept change arm image → ((KeepsChange area change arm → ⊥) → after_delta change kept ≡ kept)
      → (selected image ≡ area_after change area) ⊎ (selected image ≢ area_after change area) → selected image ≡ area_after change area
  answered_area change follows left same (inl is) = is
  answered_area (Tried ballot) follows left same (inr not_so) = left.lost_area (λ keeps. not_so (left.saved_area keeps))
  answered_area (Promised ballot) follows left same (inr not_so) = left.lost_area (λ keeps. not_so (left.saved_area keeps))
  answered_area (Voted vote) follows left same (inr not_so) = left.lost_area (λ keeps. not_so (left.saved_area keeps))
  answered_area (Base slot rows) follows left same (inr not_so) = absurd (base_alters size slot rows kept follows (same (λ keeps. not_so (left.saved_area keeps))))

  image_area : (change : Delta) (answer : Option Delta) → ChangeMayFollow size kept change → IsKeptByArm size area kept change arm image → IsAnsweredByArm area kept change arm answer → (answer ≡ Some change) ⊎ (answer ≡ None)
      → selected image ≡ area_for answer area
  image_area change answer follows left answered (inl is) =
      let same : (KeepsChange area change arm → ⊥) → after_delta change kept ≡ kept = λ loses. elim (answered.lost loses) [ inl none ↦ absurd (none-some change (sym none ∙ is)) | inr same ↦ same ] in
      subst (λ (a : Option Delta). selected image ≡ area_for a area) (sym is) (answered_area change follows left same (same_file (selected image) (area_after change area)))
  image_area change answer follows left answered (inr none) =
      subst (λ (a : Option Delta). selected image ≡ area_for a area) (sym none) (left.lost_area (λ keeps. absurd (none-some change (sym none ∙ answered.saved keeps))))

pub tells_area : (size : TableSize) (area : FileNo) (kept : Durable) (change : Delta) (arm : Arm) (answer : Option Delta) (told : Option Told) (seen : FileNo) → ChangeMayFollow size kept change → LeavesByArm size area kept change arm told
    → IsAnsweredByArm area kept change arm answer → (answer ≡ Some change) ⊎ (answer ≡ None)
    → ((one : Told) → told ≡ Some one → (SelectsFormat1 size (image_left one) → ⊥) → seen ≡ selected (image_left one)) → seen ≡ area_for answer area
tells_area size area kept change arm answer None seen follows left answered either is = absurd left
tells_area size area kept change arm answer (Some told) seen follows left answered either is =
    is told refl left.format ∙ image_area size area kept arm (image_left told) change answer follows left answered either
