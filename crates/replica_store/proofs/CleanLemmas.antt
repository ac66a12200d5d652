-- Which files are clean after the calls of a store, in what a disk tells, and so ready for a save.
use Rattle.std.proofs.Common.{◌≡◌, ◌≢◌, ℕ, ◌+◌, ◌*◌, ◌==◌, if◌then◌else◌, Bool, true, false, List, [], ◌∷◌, ◌++◌, length, map, get_or, Option, Some, None, refl, sym, ap, ◌∙◌, subst}
use Rattle.disk_model.specs.declared.armed.Arm.{Arm}
use Rattle.disk_model.specs.declared.fault.FileNo.{FileNo}
use Rattle.disk_model.specs.declared.fault.FileNo.TheVariants.{Chooser}
use Rattle.disk_model.specs.Images.{Image, file_of}
use Rattle.disk_model.specs.Made.{DiskCall, AllDone, synced_write}
use Rattle.disk_model.specs.Told.{Told, after_arm, after_disarm, after_revive, image_left}
use Rattle.disk_model.specs.View.{DiskView}
use Rattle.gate_file.specs.Gates.{HasRestingGate, gated}
use Rattle.gate_file.specs.Made.{append_calls}
use Rattle.paxos_base.specs.declared.durable.Delta.{Delta}
use Rattle.paxos_base.specs.declared.durable.Delta.TheVariants.{Tried, Promised, Voted, Base}
use Rattle.paxos_base.specs.declared.durable.Durable.{Durable}
use Rattle.store_format.specs.declared.body.Record.{Record}
use Rattle.store_format.specs.declared.body.Record.TheVariants as Item
use Rattle.store_format.specs.Area.{base_records}
use Rattle.store_format.specs.Order.{delta_record}
use Rattle.store_format.specs.Records.{record_bytes}
use Rattle.replica_store.specs.declared.store.Store.{Store}
use Rattle.replica_store.specs.Files.{selected, bit_of, other_area}
use Rattle.replica_store.specs.Kept.{IsClean, IsReady}
use Rattle.replica_store.specs.Made.{attach_calls, save_calls, area_after}
use Rattle.replica_store.specs.Store.{area_of, records_of, IsStoreAtRest}
use Rattle.replica_store.proofs.FileLemmas.{other_is_area, selects_area}
use Rattle.replica_store.proofs.MadeLemmas.{saves_record, stays_in_area}
use Rattle.replica_store.proofs.StoppedLemmas.{IsSynced, sync_clean, sync_cleans, synced_then, write_passed}

-- the chooser and an area are
abbrev AreClean : FileNo → Told → Type 0
AreClean area told = IsClean Chooser told × IsClean area told

-- a write that was synced, and what was done after it
write_first : (file : FileNo) (at : ℕ) (piece : List ℕ) (rest : List DiskCall) (old new : Told) → AllDone (synced_write file at piece ++ rest) old new → (mid : Told) × IsSynced file at piece old mid × AllDone rest mid new
write_first file at piece rest old new done = (done.2.0, synced_then file at piece old done.0 done.2.0 (write_passed file at piece old done.0 done.1) done.2.1, done.2.2)

-- a write to the area
area_written : (area : FileNo) (at : ℕ) (piece : List ℕ) (old new : Told) → area ≢ Chooser → AreClean area old → IsSynced area at piece old new → AreClean area new
area_written area at piece old new differs clean synced = (synced.others_clean Chooser (λ same. differs (sym same)) clean.0, synced.clean)

-- ---- an attach

close_clean : (closed : Bool) (area : FileNo) (at : ℕ) (old new : Told) → area ≢ Chooser → AreClean area old → AllDone (if closed then [] else synced_write area at (0 ∷ [])) old new → AreClean area new
close_clean true area at old new differs clean done = subst (AreClean area) (sym done) clean
close_clean false area at old new differs clean done =
    let first = write_first area at (0 ∷ []) [] old new done in
    subst (AreClean area) (sym first.2) (area_written area at (0 ∷ []) old first.0 differs clean first.1)

pub attached_clean : (image : Image) (count : ℕ) (old new : Told) → AllDone (attach_calls image count) old new → AreClean (selected image) new
attached_clean image count old new done =
    let area = selected image in
    let one = done.0 in
    let two = done.2.0 in
    close_clean (get_or (file_of area image) (57 * count) 1 == 0) area (57 * count) two new (selects_area image)
    (sync_clean area one two done.2.1 Chooser (λ same. selects_area image (sym same)) (sync_cleans Chooser old one done.1), sync_cleans area one two done.2.1) done.2.2

-- ---- a save

record_clean : (area : FileNo) (count : ℕ) (kept : Durable) (own : Option ℕ) (change : Delta) (item : Record) (old new : Told) → delta_record change ≡ Some item → area ≢ Chooser → AreClean area old → AllDone (save_calls area count kept own change) old new → AreClean (area_after change area) new
record_clean area count kept own change item old new is differs clean done =
    let body = record_bytes item in
    let calls : AllDone (append_calls area count body) old new = subst (λ list. AllDone list old new) (saves_record area count kept own change item is) done in
    let first = write_first area (57 * count + 1) (body ++ 0 ∷ []) (synced_write area (57 * count) (1 ∷ [])) old new calls in
    let second = write_first area (57 * count) (1 ∷ []) [] first.0 new first.2 in
    let after = area_written area (57 * count + 1) (body ++ 0 ∷ []) old first.0 differs clean first.1 in
    subst (λ file. AreClean file new) (sym (stays_in_area area change item is)) (subst (AreClean area) (sym second.2) (area_written area (57 * count) (1 ∷ []) first.0 second.0 differs after second.1))

pub saved_clean : (area : FileNo) (count : ℕ) (kept : Durable) (own : Option ℕ) (change : Delta) (old new : Told) → area ≢ Chooser → AreClean area old → AllDone (save_calls area count kept own change) old new → AreClean (area_after change area) new
saved_clean area count kept own (Tried ballot) old new differs clean done = record_clean area count kept own (Tried ballot) (Item.Tried ballot) old new refl differs clean done
saved_clean area count kept own (Promised ballot) old new differs clean done = record_clean area count kept own (Promised ballot) (Item.Promised ballot) old new refl differs clean done
saved_clean area count kept own (Voted vote) old new differs clean done = record_clean area count kept own (Voted vote) (Item.Voted vote) old new refl differs clean done
saved_clean area count kept own (Base slot rows) old new differs clean done =
    let bodies = map record_bytes (base_records kept own slot rows) in
    let bit = bit_of (other_area area) in
    let first = write_first (other_area area) 0 (gated bodies) (synced_write Chooser 0 (bit ∷ [])) done.0 new done.2 in
    let second = write_first Chooser 0 (bit ∷ []) [] first.0 new first.2 in
    subst (AreClean (other_area area)) (sym second.2) (second.1.clean, second.1.others_clean (other_area area) (other_is_area area) first.1.clean)

pub ready_clean : (area : FileNo) (records : List (List ℕ)) (kept : Durable) (own : Option ℕ) (change : Delta) (old new : Told) → IsReady area records old → AllDone (save_calls area (length records) kept own change) old new → AreClean (area_after change area) new
ready_clean area records kept own change old new ready done = saved_clean area (length records) kept own change old new (λ same. selects_area old.done (ready.selects ∙ same)) (ready.chooser, ready.area_clean) done

-- after an attach that saves a base
pub moved_clean : (image : Image) (count : ℕ) (kept : Durable) (own : Option ℕ) (change : Delta) (old mid new : Told) → AllDone (attach_calls image count) old mid → AllDone (save_calls (selected image) count kept own change) mid new
    → AreClean (area_after change (selected image)) new
moved_clean image count kept own change old mid new first second = saved_clean (selected image) count kept own change mid new (selects_area image) (attached_clean image count old mid first) second

-- ---- between two calls

pub rests_ready : {D : Type 0} (view : DiskView D) (disk : D) (store : Store) (told : Told) → IsStoreAtRest view disk store → told.done ≡ view.seen disk → told.stopped ≡ false
    → IsClean Chooser told → IsClean (area_of store) told → IsReady (area_of store) (records_of store) told
rests_ready view disk store told rests same runs chooser clean =
    record {
      runs = runs;
      selects = ap selected same ∙ rests.selects;
      chooser = chooser;
      area_clean = clean;
      at_rest = subst (λ image. HasRestingGate (file_of (area_of store) image) (records_of store)) (sym same) rests.gates.at_rest;
    }

arm_clean : (stopped : Bool) (arm : Option Arm) (file : FileNo) (told : Told) → IsClean file told → IsClean file (if stopped then told else record told { arm = arm })
arm_clean true arm file told clean = clean
arm_clean false arm file told clean = record { synced = clean.synced; untouched = clean.untouched }

pub armed_clean : (pass image : ℕ) (file : FileNo) (told : Told) → IsClean file told → IsClean file (after_arm pass image told)
armed_clean pass image file told clean = arm_clean told.stopped (Some (record { left = pass; image = image })) file told clean

pub disarmed_clean : (file : FileNo) (told : Told) → IsClean file told → IsClean file (after_disarm told)
disarmed_clean file told clean = arm_clean told.stopped None file told clean

pub revived_clean : (file : FileNo) (told : Told) → told.stopped ≡ true → IsClean file (after_revive told)
revived_clean file told stopped =
    subst (λ (b : Bool). IsClean file (if b then record told { arm = None; stopped = false; done = image_left told; synced = image_left told; touched = λ file place. false } else told))
    (sym stopped) (record { synced = refl; untouched = λ place. refl })
