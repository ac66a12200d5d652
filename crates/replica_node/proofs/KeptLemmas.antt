-- A node's disk stays clean through its calls, and the numbers of its arm say whether a change is kept.
use Rattle.std.proofs.Common.{◌≡◌, ◌⊎◌, ℕ, false, ◌<◌, ◌≤◌, ◌%◌, ◌-◌, ◌/◌, Option, None, Some, List, Ok, Err, ◌++◌, length, map, refl, sym, ◌∙◌, subst, inl, inr, arith}
use Rattle.std.specs.Prelude.{IsSome, IsSomeAnd}
use Rattle.std.proofs.lemmas.Bool.{cases_order, eq-eqb, ne_eqb, cases_lt}
use Rattle.std.proofs.lemmas.Nat.{mod_below}
use Rattle.paxos_base.specs.declared.rows.TableSize.{TableSize}
use Rattle.disk_model.specs.declared.armed.Arm.{Arm}
use Rattle.disk_model.specs.declared.fault.DiskFault.TheVariants as Disk
use Rattle.disk_model.specs.declared.fault.FileNo.{FileNo}
use Rattle.disk_model.specs.declared.fault.FileNo.TheVariants.{AreaA, AreaB, Chooser}
use Rattle.disk_model.specs.Images.{Image}
use Rattle.disk_model.specs.Made.{AllDone, DiskCall, MadeCalls}
use Rattle.disk_model.specs.Told.{TellsThen, Told, after_arm, after_disarm, image_left}
use Rattle.disk_model.specs.View.{DiskView}
use Rattle.disk_model.proofs.StopLemmas.{all_pass, all_run, stops_at}
use Rattle.paxos_base.specs.Durable.{after_delta}
use Rattle.paxos_base.specs.declared.durable.Delta.{Delta}
use Rattle.paxos_base.specs.declared.durable.Delta.TheVariants.{Tried, Promised, Voted, Base}
use Rattle.paxos_base.specs.declared.durable.Durable.{Durable}
use Rattle.paxos_base.specs.declared.rows.JobRow.{JobRow}
use Rattle.store_format.specs.Area.{StandFor, base_records}
use Rattle.store_format.specs.Order.{ChangeMayFollow, delta_record}
use Rattle.store_format.specs.Records.{AreRecords, IsRecord, record_bytes}
use Rattle.store_format.specs.declared.body.Record.{Record}
use Rattle.store_format.specs.declared.body.Record.TheVariants as Item
use Rattle.replica_store.specs.Faults as stored
use Rattle.replica_store.specs.Files.{other_area, selected, selected_by}
use Rattle.replica_store.specs.Kept.{IsClean, IsReady, Shows, StopsInSave}
use Rattle.replica_store.specs.Made.{AreAttachCalls, area_after, attach_calls, save_calls}
use Rattle.replica_store.specs.Store.{IsInFormat2, IsStoreAtRest, area_of, size_of_store, records_of}
use Rattle.replica_store.specs.declared.fault.StoreFault.{StoreFault}
use Rattle.replica_store.specs.declared.fault.StoreFault.TheVariants as Store
use Rattle.replica_store.specs.declared.store.Store.{Store as AStore}
use Rattle.replica_store.proofs.BaseLemmas.{base_early, base_kept, base_lost}
use Rattle.replica_store.proofs.CleanLemmas.{armed_clean, disarmed_clean, ready_clean, rests_ready}
use Rattle.replica_store.proofs.KeptLemmas.{StandsIn, record_early, record_kept, record_lost}
use Rattle.replica_node.specs.Faults.{of_disk_answer}
use Rattle.replica_node.specs.Kept.{IsKeptByArm, IsAreaSynced, KeepsChange, LeavesByArm, calls_of_change}
use Rattle.replica_node.specs.Node.{disk_calls_for}
use Rattle.replica_node.specs.declared.fault.NodeFault.TheVariants as Node
use Rattle.replica_node.specs.declared.node.Node.{Node as ANode}

-- ---- a save that was stopped

not_kept : (size : TableSize) (few : ℕ) (P : ℕ → Type 0) (area : FileNo) (kept : Durable) (arm : Arm) (image : Image) → (arm.left < few → StandsIn size area kept image) → (few ≤ arm.left → (Shows P arm.image → ⊥) → StandsIn size area kept image)
    → ((few ≤ arm.left) × Shows P arm.image → ⊥) → (arm.left < few) ⊎ (few ≤ arm.left) → StandsIn size area kept image
not_kept size few P area kept arm image early lost none (inl less) = early less
not_kept size few P area kept arm image early lost none (inr more) = lost more (λ shows. none (more, shows))

module _ (size : TableSize) (area : FileNo) (kept : Durable) (own : Option ℕ) (arm : Arm) (old new : Told) where
  by_arm : (change : Delta) → (KeepsChange area change arm → StandsIn size (area_after change area) (after_delta change kept) (image_left new)) → ((KeepsChange area change arm → ⊥) → StandsIn size area kept (image_left new))
      → IsKeptByArm size area kept change arm (image_left new)
  by_arm change saved lost =
      record {
        saved = λ keeps. (saved keeps).stand;
        lost = λ none. (lost none).stand;
        saved_area = λ keeps. (saved keeps).selects;
        lost_area = λ none. (lost none).selects;
        format = λ selects. (lost (λ keeps. (saved keeps).format selects)).format selects;
      }

  record_by_arm : (change : Delta) (item : Record) → StopsInSave size area kept own change arm old new → delta_record change ≡ Some item → ((2 ≤ arm.left) × Shows (λ byte. byte ≡ 1) arm.image → ⊥) → StandsIn size area kept (image_left new)
  record_by_arm change item save is none =
      not_kept size 2 (λ byte. byte ≡ 1) area kept arm (image_left new) (record_early size area kept own change item arm old new save is) (record_lost size area kept own change item arm old new save is) none (cases_lt arm.left 2)

  pub kept_by_arm : (change : Delta) → StopsInSave size area kept own change arm old new → ((item : Record) → delta_record change ≡ Some item → IsRecord (record_bytes item) item)
      → ((slot : ℕ) (rows : List JobRow) → change ≡ Base slot rows → AreRecords (map record_bytes (base_records kept own slot rows)) (base_records kept own slot rows)) → IsKeptByArm size area kept change arm (image_left new)
  kept_by_arm (Tried ballot) save spelled base =
      by_arm (Tried ballot) (λ keeps. record_kept size area kept own (Tried ballot) (Item.Tried ballot) arm old new save refl (spelled (Item.Tried ballot) refl) keeps.0 keeps.1)
      (record_by_arm (Tried ballot) (Item.Tried ballot) save refl)
  kept_by_arm (Promised ballot) save spelled base =
      by_arm (Promised ballot) (λ keeps. record_kept size area kept own (Promised ballot) (Item.Promised ballot) arm old new save refl (spelled (Item.Promised ballot) refl) keeps.0 keeps.1)
      (record_by_arm (Promised ballot) (Item.Promised ballot) save refl)
  kept_by_arm (Voted vote) save spelled base =
      by_arm (Voted vote) (λ keeps. record_kept size area kept own (Voted vote) (Item.Voted vote) arm old new save refl (spelled (Item.Voted vote) refl) keeps.0 keeps.1)
      (record_by_arm (Voted vote) (Item.Voted vote) save refl)
  kept_by_arm (Base slot rows) save spelled base =
      by_arm (Base slot rows) (λ keeps. base_kept size area kept own slot rows arm old new save (base slot rows refl) keeps.0 keeps.1)
      (λ none. not_kept size 3 (λ byte. selected_by byte ≡ other_area area) area kept arm (image_left new) (base_early size area kept own slot rows arm old new save) (base_lost size area kept own slot rows arm old new save) none (cases_lt arm.left 3))

-- ---- between two calls

module _ {D : Type 0} (view : DiskView D) (disk : D) (store : AStore) (kept : Durable) (own : Option ℕ) (change : Delta) (rests : IsStoreAtRest view disk store) where
  abbrev calls : List DiskCall
  calls = save_calls (area_of store) (length (records_of store)) kept own change

  ready : (old : Told) → old.done ≡ view.seen disk → IsAreaSynced (area_of store) old → IsReady (area_of store) (records_of store) old
  ready old done synced = rests_ready view disk store old rests done synced.runs synced.chooser synced.area_clean

  saved_synced : (old new : Told) → old.done ≡ view.seen disk → IsAreaSynced (area_of store) old → AllDone calls old new → IsAreaSynced (area_after change (area_of store)) new
  saved_synced old new done synced made =
      let clean = ready_clean (area_of store) (records_of store) kept own change old new (ready old done synced) made in
      record { runs = all_run calls old new synced.runs made; chooser = clean.0; area_clean = clean.1 }

  pub tells_saved : (after : AStore) (old new : Option Told) → ((now : Told) → old ≡ Some now → now.done ≡ view.seen disk) → IsSomeAnd old (IsAreaSynced (area_of store)) → area_of after ≡ area_after change (area_of store)
      → TellsThen (MadeCalls {T = Unit} stored.of_disk calls (Ok tt)) old new → IsSomeAnd new (IsAreaSynced (area_of after))
  tells_saved after None new done clean area tells = absurd clean
  tells_saved after (Some old) None done clean area tells = absurd tells
  tells_saved after (Some old) (Some new) done clean area tells = subst (λ (file : FileNo). IsAreaSynced file new) (sym area) (saved_synced old new (done old refl) clean tells.all)

  stops_in_save : IsInFormat2 store → (arm : Arm) (old new : Told) → old.done ≡ view.seen disk → IsAreaSynced (area_of store) old → old.arm ≡ Some arm → StandFor (size_of_store store) (records_of store) kept own → ChangeMayFollow (size_of_store store) kept change
      → MadeCalls {T = Unit} stored.of_disk calls (Err Store.Stopped) old new → StopsInSave (size_of_store store) (area_of store) kept own change arm old new
  stops_in_save format arm old new done synced armed stand follows made =
      record {
        records = records_of store;
        ready = ready old done synced;
        stand = stand;
        format = format;
        follows = follows;
        armed = armed;
        stops = made.broken Disk.Stopped refl;
      }

  pub tells_by_arm : IsInFormat2 store → (arm : Arm) (old new : Option Told) → ((now : Told) → old ≡ Some now → now.done ≡ view.seen disk) → IsSomeAnd old (IsAreaSynced (area_of store)) → IsSomeAnd old (λ now. now.arm ≡ Some arm)
      → StandFor (size_of_store store) (records_of store) kept own → ChangeMayFollow (size_of_store store) kept change → (fault : StoreFault) → fault ≡ Store.Stopped → TellsThen (MadeCalls {T = Unit} stored.of_disk calls (Err fault)) old new
      → ((item : Record) → delta_record change ≡ Some item → IsRecord (record_bytes item) item)
      → ((slot : ℕ) (rows : List JobRow) → change ≡ Base slot rows → AreRecords (map record_bytes (base_records kept own slot rows)) (base_records kept own slot rows))
      → LeavesByArm (size_of_store store) (area_of store) kept change arm new
  tells_by_arm format arm None new done clean armed stand follows fault is tells spelled base = absurd clean
  tells_by_arm format arm (Some old) None done clean armed stand follows fault is tells spelled base = absurd tells
  tells_by_arm format arm (Some old) (Some new) done clean armed stand follows fault is tells spelled base =
      let made : MadeCalls {T = Unit} stored.of_disk calls (Err Store.Stopped) old new = subst (λ (f : StoreFault). MadeCalls {T = Unit} stored.of_disk calls (Err f) old new) is tells in
      kept_by_arm (size_of_store store) (area_of store) kept own arm old new change (stops_in_save format arm old new (done old refl) clean armed stand follows made) spelled base

-- ---- an attach

attach_runs : (size : TableSize) (image : Image) (records : List (List ℕ)) (list : List DiskCall) (old new : Told) → AreAttachCalls size image records list → AllDone list old new → new.stopped ≡ false
attach_runs size image records list old new (inl same) made =
    let done : AllDone (attach_calls image (length records)) old new = subst (λ (made_calls : List DiskCall). AllDone made_calls old new) same made in
    all_run (attach_calls image (length records)) old new done.1.0 done
attach_runs size image records list old new (inr saves) made =
    let whole = attach_calls image (length records) ++ save_calls (selected image) (length records) saves.1.0 saves.1.1 (Base saves.1.0.base saves.1.0.rows) in
    let done : AllDone whole old new = subst (λ (made_calls : List DiskCall). AllDone made_calls old new) saves.1.3 made in
    all_run whole old new done.1.0 done

pub tells_attached : {T : Type 0} (size : TableSize) (image : Image) (records : List (List ℕ)) (list : List DiskCall) (area : FileNo) (value : T) (old new : Option Told) → IsSome old → AreAttachCalls size image records list
    → TellsThen (MadeCalls stored.of_disk list (Ok value)) old new → TellsThen (λ one two. IsClean Chooser two × IsClean area two) old new → IsSomeAnd new (IsAreaSynced area)
tells_attached size image records list area value None new some are tells clean = absurd (cc some)
tells_attached size image records list area value (Some old) None some are tells clean = absurd tells
tells_attached size image records list area value (Some old) (Some new) some are tells clean =
    record { runs = attach_runs size image records list old new are tells.all; chooser = clean.0; area_clean = clean.1 }

-- ---- an arm, and its end

arm_synced : (pass image : ℕ) (area : FileNo) (told : Told) → IsAreaSynced area told → IsAreaSynced area (after_arm pass image told) × ((after_arm pass image told).arm ≡ Some (record { left = pass; image = image }))
arm_synced pass image area told synced = (
  record {
    runs = rw synced.runs refl;
    chooser = armed_clean pass image Chooser told synced.chooser;
    area_clean = armed_clean pass image area told synced.area_clean;
  },
  rw synced.runs refl,
)

pub tells_armed : (pass image : ℕ) (area : FileNo) (old new : Option Told) → IsSomeAnd old (IsAreaSynced area) → TellsThen (λ one two. two ≡ after_arm pass image one) old new
    → IsSomeAnd new (IsAreaSynced area) × IsSomeAnd new (λ now. now.arm ≡ Some (record { left = pass; image = image }))
tells_armed pass image area None new synced tells = absurd synced
tells_armed pass image area (Some old) None synced tells = absurd tells
tells_armed pass image area (Some old) (Some new) synced tells =
    subst (λ (t : Told). IsAreaSynced area t × (t.arm ≡ Some (record { left = pass; image = image }))) (sym tells) (arm_synced pass image area old synced)

disarm_synced : (area : FileNo) (told : Told) → IsAreaSynced area told → IsAreaSynced area (after_disarm told)
disarm_synced area told synced =
    record {
      runs = rw synced.runs refl;
      chooser = disarmed_clean Chooser told synced.chooser;
      area_clean = disarmed_clean area told synced.area_clean;
    }

pub tells_disarmed : (area : FileNo) (old new : Option Told) → IsSomeAnd old (IsAreaSynced area) → TellsThen (λ one two. two ≡ after_disarm one) old new → IsSomeAnd new (IsAreaSynced area)
tells_disarmed area None new synced tells = absurd synced
tells_disarmed area (Some old) None synced tells = absurd tells
tells_disarmed area (Some old) (Some new) synced tells = subst (IsAreaSynced area) (sym tells) (disarm_synced area old synced)

-- ---- the byte of a chooser

pub shows_weaker : (P Q : ℕ → Type 0) (number : ℕ) → ((byte : ℕ) → P byte → Q byte) → Shows P number → Shows Q number
shows_weaker P Q number weaker (inl done) = inl done
shows_weaker P Q number weaker (inr shown) = inr (shown.0, weaker (number / 3 % 256) shown.1)

first_not_second : AreaA ≡ AreaB → ⊥
first_not_second is = cc is

pub selects_second : (byte : ℕ) → byte % 2 ≡ 1 → selected_by byte ≡ AreaB
selects_second byte odd = rw (eq-eqb (byte % 2) 1 odd) refl

pub selects_first : (byte : ℕ) → byte % 2 ≡ 0 → selected_by byte ≡ AreaA
selects_first byte even = rw (ne_eqb (byte % 2) 1 (λ is. omega (arith, is, even))) refl

pub bit_of_first : (byte : ℕ) → selected_by byte ≡ AreaA → byte % 2 ≡ 0
bit_of_first byte is =
    let low : byte % 2 < 2 = mod_below byte 2 (omega arith) in
    elim (cases_order (byte % 2) 1) [
      | inl odd ↦ absurd (first_not_second (sym is ∙ selects_second byte odd))
      | inr apart ↦ elim apart [ inl below ↦ omega (arith, below) | inr above ↦ absurd (omega (arith, above, low)) ]
    ]

pub bit_of_second : (byte : ℕ) → selected_by byte ≡ AreaB → byte % 2 ≡ 1
bit_of_second byte is =
    let low : byte % 2 < 2 = mod_below byte 2 (omega arith) in
    elim (cases_order (byte % 2) 1) [
      | inl odd ↦ odd
      | inr apart ↦ elim apart [
        | inl below ↦ absurd (first_not_second (sym (selects_first byte (omega (arith, below))) ∙ is))
        | inr above ↦ absurd (omega (arith, above, low))
      ]
    ]

-- ---- how many calls of an arm a step takes

pub count_calls : {D : Type 0} (node : ANode D) (own : Option ℕ) (change : Option Delta) → length (disk_calls_for node own change) ≡ calls_of_change change
count_calls node own None = refl
count_calls node own (Some (Tried ballot)) = refl
count_calls node own (Some (Promised ballot)) = refl
count_calls node own (Some (Voted vote)) = refl
count_calls node own (Some (Base slot rows)) = refl

pub tells_counted : {T : Type 0} (list : List DiskCall) (count : ℕ) (value : T) (arm : Arm) (old new : Option Told) → length list ≡ count → IsSomeAnd old (λ now. now.arm ≡ Some arm) → TellsThen (MadeCalls of_disk_answer list (Ok value)) old new
    → (count ≤ arm.left) × IsSomeAnd new (λ now. now.arm ≡ Some (record arm { left = arm.left - count }))
tells_counted list count value arm None new long armed tells = absurd armed
tells_counted list count value arm (Some old) None long armed tells = absurd tells
tells_counted list count value arm (Some old) (Some new) long armed tells =
    subst (λ (n : ℕ). (n ≤ arm.left) × (new.arm ≡ Some (record arm { left = arm.left - n }))) long (all_pass list arm old new armed tells.all)

pub tells_too_few : (T : Type 0) (area : FileNo) (list : List DiskCall) (count : ℕ) (arm : Arm) (old new : Option Told) → length list ≡ count → IsSomeAnd old (IsAreaSynced area) → IsSomeAnd old (λ now. now.arm ≡ Some arm)
    → TellsThen (MadeCalls {T = T} of_disk_answer list (Err Node.Stopped)) old new → arm.left < count
tells_too_few T area list count arm None new long clean armed tells = absurd clean
tells_too_few T area list count arm (Some old) None long clean armed tells = absurd tells
tells_too_few T area list count arm (Some old) (Some new) long clean armed tells =
    subst (λ (n : ℕ). arm.left < n) long (stops_at list arm old new clean.runs armed (tells.broken Disk.Stopped refl)).0.within
