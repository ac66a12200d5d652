-- Which state the files of the image stand for that a stop within a save leaves.
use Rattle.std.proofs.Common.{◌≡◌, ◌≢◌, ◌⊎◌, ⊎_elim, ℕ, ◌+◌, ◌*◌, ◌-◌, ◌<◌, ◌≤◌, List, [], ◌∷◌, ◌++◌, length, get_or, Option, Some, refl, sym, ap, ◌∙◌, subst, arith}
use Rattle.std.proofs.lemmas.List.{get_or-take}
use Rattle.paxos_base.specs.declared.rows.TableSize.{TableSize}
use Rattle.disk_model.specs.declared.armed.Arm.{Arm}
use Rattle.disk_model.specs.declared.fault.DiskFault.TheVariants.{Stopped}
use Rattle.disk_model.specs.declared.fault.FileNo.{FileNo}
use Rattle.disk_model.specs.declared.fault.FileNo.TheVariants.{Chooser}
use Rattle.disk_model.specs.Images.{Image, file_of, written_over, Torn}
use Rattle.disk_model.specs.Made.{BreaksOff, synced_write}
use Rattle.disk_model.specs.Told.{Told, bytes_in_image, image_left}
use Rattle.disk_model.proofs.StopLemmas.{stops_at}
use Rattle.gate_file.specs.Gates.{AreOpen, HasBodies, HasRestingGate, IsStaged, HasBodyBehind}
use Rattle.gate_file.specs.Made.{append_calls}
use Rattle.gate_file.proofs.AppendLemmas.{mid_behind, mid_open, mid_at_rest}
use Rattle.gate_file.proofs.GateLemmas.{torn_body, torn_gate, staged_has}
use Rattle.paxos_base.specs.declared.durable.Delta.{Delta}
use Rattle.paxos_base.specs.declared.durable.Durable.{Durable}
use Rattle.paxos_base.specs.Durable.{after_delta}
use Rattle.store_format.specs.declared.body.Record.{Record}
use Rattle.store_format.specs.Order.{delta_record}
use Rattle.store_format.specs.Records.{IsRecord, record_bytes}
use Rattle.store_format.specs.Area.{BeginsInFormat1}
use Rattle.replica_store.specs.Files.{SelectsFormat1, selected, BodiesStand, FilesStand}
use Rattle.replica_store.specs.Kept.{IsClean, StopsInSave, Shows}
use Rattle.replica_store.proofs.FileLemmas.{same_chooser, selects_area}
use Rattle.replica_store.proofs.MadeLemmas.{saves_record}
use Rattle.replica_store.proofs.PendingLemmas.{IsPending, clean_left, pending_clean, pending_left, pending_same, pending_touched, torn_image}
use Rattle.replica_store.proofs.MigrateLemmas.{not_selected}
use Rattle.replica_store.proofs.SaveLemmas.{change_in_format_2, change_stands}
use Rattle.replica_store.proofs.StoppedLemmas.{StopsLater, hidden, none_breaks, shown, stops_in_write}

pub record_long : (item : Record) → length (record_bytes item) ≡ 56
record_long item = refl

pub stands_in : (size : TableSize) (kept : Durable) (image : Image) (area : FileNo) (bodies : List (List ℕ)) → selected image ≡ area → HasBodies (file_of area image) bodies → BodiesStand size bodies kept → FilesStand size kept image
stands_in size kept image area bodies selects has stand =
    record { bodies = bodies; has = subst (λ file. HasBodies (file_of file image) bodies) (sym selects) has; stand = stand }

-- the image selects the area, which is in format 2, and the files stand for what is kept
pub record StandsIn (size : TableSize) (area : FileNo) (kept : Durable) (image : Image) : Type 0 where
  pub selects : selected image ≡ area
  pub stand : FilesStand size kept image
  pub format : SelectsFormat1 size image → ⊥

pub selects_in : (size : TableSize) (kept : Durable) (image : Image) (area : FileNo) (bodies : List (List ℕ)) → selected image ≡ area → HasBodies (file_of area image) bodies → BodiesStand size bodies kept → (BeginsInFormat1 size bodies → ⊥) → StandsIn size area kept image
selects_in size kept image area bodies selects has stand none =
    record {
      selects = selects;
      stand = stands_in size kept image area bodies selects has stand;
      format = not_selected size image bodies (subst (λ file. HasBodies (file_of file image) bodies) (sym selects) has) none;
    }

-- a gate that a file has open
pub closed_has : (file : List ℕ) (bodies : List (List ℕ)) → AreOpen file bodies → (get_or file (57 * length bodies) 0 ≡ 1 → ⊥) → HasBodies file bodies
closed_has file bodies gates shut = record { gates_open = gates; tail = λ is_open. shut is_open.byte }

zero_not_1 : (byte : ℕ) → byte ≡ 0 → byte ≡ 1 → ⊥
zero_not_1 byte is_0 is_1 = absurd (omega (arith, is_0, is_1))

-- ---- a record

-- whatever the write behind the gate leaves, the gate is closed
body_lost : (file piece image : List ℕ) (bodies : List (List ℕ)) → HasRestingGate file bodies → Torn (57 * length bodies + 1) (length piece) file image → HasBodies image bodies
body_lost file piece image bodies rest torn =
    let closed : get_or image (57 * length bodies) 0 ≡ 0 =
    sym (get_or-take (57 * length bodies + 1) image (57 * length bodies) 0 (omega arith)) ∙ ap (λ (l : List ℕ). get_or l (57 * length bodies) 0) torn.before ∙ get_or-take (57 * length bodies + 1) file (57 * length bodies) 0 (omega arith) ∙ rest.tail_closed in
    closed_has image bodies (torn_body file [] bodies rest (length piece) image torn).gates_open (zero_not_1 (get_or image (57 * length bodies) 0) closed)

-- what the write of the gate leaves, by the gate's byte
module _ (file body image : List ℕ) (bodies : List (List ℕ)) (gates : AreOpen file bodies) (behind : HasBodyBehind file (length bodies) body) (torn : Torn (57 * length bodies) 1 file image) where
  staged : IsStaged bodies (Some body) image
  staged = torn_gate file body image bodies gates behind torn

  gate_lost : (get_or image (57 * length bodies) 0 ≡ 1 → ⊥) → HasBodies image bodies
  gate_lost shut = closed_has image bodies staged.gates_open shut

  gate_kept : get_or image (57 * length bodies) 0 ≡ 1 → HasBodies image (bodies ++ body ∷ [])
  gate_kept byte =
      ⊎_elim
      (λ (has : HasBodies image bodies). absurd (has.tail (record { within = omega (arith, behind.within, torn.no_shorter); byte = byte })))
      (λ has. has)
      (staged_has image bodies (Some body) staged)

module _ (size : TableSize) (area : FileNo) (kept : Durable) (own : Option ℕ) (change : Delta) (item : Record) (arm : Arm) (old new : Told) (save : StopsInSave size area kept own change arm old new) (is : delta_record change ≡ Some item) where
  abbrev body : List ℕ
  body = record_bytes item

  abbrev piece : List ℕ
  piece = record_bytes item ++ 0 ∷ []

  abbrev gate : ℕ
  gate = 57 * length save.records

  abbrev last : Arm
  last = record arm { left = 0 }

  abbrev file : List ℕ
  file = file_of area old.done

  calls : BreaksOff Stopped (append_calls area (length save.records) body) old new
  calls = subst (λ list. BreaksOff Stopped list old new) (saves_record area (length save.records) kept own change item is) save.stops

  armed : new.arm ≡ Some last
  armed = (stops_at (append_calls area (length save.records) body) arm old new save.ready.runs save.armed calls).2

  differs : area ≢ Chooser
  differs same = selects_area old.done (save.ready.selects ∙ same)

  -- the chooser selects the area in the image as well
  selects : IsClean Chooser new → file_of Chooser new.done ≡ file_of Chooser old.done → selected (image_left new) ≡ area
  selects clean same = same_chooser (image_left new) old.done (clean_left last new Chooser armed clean ∙ same) ∙ save.ready.selects

  first : ((arm.left < 2) × IsPending area (gate + 1) piece old new) ⊎ StopsLater area (gate + 1) piece (synced_write area gate (1 ∷ [])) arm old new
  first = stops_in_write area (gate + 1) piece (synced_write area gate (1 ∷ [])) arm old new save.ready.runs save.armed calls

  within : gate + 1 ≤ length file
  within = omega (arith, save.ready.at_rest.tail_within)

  body_pending : IsPending area (gate + 1) piece old new → StandsIn size area kept (image_left new)
  body_pending pending =
      let torn = torn_image (gate + 1) piece file (new.touched area) within (pending_touched area (gate + 1) piece old new pending save.ready.area_clean) arm.image in
      let bytes = pending_left area (gate + 1) piece old new pending save.ready.area_clean last armed in
      selects_in size kept (image_left new) area save.records
      (selects (pending_clean area (gate + 1) piece old new pending Chooser (λ same. differs (sym same)) save.ready.chooser) (pending_same area (gate + 1) piece old new pending Chooser (λ same. differs (sym same))))
      (body_lost file piece (file_of area (image_left new)) save.records save.ready.at_rest (subst (Torn (gate + 1) (length piece) file) (sym bytes) torn))
      (own, save.stand) save.format

  pub record_early : arm.left < 2 → StandsIn size area kept (image_left new)
  record_early few = ⊎_elim (λ stopped. body_pending stopped.1) (λ (later : StopsLater area (gate + 1) piece (synced_write area gate (1 ∷ [])) arm old new). absurd (omega (arith, later.two, few))) first

  -- the gate
  module _ (later : StopsLater area (gate + 1) piece (synced_write area gate (1 ∷ [])) arm old new) (pending : IsPending area gate (1 ∷ []) later.mid new) where
    abbrev now : List ℕ
    now = file_of area later.mid.done

    long_enough : gate ≤ length now
    long_enough = omega (arith, (mid_at_rest file body save.records save.ready.at_rest (record_long item) now later.synced.bytes).tail_within)

    torn_now : Torn gate 1 now (bytes_in_image arm.image now (written_over gate (1 ∷ []) now) (new.touched area))
    torn_now = torn_image gate (1 ∷ []) now (new.touched area) long_enough (pending_touched area gate (1 ∷ []) later.mid new pending later.synced.clean) arm.image

    bytes_now : file_of area (image_left new) ≡ bytes_in_image arm.image now (written_over gate (1 ∷ []) now) (new.touched area)
    bytes_now = pending_left area gate (1 ∷ []) later.mid new pending later.synced.clean last armed

    selects_now : selected (image_left new) ≡ area
    selects_now =
        let other : Chooser ≢ area = λ same. differs (sym same) in
        selects (pending_clean area gate (1 ∷ []) later.mid new pending Chooser other (later.synced.others_clean Chooser other save.ready.chooser))
        (pending_same area gate (1 ∷ []) later.mid new pending Chooser other ∙ later.synced.same Chooser other)

    open_now : AreOpen now save.records
    open_now = mid_open file body save.records save.ready.at_rest (record_long item) now later.synced.bytes

    behind_now : HasBodyBehind now (length save.records) body
    behind_now = mid_behind file body save.records save.ready.at_rest (record_long item) now later.synced.bytes

    closed_now : get_or now gate 0 ≡ 0
    closed_now = (mid_at_rest file body save.records save.ready.at_rest (record_long item) now later.synced.bytes).tail_closed

    gate_hidden : (Shows (λ byte. byte ≡ 1) arm.image → ⊥) → StandsIn size area kept (image_left new)
    gate_hidden not_shown =
        let shut = hidden arm.image gate 1 now (new.touched area) long_enough (pending_touched area gate (1 ∷ []) later.mid new pending later.synced.clean) (λ byte. byte ≡ 1) (zero_not_1 (get_or now gate 0) closed_now) not_shown in
        selects_in size kept (image_left new) area save.records selects_now
        (subst (λ l. HasBodies l save.records) (sym bytes_now) (gate_lost now body _ save.records open_now behind_now torn_now shut))
        (own, save.stand) save.format

    gate_shown : IsRecord body item → Shows (λ byte. byte ≡ 1) arm.image → StandsIn size area (after_delta change kept) (image_left new)
    gate_shown record_is shows =
        let open_byte = shown arm.image gate 1 now (new.touched area) long_enough (pending_touched area gate (1 ∷ []) later.mid new pending later.synced.clean) (λ byte. byte ≡ 1) refl shows in
        selects_in size (after_delta change kept) (image_left new) area (save.records ++ body ∷ []) selects_now
        (subst (λ l. HasBodies l (save.records ++ body ∷ [])) (sym bytes_now) (gate_kept now body _ save.records open_now behind_now torn_now open_byte))
        (change_stands size save.records body item kept change (own, save.stand) save.follows is (λ has. record_is))
        (change_in_format_2 size save.records body item change is (λ has. record_is) save.format)

  gate_pending : (later : StopsLater area (gate + 1) piece (synced_write area gate (1 ∷ [])) arm old new) → IsPending area gate (1 ∷ []) later.mid new
  gate_pending later =
      ⊎_elim
      (λ stopped. stopped.1)
      (λ (none : StopsLater area gate (1 ∷ []) [] (record arm { left = arm.left - 1 - 1 }) later.mid new). absurd (none_breaks none.mid new none.stops))
      (stops_in_write area gate (1 ∷ []) [] (record arm { left = arm.left - 1 - 1 }) later.mid new later.runs later.armed later.stops)

  pub record_lost : 2 ≤ arm.left → (Shows (λ byte. byte ≡ 1) arm.image → ⊥) → StandsIn size area kept (image_left new)
  record_lost more not_shown = ⊎_elim (λ stopped. absurd (omega (arith, more, stopped.0))) (λ later. gate_hidden later (gate_pending later) not_shown) first

  pub record_kept : IsRecord body item → 2 ≤ arm.left → Shows (λ byte. byte ≡ 1) arm.image → StandsIn size area (after_delta change kept) (image_left new)
  record_kept record_is more shows = ⊎_elim (λ stopped. absurd (omega (arith, more, stopped.0))) (λ later. gate_shown later (gate_pending later) record_is shows) first

  pub record_area : selected (image_left new) ≡ area
  record_area = ⊎_elim (λ stopped. (body_pending stopped.1).selects) (λ later. selects_now later (gate_pending later)) first
