-- Which state the files of the image stand for that a stop within the save of a base leaves.
use Rattle.std.proofs.Common.{◌≡◌, ◌≢◌, ◌⊎◌, inl, inr, ⊎_elim, ℕ, zero, suc, ◌-◌, ◌<◌, ◌≤◌, ◌%◌, ◌==◌, if◌then◌else◌, Bool, true, false, List, [], ◌∷◌, ◌++◌, length, take, map, get_or, Option, Some, Ok, Err, refl, sym, ap, ◌∙◌, subst, arith}
use Rattle.paxos_base.specs.declared.rows.TableSize.{TableSize}
use Rattle.disk_model.specs.declared.armed.Arm.{Arm}
use Rattle.disk_model.specs.declared.fault.DiskFault.TheVariants.{Stopped}
use Rattle.disk_model.specs.declared.fault.FileNo.{FileNo}
use Rattle.disk_model.specs.declared.fault.FileNo.TheVariants.{Chooser, AreaA, AreaB}
use Rattle.disk_model.specs.Images.{file_of, with_file, written_over}
use Rattle.disk_model.specs.Made.{CutTo, GaveAnswer, BreaksOff, synced_write}
use Rattle.disk_model.specs.Told.{Told, bytes_in_image, image_left}
use Rattle.disk_model.proofs.MadeLemmas.{runs_on}
use Rattle.disk_model.proofs.StopLemmas.{one_passes, one_stops, stops_at}
use Rattle.gate_file.specs.Gates.{AreWhole, HasRestingGate, gated}
use Rattle.gate_file.proofs.GateLemmas.{has_at_rest, gated_rest}
use Rattle.gate_file.proofs.RewriteLemmas.{written_alone}
use Rattle.paxos_base.specs.declared.durable.Delta.TheVariants.{Base}
use Rattle.paxos_base.specs.declared.durable.Durable.{Durable}
use Rattle.paxos_base.specs.declared.rows.JobRow.{JobRow}
use Rattle.paxos_base.specs.Durable.{after_delta}
use Rattle.store_format.specs.declared.body.Record.{Record}
use Rattle.store_format.specs.Area.{base_records}
use Rattle.store_format.specs.Records.{AreRecords, record_bytes}
use Rattle.store_format.proofs.BaseLemmas.{base_stand_for}
use Rattle.store_format.proofs.FormatLemmas.{base_in_format_2}
use Rattle.store_format.proofs.SoundLemmas.{StandFor-sound}
use Rattle.replica_store.specs.Files.{selected, selected_by, bit_of, other_area}
use Rattle.replica_store.specs.Kept.{IsClean, StopsInSave, Shows}
use Rattle.replica_store.specs.Made.{choose_calls, save_calls}
use Rattle.replica_store.proofs.FileLemmas.{byte_selects, other_differs, other_is_area, same_chooser, selects_area}
use Rattle.replica_store.proofs.KeptLemmas.{StandsIn, record_long, selects_in}
use Rattle.replica_store.proofs.PendingLemmas.{IsPending, clean_left, file_of-other, pending_clean, pending_left, pending_same, pending_touched}
use Rattle.replica_store.proofs.StoppedLemmas.{StopsLater, breaks_first, hidden, none_breaks, shown, stops_in_write}
use Rattle.disk_model.proofs.DiskLemmas.{file_of-with_file as file_of-same}

-- a file was cut to nothing, or that was stopped within
pub record IsEmptied (file : FileNo) (old new : Told) : Type 0 where
  pub done : new.done ≡ with_file file (take 0 (file_of file old.done)) old.done
  pub synced : new.synced ≡ old.synced
  pub touched : new.touched ≡ old.touched

pub cut_passed : (file : FileNo) (old new : Told) → GaveAnswer (CutTo file 0) (Ok tt) old new → IsEmptied file old new
cut_passed file old new passed = record { done = ap (λ (told : Told). told.done) passed.2; synced = ap (λ (told : Told). told.synced) passed.2; touched = ap (λ (told : Told). told.touched) passed.2 }

cut_stopped : (file : FileNo) (old new : Told) → old.stopped ≡ false → GaveAnswer (CutTo file 0) (Err Stopped) old new → IsEmptied file old new
cut_stopped file old new running (inl before) = absurd (cc (running, before.0))
cut_stopped file old new running (inr now) = record { done = ap (λ (told : Told). told.done) now.2; synced = ap (λ (told : Told). told.synced) now.2; touched = ap (λ (told : Told). told.touched) now.2 }

-- another file stays clean, as it was
module _ (file other : FileNo) (old new : Told) (differs : other ≢ file) (emptied : IsEmptied file old new) where
  emptied_same : file_of other new.done ≡ file_of other old.done
  emptied_same = ap (file_of other) emptied.done ∙ file_of-other file other (take 0 (file_of file old.done)) old.done differs

  pub emptied_clean : IsClean other old → IsClean other new
  emptied_clean clean = record { synced = ap (file_of other) emptied.synced ∙ clean.synced ∙ sym emptied_same; untouched = λ place. ap (λ (touched : FileNo → ℕ → Bool). touched other place) emptied.touched ∙ clean.untouched place }

all_whole : (items : List Record) → AreWhole (map record_bytes items)
all_whole [] number lt = absurd (omega arith)
all_whole (item ∷ items) zero lt = record_long item
all_whole (item ∷ items) (suc number) lt = all_whole items number (omega arith)

-- a byte selects one area or the other
not_other : (odd : Bool) (area : FileNo) → area ≢ Chooser → (if odd then AreaB else AreaA) ≢ other_area area → (if odd then AreaB else AreaA) ≡ area
not_other odd Chooser differs not_it = absurd (differs refl)
not_other true AreaA differs not_it = absurd (not_it refl)
not_other true AreaB differs not_it = refl
not_other false AreaA differs not_it = refl
not_other false AreaB differs not_it = absurd (not_it refl)

module _ (size : TableSize) (area : FileNo) (kept : Durable) (own : Option ℕ) (slot : ℕ) (rows : List JobRow) (arm : Arm) (old new : Told) (save : StopsInSave size area kept own (Base slot rows) arm old new) where
  abbrev bodies : List (List ℕ)
  bodies = map record_bytes (base_records kept own slot rows)

  abbrev other : FileNo
  other = other_area area

  abbrev last : Arm
  last = record arm { left = 0 }

  abbrev fewer : Arm
  fewer = record arm { left = arm.left - 1 }

  abbrev bit : ℕ
  bit = bit_of other

  armed : new.arm ≡ Some last
  armed = (stops_at (save_calls area (length save.records) kept own (Base slot rows)) arm old new save.ready.runs save.armed save.stops).2

  is_area : area ≢ Chooser
  is_area same = selects_area old.done (save.ready.selects ∙ same)

  chooser_differs : Chooser ≢ other
  chooser_differs same = other_is_area area (sym same)

  area_differs : area ≢ other
  area_differs same = other_differs area is_area (sym same)

  -- the area as it was, where the image selects it
  area_stays : selected (image_left new) ≡ area → IsClean area new → file_of area new.done ≡ file_of area old.done → StandsIn size area kept (image_left new)
  area_stays selects clean same =
      selects_in size kept (image_left new) area save.records selects
      (has_at_rest (file_of area (image_left new)) save.records (subst (λ l. HasRestingGate l save.records) (sym (clean_left last new area armed clean ∙ same)) save.ready.at_rest))
      (own, save.stand) save.format

  both_stay : IsClean Chooser new → file_of Chooser new.done ≡ file_of Chooser old.done → IsClean area new → file_of area new.done ≡ file_of area old.done → StandsIn size area kept (image_left new)
  both_stay chooser chooser_same clean same = area_stays (same_chooser (image_left new) old.done (clean_left last new Chooser armed chooser ∙ chooser_same) ∙ save.ready.selects) clean same

  cut_ends : IsEmptied other old new → StandsIn size area kept (image_left new)
  cut_ends emptied =
      both_stay (emptied_clean other Chooser old new chooser_differs emptied save.ready.chooser) (emptied_same other Chooser old new chooser_differs emptied)
      (emptied_clean other area old new area_differs emptied save.ready.area_clean) (emptied_same other area old new area_differs emptied)

  -- after the cut
  module _ (cut : Told) (emptied : IsEmptied other old cut) where
    write_ends : IsPending other 0 (gated bodies) cut new → StandsIn size area kept (image_left new)
    write_ends pending =
        both_stay
        (pending_clean other 0 (gated bodies) cut new pending Chooser chooser_differs (emptied_clean other Chooser old cut chooser_differs emptied save.ready.chooser))
        (pending_same other 0 (gated bodies) cut new pending Chooser chooser_differs ∙ emptied_same other Chooser old cut chooser_differs emptied)
        (pending_clean other 0 (gated bodies) cut new pending area area_differs (emptied_clean other area old cut area_differs emptied save.ready.area_clean))
        (pending_same other 0 (gated bodies) cut new pending area area_differs ∙ emptied_same other area old cut area_differs emptied)

    -- the chooser's byte
    module _ (later : StopsLater other 0 (gated bodies) (choose_calls other) fewer cut new) (pending : IsPending Chooser 0 (bit ∷ []) later.mid new) where
      abbrev chooser : List ℕ
      chooser = file_of Chooser later.mid.done

      chooser_clean : IsClean Chooser later.mid
      chooser_clean = later.synced.others_clean Chooser chooser_differs (emptied_clean other Chooser old cut chooser_differs emptied save.ready.chooser)

      chooser_same : chooser ≡ file_of Chooser old.done
      chooser_same = later.synced.same Chooser chooser_differs ∙ emptied_same other Chooser old cut chooser_differs emptied

      bytes_now : file_of Chooser (image_left new) ≡ bytes_in_image arm.image chooser (written_over 0 (bit ∷ []) chooser) (new.touched Chooser)
      bytes_now = pending_left Chooser 0 (bit ∷ []) later.mid new pending chooser_clean last armed

      abbrev SelectsOther : ℕ → Type 0
      SelectsOther byte = selected_by byte ≡ other_area area

      other_not_yet : SelectsOther (get_or chooser 0 0) → ⊥
      other_not_yet selects = area_differs (sym (same_chooser later.mid.done old.done chooser_same ∙ save.ready.selects) ∙ selects)

      base_hidden : (Shows SelectsOther arm.image → ⊥) → StandsIn size area kept (image_left new)
      base_hidden not_shown =
          let not_it = hidden arm.image 0 bit chooser (new.touched Chooser) (omega arith) (pending_touched Chooser 0 (bit ∷ []) later.mid new pending chooser_clean) SelectsOther other_not_yet not_shown in
          area_stays
          (not_other (get_or (file_of Chooser (image_left new)) 0 0 % 2 == 1) area is_area (subst (λ (l : List ℕ). SelectsOther (get_or l 0 0) → ⊥) (sym bytes_now) not_it))
          (pending_clean Chooser 0 (bit ∷ []) later.mid new pending area is_area (later.synced.others_clean area area_differs (emptied_clean other area old cut area_differs emptied save.ready.area_clean)))
          (pending_same Chooser 0 (bit ∷ []) later.mid new pending area is_area ∙ later.synced.same area area_differs ∙ emptied_same other area old cut area_differs emptied)

      other_bytes : file_of other (image_left new) ≡ gated bodies
      other_bytes =
          clean_left last new other armed (pending_clean Chooser 0 (bit ∷ []) later.mid new pending other (other_is_area area) later.synced.clean)
          ∙ pending_same Chooser 0 (bit ∷ []) later.mid new pending other (other_is_area area)
          ∙ written_alone (gated bodies) (file_of other old.done) (file_of other cut.done) (file_of other later.mid.done)
          (ap (file_of other) emptied.done ∙ file_of-same other (take 0 (file_of other old.done)) old.done) later.synced.bytes

      base_selects : Shows SelectsOther arm.image → selected (image_left new) ≡ other
      base_selects shows =
          let selects = shown arm.image 0 bit chooser (new.touched Chooser) (omega arith) (pending_touched Chooser 0 (bit ∷ []) later.mid new pending chooser_clean) SelectsOther (byte_selects other (other_is_area area)) shows in
          subst (λ (l : List ℕ). SelectsOther (get_or l 0 0)) (sym bytes_now) selects

      base_shown : AreRecords bodies (base_records kept own slot rows) → Shows SelectsOther arm.image → StandsIn size (other_area area) (after_delta (Base slot rows) kept) (image_left new)
      base_shown are shows =
          selects_in size (after_delta (Base slot rows) kept) (image_left new) other bodies (base_selects shows)
          (has_at_rest (file_of other (image_left new)) bodies (subst (λ l. HasRestingGate l bodies) (sym other_bytes) (gated_rest bodies (all_whole (base_records kept own slot rows)))))
          (own, base_stand_for size bodies kept own slot rows are (StandFor-sound size save.records kept own save.stand) save.follows.1)
          (base_in_format_2 size bodies slot rows kept own save.follows.1 are)

  -- Within the first three calls, or within the last two.
  record StopsAtChooser : Type 0 where
    three : 3 ≤ arm.left
    cut : Told
    emptied : IsEmptied other old cut
    later : StopsLater other 0 (gated bodies) (choose_calls other) fewer cut new
    pending : IsPending Chooser 0 (bit ∷ []) later.mid new

  where_stopped : ((arm.left < 3) × StandsIn size area kept (image_left new)) ⊎ StopsAtChooser
  where_stopped = first (breaks_first (CutTo other 0) (synced_write other 0 (gated bodies) ++ choose_calls other) old new save.stops)
    where
      last_two : (cut : Told) → IsEmptied other old cut → 0 < arm.left → (later : StopsLater other 0 (gated bodies) (choose_calls other) fewer cut new)
          → ((arm.left - 1 - 1 - 1 < 2) × IsPending Chooser 0 (bit ∷ []) later.mid new) ⊎ StopsLater Chooser 0 (bit ∷ []) [] (record fewer { left = arm.left - 1 - 1 - 1 }) later.mid new
          → StopsAtChooser
      last_two cut emptied some later (inl stopped) = record { three = omega (arith, some, later.two); cut = cut; emptied = emptied; later = later; pending = stopped.1 }
      last_two cut emptied some later (inr none) = absurd (none_breaks none.mid new none.stops)

      after_cut : (cut : Told) → IsEmptied other old cut → 0 < arm.left → ((fewer.left < 2) × IsPending other 0 (gated bodies) cut new) ⊎ StopsLater other 0 (gated bodies) (choose_calls other) fewer cut new
          → ((arm.left < 3) × StandsIn size area kept (image_left new)) ⊎ StopsAtChooser
      after_cut cut emptied some (inl stopped) = inl (omega (arith, some, stopped.0), write_ends cut emptied stopped.1)
      after_cut cut emptied some (inr later) =
          inr (last_two cut emptied some later (stops_in_write Chooser 0 (bit ∷ []) [] (record fewer { left = arm.left - 1 - 1 - 1 }) later.mid new later.runs later.armed later.stops))

      first : GaveAnswer (CutTo other 0) (Err Stopped) old new ⊎ ((cut : Told) × GaveAnswer (CutTo other 0) (Ok tt) old cut × BreaksOff Stopped (synced_write other 0 (gated bodies) ++ choose_calls other) cut new)
          → ((arm.left < 3) × StandsIn size area kept (image_left new)) ⊎ StopsAtChooser
      first (inl stopped) = inl (omega (arith, (one_stops (CutTo other 0) arm old new save.ready.runs save.armed stopped).0), cut_ends (cut_stopped other old new save.ready.runs stopped))
      first (inr (cut, passed, rest)) =
          let armed_cut = one_passes arm old cut save.armed (CutTo other 0) passed in
          after_cut cut (cut_passed other old cut passed) armed_cut.0
          (stops_in_write other 0 (gated bodies) (choose_calls other) fewer cut new (runs_on (CutTo other 0) old cut passed) armed_cut.1 rest)

  pub base_early : arm.left < 3 → StandsIn size area kept (image_left new)
  base_early few = ⊎_elim (λ stopped. stopped.1) (λ (at : StopsAtChooser). absurd (omega (arith, at.three, few))) where_stopped

  pub base_lost : 3 ≤ arm.left → (Shows (λ byte. selected_by byte ≡ other_area area) arm.image → ⊥) → StandsIn size area kept (image_left new)
  base_lost more not_shown = ⊎_elim (λ stopped. absurd (omega (arith, more, stopped.0))) (λ (at : StopsAtChooser). base_hidden at.cut at.emptied at.later at.pending not_shown) where_stopped

  pub base_kept : AreRecords bodies (base_records kept own slot rows) → 3 ≤ arm.left → Shows (λ byte. selected_by byte ≡ other_area area) arm.image → StandsIn size (other_area area) (after_delta (Base slot rows) kept) (image_left new)
  base_kept are more shows = ⊎_elim (λ stopped. absurd (omega (arith, more, stopped.0))) (λ (at : StopsAtChooser). base_shown at.cut at.emptied at.later at.pending are shows) where_stopped

  pub base_area : 3 ≤ arm.left → Shows (λ byte. selected_by byte ≡ other_area area) arm.image → selected (image_left new) ≡ other_area area
  base_area more shows = ⊎_elim (λ stopped. absurd (omega (arith, more, stopped.0))) (λ (at : StopsAtChooser). base_selects at.cut at.emptied at.later at.pending shows) where_stopped
