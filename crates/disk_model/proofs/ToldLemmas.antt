-- What a disk in memory tells after each call.
use Rattle.std.proofs.Common.{◌≡◌, ◌≢◌, inl, inr, ℕ, ◌+◌, ◌&&◌, ◌||◌, Bool, true, false, not, take, List, length, Option, Result, Ok, Err, OnOk, refl, sym, ap, ◌∙◌, subst}
use Rattle.std.proofs.Math.Path.{fun_ext}
use Rattle.disk_model.specs.declared.armed.Arm.{Arm}
use Rattle.disk_model.specs.declared.calls.Calls.{Calls}
use Rattle.disk_model.specs.declared.fault.DiskFault.{DiskFault}
use Rattle.disk_model.specs.declared.fault.DiskFault.TheVariants.{Stopped, Failed, OutOfMemory}
use Rattle.disk_model.specs.declared.fault.FileNo.{FileNo}
use Rattle.disk_model.specs.declared.fault.FileNo.TheVariants.{Chooser, AreaA, AreaB}
use Rattle.disk_model.specs.declared.mem_files.MemFiles.{MemFiles}
use Rattle.disk_model.specs.Calls.{can_fail, is_listing, told_by, HasSameArm, Passed}
use Rattle.disk_model.specs.Files.{mem_file, seen_in, synced_in, touched_in, IsImageIn, InMemFile}
use Rattle.disk_model.specs.Images.{Image, file_of, with_file, written_over}
use Rattle.disk_model.specs.Memory.{synced_of, spans_of, IsWritten, IsFileCut}
use Rattle.disk_model.specs.Told.{Told, is_file, is_within, is_due, one_less, AfterCall, MayBeLeft}
use Rattle.disk_model.specs.Touched.{is_touched}
use Rattle.disk_model.proofs.DiskLemmas.{cases_file, same_image, file_of-with_file, others-with_file, others_seen, file_of-seen, file_of-synced, Syncs}
use Rattle.disk_model.proofs.SpanLemmas.{is_touched-push}

pub same_told : {fails fails' : Bool} {arm arm' : Option Arm} {stopped stopped' : Bool} {done done' synced synced' : Image} {touched touched' : FileNo → ℕ → Bool} → fails ≡ fails' → arm ≡ arm' → stopped ≡ stopped' → done ≡ done' → synced ≡ synced' → touched ≡ touched'
    → ◌≡◌ {A = Told} (record { fails = fails; arm = arm; stopped = stopped; done = done; synced = synced; touched = touched }) (record { fails = fails'; arm = arm'; stopped = stopped'; done = done'; synced = synced'; touched = touched' })
same_told a b c d e f = λ i. record { fails = a i; arm = b i; stopped = c i; done = d i; synced = e i; touched = f i }

pub is_file-same : (file : FileNo) → is_file file file ≡ true
is_file-same Chooser = refl
is_file-same AreaA = refl
is_file-same AreaB = refl

pub is_file-other : (file other : FileNo) → other ≢ file → is_file file other ≡ false
is_file-other Chooser Chooser differs = absurd (differs refl)
is_file-other Chooser AreaA differs = refl
is_file-other Chooser AreaB differs = refl
is_file-other AreaA Chooser differs = refl
is_file-other AreaA AreaA differs = absurd (differs refl)
is_file-other AreaA AreaB differs = refl
is_file-other AreaB Chooser differs = refl
is_file-other AreaB AreaA differs = refl
is_file-other AreaB AreaB differs = absurd (differs refl)

or_false : (b : Bool) → b ≡ (b || false)
or_false true = refl
or_false false = refl

and_true : (b : Bool) → b ≡ (b && true)
and_true true = refl
and_true false = refl

and_false : (b : Bool) → false ≡ (b && false)
and_false true = refl
and_false false = refl

-- one file has these bytes, and the others are as they were
one_file : (file : FileNo) (bytes : List ℕ) (old new : Image) → file_of file new ≡ bytes → ((other : FileNo) → other ≢ file → file_of other new ≡ file_of other old) → new ≡ with_file file bytes old
one_file file bytes old new is others = same_image new (with_file file bytes old) (λ other. elim (cases_file other file) [
  | inl same ↦ subst (λ f. file_of f new ≡ file_of f (with_file file bytes old)) (sym same) (is ∙ sym (file_of-with_file file bytes old))
  | inr differs ↦ others other differs ∙ sym (others-with_file file bytes old other differs)
])

-- ---- a write

module _ (file : FileNo) (at : ℕ) (piece : List ℕ) (old new : MemFiles) (change : InMemFile file (IsWritten at piece) old new) where
  pub write_done : seen_in new ≡ with_file file (written_over at piece (file_of file (seen_in old))) (seen_in old)
  write_done =
      one_file file _ (seen_in old) (seen_in new) (file_of-seen file new ∙ change.step.bytes ∙ ap (written_over at piece) (sym (file_of-seen file old))) (others_seen file (IsWritten at piece) old new change)

  pub write_synced : synced_in new ≡ synced_in old
  write_synced = same_image (synced_in new) (synced_in old) (λ other. file_of-synced other new ∙ same other ∙ sym (file_of-synced other old))
    where
      same : (other : FileNo) → synced_of (mem_file other new) ≡ synced_of (mem_file other old)
      same other = elim (cases_file other file) [
        | inl is ↦ subst (λ f. synced_of (mem_file f new) ≡ synced_of (mem_file f old)) (sym is) change.step.synced
        | inr differs ↦ ap synced_of (change.others other differs)
      ]

  pub write_touched : touched_in new ≡ (λ other place. touched_in old other place || (is_file file other && is_within at (length piece) place))
  write_touched = fun_ext (λ other. fun_ext (λ place. each other place))
    where
      each : (other : FileNo) (place : ℕ) → is_touched (spans_of (mem_file other new)) place ≡ (is_touched (spans_of (mem_file other old)) place || (is_file file other && is_within at (length piece) place))
      each other place = elim (cases_file other file) [
        | inl is ↦
            subst (λ f. is_touched (spans_of (mem_file f new)) place ≡ (is_touched (spans_of (mem_file f old)) place || (is_file file f && is_within at (length piece) place))) (sym is)
            (ap (λ spans. is_touched spans place) change.step.touched
            ∙ is_touched-push (spans_of (mem_file file old)) (record { from = at; until = at + length piece }) place
            ∙ ap (λ b. is_touched (spans_of (mem_file file old)) place || (b && is_within at (length piece) place)) (sym (is_file-same file)))
        | inr differs ↦
            ap (λ f. is_touched (spans_of f) place) (change.others other differs)
            ∙ or_false (is_touched (spans_of (mem_file other old)) place)
            ∙ ap (λ b. is_touched (spans_of (mem_file other old)) place || (b && is_within at (length piece) place)) (sym (is_file-other file other differs))
      ]

-- ---- a cut

module _ (file : FileNo) (cut_to : ℕ) (old new : MemFiles) (change : InMemFile file (IsFileCut cut_to) old new) where
  pub cut_bytes : seen_in new ≡ with_file file (take cut_to (file_of file (seen_in old))) (seen_in old)
  cut_bytes =
      one_file file _ (seen_in old) (seen_in new) (file_of-seen file new ∙ change.step.bytes ∙ ap (take cut_to) (sym (file_of-seen file old))) (others_seen file (IsFileCut cut_to) old new change)

  pub cut_synced : synced_in new ≡ synced_in old
  cut_synced = same_image (synced_in new) (synced_in old) (λ other. file_of-synced other new ∙ same other ∙ sym (file_of-synced other old))
    where
      same : (other : FileNo) → synced_of (mem_file other new) ≡ synced_of (mem_file other old)
      same other = elim (cases_file other file) [
        | inl is ↦ subst (λ f. synced_of (mem_file f new) ≡ synced_of (mem_file f old)) (sym is) change.step.synced
        | inr differs ↦ ap synced_of (change.others other differs)
      ]

  pub cut_touched : touched_in new ≡ touched_in old
  cut_touched = fun_ext (λ other. ap is_touched (same other))
    where
      same : (other : FileNo) → spans_of (mem_file other new) ≡ spans_of (mem_file other old)
      same other = elim (cases_file other file) [
        | inl is ↦ subst (λ f. spans_of (mem_file f new) ≡ spans_of (mem_file f old)) (sym is) change.step.touched
        | inr differs ↦ ap spans_of (change.others other differs)
      ]

-- ---- a sync

module _ (file : FileNo) (old new : MemFiles) (change : InMemFile file Syncs old new) where
  pub sync_synced : synced_in new ≡ with_file file (file_of file (seen_in old)) (synced_in old)
  sync_synced =
      one_file file _ (synced_in old) (synced_in new) (file_of-synced file new ∙ change.step.synced ∙ sym (file_of-seen file old))
      (λ other differs. file_of-synced other new ∙ ap synced_of (change.others other differs) ∙ sym (file_of-synced other old))

  pub sync_touched : touched_in new ≡ (λ other place. touched_in old other place && not (is_file file other))
  sync_touched = fun_ext (λ other. fun_ext (λ place. each other place))
    where
      each : (other : FileNo) (place : ℕ) → is_touched (spans_of (mem_file other new)) place ≡ (is_touched (spans_of (mem_file other old)) place && not (is_file file other))
      each other place = elim (cases_file other file) [
        | inl is ↦
            subst (λ f. is_touched (spans_of (mem_file f new)) place ≡ (is_touched (spans_of (mem_file f old)) place && not (is_file file f))) (sym is)
            (ap (λ spans. is_touched spans place) change.step.touched
            ∙ and_false (is_touched (spans_of (mem_file file old)) place)
            ∙ ap (λ b. is_touched (spans_of (mem_file file old)) place && not b) (sym (is_file-same file)))
        | inr differs ↦
            ap (λ f. is_touched (spans_of f) place) (change.others other differs)
            ∙ and_true (is_touched (spans_of (mem_file other old)) place)
            ∙ ap (λ b. is_touched (spans_of (mem_file other old)) place && not b) (sym (is_file-other file other differs))
      ]

-- ---- whole calls

-- what it tells, with other files
abbrev pub with_files : Told → MemFiles → Told
with_files told files = record told { done = seen_in files; synced = synced_in files; touched = touched_in files }

module _ (effect stopped_effect : Told → Told) (old mid new : Calls) (files after : MemFiles) (same : HasSameArm old mid) (running : old.stopped ≡ false) where
  can_fail-same : new.fails ≡ mid.fails → can_fail new ≡ can_fail old
  can_fail-same is = ap (λ fails. is_listing fails.items) (is ∙ same.fails)

  -- a call that changes the files, and then passes or stops
  pub passes : (result : Result Unit DiskFault) → effect (told_by old files) ≡ with_files (told_by old files) after → stopped_effect (told_by old files) ≡ with_files (told_by old files) after
      → Passed mid new result → AfterCall effect stopped_effect result (told_by old files) (told_by new after)
  passes (Ok _) is stopped_is passed = (
    running,
    ap is_due (sym same.arm) ∙ passed.2,
    same_told (can_fail-same passed.0) (passed.3 ∙ ap one_less same.arm) (passed.1 ∙ sym running) refl refl refl ∙ ap (λ (told : Told). record told { arm = one_less old.arm }) (sym is),
  )
  passes (Err Stopped) is stopped_is passed =
      inr (
        running,
        ap is_due (sym same.arm) ∙ passed.2,
        same_told (can_fail-same passed.0) (passed.3 ∙ same.arm) passed.1 refl refl refl ∙ ap (λ (told : Told). record told { stopped = true }) (sym stopped_is),
      )
  passes (Err Failed) is stopped_is passed = absurd passed
  passes (Err OutOfMemory) is stopped_is passed = absurd passed

-- a call that passes or stops before it changes the files
pub passes_first : (old mid new : Calls) (files : MemFiles) → HasSameArm old mid → old.stopped ≡ false → (effect stopped_effect : Told → Told) → stopped_effect (told_by old files) ≡ told_by old files
    → Passed mid new (Err Stopped) → AfterCall {T = Unit} effect stopped_effect (Err Stopped) (told_by old files) (told_by new files)
passes_first old mid new files same running effect stopped_effect stopped_is passed =
    inr (
      running,
      ap is_due (sym same.arm) ∙ passed.2,
      same_told (ap (λ fails. is_listing fails.items) (passed.0 ∙ same.fails)) (passed.3 ∙ same.arm) passed.1 refl refl refl ∙ ap (λ (told : Told). record told { stopped = true }) (sym stopped_is),
    )

pub on_ok : {T E P : Type 0} (result : Result T E) → P → OnOk result P
on_ok (Ok _) holds = holds
on_ok (Err _) holds = tt

-- a call that took no memory and changed nothing
pub wants_memory : {T : Type 0} (effect stopped_effect : Told → Told) (result : Result T DiskFault) (old mid : Calls) (files after : MemFiles) → HasSameArm old mid → old.stopped ≡ false
    → seen_in after ≡ seen_in files → synced_in after ≡ synced_in files → touched_in after ≡ touched_in files → result ≡ Err OutOfMemory → AfterCall effect stopped_effect result (told_by old files) (told_by mid after)
wants_memory effect stopped_effect result old mid files after same running seen synced touched is =
    subst (λ r. AfterCall effect stopped_effect r (told_by old files) (told_by mid after)) (sym is)
    (running, same_told (ap (λ fails. is_listing fails.items) same.fails) same.arm same.stopped seen synced touched)

-- a call that has passed, and then changes the files
pub passed_told : {u : Unit} (effect : Told → Told) (old mid new : Calls) (files after : MemFiles) → HasSameArm old mid → old.stopped ≡ false → effect (told_by old files) ≡ with_files (told_by old files) after
    → Passed mid new (Ok u) → AfterCall {T = Unit} effect effect (Ok u) (told_by old files) (told_by new after)
passed_told effect old mid new files after same running is passed = passes effect effect old mid new files after same running (Ok _) is is passed

-- ---- what a stop may leave, by what the disk tells

pub left_is_told : (calls : Calls) (files : MemFiles) (image : Image) → IsImageIn files image → MayBeLeft (told_by calls files) image
left_is_told calls files image left Chooser = left.chooser
left_is_told calls files image left AreaA = left.area_a
left_is_told calls files image left AreaB = left.area_b

pub told_is_left : (calls : Calls) (files : MemFiles) (image : Image) → MayBeLeft (told_by calls files) image → IsImageIn files image
told_is_left calls files image left = record { chooser = left Chooser; area_a = left AreaA; area_b = left AreaB }
