-- Within which call an armed disk stops.
use Rattle.std.proofs.Common.{◌≡◌, inl, inr, ℕ, ◌+◌, ◌-◌, ◌<◌, ◌≤◌, ◌==◌, true, false, List, [], ◌∷◌, ◌++◌, length, take, None, Some, Ok, Err, refl, sym, ap, ◌∙◌, subst, arith, length-append}
use Rattle.std.proofs.lemmas.Bool.Decides.{nat_tests}
use Rattle.std.specs.Prelude.{slice_get}
use Rattle.disk_model.specs.declared.armed.Arm.{Arm}
use Rattle.disk_model.specs.declared.fault.DiskFault.TheVariants.{Stopped}
use Rattle.disk_model.specs.Told.{Told, is_due, one_less}
use Rattle.disk_model.specs.Made.{DiskCall, WriteAt, CutTo, SyncOf, GaveAnswer, AllDone, StopsCalls, BreaksOff, StopsAt}
use Rattle.disk_model.proofs.MadeLemmas.{runs_on}

not_zero : (number : ℕ) → (number == 0) ≡ false → 0 < number
not_zero number is = grind (arith, nat_tests)

is_zero : (number : ℕ) → (number == 0) ≡ true → number ≡ 0
is_zero number is = grind (arith, nat_tests)

not_due : (arm : Arm) → is_due (Some arm) ≡ false → 0 < arm.left
not_due arm due = not_zero arm.left due

-- a call that is done takes one from those that are left
module _ (arm : Arm) (old new : Told) (is : old.arm ≡ Some arm) where
  pub one_passes : (call : DiskCall) → GaveAnswer call (Ok tt) old new → (0 < arm.left) × (new.arm ≡ Some (record arm { left = arm.left - 1 }))
  one_passes (WriteAt file at piece) passed = (not_due arm (ap is_due (sym is) ∙ passed.1), ap (λ (told : Told). told.arm) passed.2 ∙ ap one_less is)
  one_passes (CutTo file size) passed = (not_due arm (ap is_due (sym is) ∙ passed.1), ap (λ (told : Told). told.arm) passed.2 ∙ ap one_less is)
  one_passes (SyncOf file) passed = (not_due arm (ap is_due (sym is) ∙ passed.1), ap (λ (told : Told). told.arm) passed.2 ∙ ap one_less is)

fewer : (left more : ℕ) → 0 < left → left - 1 - more ≡ left - (more + 1)
fewer left more some = omega arith

same_arm : (arm : Arm) (left : ℕ) → arm.left ≡ left → Some arm ≡ Some (record arm { left = left })
same_arm arm left is = ap (λ n. Some (record arm { left = n })) is

-- and so do several
pub all_pass : (calls : List DiskCall) (arm : Arm) (old new : Told) → old.arm ≡ Some arm → AllDone calls old new → (length calls ≤ arm.left) × (new.arm ≡ Some (record arm { left = arm.left - length calls }))
all_pass [] arm old new is done = (omega arith, ap (λ (told : Told). told.arm) done ∙ is ∙ same_arm arm (arm.left - 0) (omega arith))
all_pass (call ∷ rest) arm old new is done =
    let first = one_passes arm old done.0 is call done.1 in
    let later = all_pass rest (record arm { left = arm.left - 1 }) done.0 new first.1 done.2 in
    (omega (arith, first.0, later.0), later.1 ∙ ap (λ n. Some (record arm { left = n })) (omega (arith, first.0, later.0)))

-- a call that stops within is the one after those that were to succeed
pub one_stops : (call : DiskCall) (arm : Arm) (old new : Told) → old.stopped ≡ false → old.arm ≡ Some arm → GaveAnswer call (Err Stopped) old new → (arm.left ≡ 0) × (new.stopped ≡ true) × (new.arm ≡ Some arm)
one_stops call arm old new running is (inl before) = absurd (cc (running, before.0))
one_stops (WriteAt file at piece) arm old new running is (inr now) = (is_zero arm.left (ap is_due (sym is) ∙ now.1), ap (λ (told : Told). told.stopped) now.2, ap (λ (told : Told). told.arm) now.2 ∙ is)
one_stops (CutTo file size) arm old new running is (inr now) = (is_zero arm.left (ap is_due (sym is) ∙ now.1), ap (λ (told : Told). told.stopped) now.2, ap (λ (told : Told). told.arm) now.2 ∙ is)
one_stops (SyncOf file) arm old new running is (inr now) = (is_zero arm.left (ap is_due (sym is) ∙ now.1), ap (λ (told : Told). told.stopped) now.2, ap (λ (told : Told). told.arm) now.2 ∙ is)

pub none_stops : (call : DiskCall) (old new : Told) → old.stopped ≡ false → old.arm ≡ None → GaveAnswer call (Err Stopped) old new → ⊥
none_stops call old new running is (inl before) = absurd (cc (running, before.0))
none_stops call old new running is (inr now) = absurd (cc (ap is_due (sym is) ∙ now.1))

-- calls that were done leave the disk running
pub all_run : (calls : List DiskCall) (old new : Told) → old.stopped ≡ false → AllDone calls old new → new.stopped ≡ false
all_run [] old new running done = ap (λ (told : Told). told.stopped) done ∙ running
all_run (call ∷ rest) old new running done = all_run rest done.0 new (runs_on call old done.0 done.1) done.2

one_unarmed : (call : DiskCall) (old new : Told) → old.arm ≡ None → GaveAnswer call (Ok tt) old new → new.arm ≡ None
one_unarmed (WriteAt file at piece) old new is passed = ap (λ (told : Told). told.arm) passed.2 ∙ ap one_less is
one_unarmed (CutTo file size) old new is passed = ap (λ (told : Told). told.arm) passed.2 ∙ ap one_less is
one_unarmed (SyncOf file) old new is passed = ap (λ (told : Told). told.arm) passed.2 ∙ ap one_less is

pub all_unarmed : (calls : List DiskCall) (old new : Told) → old.arm ≡ None → AllDone calls old new → new.arm ≡ None
all_unarmed [] old new is done = ap (λ (told : Told). told.arm) done ∙ is
all_unarmed (call ∷ rest) old new is done = all_unarmed rest done.0 new (one_unarmed call old done.0 is done.1) done.2

-- ---- a run of calls that was stopped

split_take : (done rest : List DiskCall) → take (length done) (done ++ rest) ≡ done
split_take [] rest = refl
split_take (call ∷ done) rest = ap (λ calls. call ∷ calls) (split_take done rest)

split_get : (done : List DiskCall) (next : DiskCall) (rest : List DiskCall) → slice_get (done ++ next ∷ rest) (length done) ≡ Some next
split_get [] next rest = refl
split_get (call ∷ done) next rest = split_get done next rest

pub stops_at : (calls : List DiskCall) (arm : Arm) (old new : Told) → old.stopped ≡ false → old.arm ≡ Some arm → BreaksOff Stopped calls old new → StopsAt arm.left calls old new × (new.stopped ≡ true) × (new.arm ≡ Some (record arm { left = 0 }))
stops_at calls arm old new running is broken = at broken.rest broken.parts broken.ends
  where
    at : (rest : List DiskCall) → calls ≡ broken.done ++ rest → StopsCalls Stopped rest broken.mid new → StopsAt arm.left calls old new × (new.stopped ≡ true) × (new.arm ≡ Some (record arm { left = 0 }))
    at [] parts ends = absurd ends
    at (next ∷ rest) parts ends =
        let passed = all_pass broken.done arm old broken.mid is broken.made in
        let stopped = one_stops next (record arm { left = arm.left - length broken.done }) broken.mid new (all_run broken.done old broken.mid running broken.made) passed.1 ends in
        let count : arm.left ≡ length broken.done = omega (arith, passed.0, stopped.0) in
        let long : length calls ≡ length broken.done + length (next ∷ rest) = ap length parts ∙ length-append broken.done (next ∷ rest) in (
          record {
            within = omega (arith, count, long);
            mid = broken.mid;
            made = subst (λ list. AllDone list old broken.mid) (sym (ap (λ n. take n calls) count ∙ ap (take (length broken.done)) parts ∙ split_take broken.done (next ∷ rest))) broken.made;
            call = next;
            is_next = ap (λ n. slice_get calls n) count ∙ ap (λ list. slice_get list (length broken.done)) parts ∙ split_get broken.done next rest;
            stopped = ends;
          },
          stopped.1,
          stopped.2 ∙ ap (λ n. Some (record arm { left = n })) stopped.0,
        )

pub never_stops : (calls : List DiskCall) (old new : Told) → old.stopped ≡ false → old.arm ≡ None → BreaksOff Stopped calls old new → ⊥
never_stops calls old new running is broken = at broken.rest broken.ends
  where
    at : (rest : List DiskCall) → StopsCalls Stopped rest broken.mid new → ⊥
    at [] ends = absurd ends
    at (next ∷ rest) ends = none_stops next broken.mid new (all_run broken.done old broken.mid running broken.made) (all_unarmed broken.done old broken.mid is broken.made) ends
