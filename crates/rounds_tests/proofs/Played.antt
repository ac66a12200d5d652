-- Worlds that take commands one after another.
use Rattle.std.proofs.Common.{◌≡◌, ℕ, zero, suc, ◌+◌, List, [], ◌∷◌, ◌++◌, ◌<◌, length, take, drop, Some, refl, sym, ap, ◌∙◌, subst, inl, inr, arith}
use Rattle.std.proofs.lemmas.Int.{ints}
use Rattle.std.specs.List.{Contains}
use Rattle.std.specs.Prelude.{get_or, pos}
use Rattle.std.proofs.lemmas.List.{length_push}
use Rattle.std.proofs.lemmas.List.Elements.{Contains-push_cases}
use Rattle.disk_model.specs.Calls.{is_listing}
use Rattle.disk_model.specs.Images.{Image, file_of}
use Rattle.disk_model.specs.MemDisk.{left_by, new_told, no_files, told_of, view_of}
use Rattle.disk_model.specs.declared.fault.FileNo.{FileNo}
use Rattle.disk_model.specs.declared.fault.FileNo.TheVariants.{Chooser, AreaA, AreaB}
use Rattle.disk_model.specs.declared.mem_disk.MemDisk.{MemDisk}
use Rattle.disk_model.specs.View.{DiskView}
use Rattle.due_set.specs.Table.{Table}
use Rattle.zone_minutes.specs.declared.minute.Window.{Window}
use Rattle.history.specs.Book.{Row}
use Rattle.replica_node.specs.Reliable.{IsReliable}
use Rattle.script_semantics.specs.Situation.{Situation}
use Rattle.script_text.specs.declared.command.Command.{Command}
use Rattle.step_spec.proofs.Lists.{nothing_in}
use Rattle.world_rounds.specs.Commands.{IsTaken}
use Rattle.world_rounds.specs.Start.{IsFreshDisk}
use Rattle.world_rounds.specs.World.{GoesOnBy, IsWorld}
use Rattle.world_rounds.specs.declared.world.World.{World}
use Rattle.zone_minutes.specs.Window.{IsInWindow}
use Rattle.rounds_tests.specs.Plays.{AreTaken, IsHour}

none_there : (file : FileNo) → file_of file no_files ≡ []
none_there Chooser = refl
none_there AreaA = refl
none_there AreaB = refl

pub new_is_fresh : (disk : MemDisk) (fails : List ℕ) → ((image : Image) → left_by disk image → image ≡ no_files) → told_of disk ≡ Some (new_told (is_listing fails)) → fails ≡ []
    → IsFreshDisk view_of disk
new_is_fresh disk fails images told none = record {
  trusted = tt;
  reliable = subst IsReliable (sym (told ∙ ap (λ fails. Some (new_told (is_listing fails))) none)) (record { runs = refl; unarmed = refl; unfailing = refl });
  empty = λ image left file. ap (file_of file) (images image left) ∙ none_there file;
}

pub record AreFresh {D : Type 0} (view : DiskView D) (count : ℕ) (disks : List D) : Type 0 where
  pub count_is : length disks ≡ count
  pub fresh : (disk : D) → Contains disks disk → IsFreshDisk view disk

pub fresh_none : {D : Type 0} (view : DiskView D) (disks : List D) → disks ≡ [] → AreFresh view 0 disks
fresh_none {D = D} view disks none =
    subst (λ (disks : List D). AreFresh view 0 disks) (sym none) (record { count_is = refl; fresh = λ disk has. nothing_in has })

pub fresh_next : {D : Type 0} (view : DiskView D) (count : ℕ) (disks after : List D) (disk : D) → AreFresh view count disks
    → IsFreshDisk view disk → after ≡ disks ++ disk ∷ [] → AreFresh view (count + 1) after
fresh_next view count disks after disk so_far new is = record {
  count_is = ap length is ∙ length_push disks disk ∙ ap (λ n. n + 1) so_far.count_is;
  fresh = λ other has. elim (Contains-push_cases disks disk other (subst (λ disks. Contains disks other) is has)) [
    | inl old ↦ so_far.fresh other old
    | inr same ↦ subst (IsFreshDisk view) same new
  ];
}

-- a world that has gone on by a part is a world
pub is_world : {D : Type 0} (view : DiskView D) (table : Table) (part : Situation → List Row → Situation → Type 0) (old new : World D) → IsWorld view table old
    → GoesOnBy view table part old new → IsWorld view table new
is_world view table part old new is goes =
    let gone = goes is.rows is.situation is.is in
    record { rows = is.rows ++ gone.0; situation = gone.1; is = gone.3 }

pub record HasPlayed {D : Type 0} (view : DiskView D) (table : Table) (count : ℕ) (world : World D) : Type 0 where
  pub world_is : IsWorld view table world
  pub members : world.book.members ≡ count

at_place : (window : Window) (members : ℕ) (commands : List Command) (index : ℕ) (default : Command) → index < length commands → AreTaken window members commands
    → IsTaken window members (get_or commands index default)
at_place window members [] index default below taken = absurd (omega arith)
at_place window members (first ∷ rest) zero default below taken = taken.0
at_place window members (first ∷ rest) (suc index) default below taken = at_place window members rest index default (omega arith) taken.1

pub taken_at : (window : Window) (count members : ℕ) (commands : List Command) (index : ℕ) (default : Command) → index < length commands → members ≡ count
    → AreTaken window count commands → IsTaken window members (get_or commands index default)
taken_at window count members commands index default below is taken =
    subst (λ members. IsTaken window members (get_or commands index default)) (sym is) (at_place window count commands index default below taken)

pub taken_front : (window : Window) (members : ℕ) (commands : List Command) (place : ℕ) → AreTaken window members commands → AreTaken window members (take place commands)
taken_front window members [] zero taken = tt
taken_front window members [] (suc place) taken = tt
taken_front window members (first ∷ rest) zero taken = tt
taken_front window members (first ∷ rest) (suc place) taken = (taken.0, taken_front window members rest place taken.1)

pub taken_back : (window : Window) (members : ℕ) (commands : List Command) (place : ℕ) → AreTaken window members commands → AreTaken window members (drop place commands)
taken_back window members [] zero taken = tt
taken_back window members [] (suc place) taken = tt
taken_back window members (first ∷ rest) zero taken = taken
taken_back window members (first ∷ rest) (suc place) taken = taken_back window members rest place taken.1

pub first_in : (window : Window) → IsHour window → IsInWindow window (pos 28_530_720)
first_in window is = let from = is.from in let until = is.until in record { since = omega (arith, ints, from); before = omega (arith, ints, until) }

pub last_in : (window : Window) → IsHour window → IsInWindow window (pos 28_530_779)
last_in window is = let from = is.from in let until = is.until in record { since = omega (arith, ints, from); before = omega (arith, ints, until) }

pub later_in : (window : Window) → IsHour window → IsInWindow window (pos 28_530_730)
later_in window is = let from = is.from in let until = is.until in record { since = omega (arith, ints, from); before = omega (arith, ints, until) }
