-- A store between two calls, over a disk that changes and keeps its files as they are.
use Rattle.std.proofs.Common.{◌≡◌, sym, ap, ◌∙◌, subst}
use Rattle.disk_model.specs.declared.fault.FileNo.TheVariants.{Chooser}
use Rattle.disk_model.specs.Images.{file_of, NoNewImage}
use Rattle.disk_model.specs.View.{DiskView}
use Rattle.gate_file.specs.File.{file_no, bodies_of}
use Rattle.gate_file.specs.Gates.{HasRestingGate}
use Rattle.replica_store.specs.declared.store.Store.{Store}
use Rattle.replica_store.specs.Files.{selected}
use Rattle.replica_store.specs.Store.{IsStoreAtRest}

pub rests_still : {D : Type 0} (view : DiskView D) (old new : D) (store : Store) → view.seen new ≡ view.seen old → NoNewImage (view.may_leave old) (view.may_leave new) → (view.honest new → view.honest old)
    → IsStoreAtRest view old store → IsStoreAtRest view new store
rests_still view old new store same none before rests =
    record {
      gates = record {
        at_rest = subst (λ image. HasRestingGate (file_of (file_no store.gates) image) (bodies_of store.gates)) (sym same) rests.gates.at_rest;
        durable = λ is image left. rests.gates.durable (before is) image (none image left) ∙ ap (file_of (file_no store.gates)) (sym same);
      };
      selects = ap selected same ∙ rests.selects;
      chooser = λ is image left. rests.chooser (before is) image (none image left) ∙ ap (file_of Chooser) (sym same);
      keeps = rests.keeps;
    }
