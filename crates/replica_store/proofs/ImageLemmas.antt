-- What calls on one file leave of the others.
use Rattle.std.proofs.Common.{◌≡◌, ◌≢◌, ℕ, List, [], ◌∷◌, ◌++◌, Option, None, IfSome, sym, ◌∙◌, subst}
use Rattle.paxos_base.specs.declared.rows.TableSize.{TableSize}
use Rattle.disk_model.specs.declared.fault.FileNo.{FileNo}
use Rattle.disk_model.specs.declared.fault.FileNo.TheVariants.{Chooser}
use Rattle.disk_model.specs.Images.{Image, file_of, OthersStay, IsDurable, InFileOnly}
use Rattle.gate_file.specs.Gates.{HasRestingGate, IsStaged}
use Rattle.gate_file.proofs.GateLemmas.{staged_at_rest}
use Rattle.paxos_base.specs.declared.durable.Durable.{Durable}
use Rattle.replica_store.specs.Files.{selected, other_area, BodiesStandForEither, IsAreaStaged, IsRecoverable}
use Rattle.replica_store.proofs.FileLemmas.{same_chooser, one_area, two_areas, other_differs, other_is_area}

-- a file that isn't changed stays durable
pub stays_durable : (file changed : FileNo) → file ≢ changed → (seen after : Image) (old new : Image → Type 0) (P : List ℕ → Type 0) → IsDurable file seen old → OthersStay changed seen after → ((image : Image) → new image → InFileOnly changed old P image)
    → IsDurable file after new
stays_durable file changed differs seen after old new P durable others only image left =
    let from = only image left in
    from.2 file differs ∙ durable from.0 from.1 ∙ sym (others file differs)

-- images in which one file alone has changed have the bytes of the others
pub others_as_seen : (file changed : FileNo) → file ≢ changed → (seen : Image) (old : Image → Type 0) (P : List ℕ → Type 0) → IsDurable file seen old → (image : Image) → InFileOnly changed old P image → file_of file image ≡ file_of file seen
others_as_seen file changed differs seen old P durable image only = only.2 file differs ∙ durable only.0 only.1

module _ (size : TableSize) (before after : Durable) (seen : Image) (old : Image → Type 0) where
  -- a call on the selected area, which leaves it staged
  pub in_area : (area : FileNo) (bodies : List (List ℕ)) (pending : Option (List ℕ)) → area ≢ Chooser → selected seen ≡ area → IsDurable Chooser seen old → BodiesStandForEither size before after bodies
      → IfSome pending (λ body. BodiesStandForEither size before after (bodies ++ body ∷ []))
      → IsRecoverable size before after (InFileOnly area old (IsStaged bodies pending))
  in_area area bodies pending differs is durable without with_it =
      one_area size before after (InFileOnly area old (IsStaged bodies pending)) area
      (λ image only. same_chooser image seen (others_as_seen Chooser area (λ same. differs (sym same)) seen old (IsStaged bodies pending) durable image only) ∙ is)
      (record { bodies = bodies; pending = pending; staged = λ image only. only.3; without = without; with_it = with_it })

  at_rest : (file : FileNo) (bodies : List (List ℕ)) (P : Image → Type 0) → HasRestingGate (file_of file seen) bodies → ((image : Image) → P image → file_of file image ≡ file_of file seen) → BodiesStandForEither size before after bodies → IsAreaStaged size before after file P
  at_rest file bodies P rest same stand =
      record {
        bodies = bodies;
        pending = None;
        staged = λ image left. subst (IsStaged bodies None) (sym (same image left)) (staged_at_rest (file_of file seen) bodies None rest);
        without = stand;
        with_it = tt;
      }

  -- calls on the other area, while the selected one is at rest
  pub in_other : (area : FileNo) (bodies : List (List ℕ)) (P : List ℕ → Type 0) → area ≢ Chooser → selected seen ≡ area → IsDurable Chooser seen old → IsDurable area seen old → HasRestingGate (file_of area seen) bodies → BodiesStandForEither size before after bodies
      → IsRecoverable size before after (InFileOnly (other_area area) old P)
  in_other area bodies P differs is chooser durable rest stand =
      one_area size before after (InFileOnly (other_area area) old P) area
      (λ image only. same_chooser image seen (others_as_seen Chooser (other_area area) (λ same. other_is_area area (sym same)) seen old P chooser image only) ∙ is)
      (at_rest area bodies (InFileOnly (other_area area) old P) rest (λ image only. others_as_seen area (other_area area) (λ same. other_differs area differs (sym same)) seen old P durable image only) stand)

  -- a write of the chooser, while both areas are at rest
  pub in_chooser : (area : FileNo) (bodies others : List (List ℕ)) (P : List ℕ → Type 0) → area ≢ Chooser → IsDurable area seen old → IsDurable (other_area area) seen old → HasRestingGate (file_of area seen) bodies → HasRestingGate (file_of (other_area area) seen) others
      → BodiesStandForEither size before after bodies → BodiesStandForEither size before after others → IsRecoverable size before after (InFileOnly Chooser old P)
  in_chooser area bodies others P differs durable other rest other_rest stand other_stand =
      two_areas size before after (InFileOnly Chooser old P) area differs
      (at_rest area bodies (InFileOnly Chooser old P) rest (λ image only. others_as_seen area Chooser differs seen old P durable image only) stand)
      (at_rest (other_area area) others (InFileOnly Chooser old P) other_rest (λ image only. others_as_seen (other_area area) Chooser (other_is_area area) seen old P other image only) other_stand)

  -- nothing but what is read
  pub at_rest_alone : (area : FileNo) (bodies : List (List ℕ)) → selected seen ≡ area → IsDurable Chooser seen old → IsDurable area seen old → HasRestingGate (file_of area seen) bodies → BodiesStandForEither size before after bodies → IsRecoverable size before after old
  at_rest_alone area bodies is chooser durable rest stand =
      one_area size before after old area (λ image left. same_chooser image seen (chooser image left) ∙ is) (at_rest area bodies old rest durable stand)
