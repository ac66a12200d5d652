-- A store between two calls, and runs of calls from there.
use Rattle.std.proofs.Common.{◌≡◌, ◌≢◌, inl, inr, ℕ, ◌≤◌, List, [], ◌∷◌, ◌++◌, Some, sym, ap, ◌∙◌, subst}
use Rattle.paxos_base.specs.declared.rows.TableSize.{TableSize}
use Rattle.disk_model.specs.declared.fault.FileNo.{FileNo}
use Rattle.disk_model.specs.declared.fault.FileNo.TheVariants.{Chooser}
use Rattle.disk_model.specs.Images.{Image, file_of, OthersStay, InFile, HoldsPiece, IsDurable, InFileOnly}
use Rattle.disk_model.specs.View.{DiskView, LeavesOnly}
use Rattle.disk_model.proofs.CallerLemmas.{follows_on, leaves_weaker}
use Rattle.disk_model.proofs.RunLemmas.{now_in_run}
use Rattle.gate_file.specs.File.{file_no, bodies_of, IsFileAtRest}
use Rattle.gate_file.specs.Gates.{HasRestingGate, IsStaged}
use Rattle.gate_file.specs.declared.gate_file.GateFile.{GateFile}
use Rattle.paxos_base.specs.declared.durable.Delta.{Delta}
use Rattle.paxos_base.specs.declared.durable.Delta.TheVariants.{Tried, Promised, Voted, Base}
use Rattle.paxos_base.specs.declared.durable.Durable.{Durable}
use Rattle.paxos_base.specs.Durable.{after_delta}
use Rattle.store_format.specs.declared.body.Record.{Record}
use Rattle.store_format.specs.Order.{ChangeMayFollow, delta_record, own_after}
use Rattle.store_format.specs.Records.{IsRecord, RowHasCursor}
use Rattle.store_format.specs.Area.{BeginsInFormat1}
use Rattle.store_format.proofs.ChangeLemmas.{StandFor-change}
use Rattle.store_format.proofs.RecordLemmas.{IsRecord-same}
use Rattle.replica_store.specs.declared.store.Store.{Store}
use Rattle.replica_store.specs.Files.{selected, bit_of, other_area, BodiesStand, FilesStandForEither, IsRecoverable}
use Rattle.replica_store.specs.Store.{StoreKeeps, IsStoreAtRest}
use Rattle.replica_store.proofs.FileLemmas.{selects_area, byte_written, same_chooser, recoverable_stands, fewer_recoverable, other_differs, other_is_area}
use Rattle.replica_store.proofs.ImageLemmas.{stays_durable, in_area, in_other, in_chooser, at_rest_alone}

module _ {D : Type 0} (view : DiskView D) (size : TableSize) (before after : Durable) where
  -- a run whose images are recoverable leaves what stands for one of the two states
  pub run_stands : (old new : D) (Q : Image → Type 0) → IsRecoverable size before after Q → LeavesOnly view old new Q → LeavesOnly view old new (FilesStandForEither size before after)
  run_stands old new Q recoverable run = leaves_weaker view old new Q (FilesStandForEither size before after) run (recoverable_stands size before after Q recoverable)

  -- one run after another
  pub two_runs : (old mid new : D) → LeavesOnly view old mid (FilesStandForEither size before after) → LeavesOnly view mid new (FilesStandForEither size before after)
      → LeavesOnly view old new (FilesStandForEither size before after)
  two_runs old mid new first second = follows_on view old mid new (FilesStandForEither size before after) (FilesStandForEither size before after) first second (λ image stands. stands)

  -- and so the disk is recoverable after it
  pub run_recoverable : (old new : D) (Q : Image → Type 0) → ((start : ℕ) (image : Image) → start ≤ view.moment new → view.may_leave new image → view.left_since new start image) → IsRecoverable size before after Q
      → LeavesOnly view old new Q → IsRecoverable size before after (view.may_leave new)
  run_recoverable old new Q counts_now recoverable run = fewer_recoverable size before after Q (view.may_leave new) (now_in_run view old new Q counts_now run) recoverable

module _ {D : Type 0} (view : DiskView D) where
  -- a gated file in a file that isn't changed
  pub still_rests : (old new : D) (gates : GateFile) (changed : FileNo) (P : List ℕ → Type 0) → file_no gates ≢ changed → (view.honest new → view.honest old) → IsFileAtRest view old gates → OthersStay changed (view.seen old) (view.seen new)
      → (view.honest old → (image : Image) → view.may_leave new image → InFileOnly changed (view.may_leave old) P image) → IsFileAtRest view new gates
  still_rests old new gates changed P differs before rests others only =
      record {
        at_rest = subst (λ bytes. HasRestingGate bytes (bodies_of gates)) (sym (others (file_no gates) differs)) rests.at_rest;
        durable = λ is. stays_durable (file_no gates) changed differs (view.seen old) (view.seen new) (view.may_leave old) (view.may_leave new) P (rests.durable (before is)) others (only (before is));
      }

  module _ (disk : D) (store : Store) (rests : IsStoreAtRest view disk store) where
    pub is_area : file_no store.gates ≢ Chooser
    is_area is = selects_area (view.seen disk) (rests.selects ∙ is)

    pub append_recoverable : (kept after : Durable) (body : List ℕ) → StoreKeeps store kept → view.honest disk → BodiesStand store.size (bodies_of store.gates ++ body ∷ []) after
        → IsRecoverable store.size kept after (InFileOnly (file_no store.gates) (view.may_leave disk) (IsStaged (bodies_of store.gates) (Some body)))
    append_recoverable kept after body keeps is stand =
        in_area store.size kept after (view.seen disk) (view.may_leave disk) (file_no store.gates) (bodies_of store.gates) (Some body) is_area rests.selects (rests.chooser is) (inl keeps) (inr stand)

    pub other_recoverable : (kept after : Durable) (P : List ℕ → Type 0) → StoreKeeps store kept → view.honest disk → IsRecoverable store.size kept after (InFileOnly (other_area (file_no store.gates)) (view.may_leave disk) P)
    other_recoverable kept after P keeps is =
        in_other store.size kept after (view.seen disk) (view.may_leave disk) (file_no store.gates) (bodies_of store.gates) P is_area rests.selects (rests.chooser is) (rests.gates.durable is) rests.gates.at_rest (inl keeps)

    pub chooser_recoverable : (kept after : Durable) (P : List ℕ → Type 0) (gates : GateFile) → file_no gates ≡ other_area (file_no store.gates) → IsFileAtRest view disk gates → StoreKeeps store kept → view.honest disk → BodiesStand store.size (bodies_of gates) after
        → IsRecoverable store.size kept after (InFileOnly Chooser (view.may_leave disk) P)
    chooser_recoverable kept after P gates other others keeps is stand =
        in_chooser store.size kept after (view.seen disk) (view.may_leave disk) (file_no store.gates) (bodies_of store.gates) (bodies_of gates) P is_area (rests.gates.durable is)
        (subst (λ file. IsDurable file (view.seen disk) (view.may_leave disk)) other (others.durable is)) rests.gates.at_rest
        (subst (λ file. HasRestingGate (file_of file (view.seen disk)) (bodies_of gates)) other others.at_rest) (inl keeps) (inr stand)

    -- a store at rest
    pub rests_recoverable : (kept : Durable) → StoreKeeps store kept → view.honest disk → IsRecoverable store.size kept kept (view.may_leave disk)
    rests_recoverable kept keeps is = at_rest_alone store.size kept kept (view.seen disk) (view.may_leave disk) (file_no store.gates) (bodies_of store.gates) rests.selects (rests.chooser is) (rests.gates.durable is) rests.gates.at_rest (inl keeps)

    -- after calls on its area, which leave it at rest
    pub rests_in_area : (new : D) (now : Store) (P : List ℕ → Type 0) → (view.honest new → view.honest disk) → IsFileAtRest view new now.gates → file_no now.gates ≡ file_no store.gates → OthersStay (file_no store.gates) (view.seen disk) (view.seen new)
        → (view.honest disk → (image : Image) → view.may_leave new image → InFileOnly (file_no store.gates) (view.may_leave disk) P image) → (kept : Durable) × StoreKeeps now kept → IsStoreAtRest view new now
    rests_in_area new now P before gates same others only keeps =
        record {
          gates = gates;
          selects = same_chooser (view.seen new) (view.seen disk) (others Chooser (λ is. is_area (sym is))) ∙ rests.selects ∙ sym same;
          chooser = λ is. stays_durable Chooser (file_no store.gates) (λ is_it. is_area (sym is_it)) (view.seen disk) (view.seen new) (view.may_leave disk) (view.may_leave new) P (rests.chooser (before is)) others (only (before is));
          keeps = keeps;
        }

    -- after calls on the other area
    pub rests_in_other : (new : D) (P : List ℕ → Type 0) → (view.honest new → view.honest disk) → OthersStay (other_area (file_no store.gates)) (view.seen disk) (view.seen new)
        → (view.honest disk → (image : Image) → view.may_leave new image → InFileOnly (other_area (file_no store.gates)) (view.may_leave disk) P image) → IsStoreAtRest view new store
    rests_in_other new P before others only =
        let other = other_area (file_no store.gates) in
        record {
          gates = still_rests disk new store.gates other P (λ is. other_differs (file_no store.gates) is_area (sym is)) before rests.gates others only;
          selects = same_chooser (view.seen new) (view.seen disk) (others Chooser (λ is. other_is_area (file_no store.gates) (sym is))) ∙ rests.selects;
          chooser = λ is. stays_durable Chooser other (λ is_it. other_is_area (file_no store.gates) (sym is_it)) (view.seen disk) (view.seen new) (view.may_leave disk) (view.may_leave new) P (rests.chooser (before is)) others (only (before is));
          keeps = rests.keeps;
        }

    -- after a write of the chooser that came to nothing
    pub rests_in_chooser : (new : D) (P : List ℕ → Type 0) → (view.honest new → view.honest disk) → view.seen new ≡ view.seen disk → (view.honest new → IsDurable Chooser (view.seen new) (view.may_leave new))
        → (view.honest disk → (image : Image) → view.may_leave new image → InFileOnly Chooser (view.may_leave disk) P image) → IsStoreAtRest view new store
    rests_in_chooser new P before same durable only =
        record {
          gates = still_rests disk new store.gates Chooser P is_area before rests.gates (λ file differs. ap (file_of file) same) only;
          selects = ap selected same ∙ rests.selects;
          chooser = durable;
          keeps = rests.keeps;
        }

    -- after the chooser was written
    pub rests_by_chooser : (new : D) (now : Store) (P : List ℕ → Type 0) → (view.honest new → view.honest disk) → file_no now.gates ≢ Chooser → IsFileAtRest view disk now.gates → InFile Chooser (HoldsPiece 0 (bit_of (file_no now.gates) ∷ [])) (view.seen disk) (view.seen new)
        → (view.honest new → IsDurable Chooser (view.seen new) (view.may_leave new))
        → (view.honest disk → (image : Image) → view.may_leave new image → InFileOnly Chooser (view.may_leave disk) P image) → (kept : Durable) × StoreKeeps now kept → IsStoreAtRest view new now
    rests_by_chooser new now P before differs gates written durable only keeps =
        record {
          gates = still_rests disk new now.gates Chooser P differs before gates written.others only;
          selects = byte_written (file_no now.gates) (view.seen disk) (view.seen new) differs written.step;
          chooser = durable;
          keeps = keeps;
        }

-- ---- the record of a change

same_item : (one other : Record) → Some one ≡ Some other → one ≡ other
same_item one other is = cc is

change_has_cursor : (change : Delta) (item : Record) → delta_record change ≡ Some item → RowHasCursor item
change_has_cursor (Tried ballot) item is = subst RowHasCursor (same_item (Record.Tried ballot) item is) tt
change_has_cursor (Promised ballot) item is = subst RowHasCursor (same_item (Record.Promised ballot) item is) tt
change_has_cursor (Voted vote) item is = subst RowHasCursor (same_item (Record.Voted vote) item is) tt
change_has_cursor (Base slot rows) item is = absurd (cc is)

-- the bodies stand for the state after the change, once its record is behind them
pub change_stands : (size : TableSize) (bodies : List (List ℕ)) (body : List ℕ) (item : Record) (kept : Durable) (change : Delta) → BodiesStand size bodies kept → ChangeMayFollow size kept change → delta_record change ≡ Some item → (RowHasCursor item → IsRecord body item)
    → BodiesStand size (bodies ++ body ∷ []) (after_delta change kept)
change_stands size bodies body item kept change stand follows is record_of =
    (own_after change stand.0, StandFor-change size bodies body item kept stand.0 change stand.1 follows is (record_of (change_has_cursor change item is)))

-- ---- the format

not_base : (change : Delta) (item : Record) (slot count : ℕ) → delta_record change ≡ Some item → item ≡ Record.Base slot count → ⊥
not_base (Tried ballot) item slot count is base = absurd (cc (is, base))
not_base (Promised ballot) item slot count is base = absurd (cc (is, base))
not_base (Voted vote) item slot count is base = absurd (cc (is, base))
not_base (Base other rows) item slot count is base = absurd (cc is)

-- with the record of a change behind them the bodies begin with no base of format 1 either
pub change_in_format_2 : (size : TableSize) (bodies : List (List ℕ)) (body : List ℕ) (item : Record) (change : Delta) → delta_record change ≡ Some item → (RowHasCursor item → IsRecord body item) → (BeginsInFormat1 size bodies → ⊥)
    → BeginsInFormat1 size (bodies ++ body ∷ []) → ⊥
change_in_format_2 size [] body item change is record_of was begins =
    not_base change item begins.0 size.jobs is (IsRecord-same body item (Record.Base begins.0 size.jobs) (record_of (change_has_cursor change item is)) begins.1)
change_in_format_2 size (first ∷ bodies) body item change is record_of was begins = was begins
